-- Where the cells of globals and of live frames are among numbered slots: those of the globals first, and behind them
-- frame upon frame, the lowest first, each as large as its function needs.
use Rattle.std.specs.Prelude.{ℕ, ℤ, ◌+◌, ◌≡◌, ◌≤◌, List, [], ◌∷◌, length, slice_index_or, Option, Some, None, if◌then◌else◌}
use Rattle.csub_objects.specs.Types.{TypeTree, number_type, array_type, struct_type, loose_type}
use Rattle.csub_objects.specs.Paths.{Inner, Inside, inside_at, moved, inside}
use Rattle.csub_semantics.specs.Syntax.{LocalTree, FunctionTree}
use Rattle.csub_semantics.specs.Cells.{Root, global_root, local_root, temp_root, Cell, Cells, Content, number, reference, of_frame}
use Rattle.csub_flat.specs.Frames.{objects_size, frame_place, frame_size, global_place}

-- a slot: nothing, a number, or where an array begins and how many elements it has
pub data Slot : Type 0 where
  empty : Slot
  holding : ℤ → Slot
  referring : ℕ → ℕ → Slot

-- the number in a slot, if it holds one
abbrev pub slot_number : Slot → Option ℤ
slot_number empty = None
slot_number (holding v) = Some v
slot_number (referring at n) = None

-- where a root's object begins, and its type
abbrev pub Layout : Type 0
Layout = Root → Option Inside

-- where the cell at a path into an object is, if it has a slot
abbrev pub into : Option Inside → List Inner → Option Inside
into None q = None
into (Some x) q = moved x.at (inside x.ctype q)

abbrev pub slot_of : Layout → Cell → Option Inside
slot_of layout c = into (layout c.root) c.path

-- how high a root is: globals are below the lowest frame
abbrev pub rank : Root → ℕ
rank (global_root a) = 0
rank (local_root h a n) = h + 1
rank (temp_root h n) = h + 1

-- A slot refers to an array of elements of a type: it says where the array begins and its length. The array is no higher
-- than the root whose cell holds the reference, so it doesn't go before its holder.
pub record Refers (layout : Layout) (holder : Root) (t : TypeTree) (array : Cell) (n : ℕ) (slot : Slot) : Type 0 where
  pub at : ℕ
  pub is : slot ≡ referring at n
  pub there : slot_of layout array ≡ Some (inside_at at (array_type t n))
  pub below : rank array.root ≤ rank holder

-- What a slot holds for a cell of a root, by the cell's type. An array and a struct hold nothing of their own: their parts do.
abbrev pub Holds : Layout → Root → TypeTree → Option Content → Slot → Type 0
Holds layout holder (number_type k) None slot = slot ≡ empty
Holds layout holder (number_type k) (Some (number v)) slot = slot ≡ holding v
Holds layout holder (number_type k) (Some (reference array n)) slot = ⊥
Holds layout holder (array_type t n) content slot = Unit {0}
Holds layout holder (struct_type tag ms) content slot = Unit {0}
Holds layout holder (loose_type t) None slot = slot ≡ empty
Holds layout holder (loose_type t) (Some (number v)) slot = ⊥
Holds layout holder (loose_type t) (Some (reference array n)) slot = Refers layout holder t array n slot

-- the slots stand for named cells: each cell with a slot is held there, and one without holds nothing
pub record StandsFor (layout : Layout) (count : ℕ) (held : Cells) (slots : List Slot) : Type 0 where
  pub size : length slots ≡ count
  pub holds : (c : Cell) (x : Inside) → slot_of layout c ≡ Some x → Holds layout c.root x.ctype (held c) (slice_index_or slots x.at empty)
  pub nothing : (c : Cell) → slot_of layout c ≡ None → held c ≡ None

-- the slots of globals and of live frames, by their functions, the top one first
abbrev pub live_size : List LocalTree → List FunctionTree → ℕ
live_size gs [] = objects_size gs
live_size gs (f ∷ below) = live_size gs below + frame_size f

-- where a root is among globals and live frames
abbrev pub live : List LocalTree → List FunctionTree → Layout
live gs [] r = global_place gs r
live gs (f ∷ below) r = if of_frame (length below) r then moved (live_size gs below) (frame_place f r) else live gs below r
