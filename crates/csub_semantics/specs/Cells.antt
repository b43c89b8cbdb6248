-- The memory of named cells.
use Rattle.std.specs.Prelude.{ℕ, ℤ, List, [], ◌∷◌, ◌++◌, Bool, true, false, ◌&&◌, Option, Some, None, nat_eq, if◌then◌else◌, bytes_eq}
use Rattle.csub_objects.specs.Types.{Name, TypeTree, number_type, array_type, struct_type, loose_type, number_kind, MemberTree}
use Rattle.csub_objects.specs.Types.{element_type, member_type, array_length}
use Rattle.csub_objects.specs.Paths.{Inner, element_at, member_of}
use Rattle.csub_semantics.specs.Trees.{global_owner, local_owner, Variable, object, temporary}
use Rattle.csub_semantics.specs.Memory.{Memory}

-- whose cells: a global's, or an object's or a temporary's of the frame at a height (the lowest frame has height 0)
pub data Root : Type 0 where
  global_root : Name → Root
  local_root : ℕ → Name → ℕ → Root
  temp_root : ℕ → ℕ → Root

-- a cell's name: a root, and the way into its object
pub record Cell : Type 0 where
  pub root : Root
  pub path : List Inner

-- what a cell holds: a number, or for an array parameter a reference to an array's place, with its length
pub data Content : Type 0 where
  number : ℤ → Content
  reference : Cell → ℕ → Content

-- the cells of a run: what each name holds, if anything
abbrev pub Cells : Type 0
Cells = Cell → Option Content

abbrev pub inner_eq : Inner → Inner → Bool
inner_eq (element_at i) (element_at j) = nat_eq i j
inner_eq (member_of a) (member_of b) = bytes_eq a b
inner_eq x y = false

abbrev pub path_eq : List Inner → List Inner → Bool
path_eq [] [] = true
path_eq [] (y ∷ ys) = false
path_eq (x ∷ xs) [] = false
path_eq (x ∷ xs) (y ∷ ys) = inner_eq x y && path_eq xs ys

abbrev pub root_eq : Root → Root → Bool
root_eq (global_root a) (global_root b) = bytes_eq a b
root_eq (local_root h a n) (local_root i b o) = nat_eq h i && (bytes_eq a b && nat_eq n o)
root_eq (temp_root h n) (temp_root i o) = nat_eq h i && nat_eq n o
root_eq a b = false

abbrev pub cell_eq : Cell → Cell → Bool
cell_eq c d = root_eq c.root d.root && path_eq c.path d.path

-- one cell gets a content, all others keep theirs
abbrev pub written : Cells → Cell → Content → Cells
written cells c v = λ d. if cell_eq d c then Some v else cells d

-- where a place is: a cell's name, the type there, and the length if it is an array
pub record Spot : Type 0 where
  pub cell : Cell
  pub ctype : TypeTree
  pub length : ℕ

-- the root of a variable, for the frame at a height
abbrev pub root_of : ℕ → Variable → Root
root_of h (object (global_owner a) t) = global_root a
root_of h (object (local_owner a n) t) = local_root h a n
root_of h (temporary n k) = temp_root h n

abbrev pub cell_of : ℕ → Variable → Cell
cell_of h v = record { root = root_of h v; path = [] }

abbrev pub type_of : Variable → TypeTree
type_of (object o t) = t
type_of (temporary n k) = number_type k

-- an array parameter stands where its reference says, for as many elements as that has
abbrev pub referred : TypeTree → Option Content → Option Spot
referred t None = None
referred t (Some (number v)) = None
referred t (Some (reference d n)) = Some (record { cell = d; ctype = loose_type t; length = n })

-- where a variable of a type is
abbrev pub stand_at : Cell → TypeTree → Cells → Option Spot
stand_at c (number_type k) cells = Some (record { cell = c; ctype = number_type k; length = 0 })
stand_at c (array_type t n) cells = Some (record { cell = c; ctype = array_type t n; length = n })
stand_at c (struct_type tag ms) cells = Some (record { cell = c; ctype = struct_type tag ms; length = 0 })
stand_at c (loose_type t) cells = referred t (cells c)

abbrev pub stepped_into : Cell → Inner → Cell
stepped_into c i = record { root = c.root; path = c.path ++ i ∷ [] }

-- a type, and itself where there is none
abbrev pub type_or : TypeTree → Option TypeTree → TypeTree
type_or t None = t
type_or t (Some u) = u

-- an element and a member of a spot
abbrev pub element_spot : Spot → ℕ → Spot
element_spot l i =
    let t = type_or l.ctype (element_type l.ctype) in
    record { cell = stepped_into l.cell (element_at i); ctype = t; length = array_length t }

abbrev pub member_spot : Spot → Name → Spot
member_spot l a =
    let t = type_or l.ctype (member_type a l.ctype) in
    record { cell = stepped_into l.cell (member_of a); ctype = t; length = array_length t }

-- the number that a cell holds; one that was never written in its frame holds none
abbrev pub number_in : Option Content → Option ℤ
number_in (Some (number v)) = Some v
number_in (Some (reference d n)) = None
number_in None = None

-- named cells, for the acts of the frame at a height
abbrev pub named : ℕ → Memory Variable (Unit {0}) Name Spot Cells
named h = record {
  stand = λ v cells. stand_at (cell_of h v) (type_of v) cells;
  element = λ u l i. element_spot l i;
  member = λ a l. member_spot l a;
  bound = λ l. l.length;
  kind = λ l. number_kind l.ctype;
  read = λ l cells. number_in (cells l.cell);
  write = λ l v cells. written cells l.cell (number v);
}

-- whether cells are of the frame at a height
abbrev pub of_frame : ℕ → Root → Bool
of_frame h (global_root a) = false
of_frame h (local_root i a n) = nat_eq i h
of_frame h (temp_root i n) = nat_eq i h

-- a frame's cells go with it
abbrev pub dropped : ℕ → Cells → Cells
dropped h cells = λ c. if of_frame h c.root then None else cells c

-- the cell of a parameter, which counts as the first of its name
abbrev pub parameter_cell : ℕ → Name → Cell
parameter_cell h a = record { root = local_root h a 1; path = [] }

-- the parameters of the frame at a height get their contents, in order
abbrev pub entered : ℕ → List MemberTree → List Content → Cells → Cells
entered h [] gs cells = cells
entered h (a ∷ params) [] cells = cells
entered h (a ∷ params) (g ∷ gs) cells = entered h params gs (written cells (parameter_cell h a.name) g)
