-- Slots are like named cells.
use Rattle.std.proofs.Common.{ℕ, ◌+◌, ◌*◌, ◌≡◌, ◌<◌, ◌≤◌, min, ℤ, List, Option, Some, None, refl, sym, ◌∙◌, ap, subst, arith, slice_index_or, slice_set}
use Rattle.csub_objects.specs.Types.{Name, TypeTree, number_type, array_type, struct_type, loose_type, MemberTrees, IsNumber, number_kind, array_length}
use Rattle.csub_objects.specs.Types.{element_type, member_type, cells, find_member, find_cell}
use Rattle.csub_objects.specs.Paths.{Inside, inside_at}
use Rattle.csub_semantics.specs.Trees.{Variable}
use Rattle.csub_semantics.specs.Cells.{Cell, Cells, Content, number, reference, Spot, named, number_in, written, referred, stand_at, cell_of, root_of, type_of, type_or}
use Rattle.csub_semantics.specs.Cells.{element_spot, member_spot}
use Rattle.csub_flat.specs.Frames.{plain}
use Rattle.csub_flat.specs.Trees.{FlatVariable, frame_slot, global_slot, referring_slot, FlatPart}
use Rattle.csub_flat.specs.Flatten.{form_of, part_of}
use Rattle.csub_slots.specs.Layout.{Slot, empty, holding, slot_number, Layout, slot_of, Holds, StandsFor}
use Rattle.csub_slots.specs.Memory.{FlatSpot, most_slot, behind, flat}
use Rattle.csub_slots.proofs.Evals.{LikeFound, both_found, both_missing, LikeMemory}
use Rattle.csub_slots.proofs.Layouts.{IsLayout}
use Rattle.csub_slots.proofs.Parts.{IsPart, element_there, member_there}
use Rattle.csub_slots.proofs.Places.{root_slot}
use Rattle.csub_slots.proofs.Writes.{number_same, number_stands}

-- a type that is no array parameter's
abbrev pub IsWhole : TypeTree → Type 0
IsWhole (number_type k) = Unit {0}
IsWhole (array_type t n) = Unit {0}
IsWhole (struct_type tag ms) = Unit {0}
IsWhole (loose_type t) = ⊥

-- what stands at a spot of a type: where an array is, one of so many elements, also behind an array parameter
abbrev pub real : TypeTree → ℕ → TypeTree
real (number_type k) n = number_type k
real (array_type t m) n = array_type t n
real (struct_type tag ms) n = struct_type tag ms
real (loose_type t) n = array_type t n

real_whole : (t : TypeTree) → IsWhole t → real t (array_length t) ≡ t
real_whole (number_type k) w = refl
real_whole (array_type t n) w = refl
real_whole (struct_type tag ms) w = refl
real_whole (loose_type t) w = absurd w

-- a variable of the frame at a height, whose slots begin at a base, or a global has its slots
pub data SameVariable (layout : Layout) (h base : ℕ) : TypeTree → Variable → FlatVariable → Type 0 where
  same_frame : {v : Variable} (s : ℕ) → IsWhole (type_of v) → layout (root_of h v) ≡ Some (inside_at (base + s) (plain (type_of v)))
      → SameVariable layout h base (type_of v) v (frame_slot s (form_of (type_of v)))
  same_global : {v : Variable} (s : ℕ) → IsWhole (type_of v) → layout (root_of h v) ≡ Some (inside_at s (plain (type_of v)))
      → SameVariable layout h base (type_of v) v (global_slot s (form_of (type_of v)))
  same_reference : {v : Variable} (t : TypeTree) (s : ℕ) → type_of v ≡ loose_type t
      → layout (root_of h v) ≡ Some (inside_at (base + s) (loose_type (plain t)))
      → SameVariable layout h base (type_of v) v (referring_slot s (form_of (loose_type t)))

-- an element of an array, also behind an array parameter, has as many slots as its type has cells
pub data SameElement : TypeTree → TypeTree → Unit {0} → FlatPart → Type 0 where
  same_element : {t : TypeTree} {n : ℕ} {u : Unit {0}} → IsWhole t → SameElement (array_type t n) t u (part_of (cells t) (Some t))
  same_behind : {t : TypeTree} {u : Unit {0}} → IsWhole t → SameElement (loose_type t) t u (part_of (cells t) (Some t))

-- a member is behind the cells before it
pub data SameMember : TypeTree → TypeTree → Name → FlatPart → Type 0 where
  same_member : {tag : Name} {ms : MemberTrees} {t : TypeTree} {a : Name} (k : ℕ) → IsWhole t → find_member a ms ≡ Some t
      → find_cell a ms ≡ Some k → SameMember (struct_type tag ms) t a (part_of k (Some t))

-- a spot has its slots
pub record SameSpot (layout : Layout) (t : TypeTree) (l : Spot) (l' : FlatSpot) : Type 0 where
  pub typed : l.ctype ≡ t
  pub length : l.length ≡ l'.form.length
  pub kind : number_kind t ≡ l'.form.kind
  pub there : slot_of layout l.cell ≡ Some (inside_at l'.slot (plain (real t l.length)))

-- an array parameter is where its slot refers to, or nowhere
behind_found : (layout : Layout) (c : Cell) (t : TypeTree) (o : Option Content) (slot : Slot) → Holds layout c.root (loose_type (plain t)) o slot
    → LikeFound (SameSpot layout (loose_type t)) (referred t o) (behind (form_of (loose_type t)) slot)
behind_found layout c t None slot e =
    subst (λ (s : Slot). LikeFound (SameSpot layout (loose_type t)) None (behind (form_of (loose_type t)) s)) (sym e) both_missing
behind_found layout c t (Some (number v)) slot h = absurd h
behind_found layout c t (Some (reference d n)) slot h =
    subst (λ (s : Slot). LikeFound (SameSpot layout (loose_type t)) (referred t (Some (reference d n))) (behind (form_of (loose_type t)) s)) (sym h.is)
    (both_found (record { typed = refl; length = refl; kind = refl; there = h.there }))

module _ (layout : Layout) (count : ℕ) (is_layout : IsLayout layout count) (h base : ℕ) where
  found_like : (c : Cell) (t : TypeTree) (s : ℕ) (held : Cells) → IsWhole t → slot_of layout c ≡ Some (inside_at s (plain t))
      → LikeFound (SameSpot layout t) (stand_at c t held) (Some (record { slot = s; form = form_of t }))
  found_like c (number_type k) s held w e = both_found (record { typed = refl; length = refl; kind = refl; there = e })
  found_like c (array_type t n) s held w e = both_found (record { typed = refl; length = refl; kind = refl; there = e })
  found_like c (struct_type tag ms) s held w e = both_found (record { typed = refl; length = refl; kind = refl; there = e })
  found_like c (loose_type t) s held w e = absurd w

  pub stand_like : (t : TypeTree) (v : Variable) (v' : FlatVariable) (held : Cells) (slots : List Slot) → SameVariable layout h base t v v'
      → StandsFor layout count held slots → LikeFound (SameSpot layout t) ((named h).stand v held) ((flat base).stand v' slots)
  stand_like t v v' held slots (same_frame s w p) stands =
      found_like (cell_of h v) (type_of v) (base + s) held w (root_slot layout (root_of h v) (inside_at (base + s) (plain (type_of v))) p)
  stand_like t v v' held slots (same_global s w p) stands =
      found_like (cell_of h v) (type_of v) s held w (root_slot layout (root_of h v) (inside_at s (plain (type_of v))) p)
  stand_like t v v' held slots (same_reference u s is p) stands =
      let there = root_slot layout (root_of h v) (inside_at (base + s) (loose_type (plain u))) p in
      let slot = slice_index_or slots (base + s) empty in
      let found = behind_found layout (cell_of h v) u (held (cell_of h v)) slot (stands.holds (cell_of h v) (inside_at (base + s) (loose_type (plain u))) there) in
      subst (λ (w : TypeTree). LikeFound (SameSpot layout w) (stand_at (cell_of h v) w held) (behind (form_of (loose_type u)) slot)) (sym is) found

  module _ (few : count ≤ most_slot) where
    -- the number of a part's slot isn't capped
    part_like : (c : Cell) (t u : TypeTree) (at s n : ℕ) → u ≡ t → IsWhole t → IsPart layout count c at t → at ≡ s + n
        → SameSpot layout t (record { cell = c; ctype = u; length = array_length u }) (record { slot = min (s + n) most_slot; form = form_of t })
    part_like c t u at s n typed whole part sum = record {
      typed = typed;
      length = ap array_length typed;
      kind = refl;
      there =
          part.there
          ∙ ap (λ k. let o : Option Inside = Some (inside_at k (plain t)) in o) (let w = part.within in omega arith)
          ∙ ap (λ (w : TypeTree). let o : Option Inside = Some (inside_at (min (s + n) most_slot) (plain w)) in o) (sym (ap (λ (w : TypeTree). real t (array_length w)) typed ∙ real_whole t whole));
    }

    -- an element of an array of so many
    among_like : (u w : TypeTree) (l : Spot) (l' : FlatSpot) (n : ℕ) → IsWhole u → l.ctype ≡ w → type_or w (element_type w) ≡ u
        → slot_of layout l.cell ≡ Some (inside_at l'.slot (plain (array_type u l.length))) → n < l.length
        → SameSpot layout u (element_spot l n) ((flat base).element (part_of (cells u) (Some u)) l' n)
    among_like u w l l' n whole typed is there less =
        part_like (element_spot l n).cell u (element_spot l n).ctype (l'.slot + n * cells u) l'.slot (n * cells u)
        (ap (λ (x : TypeTree). type_or x (element_type x)) typed ∙ is) whole
        (element_there layout count is_layout l.cell l'.slot u l.length n there less) refl

    pub element_like : (t u : TypeTree) (x : Unit {0}) (p : FlatPart) (l : Spot) (l' : FlatSpot) (n : ℕ) → SameElement t u x p → SameSpot layout t l l'
        → n < l.length → SameSpot layout u (element_spot l n) ((flat base).element p l' n)
    element_like t u x p l l' n (same_element {n = m} whole) same less = among_like u (array_type u m) l l' n whole same.typed refl same.there less
    element_like t u x p l l' n (same_behind whole) same less = among_like u (loose_type u) l l' n whole same.typed refl same.there less

    pub member_like : (t u : TypeTree) (a : Name) (p : FlatPart) (l : Spot) (l' : FlatSpot) → SameMember t u a p → SameSpot layout t l l'
        → SameSpot layout u (member_spot l a) ((flat base).member p l')
    member_like t u a p l l' (same_member {tag = tag} {ms = ms} k whole e g) same =
        part_like (member_spot l a).cell u (member_spot l a).ctype (l'.slot + k) l'.slot k
        (ap (λ (w : TypeTree). type_or w (member_type a w)) same.typed ∙ ap (type_or (struct_type tag ms)) e) whole
        (member_there layout count is_layout l.cell l'.slot tag ms a u k same.there e g) refl

  pub read_like : (t : TypeTree) (l : Spot) (l' : FlatSpot) (held : Cells) (slots : List Slot) → IsNumber t → SameSpot layout t l l'
      → StandsFor layout count held slots → number_in (held l.cell) ≡ slot_number (slice_index_or slots l'.slot empty)
  read_like (number_type k) l l' held slots n same stands =
      number_same layout l.cell.root k (held l.cell) (slice_index_or slots l'.slot empty)
      (stands.holds l.cell (inside_at l'.slot (plain (number_type k))) same.there)
  read_like (array_type t m) l l' held slots n same stands = absurd n
  read_like (struct_type tag ms) l l' held slots n same stands = absurd n
  read_like (loose_type t) l l' held slots n same stands = absurd n

  pub write_like : (t : TypeTree) (l : Spot) (l' : FlatSpot) (held : Cells) (slots : List Slot) (v : ℤ) → IsNumber t → SameSpot layout t l l'
      → StandsFor layout count held slots → StandsFor layout count (written held l.cell (number v)) (slice_set slots l'.slot (holding v))
  write_like (number_type k) l l' held slots v n same stands = number_stands layout count is_layout l.cell l'.slot _ v held slots same.there stands
  write_like (array_type t m) l l' held slots v n same stands = absurd n
  write_like (struct_type tag ms) l l' held slots v n same stands = absurd n
  write_like (loose_type t) l l' held slots v n same stands = absurd n

  pub flat_like : count ≤ most_slot → LikeMemory IsNumber (SameVariable layout h base) SameElement SameMember (SameSpot layout) (StandsFor layout count) (named h) (flat base)
  flat_like few = record {
    stand = stand_like;
    element = element_like few;
    member = member_like few;
    bound = λ t l l' same. same.length;
    kind = λ t l l' n same. ap number_kind same.typed ∙ same.kind;
    read = read_like;
    write = write_like;
  }
