-- What is written stands in its slot, and all others stand as they did.
use Rattle.std.proofs.Common.{ℕ, ◌≡◌, ◌<◌, ℤ, length, Bool, true, false, Option, Some, None, if◌then◌else◌, refl, sym, ◌∙◌, ap}
use Rattle.std.proofs.Common.{subst, arith, slice_index_or, slice_set, length-set, List}
use Rattle.std.proofs.lemmas.List.{get_or-set_same, get_or-set_other}
use Rattle.csub_types.specs.declared.kind.IntKind.{IntKind}
use Rattle.csub_objects.specs.Types.{number_type}
use Rattle.csub_objects.specs.Paths.{Inside, inside_at}
use Rattle.csub_semantics.specs.Cells.{Root, Cell, Cells, Content, number, reference, number_in, written, cell_eq}
use Rattle.csub_slots.specs.Layout.{Slot, empty, holding, slot_number, Layout, slot_of, Holds, StandsFor}
use Rattle.csub_slots.proofs.Cells.{cell_true, cell_same}
use Rattle.csub_slots.proofs.Layouts.{IsLayout}
use Rattle.csub_slots.proofs.Numbered.{IsLeaf}
use Rattle.csub_slots.proofs.Places.{one_cell, slot_below, only_leaves}

pub number_same : (layout : Layout) (r : Root) (k : IntKind) (o : Option Content) (slot : Slot) → Holds layout r (number_type k) o slot → number_in o ≡ slot_number slot
number_same layout r k None slot e = sym (ap slot_number e)
number_same layout r k (Some (number v)) slot e = sym (ap slot_number e)
number_same layout r k (Some (reference d n)) slot e = absurd e

module _ (layout : Layout) (count : ℕ) (is_layout : IsLayout layout count) where
  -- any content of a leaf
  pub content_stands : (d : Cell) (y : Inside) (g : Content) (slot : Slot) (held : Cells) (slots : List Slot) → slot_of layout d ≡ Some y → IsLeaf y.ctype
      → Holds layout d.root y.ctype (Some g) slot → StandsFor layout count held slots → StandsFor layout count (written held d g) (slice_set slots y.at slot)
  content_stands d y g slot held slots there leaf like stands = record {
    size = length-set slots y.at slot ∙ stands.size;
    holds = λ c x e. by_cell c x e (cell_eq c d) refl;
    nothing = λ c e. by_other c e (cell_eq c d) refl;
  }
    where
      in_slots : y.at < length slots
      in_slots = let b = slot_below layout count is_layout d y there leaf in let e = stands.size in omega arith

      at_d : Holds layout d.root y.ctype (Some g) (slice_index_or (slice_set slots y.at slot) y.at empty)
      at_d = subst (Holds layout d.root y.ctype (Some g)) (sym (get_or-set_same slots y.at slot empty in_slots)) like

      other : (c : Cell) (x : Inside) → slot_of layout c ≡ Some x → IsLeaf x.ctype → cell_eq c d ≡ false → x.at ≡ y.at → ⊥
      other c x e small f g =
          let one = one_cell layout count is_layout c d x y e there small leaf g in
          let t = ap (λ (z : Cell). cell_eq z d) one ∙ cell_same d in cc

      by_cell : (c : Cell) (x : Inside) → slot_of layout c ≡ Some x → (b : Bool) → cell_eq c d ≡ b
          → Holds layout c.root x.ctype (if b then Some g else held c) (slice_index_or (slice_set slots y.at slot) x.at empty)
      by_cell c x e true f =
          let both : Some x ≡ Some y = sym e ∙ ap (slot_of layout) (cell_true c d f) ∙ there in
          let is : x ≡ y = cc in
          let root : c.root ≡ d.root = ap (λ (z : Cell). z.root) (cell_true c d f) in
          let at_x = subst (λ (z : Inside). Holds layout d.root z.ctype (Some g) (slice_index_or (slice_set slots y.at slot) z.at empty)) (sym is) at_d in
          subst (λ (r : Root). Holds layout r x.ctype (Some g) (slice_index_or (slice_set slots y.at slot) x.at empty)) (sym root) at_x
      by_cell c x e false f =
          only_leaves layout c.root x.ctype (held c) (slice_index_or (slice_set slots y.at slot) x.at empty)
          (λ small. subst (Holds layout c.root x.ctype (held c)) (sym (get_or-set_other slots y.at x.at slot empty (other c x e small f))) (stands.holds c x e))

      by_other : (c : Cell) → slot_of layout c ≡ None → (b : Bool) → cell_eq c d ≡ b → (if b then Some g else held c) ≡ None
      by_other c e true f = let both = sym e ∙ ap (slot_of layout) (cell_true c d f) ∙ there in cc
      by_other c e false f = stands.nothing c e

  -- a number
  pub number_stands : (d : Cell) (s : ℕ) (k : IntKind) (v : ℤ) (held : Cells) (slots : List Slot)
      → slot_of layout d ≡ Some (inside_at s (number_type k)) → StandsFor layout count held slots
      → StandsFor layout count (written held d (number v)) (slice_set slots s (holding v))
  number_stands d s k v held slots there stands = content_stands d (inside_at s (number_type k)) (number v) (holding v) held slots there tt refl stands
