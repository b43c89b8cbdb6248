-- Where cells are in a layout.
use Rattle.std.proofs.Common.{ℕ, ◌+◌, ◌≡◌, ◌<◌, inl, inr, List, [], ◌∷◌, ◌++◌, Option, Some, None, refl, sym, ◌∙◌, ap, subst}
use Rattle.std.proofs.Common.{arith}
use Rattle.csub_objects.specs.Types.{TypeTree, number_type, array_type, struct_type, loose_type}
use Rattle.csub_objects.specs.Paths.{Inner, Inside, inside_at, moved, inside}
use Rattle.csub_semantics.specs.Cells.{Root, Cell, Content, stepped_into}
use Rattle.csub_slots.specs.Layout.{Slot, Layout, slot_of, into, Holds}
use Rattle.csub_slots.proofs.Layouts.{IsLayout}
use Rattle.csub_slots.proofs.Numbered.{IsLeaf, inside-append, into-moved, below, apart, unmoved}

-- where a part of a cell's object is
pub slot_step : (layout : Layout) (c : Cell) (i : Inner) (x : Inside) → slot_of layout c ≡ Some x
    → slot_of layout (stepped_into c i) ≡ moved x.at (inside x.ctype (i ∷ []))
slot_step layout c i x e = longer (layout c.root) c.path (i ∷ []) ∙ ap (λ (o : Option Inside). into o (i ∷ [])) e
  where
    longer : (o : Option Inside) (p q : List Inner) → into o (p ++ q) ≡ into (into o p) q
    longer None p q = refl
    longer (Some y) p q = ap (moved y.at) (inside-append y.ctype p q) ∙ sym (into-moved y.at (inside y.ctype p) q)

-- the object that a cell is in
pub record Placed (layout : Layout) (c : Cell) (x : Inside) : Type 0 where
  pub object : Inside
  pub place : Inside
  pub here : layout c.root ≡ Some object
  pub there : inside object.ctype c.path ≡ Some place
  pub at : x.at ≡ object.at + place.at
  pub ctype : x.ctype ≡ place.ctype

pub placed : (layout : Layout) (c : Cell) (x : Inside) → slot_of layout c ≡ Some x → Placed layout c x
placed layout c x e = by_object (layout c.root) refl e
  where
    by_object : (o : Option Inside) → layout c.root ≡ o → into o c.path ≡ Some x → Placed layout c x
    by_object None f g = cc
    by_object (Some y) f g =
        let u = unmoved y.at (inside y.ctype c.path) x g in
        record { object = y; place = u.0; here = f; there = u.1; at = u.2; ctype = u.3 }

-- two leaves are one where their slot is one
pub one_cell : (layout : Layout) (count : ℕ) → IsLayout layout count → (c d : Cell) (x y : Inside)
    → slot_of layout c ≡ Some x → slot_of layout d ≡ Some y → IsLeaf x.ctype → IsLeaf y.ctype → x.at ≡ y.at → c ≡ d
one_cell layout count is_layout c d x y e f h g i = by_roots (placed layout c x e) (placed layout d y f)
  where
    together : (p : Placed layout c x) (q : Placed layout d y) → c.root ≡ d.root → c ≡ d
    together p q r =
        let object : p.object ≡ q.object = let k = sym p.here ∙ ap layout r ∙ q.here in cc in
        let there = subst (λ (o : Inside). inside o.ctype c.path ≡ Some p.place) object p.there in
        let same : p.place.at ≡ q.place.at = let m = ap (λ (o : Inside). o.at) object in let k = p.at in let l = q.at in omega arith in
        let path = apart q.object.ctype c.path d.path p.place q.place there q.there (subst IsLeaf p.ctype h) (subst IsLeaf q.ctype g) same in
        ap (λ (z : Root). let m : Cell = record { root = z; path = c.path } in m) r
        ∙ ap (λ (z : List Inner). let m : Cell = record { root = d.root; path = z } in m) path

    by_roots : Placed layout c x → Placed layout d y → c ≡ d
    by_roots p q =
        let here = below p.object.ctype c.path p.place p.there (subst IsLeaf p.ctype h) in
        let there = below q.object.ctype d.path q.place q.there (subst IsLeaf q.ctype g) in
        let m = p.at in
        let n = q.at in
        elim (is_layout.apart c.root d.root p.object q.object p.here q.here) [
          | inl r ↦ together p q r
          | inr r ↦ elim r [ inl s ↦ absurd (omega arith) | inr s ↦ absurd (omega arith) ]
        ]

-- the slot of a leaf is below the count
pub slot_below : (layout : Layout) (count : ℕ) → IsLayout layout count → (c : Cell) (x : Inside)
    → slot_of layout c ≡ Some x → IsLeaf x.ctype → x.at < count
slot_below layout count is_layout c x e h =
    let p = placed layout c x e in
    let here = below p.object.ctype c.path p.place p.there (subst IsLeaf p.ctype h) in
    let there = is_layout.within c.root p.object p.here in let m = p.at in omega arith

-- what is held for a type that is no leaf says nothing
pub only_leaves : (layout : Layout) (r : Root) (t : TypeTree) (o : Option Content) (slot : Slot) → (IsLeaf t → Holds layout r t o slot) → Holds layout r t o slot
only_leaves layout r (number_type k) o slot f = f tt
only_leaves layout r (loose_type t) o slot f = f tt
only_leaves layout r (array_type t n) o slot f = tt
only_leaves layout r (struct_type tag ms) o slot f = tt

-- an object's own cell has its place
pub root_slot : (layout : Layout) (r : Root) (x : Inside) → layout r ≡ Some x → slot_of layout (record { root = r; path = [] }) ≡ Some x
root_slot layout r x e =
    ap (λ (o : Option Inside). into o []) e ∙ ap (λ n. let o : Option Inside = Some (inside_at n x.ctype) in o) (omega arith)
