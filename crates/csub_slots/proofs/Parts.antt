-- Where elements and members are.
use Rattle.std.proofs.Common.{ℕ, ◌+◌, ◌*◌, ◌≡◌, ◌<◌, ◌≤◌, [], ◌∷◌, Bool, true, false, Option, Some, None, nat_lt, bytes_eq}
use Rattle.std.proofs.Common.{option_map, if◌then◌else◌, refl, ◌∙◌, ap, arith}
use Rattle.csub_objects.specs.Types.{Name, TypeTree, array_type, struct_type, MemberTrees, no_member, more_members, cells, find_member, find_cell}
use Rattle.csub_objects.specs.Paths.{element_at, member_of, Inside, inside_at, moved, inside, inside_member}
use Rattle.csub_semantics.specs.Cells.{Cell, stepped_into}
use Rattle.csub_flat.specs.Frames.{plain, plain_members}
use Rattle.csub_slots.specs.Layout.{Layout, slot_of}
use Rattle.csub_slots.proofs.Layouts.{IsLayout}
use Rattle.csub_slots.proofs.Numbered.{within}
use Rattle.csub_slots.proofs.Places.{slot_step, placed}
use Rattle.csub_slots.proofs.Plain.{plain_cells}

-- all cells of a place are below the count
pub slot_fits : (layout : Layout) (count : ℕ) → IsLayout layout count → (c : Cell) (x : Inside) → slot_of layout c ≡ Some x → x.at + cells x.ctype ≤ count
slot_fits layout count is_layout c x e =
    let p = placed layout c x e in
    let a = within p.object.ctype c.path p.place p.there in
    let b = is_layout.within c.root p.object p.here in let m = p.at in let t = ap cells p.ctype in omega arith

element_inside : (t : TypeTree) (n i : ℕ) → i < n → inside (plain (array_type t n)) (element_at i ∷ []) ≡ Some (inside_at (i * cells t) (plain t))
element_inside t n i less =
    let test : nat_lt i n ≡ true = grind arith in
    ap (λ b. if b then moved (i * cells (plain t)) (Some (inside_at 0 (plain t))) else None) test
    ∙ ap (λ c. let o : Option Inside = Some (inside_at (i * c + 0) (plain t)) in o) (plain_cells t)
    ∙ ap (λ k. let o : Option Inside = Some (inside_at k (plain t)) in o) (omega arith)

member_inside : (ms : MemberTrees) (a : Name) (t : TypeTree) (k : ℕ) → find_member a ms ≡ Some t → find_cell a ms ≡ Some k
    → inside_member (plain_members ms) a [] ≡ Some (inside_at k (plain t))
member_inside no_member a t k e g = cc
member_inside (more_members x u rest) a t k e g = pick (bytes_eq x a) e g (λ j h i. member_inside rest a t j h i)
  where
    later : (o : Option ℕ) → find_cell a rest ≡ o → option_map (λ n. cells u + n) o ≡ Some k
        → ((j : ℕ) → find_cell a rest ≡ Some j → inside_member (plain_members rest) a [] ≡ Some (inside_at j (plain t)))
        → moved (cells (plain u)) (inside_member (plain_members rest) a []) ≡ Some (inside_at k (plain t))
    later None f h found = cc
    later (Some j) f h found =
        let is : cells u + j ≡ k = cc in
        ap (moved (cells (plain u))) (found j f) ∙ ap (λ c. let o : Option Inside = Some (inside_at (c + j) (plain t)) in o) (plain_cells u)
        ∙ ap (λ n. let o : Option Inside = Some (inside_at n (plain t)) in o) is

    pick : (b : Bool) → (if b then Some u else find_member a rest) ≡ Some t → (if b then Some 0 else option_map (λ n. cells u + n) (find_cell a rest)) ≡ Some k
        → ((j : ℕ) → find_member a rest ≡ Some t → find_cell a rest ≡ Some j → inside_member (plain_members rest) a [] ≡ Some (inside_at j (plain t)))
        → (if b then Some (inside_at 0 (plain u)) else moved (cells (plain u)) (inside_member (plain_members rest) a [])) ≡ Some (inside_at k (plain t))
    pick true h i found =
        let same : u ≡ t = cc in let first : ◌≡◌ {A = ℕ} 0 k = cc in
        ap (λ v. let o : Option Inside = Some (inside_at 0 (plain v)) in o) same ∙ ap (λ n. let o : Option Inside = Some (inside_at n (plain t)) in o) first
    pick false h i found = later (find_cell a rest) refl i (λ j f. found j h f)

-- a part of a place is in slots below the count
pub record IsPart (layout : Layout) (count : ℕ) (c : Cell) (at : ℕ) (t : TypeTree) : Type 0 where
  pub there : slot_of layout c ≡ Some (inside_at at (plain t))
  pub within : at + cells t ≤ count

part_is : (layout : Layout) (count : ℕ) → IsLayout layout count → (c : Cell) (at : ℕ) (t : TypeTree) → slot_of layout c ≡ Some (inside_at at (plain t)) → IsPart layout count c at t
part_is layout count is_layout c at t e =
    record { there = e; within = let f = slot_fits layout count is_layout c (inside_at at (plain t)) e in let g = plain_cells t in omega arith }

module _ (layout : Layout) (count : ℕ) (is_layout : IsLayout layout count) (c : Cell) (s : ℕ) where
  pub element_there : (t : TypeTree) (n i : ℕ) → slot_of layout c ≡ Some (inside_at s (plain (array_type t n))) → i < n
      → IsPart layout count (stepped_into c (element_at i)) (s + i * cells t) t
  element_there t n i e less =
      part_is layout count is_layout (stepped_into c (element_at i)) (s + i * cells t) t
      (slot_step layout c (element_at i) (inside_at s (plain (array_type t n))) e ∙ ap (moved s) (element_inside t n i less))

  pub member_there : (tag : Name) (ms : MemberTrees) (a : Name) (t : TypeTree) (k : ℕ) → slot_of layout c ≡ Some (inside_at s (plain (struct_type tag ms)))
      → find_member a ms ≡ Some t → find_cell a ms ≡ Some k → IsPart layout count (stepped_into c (member_of a)) (s + k) t
  member_there tag ms a t k e f g =
      part_is layout count is_layout (stepped_into c (member_of a)) (s + k) t
      (slot_step layout c (member_of a) (inside_at s (plain (struct_type tag ms))) e ∙ ap (moved s) (member_inside ms a t k f g))
