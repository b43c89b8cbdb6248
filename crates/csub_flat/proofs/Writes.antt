-- The steps of an initialiser, part by part.
use Rattle.std.proofs.Common.{◌≡◌, ◌≤◌, ◌<◌, ◌∙◌, ℕ, zero, suc, ◌+◌, ◌-◌, ◌*◌, nat_lt, List, [], ◌++◌, map, drop, length, get_or, Bool, true, false, Some, None, if◌then◌else◌, IsTrue, refl, ap, sym, subst, arith, add-one, append_assoc}
use Rattle.std.proofs.lemmas.List.{drop_more}
use Rattle.csub_objects.specs.Types.{Name, TypeTree, number_type, array_type, struct_type, loose_type}
use Rattle.csub_objects.specs.Types.{MemberTrees, no_member, more_members, cells, member_cells}
use Rattle.csub_objects.specs.Parts.{member_at, part_type, has_parts}
use Rattle.csub_semantics.specs.declared.label.RInit.{RInit}
use Rattle.csub_semantics.specs.Labels.{InitTree, one_value, listed, InitTrees, more_inits, init_tree, inits_of}
use Rattle.csub_semantics.specs.Syntax.{LocalTree, FunctionTree}
use Rattle.csub_flat.specs.Trees.{FlatWrite}
use Rattle.csub_flat.specs.Flatten.{flat_writes, element_writes, member_writes}
use Rattle.csub_flat.specs.Fits.{FitsInit, FitInits}

-- ---- the parts of an object from one on

abbrev members_from : MemberTrees → ℕ → MemberTrees
members_from no_member i = no_member
members_from (more_members x t rest) zero = more_members x t rest
members_from (more_members x t rest) (suc i) = members_from rest i

-- how many cells they have
abbrev left_from : TypeTree → ℕ → ℕ
left_from (number_type k) i = 0
left_from (array_type t n) i = (n - i) * cells t
left_from (struct_type tag ms) i = member_cells (members_from ms i)
left_from (loose_type t) i = 0

from_first : (ms : MemberTrees) → members_from ms 0 ≡ ms
from_first no_member = refl
from_first (more_members x t rest) = refl

left_all : (t : TypeTree) → IsTrue (has_parts t) → left_from t 0 ≡ cells t
left_all (number_type k) h = cc
left_all (array_type t n) h = let all : n - 0 ≡ n = omega arith in ap (λ m. m * cells t) all
left_all (struct_type tag ms) h = ap member_cells (from_first ms)
left_all (loose_type t) h = cc

-- the part with a number is the first of those from it on
next_element : (t : TypeTree) (n i : ℕ) (u : TypeTree) → part_type (array_type t n) i ≡ Some u → (i < n) × (t ≡ u)
next_element t n i u e = pick (nat_lt i n) refl e
  where
    pick : (b : Bool) → nat_lt i n ≡ b → (if b then Some t else None) ≡ Some u → (i < n) × (t ≡ u)
    pick true less h = (grind arith, cc)
    pick false less h = cc

next_member : (ms : MemberTrees) (i : ℕ) (u : TypeTree) → member_at ms i ≡ Some u → (x : Name) × (members_from ms i ≡ more_members x u (members_from ms (suc i)))
next_member no_member i u e = cc
next_member (more_members x t rest) zero u e =
    let same : t ≡ u = cc in (x, ap (λ v. more_members x v rest) same ∙ ap (λ r. more_members x u r) (sym (from_first rest)))
next_member (more_members x t rest) (suc i) u e = next_member rest i u e

times_more : (m c : ℕ) → suc m * c ≡ c + m * c
times_more m c = omega arith

left_next : (t : TypeTree) (i : ℕ) (u : TypeTree) → part_type t i ≡ Some u → left_from t i ≡ cells u + left_from t (i + 1)
left_next (number_type k) i u e = cc
left_next (array_type t n) i u e =
    let w = next_element t n i u e in let less = w.0 in
    let one : n - i ≡ suc (n - (i + 1)) = omega arith in
    ap (λ m. m * cells t) one ∙ times_more (n - (i + 1)) (cells t) ∙ ap (λ v. cells v + (n - (i + 1)) * cells t) w.1
left_next (struct_type tag ms) i u e =
    let m = next_member ms i u e in
    ap member_cells m.1 ∙ ap (λ j. cells u + member_cells (members_from ms j)) (sym (add-one i))
left_next (loose_type t) i u e = cc

module _ (gs : List LocalTree) (f : FunctionTree) where
  -- the steps that are left at a part
  abbrev writes_from : TypeTree → ℕ → ℕ → InitTrees → List FlatWrite
  writes_from (number_type k) i s xs = []
  writes_from (array_type t n) i s xs = element_writes gs f t n i s xs
  writes_from (struct_type tag ms) i s xs = member_writes gs f (members_from ms i) s xs
  writes_from (loose_type t) i s xs = []

  writes_all : (t : TypeTree) (s : ℕ) (xs : InitTrees) → writes_from t 0 s xs ≡ flat_writes gs f t s (listed xs)
  writes_all (number_type k) s xs = refl
  writes_all (array_type t n) s xs = refl
  writes_all (struct_type tag ms) s xs = ap (λ ns. member_writes gs f ns s xs) (from_first ms)
  writes_all (loose_type t) s xs = refl

  writes_next : (t : TypeTree) (i : ℕ) (u : TypeTree) (s : ℕ) (x : InitTree) (rest : InitTrees) → part_type t i ≡ Some u
      → writes_from t i s (more_inits x rest) ≡ flat_writes gs f u s x ++ writes_from t (i + 1) (s + cells u) rest
  writes_next (number_type k) i u s x rest e = cc
  writes_next (array_type t n) i u s x rest e =
      let w = next_element t n i u e in
      ap (λ v. flat_writes gs f v s x ++ element_writes gs f t n (i + 1) (s + cells v) rest) w.1
  writes_next (struct_type tag ms) i u s x rest e =
      let m = next_member ms i u e in
      ap (λ ns. member_writes gs f ns s (more_inits x rest)) m.1
      ∙ ap (λ j. flat_writes gs f u s x ++ member_writes gs f (members_from ms j) (s + cells u) rest) (sym (add-one i))
  writes_next (loose_type t) i u s x rest e = cc

  -- what isn't there has no initialiser
  no_part : (x : InitTree) → FitsInit gs f None x → ⊥
  no_part (one_value e) h = h.0
  no_part (listed xs) h = let none = h.0 in cc

  -- ---- a list, entry by entry

  module _ (entries : List RInit) where
    abbrev inits_from : ℕ → InitTrees
    inits_from k = inits_of (map init_tree (drop k entries))

    inits_next : (k : ℕ) (x : RInit) → k < length entries → x ≡ get_or entries k x → inits_from k ≡ more_inits (init_tree x) (inits_from (k + 1))
    inits_next k x within is =
        ap (λ (xs : List RInit). inits_of (map init_tree xs)) (drop_more entries k x within)
        ∙ ap (λ (y : RInit). more_inits (init_tree y) (inits_from (k + 1))) (sym is)

    -- after so many entries: the next slot, and the steps so far
    pub record Begun (t : TypeTree) (slot : ℕ) (old : List FlatWrite) (k at : ℕ) (done : List FlatWrite) : Type 0 where
      pub room : at + left_from t k ≡ slot + cells t
      pub fits : FitInits gs f (Some t) k (inits_from k)
      pub steps : done ++ writes_from t k at (inits_from k) ≡ old ++ flat_writes gs f t slot (listed (inits_from 0))

    pub begun_first : (t : TypeTree) (slot : ℕ) (old : List FlatWrite) → FitsInit gs f (Some t) (listed (inits_from 0)) → Begun t slot old 0 slot old
    begun_first t slot old h = record {
      room = ap (λ n. slot + n) (left_all t h.0);
      fits = h.1;
      steps = ap (λ ws. old ++ ws) (writes_all t slot (inits_from 0));
    }

module _ {gs : List LocalTree} {f : FunctionTree} {entries : List RInit} {t : TypeTree} {slot : ℕ} {old : List FlatWrite} {k at : ℕ} {done : List FlatWrite} (h : Begun gs f entries t slot old k at done) where
  module _ {x : RInit} (within : k < length entries) (is : x ≡ get_or entries k x) where
    both_fit : FitsInit gs f (part_type t k) (init_tree x) × FitInits gs f (Some t) (k + 1) (inits_from gs f entries (k + 1))
    both_fit = subst (λ xs. FitInits gs f (Some t) k xs) (inits_next gs f entries k x within is) h.fits

    -- there is a part for the entry
    pub begun_part : None ≡ part_type t k → ⊥
    begun_part e = no_part gs f (init_tree x) (subst (λ o. FitsInit gs f o (init_tree x)) (sym e) both_fit.0)

    module _ {u : TypeTree} (e : Some u ≡ part_type t k) where
      pub begun_fits : FitsInit gs f (Some u) (init_tree x)
      begun_fits = subst (λ o. FitsInit gs f o (init_tree x)) (sym e) both_fit.0

      pub begun_room : at + cells u ≤ slot + cells t
      begun_room = let room = h.room in let next = left_next t k u (sym e) in omega arith

      -- one entry more
      pub begun_next : {more : List FlatWrite} → more ≡ done ++ flat_writes gs f u at (init_tree x) → Begun gs f entries t slot old (k + 1) (at + cells u) more
      begun_next added = record {
        room = let room = h.room in let next = left_next t k u (sym e) in omega arith;
        fits = both_fit.1;
        steps =
            let rest = writes_from gs f t (k + 1) (at + cells u) (inits_from gs f entries (k + 1)) in
            ap (λ ws. ws ++ rest) added ∙ append_assoc done (flat_writes gs f u at (init_tree x)) rest
            ∙ ap (λ ws. done ++ ws) (sym (writes_next gs f t k u at (init_tree x) (inits_from gs f entries (k + 1)) (sym e)))
            ∙ ap (λ xs. done ++ writes_from gs f t k at xs) (sym (inits_next gs f entries k x within is))
            ∙ h.steps;
      }
