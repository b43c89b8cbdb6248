-- The new run beside an old one whose crossed edges have one image each.
use Rattle.std.proofs.Common.{◌≡◌, ℕ, zero, suc, List, [], ◌∷◌, Some, refl, sym, ◌∙◌, subst}
use Rattle.std.specs.Prelude.{slice_get}
use Rattle.std.specs.List.{AllZip}
use Rattle.std.proofs.lemmas.Option.{same_Some}
use Rattle.csub_semantics.specs.Syntax.{ProgramTree}
use Rattle.csub_semantics.specs.Flows.{flow_of}
use Rattle.csub_semantics.specs.Numbers.{edge_at, IsCrossed}
use Rattle.csub_semantics.specs.Runs.{Results, run_of}
use Rattle.csub_semantics.specs.Books.{Reached, Dangerous, IsImage}
use Rattle.dual_walk.proofs.LawsLists.{contained, contains_at}
use Rattle.call_walk.specs.Lockstep.{SameResults, SameRuns}
use Rattle.edge_images.specs.Images.{IsImageAt}
use Rattle.edge_images.specs.Crossings.{EachHasOne, IsImageOfCrossed, RunsCarryOver}
use Rattle.edge_images.proofs.LawsLeading.{crossed_numbered}

-- what stands beside an element
module _ {X Y : Type 0} (R : X → Y → Type 0) where
  beside : (xs : List X) (ys : List Y) (k : ℕ) (x : X) → AllZip R xs ys → slice_get xs k ≡ Some x → (y : Y) × (slice_get ys k ≡ Some y) × R x y
  beside [] ys k x h e = absurd cc
  beside (a ∷ xs) [] k x h e = absurd h
  beside (a ∷ xs) (b ∷ ys) zero x h e = (b, refl, subst (λ z. R z b) (same_Some a x e) h.0)
  beside (a ∷ xs) (b ∷ ys) (suc k) x h e = beside xs ys k x h.1 e

  before : (xs : List X) (ys : List Y) (k : ℕ) (y : Y) → AllZip R xs ys → slice_get ys k ≡ Some y → (x : X) × (slice_get xs k ≡ Some x) × R x y
  before [] [] k y h e = absurd cc
  before [] (b ∷ ys) k y h e = absurd h
  before (a ∷ xs) [] k y h e = absurd h
  before (a ∷ xs) (b ∷ ys) zero y h e = (a, refl, subst (R a) (same_Some b y e) h.0)
  before (a ∷ xs) (b ∷ ys) (suc k) y h e = before xs ys k y h.1 e

module _ (P P' : ProgramTree) (input : List ℕ) (budget : ℕ) (r r' : Results) (ran : run_of (flow_of P) input budget ≡ Some r) (ran' : run_of (flow_of P') input budget ≡ Some r')
    (images : AllZip (IsImage (Reached (flow_of P) (flow_of P'))) r.crossed r'.crossed) where
  to_old : (i : ℕ) → IsCrossed P' r'.crossed i → IsImageOfCrossed P P' r.crossed i
  to_old i h =
      let at = contained r'.crossed h.edge h.among in
      let old = before (IsImage (Reached (flow_of P) (flow_of P'))) r.crossed r'.crossed at.0 h.edge images at.1 in
      let number = crossed_numbered P input budget r ran at.0 old.0 old.1 in (
        number.0,
        record { edge = old.0; numbered = number.1; among = contains_at r.crossed at.0 old.0 old.1 },
        record { old = old.0; new = h.edge; numbered = number.1; numbered' = h.numbered; image = old.2 },
      )

  to_new : EachHasOne P P' r.crossed → (i : ℕ) → IsImageOfCrossed P P' r.crossed i → IsCrossed P' r'.crossed i
  to_new one i h =
      let at = contained r.crossed h.1.edge h.1.among in
      let new = beside (IsImage (Reached (flow_of P) (flow_of P'))) r.crossed r'.crossed at.0 h.1.edge images at.1 in
      let number = crossed_numbered P' input budget r' ran' at.0 new.0 new.1 in
      let image : IsImageAt P P' h.0 number.0 = record { old = h.1.edge; new = new.0; numbered = h.1.numbered; numbered' = number.1; image = new.2 } in
      let only = one h.0 h.1 in
      let same : number.0 ≡ i = only.1.1 number.0 image ∙ sym (only.1.1 i h.2) in
      record { edge = new.0; numbered = subst (λ n. edge_at P' n ≡ Some new.0) same number.1; among = contains_at r'.crossed at.0 new.0 new.1 }

pub carried_over : (P P' : ProgramTree) → SameRuns (flow_of P) (flow_of P') (Reached (flow_of P) (flow_of P')) (Dangerous (flow_of P) (flow_of P')) → RunsCarryOver P P'
carried_over P P' same input budget r ran none one =
    let s = same input budget r ran none in
    let it : SameResults (Reached (flow_of P) (flow_of P')) r s.0 = s.2 in (
      s.0,
      s.1,
      record {
        status = it.status;
        output = it.output;
        turns = it.turns;
        crossed = λ i. (to_old P P' input budget r s.0 ran s.1 it.images i, to_new P P' input budget r s.0 ran s.1 it.images one i);
      },
    )
