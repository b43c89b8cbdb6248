-- A refusal of a step that is passed on, and what two steps saw one after the other.
use Rattle.std.proofs.Common.{◌≡◌, ◌++◌, List, sym, ap, ◌∙◌, subst, append_assoc, Result, Ok, Err, MatchResult}
use Rattle.std.specs.Result.{IsErrAnd}
use Rattle.dv_outside.specs.Outside.{Answer}
use Rattle.command_refusals.specs.declared.refusal.Refusal.{Refusal}
use Rattle.command_files.specs.Files.{Sees}

-- a refusal of a step was passed on
pub passed_on : {A : Type 0} (r : Result A Refusal) (found : A → Type 0) (cause : Refusal → Type 0) (refusal : Refusal) → IsErrAnd r (λ e. e ≡ refusal) → cause refusal → MatchResult r found cause
passed_on (Ok text) found cause refusal was holds = absurd was
passed_on (Err r) found cause refusal was holds = subst cause (sym was) holds

-- and so was one that is told by what was seen
pub passed_seen : {A : Type 0} (a b : List Answer) (r : Result A Refusal) (found : List Answer → A → Type 0) (cause : List Answer → Refusal → Type 0) (refusal : Refusal)
    → IsErrAnd r (λ e. e ≡ refusal) → Sees a b (λ seen. cause seen refusal) → Sees a b (λ seen. MatchResult r (found seen) (cause seen))
passed_seen a b r found cause refusal was (seen, is, holds) = (seen, is, passed_on r (found seen) (cause seen) refusal was holds)

-- what was seen first, and then
pub then_seen : (a b c first second : List Answer) → b ≡ a ++ first → c ≡ b ++ second → c ≡ a ++ (first ++ second)
then_seen a b c first second one two = two ∙ ap (λ (l : List Answer). l ++ second) one ∙ append_assoc a first second
