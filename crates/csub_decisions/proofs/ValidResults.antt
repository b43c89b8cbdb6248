-- What the stages of a part give to later ones, by the part's calls and its own point.
use Rattle.std.proofs.Common.{◌≡◌, ℕ, zero, suc, ◌<◌, List, [], ◌∷◌, ◌++◌, map, length, get_or, slice_get, Option, Some, None, refl, ap, arith}
use Rattle.std.specs.Option.{option_and_then}
use Rattle.csub_text.specs.declared.span.Span.{Span}
use Rattle.csub_types.specs.declared.kind.IntKind.{IntKind}
use Rattle.csub_semantics.specs.declared.function.RCall.{RCall}
use Rattle.csub_semantics.specs.Labels.{LabelTree}
use Rattle.csub_semantics.specs.Syntax.{Stage, call_stage, own_stage}
use Rattle.csub_validity.specs.Valid.{stage_result, result_of}
use Rattle.csub_decisions.specs.Checks.{own_result}

numbered : (rs : List (Option IntKind)) (n i : ℕ) → n ≡ suc i → result_of rs n ≡ option_and_then (λ r. r) (slice_get rs i)
numbered rs n i e = ap (result_of rs) e

call_at : (span : Span) (cs : List RCall) (rest : List Stage) (i : ℕ) (c : RCall) → i < length cs → c ≡ get_or cs i c → slice_get (map stage_result (map (call_stage span) cs ++ rest)) i ≡ Some c.label.result
call_at span [] rest i c below is = absurd (omega (arith, below))
call_at span (d ∷ cs) rest zero c below is = ap (λ (x : RCall). Some x.label.result) (sym' is)
  where
    sym' : c ≡ d → d ≡ c
    sym' e = cc
call_at span (d ∷ cs) rest (suc i) c below is = call_at span cs rest i c (omega (arith, below)) is

own_at : (cs : List RCall) (span : Span) (own : Option LabelTree) → option_and_then (λ r. r) (slice_get (map stage_result (map (call_stage span) cs ++ own_stage span own)) (length cs)) ≡ own_result own
own_at [] span None = refl
own_at [] span (Some label) = refl
own_at (c ∷ cs) span own = own_at cs span own

past_at : (cs : List RCall) (span : Span) (own : Option LabelTree) (i : ℕ) → length cs < i → slice_get (map stage_result (map (call_stage span) cs ++ own_stage span own)) i ≡ None
past_at [] span None i less = refl
past_at [] span (Some label) zero less = absurd (omega (arith, less))
past_at [] span (Some label) (suc i) less = refl
past_at (c ∷ cs) span own zero less = absurd (omega (arith, less))
past_at (c ∷ cs) span own (suc i) less = past_at cs span own i (omega (arith, less))

-- the result of a call, of the own point, and of no stage
pub call_result : (cs : List RCall) (span : Span) (own : Option LabelTree) (n i : ℕ) (c : RCall) → n ≡ suc i → i < length cs → c ≡ get_or cs i c → c.label.result ≡ result_of (map stage_result (map (call_stage span) cs ++ own_stage span own)) n
call_result cs span own n i c e below is =
    let here = numbered (map stage_result (map (call_stage span) cs ++ own_stage span own)) n i e in
    let there = ap (option_and_then (λ r. r)) (call_at span cs (own_stage span own) i c below is) in
    cc

pub own_stage_result : (cs : List RCall) (span : Span) (own : Option LabelTree) (n : ℕ) → n ≡ suc (length cs) → own_result own ≡ result_of (map stage_result (map (call_stage span) cs ++ own_stage span own)) n
own_stage_result cs span own n e =
    let here = numbered (map stage_result (map (call_stage span) cs ++ own_stage span own)) n (length cs) e in
    let there = own_at cs span own in
    cc

pub past_result : (cs : List RCall) (span : Span) (own : Option LabelTree) (n i : ℕ) → n ≡ suc i → length cs < i → None ≡ result_of (map stage_result (map (call_stage span) cs ++ own_stage span own)) n
past_result cs span own n i e less =
    let here = numbered (map stage_result (map (call_stage span) cs ++ own_stage span own)) n i e in
    let there = ap (option_and_then (λ r. r)) (past_at cs span own i less) in
    cc
