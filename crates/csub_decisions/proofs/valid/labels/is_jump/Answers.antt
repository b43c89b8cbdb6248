use Rattle.std.proofs.Common.{ℕ, ◌∙◌, ◌==◌, ap}
use Rattle.std.specs.Option.{option_map}
use Rattle.csub_semantics.specs.Labels.{label_tree}
use Rattle.csub_decisions.proofs.ValidCases.{IsJump-own}
use Rattle.csub_decisions.proofs.valid.labels.is_jump.Goals as goal

pub returns-then-is_empty : goal.returns-then-is_empty
returns-then-is_empty c =
    let part = c.args.part.now in
    let none = c.is_empty.ensures ∙ ap (λ (n : ℕ). n == 0) part.calls.ok.0 in
    let own = IsJump-own part.calls.items part.span (option_map label_tree part.main) c.is_empty.result none in
    (λ h. own.1 (c.if-is_empty.true, c.is_goto.ensures.0 h), λ h. c.is_goto.ensures.1 (own.0 h).1)

pub returns-else-is_empty : goal.returns-else-is_empty
returns-else-is_empty c =
    let part = c.args.part.now in
    let none = c.is_empty.ensures ∙ ap (λ (n : ℕ). n == 0) part.calls.ok.0 in
    let own = IsJump-own part.calls.items part.span (option_map label_tree part.main) c.is_empty.result none in
    (λ h. cc, λ h. (own.0 h).0)
