use Rattle.std.proofs.Common.{◌∙◌, sym}
use Rattle.test_history.proofs.WholeLemmas.{this_version, other_version, version_fault}
use Rattle.test_history.proofs.reader.read_version.Goals as goal

pub returns-in_default-clause-refusal : goal.returns-in_default-clause-refusal
returns-in_default-clause-refusal c = version_fault c.args.version c.args.bytes.now c.in_default.ensures

pub returns-then-number-clause-rest : goal.returns-then-number-clause-rest
returns-then-number-clause-rest c =
    this_version c.args.version c.args.bytes.now c.in-Some.rest.now c.in-Some.number c.in-Some.ensures.1 (c.if-number.true ∙ c.number.ensures)

pub returns-else-number-clause-refusal : goal.returns-else-number-clause-refusal
returns-else-number-clause-refusal c =
    other_version c.args.version c.args.bytes.now c.in-Some.rest.now c.in-Some.number c.in-Some.ensures.1 c.in-Some.ensures.0 (λ same. c.if-number.false (same ∙ sym c.number.ensures))
