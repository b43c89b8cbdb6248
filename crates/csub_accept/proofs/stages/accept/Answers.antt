use Rattle.std.proofs.Common.{rules}
use Rattle.csub_answers.specs.declared.error.SourceError.TheVariants.{Meaning}
use Rattle.csub_accept.proofs.Places.{told_within, told_by}
use Rattle.csub_accept.proofs.stages.accept.Goals as goal

pub returns-in_err-tokens-clause-place : goal.returns-in_err-tokens-clause-place
returns-in_err-tokens-clause-place c = told_by c.args.source.now c.from_residual.result (search rules)

pub returns-in_err-unit-clause-place : goal.returns-in_err-unit-clause-place
returns-in_err-unit-clause-place c = told_by c.args.source.now c.from_residual-in_err-unit.result (search rules)

pub returns-in-Err-Meaning-clause-place : goal.returns-in-Err-Meaning-clause-place
returns-in-Err-Meaning-clause-place c =
    told_within c.args.source.now (Meaning c.in-Err-Meaning.rule c.in-Err-Meaning.span) (search rules)
