use Rattle.std.proofs.Common.{◌≡◌, ◌∙◌, List, ℕ, Some, None, refl, sym, subst}
use Rattle.csub_answers.specs.declared.error.SourceError.{SourceError}
use Rattle.command_refusals.specs.Causes.{source_cause}
use Rattle.csub_answers.specs.declared.error.SourceError.TheVariants.{Memory}
use Rattle.command_refusals.specs.declared.source.SourceCause.{SourceCause}
use Rattle.command_files.proofs.files.read_source.Goals as goal

no_cause : {cause : SourceCause} → None ≡ Some cause → ⊥
no_cause h = cc

-- an error of which something is told is no want of memory
not_memory : (bytes : List ℕ) (error : SourceError) (cause : SourceCause) → source_cause bytes error ≡ Some cause → error ≡ Memory → ⊥
not_memory bytes error cause is memory = no_cause (subst (λ e. source_cause bytes e ≡ Some cause) memory is)

pub returns-in-Ok-clause-only : goal.returns-in-Ok-clause-only
returns-in-Ok-clause-only c = λ P accepted. sym (c.in-Ok.ensures.only P accepted)

pub returns-in-Some-clause-cause : goal.returns-in-Some-clause-cause
returns-in-Some-clause-cause c =
    let told : source_cause c.args.bytes.now c.in-Err.error ≡ Some c.in-Some.cause = sym c.source_cause.ensures ∙ c.in-Some.is in (
      refl,
      record {
        none = λ P accepted. not_memory c.args.bytes.now c.in-Err.error c.in-Some.cause told (c.in-Err.ensures.only P accepted);
        error = c.in-Err.error;
        why = c.in-Err.ensures.cause;
        is = told;
      },
    )
