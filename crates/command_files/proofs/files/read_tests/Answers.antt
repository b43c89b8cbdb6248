use Rattle.std.proofs.Common.{◌≡◌, ◌∙◌, Some, None, sym, subst}
use Rattle.test_suite.specs.declared.error.SuiteError.{SuiteError}
use Rattle.test_suite.specs.declared.error.SuiteError.TheVariants.{Memory}
use Rattle.command_refusals.specs.Causes.{suite_cause}
use Rattle.command_refusals.specs.declared.suite.SuiteCause.{SuiteCause}
use Rattle.command_files.proofs.files.read_tests.Goals as goal

no_cause : {cause : SuiteCause} → None ≡ Some cause → ⊥
no_cause h = cc

-- an error of which something is told is no want of memory
not_memory : (error : SuiteError) (cause : SuiteCause) → suite_cause error ≡ Some cause → error ≡ Memory → ⊥
not_memory error cause is memory = no_cause (subst (λ e. suite_cause e ≡ Some cause) memory is)

pub returns-in-Ok-clause-tests : goal.returns-in-Ok-clause-tests
returns-in-Ok-clause-tests c = record { says = c.in-Ok.ensures.text; suite = c.in-Ok.ensures.suite }

pub returns-in-Some-clause-cause : goal.returns-in-Some-clause-cause
returns-in-Some-clause-cause c =
    let told : suite_cause c.in-Err.error ≡ Some c.in-Some.cause = sym c.suite_cause.ensures ∙ c.in-Some.is in
    record {
      none = λ tests reads. not_memory c.in-Err.error c.in-Some.cause told (c.in-Err.ensures.back tests reads.suite reads.says);
      error = c.in-Err.error;
      why = c.in-Err.ensures.cause;
      is = told;
    }
