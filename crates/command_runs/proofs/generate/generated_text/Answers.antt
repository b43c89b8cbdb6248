use Rattle.std.proofs.Common.{List, ℕ, subst}
use Rattle.csub_answers.specs.Accepted.{Accepted}
use Rattle.command_runs.proofs.generate.generated_text.Goals as goal

pub measured_text-requires-clause-alone : goal.measured_text-requires-clause-alone
measured_text-requires-clause-alone g c κs within = λ P accepted.
    c.in_ok-versions.ensures.alone P (subst (λ (source : List ℕ). Accepted source P) c.in_ok-versions.ensures.old_is accepted)
