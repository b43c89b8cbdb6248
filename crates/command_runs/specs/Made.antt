-- Why `gen` isn't done: a source that it makes isn't accepted.
use Rattle.std.specs.Prelude.{ℕ}
use Rattle.csub_semantics.specs.Syntax.{ProgramTree}
use Rattle.csub_answers.specs.Accepted.{Accepted}
use Rattle.dv_gen.specs.Pairs.{old_source, new_source}
use Rattle.command_refusals.specs.declared.source.SourceCause.{SourceCause}
use Rattle.command_refusals.specs.declared.refusal.Role.{Role}
use Rattle.command_refusals.specs.declared.refusal.Role.TheVariants as role
use Rattle.command_files.specs.Causes.{NotAccepted}

-- a made source isn't accepted, and the one before it is
abbrev pub HasBadMade : ℕ → ℕ → Role → SourceCause → Type 0
HasBadMade seed size role.Source cause = ⊥
HasBadMade seed size role.Old cause = NotAccepted (old_source seed size) cause
HasBadMade seed size role.New cause = ((P : ProgramTree) × Accepted (old_source seed size) P) × NotAccepted (new_source seed size) cause
