-- What an answer of the resolver says of a source.
use Rattle.std.specs.Prelude.{◌≡◌, Some, None}
use Rattle.csub_tree.specs.Units.{Source}
use Rattle.csub_semantics.specs.Syntax.{ProgramTree}
use Rattle.csub_rules.specs.Units.{unit_fault}
use Rattle.csub_resolution.specs.Programs.{program_of}
use Rattle.csub_limits.specs.Limits.{limit_passed}
use Rattle.csub_answers.specs.declared.error.ResolveError.{ResolveError}
use Rattle.csub_answers.specs.declared.error.ResolveError.TheVariants.{Meaning, Limit, Memory}

-- a source breaks no rule and passes no limit, and this is the program that it stands for
pub record IsResolved (u : Source) (P : ProgramTree) : Type 0 where
  pub unbroken : unit_fault u ≡ None
  pub within : limit_passed u ≡ None
  pub program : P ≡ program_of u

-- the same where it is known that no rule is broken
pub record IsMade (u : Source) (P : ProgramTree) : Type 0 where
  pub within : limit_passed u ≡ None
  pub program : P ≡ program_of u

abbrev pub IsPassed : Source → ResolveError → Type 0
IsPassed u (Meaning rule span) = ⊥
IsPassed u (Limit number count) = limit_passed u ≡ Some (record { number = number; count = count })
IsPassed u Memory = Unit {0}

-- why there is no program: the first rule that is broken, or where none is the first limit that is passed; want of memory may
-- come anywhere
abbrev pub HasCause : Source → ResolveError → Type 0
HasCause u (Meaning rule span) = unit_fault u ≡ Some (record { rule = rule; span = span })
HasCause u (Limit number count) = (unit_fault u ≡ None) × (limit_passed u ≡ Some (record { number = number; count = count }))
HasCause u Memory = Unit {0}
