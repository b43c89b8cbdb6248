-- Sources that have a program.
use Rattle.std.specs.Prelude.{ℕ, List}
use Rattle.csub_semantics.specs.Syntax.{ProgramTree}
use Rattle.csub_validity.specs.Valid.{IsValid}
use Rattle.csub_answers.specs.Accepted.{Accepted}

-- the source is accepted with a program, which is valid
pub record HasProgram (bytes : List ℕ) : Type 0 where
  pub program : ProgramTree
  pub accepted : Accepted bytes program
  pub valid : IsValid program
