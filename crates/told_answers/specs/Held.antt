-- What the files that a command reads hold.
use Rattle.std.specs.Prelude.{ℕ, ◌≡◌, List, Some}
use Rattle.dv_outside.specs.Outside.{Files, file_at}
use Rattle.csub_semantics.specs.Syntax.{ProgramTree}
use Rattle.csub_answers.specs.Accepted.{Accepted}
use Rattle.told_answers.specs.Files.{HasVersions}

-- both files are there, and the first is an accepted source, of this program alone
pub record HasSecond (files : Files) (source_name second_name : List ℕ) : Type 0 where
  pub source : List ℕ
  pub program : ProgramTree
  pub found : file_at files source_name ≡ Some source
  pub accepted : Accepted source program
  pub alone : (Q : ProgramTree) → Accepted source Q → Q ≡ program
  pub bytes : List ℕ
  pub second_found : file_at files second_name ≡ Some bytes

-- two accepted sources
pub record HasTwo (files : Files) (old_name new_name : List ℕ) : Type 0 where
  pub source : List ℕ
  pub new_source : List ℕ
  pub old : ProgramTree
  pub new : ProgramTree
  pub versions : HasVersions files old_name new_name source new_source old new

-- two accepted sources and a third file
pub record HasThree (files : Files) (old_name new_name third_name : List ℕ) : Type 0 where
  pub two : HasTwo files old_name new_name
  pub bytes : List ℕ
  pub found : file_at files third_name ≡ Some bytes
