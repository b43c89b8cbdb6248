-- Which files a command reads, in their order.
use Rattle.std.specs.Prelude.{ℕ, ◌≡◌, List, [], ◌∷◌}
use Rattle.dv_outside.specs.Outside.{Answer}
use Rattle.csub_semantics.specs.Syntax.{ProgramTree}
use Rattle.csub_answers.specs.Accepted.{Accepted}
use Rattle.command_words.specs.Words.{Command, record_files, migrate_files, walk_files, select_files, rerun_files, explain_files}
use Rattle.command_words.specs.Words.{carry_files, order_files, certify_files, check_files, gen_numbers}
use Rattle.command_files.specs.Files.{source_and_one, suite_and_one, file_and_one, came, AreSources}

pub data Reads : Type 0 where
  -- a source and a suite
  suite_of : (source suite : List ℕ) → Reads
  -- an old source and a history of it, in version 2 of the format
  earlier_of : (old history : List ℕ) → Reads
  -- two versions
  versions_of : (old new : List ℕ) → Reads
  -- two versions and a history of the old one
  history_of : (old new history : List ℕ) → Reads
  -- two versions and a certificate of both
  certificate_of : (old new certificate : List ℕ) → Reads
  -- no file, but a pair of sources that is made
  made_of : (seed size : ℕ) → Reads

abbrev pub reads : Command → Reads
reads (record_files source suite workers) = suite_of source suite
reads (migrate_files old history) = earlier_of old history
reads (walk_files old new) = versions_of old new
reads (select_files old new history) = history_of old new history
reads (rerun_files old new history workers) = history_of old new history
reads (explain_files old new history test) = history_of old new history
reads (carry_files old new history workers) = history_of old new history
reads (order_files old new history workers) = history_of old new history
reads (certify_files old new) = versions_of old new
reads (check_files old new certificate) = certificate_of old new certificate
reads (gen_numbers seed size) = made_of seed size

-- what it asks for: the name of each file, and the most bytes of it
abbrev pub asks : Reads → List (List ℕ × ℕ)
asks (suite_of source suite) = (source, source_and_one) ∷ (suite, suite_and_one) ∷ []
asks (earlier_of old history) = (old, source_and_one) ∷ (history, file_and_one) ∷ []
asks (versions_of old new) = (old, source_and_one) ∷ (new, source_and_one) ∷ []
asks (history_of old new history) = (old, source_and_one) ∷ (new, source_and_one) ∷ (history, file_and_one) ∷ []
asks (certificate_of old new certificate) = (old, source_and_one) ∷ (new, source_and_one) ∷ (certificate, file_and_one) ∷ []
asks (made_of seed size) = []

-- a source and then a second file came, and the first is accepted, as the source of this program alone
pub record HasSecond (source_name second_name : List ℕ) (most : ℕ) (seen : List Answer) : Type 0 where
  pub source : List ℕ
  pub program : ProgramTree
  pub bytes : List ℕ
  pub fetched : seen ≡ came source_name source_and_one source ∷ came second_name most bytes ∷ []
  pub accepted : Accepted source program
  pub alone : (Q : ProgramTree) → Accepted source Q → Q ≡ program

-- two accepted sources came
pub record HasTwo (old_name new_name : List ℕ) (seen : List Answer) : Type 0 where
  pub source : List ℕ
  pub new_source : List ℕ
  pub old : ProgramTree
  pub new : ProgramTree
  pub fetched : seen ≡ came old_name source_and_one source ∷ came new_name source_and_one new_source ∷ []
  pub sources : AreSources source new_source old new

-- and then a third file
pub record HasThree (old_name new_name third_name : List ℕ) (seen : List Answer) : Type 0 where
  pub source : List ℕ
  pub new_source : List ℕ
  pub bytes : List ℕ
  pub old : ProgramTree
  pub new : ProgramTree
  pub fetched : seen ≡ came old_name source_and_one source ∷ came new_name source_and_one new_source ∷ came third_name file_and_one bytes ∷ []
  pub sources : AreSources source new_source old new
