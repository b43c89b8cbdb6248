-- Completeness: where nothing stands in its way, a command is done.
use Rattle.std.specs.Prelude.{ℕ, ◌≡◌, ◌⊎◌, List, [], ◌∷◌, Option, Some}
use Rattle.std.specs.Option.{option_map}
use Rattle.dv_outside.specs.Outside.{Answer, Rose}
use Rattle.csub_semantics.specs.Syntax.{ProgramTree}
use Rattle.csub_answers.specs.Accepted.{Accepted}
use Rattle.test_suite.specs.Tests.{TestParts}
use Rattle.test_history.specs.Histories.{HistoryParts}
use Rattle.test_history.specs.declared.version.Version.TheVariants.{Second, Third}
use Rattle.cert_text.specs.Certificates.{CertificateParts}
use Rattle.dv_gen.specs.Pairs.{old_source, new_source}
use Rattle.command_words.specs.Words.{Command, rerun_files, explain_files, check_files, command_of}
use Rattle.command_files.specs.Record.{IsSuiteFile, IsHistoryFile}
use Rattle.command_files.specs.Files.{source_and_one, suite_and_one, file_and_one, came, Sees}
use Rattle.command_claims.specs.Checked.{IsCertificateFile}
use Rattle.dejavu_cli.specs.Reads.{Reads, suite_of, earlier_of, versions_of, history_of, certificate_of, made_of, reads}
use Rattle.command_runs.specs.Explain.{HasTest}
use Rattle.dejavu_cli.specs.Texts.{product_of}
use Rattle.dejavu_cli.specs.declared.status.Status8.{Status8}
use Rattle.dejavu_cli.specs.declared.status.Status8.TheVariants as status

-- an accepted source and a suite
pub record HaveSuite (source_name suite_name : List ℕ) (seen : List Answer) : Type 0 where
  pub source : List ℕ
  pub bytes : List ℕ
  pub fetched : seen ≡ came source_name source_and_one source ∷ came suite_name suite_and_one bytes ∷ []
  pub program : ProgramTree
  pub accepted : Accepted source program
  pub tests : List TestParts
  pub is : IsSuiteFile bytes tests

-- an accepted source and a history of it in version 2
pub record HaveEarlier (old_name history_name : List ℕ) (seen : List Answer) : Type 0 where
  pub source : List ℕ
  pub bytes : List ℕ
  pub fetched : seen ≡ came old_name source_and_one source ∷ came history_name file_and_one bytes ∷ []
  pub program : ProgramTree
  pub accepted : Accepted source program
  pub history : HistoryParts
  pub is : IsHistoryFile Second source bytes program history

-- two accepted sources
pub record HaveVersions (old_name new_name : List ℕ) (seen : List Answer) : Type 0 where
  pub source : List ℕ
  pub new_source : List ℕ
  pub fetched : seen ≡ came old_name source_and_one source ∷ came new_name source_and_one new_source ∷ []
  pub old : ProgramTree
  pub new : ProgramTree
  pub accepted : Accepted source old
  pub new_accepted : Accepted new_source new

-- two accepted sources, and a third file
pub record HaveThree (old_name new_name third_name : List ℕ) (seen : List Answer) : Type 0 where
  pub source : List ℕ
  pub new_source : List ℕ
  pub bytes : List ℕ
  pub fetched : seen ≡ came old_name source_and_one source ∷ came new_name source_and_one new_source ∷ came third_name file_and_one bytes ∷ []
  pub old : ProgramTree
  pub new : ProgramTree
  pub accepted : Accepted source old
  pub new_accepted : Accepted new_source new

-- which is a history of the old one
pub record HaveHistory (old_name new_name history_name : List ℕ) (seen : List Answer) : Type 0 where
  pub three : HaveThree old_name new_name history_name seen
  pub history : HistoryParts
  pub is : IsHistoryFile Third three.source three.bytes three.old history

-- or a certificate of both
pub record HaveCertificate (old_name new_name certificate_name : List ℕ) (seen : List Answer) : Type 0 where
  pub three : HaveThree old_name new_name certificate_name seen
  pub certificate : CertificateParts
  pub is : IsCertificateFile three.source three.new_source three.bytes three.old three.new certificate

-- the sources that `gen` makes are accepted
abbrev pub AreAccepted : ℕ → ℕ → Type 0
AreAccepted seed size =
    ((P : ProgramTree) × Accepted (old_source seed size) P) × ((P : ProgramTree) × Accepted (new_source seed size) P)

-- the files that a command reads came, and are what it asks for
abbrev pub AreThere : Reads → List Answer → Type 0
AreThere (suite_of source suite) seen = HaveSuite source suite seen
AreThere (earlier_of old history) seen = HaveEarlier old history seen
AreThere (versions_of old new) seen = HaveVersions old new seen
AreThere (history_of old new history) seen = HaveHistory old new history seen
AreThere (certificate_of old new certificate) seen = HaveCertificate old new certificate seen
AreThere (made_of seed size) seen = AreAccepted seed size

-- and the history of `explain` has its test
abbrev pub AreReady : Command → List Answer → Type 0
AreReady (explain_files old new history test) seen = (have : HaveHistory old new history seen) × HasTest have.history.entries test
AreReady c seen = AreThere (reads c) seen

-- how a command can end but done: a test differs, a claim is open, or what it makes would have too many bytes
abbrev pub other_end : Command → Option Status8
other_end (rerun_files old new history workers) = Some status.Differs
other_end (check_files old new certificate) = Some status.Open
other_end c = option_map (λ which. status.TooMuch) (product_of c)

-- the answer of a command that nothing stands in the way of
abbrev pub IsDone : Command → Status8 → Type 0
IsDone c answer = (answer ≡ status.Done) ⊎ ((other_end c ≡ Some answer) ⊎ (answer ≡ status.Memory))

-- Completeness: where the words are a command, its files came and are what it asks for, and the output had no fault, it is done
abbrev pub IsComplete : List (List ℕ) → List Answer → List Answer → ℕ → ℕ → Status8 → Type 0
IsComplete words before now faults_before faults_now answer =
    (c : Command) → command_of words ≡ Some c → Sees before now (AreReady c) → ¬ Rose faults_before faults_now → IsDone c answer
