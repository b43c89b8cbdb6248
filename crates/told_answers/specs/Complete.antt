-- Completeness where the files are told: where nothing stands in its way, a command is done.
use Rattle.std.specs.Prelude.{ℕ, ◌≡◌, List, Option, Some}
use Rattle.dv_outside.specs.Outside.{Files, file_at, Rose}
use Rattle.csub_semantics.specs.Syntax.{ProgramTree}
use Rattle.test_suite.specs.Tests.{TestParts}
use Rattle.test_history.specs.Histories.{HistoryParts}
use Rattle.test_history.specs.declared.version.Version.TheVariants.{Second, Third}
use Rattle.cert_text.specs.Certificates.{CertificateParts}
use Rattle.command_words.specs.Words.{Command, explain_files, gen_numbers, command_of}
use Rattle.command_files.specs.Record.{IsSuiteFile, IsHistoryFile}
use Rattle.told_answers.specs.Files.{HasSource}
use Rattle.command_claims.specs.Checked.{IsCertificateFile}
use Rattle.dejavu_cli.specs.Reads.{Reads, suite_of, earlier_of, versions_of, history_of, certificate_of, made_of, reads}
use Rattle.command_runs.specs.Explain.{HasTest}
use Rattle.dejavu_cli.specs.Complete.{AreAccepted, IsDone}
use Rattle.told_answers.specs.Causes.{HasReadFault}
use Rattle.dejavu_cli.specs.declared.status.Status8.{Status8}

-- an accepted source and a suite
pub record HaveSuite (files : Files) (source_name suite_name : List ℕ) : Type 0 where
  pub program : ProgramTree
  pub source : HasSource files source_name program
  pub bytes : List ℕ
  pub found : file_at files suite_name ≡ Some bytes
  pub tests : List TestParts
  pub is : IsSuiteFile bytes tests

-- an accepted source and a history of it in version 2
pub record HaveEarlier (files : Files) (old_name history_name : List ℕ) : Type 0 where
  pub program : ProgramTree
  pub source : HasSource files old_name program
  pub bytes : List ℕ
  pub found : file_at files history_name ≡ Some bytes
  pub history : HistoryParts
  pub is : IsHistoryFile Second source.bytes bytes program history

-- two accepted sources
pub record HaveVersions (files : Files) (old_name new_name : List ℕ) : Type 0 where
  pub old : ProgramTree
  pub new : ProgramTree
  pub source : HasSource files old_name old
  pub new_source : HasSource files new_name new

-- and a history of the old one
pub record HaveHistory (files : Files) (old_name new_name history_name : List ℕ) : Type 0 where
  pub two : HaveVersions files old_name new_name
  pub bytes : List ℕ
  pub found : file_at files history_name ≡ Some bytes
  pub history : HistoryParts
  pub is : IsHistoryFile Third two.source.bytes bytes two.old history

-- or a certificate of both
pub record HaveCertificate (files : Files) (old_name new_name certificate_name : List ℕ) : Type 0 where
  pub two : HaveVersions files old_name new_name
  pub bytes : List ℕ
  pub found : file_at files certificate_name ≡ Some bytes
  pub certificate : CertificateParts
  pub is : IsCertificateFile two.source.bytes two.new_source.bytes bytes two.old two.new certificate

-- the files that a command reads are there and are what it asks for
abbrev pub AreThere : Reads → Files → Type 0
AreThere (suite_of source suite) files = HaveSuite files source suite
AreThere (earlier_of old history) files = HaveEarlier files old history
AreThere (versions_of old new) files = HaveVersions files old new
AreThere (history_of old new history) files = HaveHistory files old new history
AreThere (certificate_of old new certificate) files = HaveCertificate files old new certificate
AreThere (made_of seed size) files = AreAccepted seed size

-- and the history of `explain` has its test
abbrev pub AreReadyIn : Command → Files → Type 0
AreReadyIn (explain_files old new history test) files = (have : HaveHistory files old new history) × HasTest have.history.entries test
AreReadyIn c files = AreThere (reads c) files

-- the files are told and ready; `gen` asks for none
abbrev pub AreReady : Command → Option Files → Type 0
AreReady (gen_numbers seed size) told = AreAccepted seed size
AreReady c told = (files : Files) × (told ≡ Some files) × AreReadyIn c files

-- Completeness: where the words are a command that is ready, and none of its files had a fault, nor the output, it is done
abbrev pub IsComplete : List (List ℕ) → Option Files → (List ℕ → ℕ) → (List ℕ → ℕ) → ℕ → ℕ → Status8 → Type 0
IsComplete words told before now faults_before faults_now answer =
    (c : Command) → command_of words ≡ Some c → AreReady c told →
    ¬ HasReadFault (reads c) told before now → ¬ Rose faults_before faults_now → IsDone c answer
