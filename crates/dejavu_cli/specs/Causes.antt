-- Why a command isn't done.
use Rattle.std.specs.Prelude.{ℕ, ◌≡◌, List, [], Option, Some, None}
use Rattle.dv_outside.specs.Outside.{Answer}
use Rattle.test_history.specs.declared.version.Version.TheVariants.{Second, Third}
use Rattle.command_words.specs.Words.{Command, explain_files}
use Rattle.command_refusals.specs.declared.source.SourceCause.{SourceCause}
use Rattle.command_refusals.specs.declared.suite.SuiteCause.{SuiteCause}
use Rattle.command_refusals.specs.declared.history.HistoryCause.{HistoryCause}
use Rattle.command_refusals.specs.declared.certificate.CertificateCause.{CertificateCause}
use Rattle.command_refusals.specs.declared.refusal.Product.{Product}
use Rattle.command_refusals.specs.declared.refusal.Role.{Role}
use Rattle.command_refusals.specs.declared.refusal.Role.TheVariants as role
use Rattle.command_refusals.specs.declared.refusal.Refusal.{Refusal}
use Rattle.command_refusals.specs.declared.refusal.Refusal.TheVariants as refusal
use Rattle.command_files.specs.Causes.{NoSuite, NoHistory}
use Rattle.command_files.specs.Files.{source_and_one, suite_and_one, file_and_one, Asks, HasBadSource, HasBadOfTwo, HasFaultOfTwo, HasFaultOfThree}
use Rattle.command_files.specs.Steps.{IsTooMuch}
use Rattle.command_claims.specs.Checked.{NoCertificate}
use Rattle.dejavu_cli.specs.Reads.{Reads, suite_of, earlier_of, versions_of, history_of, certificate_of, made_of, reads, asks, HasSecond, HasThree}
use Rattle.command_runs.specs.Explain.{HasNoTest}
use Rattle.command_runs.specs.Made.{HasBadMade}
use Rattle.dejavu_cli.specs.Texts.{IsSaid, product_of}
use Rattle.dejavu_cli.specs.declared.answer.End.TheVariants.{Whole}

-- the source in this role isn't accepted, and the one before it is
abbrev pub HasBadSourceOf : Reads → Role → SourceCause → List Answer → Type 0
HasBadSourceOf (suite_of source suite) which cause seen = (which ≡ role.Source) × HasBadSource source cause seen
HasBadSourceOf (earlier_of old history) which cause seen = (which ≡ role.Old) × HasBadSource old cause seen
HasBadSourceOf (versions_of old new) which cause seen = HasBadOfTwo old new which cause seen
HasBadSourceOf (history_of old new history) which cause seen = HasBadOfTwo old new which cause seen
HasBadSourceOf (certificate_of old new certificate) which cause seen = HasBadOfTwo old new which cause seen
HasBadSourceOf (made_of seed size) which cause seen = (seen ≡ []) × HasBadMade seed size which cause

-- the source is accepted, and the suite isn't one
abbrev pub HasBadSuite : Reads → SuiteCause → List Answer → Type 0
HasBadSuite (suite_of source suite) cause seen = (are : HasSecond source suite suite_and_one seen) × NoSuite are.bytes cause
HasBadSuite k cause seen = ⊥

-- the sources are accepted, and the history isn't one of the old source
abbrev pub HasBadHistory : Reads → HistoryCause → List Answer → Type 0
HasBadHistory (earlier_of old history) cause seen =
    (are : HasSecond old history file_and_one seen) × NoHistory Second are.source are.bytes are.program cause
HasBadHistory (history_of old new history) cause seen =
    (are : HasThree old new history seen) × NoHistory Third are.source are.bytes are.old cause
HasBadHistory k cause seen = ⊥

-- the sources are accepted, and the certificate isn't one of them
abbrev pub HasBadCertificate : Reads → CertificateCause → List Answer → Type 0
HasBadCertificate (certificate_of old new certificate) cause seen =
    (are : HasThree old new certificate seen) × NoCertificate are.source are.new_source are.bytes are.old are.new cause
HasBadCertificate k cause seen = ⊥

-- the history is read, and has no test of the name that is asked for
abbrev pub HasBadTest : Command → List ℕ → List Answer → Type 0
HasBadTest (explain_files old new history test) name seen =
    (name ≡ test) × (are : HasThree old new history seen) × HasNoTest are.source are.bytes are.old test
HasBadTest c name seen = ⊥

-- a named file couldn't be read, and the sources before that file are accepted
abbrev pub HasReadFault : Reads → List Answer → Type 0
HasReadFault (suite_of source suite) seen = HasFaultOfTwo source suite suite_and_one seen
HasReadFault (earlier_of old history) seen = HasFaultOfTwo old history file_and_one seen
HasReadFault (versions_of old new) seen = HasFaultOfTwo old new source_and_one seen
HasReadFault (history_of old new history) seen = HasFaultOfThree old new history file_and_one seen
HasReadFault (certificate_of old new certificate) seen = HasFaultOfThree old new certificate file_and_one seen
HasReadFault (made_of seed size) seen = ⊥

-- what the command says would have more bytes than it may have, so many
abbrev pub HasTooMuch : Command → Product → ℕ → List Answer → Type 0
HasTooMuch c which count seen = (product_of c ≡ Some which) × IsTooMuch (IsSaid c seen Whole) count

-- why a command isn't done; want of memory may come at any time before the write, and until then no other file was asked for
abbrev pub HasCauseOf : Command → List Answer → Refusal → Type 0
HasCauseOf c seen refusal.Usage = ⊥
HasCauseOf c seen (refusal.Source which cause) = HasBadSourceOf (reads c) which cause seen
HasCauseOf c seen (refusal.Suite cause) = HasBadSuite (reads c) cause seen
HasCauseOf c seen (refusal.History cause) = HasBadHistory (reads c) cause seen
HasCauseOf c seen (refusal.Certificate cause) = HasBadCertificate (reads c) cause seen
HasCauseOf c seen (refusal.NoTest name) = HasBadTest c name seen
HasCauseOf c seen refusal.ReadFault = HasReadFault (reads c) seen
HasCauseOf c seen refusal.Memory = Asks (asks (reads c)) seen
HasCauseOf c seen (refusal.TooMuch which count) = HasTooMuch c which count seen

-- words that are no command are a fault of usage, or memory is wanted first; no file is asked for
abbrev pub HasCause : Option Command → List Answer → Refusal → Type 0
HasCause (Some c) seen r = HasCauseOf c seen r
HasCause None seen refusal.Usage = seen ≡ []
HasCause None seen refusal.Memory = seen ≡ []
HasCause None seen r = ⊥
