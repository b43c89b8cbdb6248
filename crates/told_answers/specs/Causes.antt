-- Why a command isn't done, by the files that are told.
use Rattle.std.specs.Prelude.{ℕ, ◌≡◌, List, Option, Some, None}
use Rattle.dv_outside.specs.Outside.{Files}
use Rattle.test_history.specs.declared.version.Version.TheVariants.{Second, Third}
use Rattle.command_words.specs.Words.{Command, explain_files}
use Rattle.command_refusals.specs.declared.source.SourceCause.{SourceCause}
use Rattle.command_refusals.specs.declared.suite.SuiteCause.{SuiteCause}
use Rattle.command_refusals.specs.declared.history.HistoryCause.{HistoryCause}
use Rattle.command_refusals.specs.declared.certificate.CertificateCause.{CertificateCause}
use Rattle.command_refusals.specs.declared.refusal.Product.{Product}
use Rattle.command_refusals.specs.declared.refusal.Role.{Role}
use Rattle.command_refusals.specs.declared.refusal.Role.TheVariants as role
use Rattle.command_refusals.specs.declared.refusal.Refusal.{Refusal}
use Rattle.command_refusals.specs.declared.refusal.Refusal.TheVariants as refusal
use Rattle.command_files.specs.Causes.{NoSuite, NoHistory}
use Rattle.told_answers.specs.Files.{WhereTold, HasBadSource, HasBadOfTwo, HasFaultOfTwo, HasFaultOfThree}
use Rattle.command_files.specs.Steps.{IsTooMuch}
use Rattle.command_claims.specs.Checked.{NoCertificate}
use Rattle.dejavu_cli.specs.Reads.{Reads, suite_of, earlier_of, versions_of, history_of, certificate_of, made_of, reads}
use Rattle.told_answers.specs.Held.{HasSecond, HasThree}
use Rattle.command_runs.specs.Explain.{HasNoTest}
use Rattle.dejavu_cli.specs.Texts.{product_of}
use Rattle.command_runs.specs.Made.{HasBadMade}
use Rattle.told_answers.specs.Texts.{IsSaid}
use Rattle.dejavu_cli.specs.declared.answer.End.TheVariants.{Whole}

-- the source in this role isn't accepted, and the one before it is
abbrev pub HasBadSourceOf : Reads → Role → SourceCause → Option Files → Type 0
HasBadSourceOf (suite_of source suite) which cause told = (which ≡ role.Source) × HasBadSource source cause told
HasBadSourceOf (earlier_of old history) which cause told = (which ≡ role.Old) × HasBadSource old cause told
HasBadSourceOf (versions_of old new) which cause told = HasBadOfTwo old new which cause told
HasBadSourceOf (history_of old new history) which cause told = HasBadOfTwo old new which cause told
HasBadSourceOf (certificate_of old new certificate) which cause told = HasBadOfTwo old new which cause told
HasBadSourceOf (made_of seed size) which cause told = HasBadMade seed size which cause

-- the source is accepted, and the suite isn't one
abbrev pub HasBadSuite : Reads → SuiteCause → Option Files → Type 0
HasBadSuite (suite_of source suite) cause told = WhereTold told (λ files. (are : HasSecond files source suite) × NoSuite are.bytes cause)
HasBadSuite k cause told = ⊥

-- the sources are accepted, and the history isn't one of the old source
abbrev pub HasBadHistory : Reads → HistoryCause → Option Files → Type 0
HasBadHistory (earlier_of old history) cause told =
    WhereTold told (λ files. (are : HasSecond files old history) × NoHistory Second are.source are.bytes are.program cause)
HasBadHistory (history_of old new history) cause told =
    WhereTold told (λ files. (are : HasThree files old new history) × NoHistory Third are.two.source are.bytes are.two.old cause)
HasBadHistory k cause told = ⊥

-- the sources are accepted, and the certificate isn't one of them
abbrev pub HasBadCertificate : Reads → CertificateCause → Option Files → Type 0
HasBadCertificate (certificate_of old new certificate) cause told = WhereTold told (λ files.
    (are : HasThree files old new certificate)
    × NoCertificate are.two.source are.two.new_source are.bytes are.two.old are.two.new cause)
HasBadCertificate k cause told = ⊥

-- the history is read, and has no test of the name that is asked for
abbrev pub HasBadTest : Command → List ℕ → Option Files → Type 0
HasBadTest (explain_files old new history test) name told =
    (name ≡ test) × WhereTold told (λ files. (are : HasThree files old new history) × HasNoTest are.two.source are.bytes are.two.old test)
HasBadTest c name told = ⊥

-- the count of faults of a named file rose, and the sources before that file are accepted
abbrev pub HasReadFault : Reads → Option Files → (List ℕ → ℕ) → (List ℕ → ℕ) → Type 0
HasReadFault (suite_of source suite) told before now = HasFaultOfTwo source suite told before now
HasReadFault (earlier_of old history) told before now = HasFaultOfTwo old history told before now
HasReadFault (versions_of old new) told before now = HasFaultOfTwo old new told before now
HasReadFault (history_of old new history) told before now = HasFaultOfThree old new history told before now
HasReadFault (certificate_of old new certificate) told before now = HasFaultOfThree old new certificate told before now
HasReadFault (made_of seed size) told before now = ⊥

-- what the command says would have more bytes than it may have, so many
abbrev pub HasTooMuch : Command → Product → ℕ → Option Files → Type 0
HasTooMuch c which count told = (product_of c ≡ Some which) × WhereTold told (λ files. IsTooMuch (IsSaid c files Whole) count)

-- why a command isn't done; want of memory may come at any time before the write
abbrev pub HasCauseOf : Command → Option Files → (List ℕ → ℕ) → (List ℕ → ℕ) → Refusal → Type 0
HasCauseOf c told before now refusal.Usage = ⊥
HasCauseOf c told before now (refusal.Source which cause) = HasBadSourceOf (reads c) which cause told
HasCauseOf c told before now (refusal.Suite cause) = HasBadSuite (reads c) cause told
HasCauseOf c told before now (refusal.History cause) = HasBadHistory (reads c) cause told
HasCauseOf c told before now (refusal.Certificate cause) = HasBadCertificate (reads c) cause told
HasCauseOf c told before now (refusal.NoTest name) = HasBadTest c name told
HasCauseOf c told before now refusal.ReadFault = HasReadFault (reads c) told before now
HasCauseOf c told before now refusal.Memory = Unit {0}
HasCauseOf c told before now (refusal.TooMuch which count) = HasTooMuch c which count told

-- words that are no command are a fault of usage, or memory is wanted first
abbrev pub HasCause : Option Command → Option Files → (List ℕ → ℕ) → (List ℕ → ℕ) → Refusal → Type 0
HasCause (Some c) told before now r = HasCauseOf c told before now r
HasCause None told before now refusal.Usage = Unit {0}
HasCause None told before now refusal.Memory = Unit {0}
HasCause None told before now r = ⊥
