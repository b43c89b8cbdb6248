-- What is told of a file that a command can't use: why a source isn't accepted, a suite is none, a history is none of its source,
-- and a certificate none of its sources.
use Rattle.std.specs.Prelude.{ℕ, ◌==◌, if◌then◌else◌, List, ◌++◌, Option, Some, None, codes}
use Rattle.std.specs.Fmt.{decimal}
use Rattle.hex.specs.Hex.{encode_lower}
use Rattle.csub_lex.specs.declared.error.LexKind.{LexKind}
use Rattle.csub_lex.specs.declared.error.LexKind.TheVariants as kinds
use Rattle.csub_answers.specs.declared.error.SourceError.{SourceError}
use Rattle.csub_answers.specs.declared.error.SourceError.TheVariants as sources
use Rattle.test_suite.specs.declared.error.SuiteError.{SuiteError}
use Rattle.test_suite.specs.declared.error.SuiteError.TheVariants as suites
use Rattle.test_history.specs.declared.error.HistoryError.{HistoryError}
use Rattle.test_history.specs.declared.error.HistoryError.TheVariants as histories
use Rattle.cert_text.specs.declared.error.CertificateError.{CertificateError}
use Rattle.cert_text.specs.declared.error.CertificateError.TheVariants as certificates
use Rattle.source_place.specs.declared.place.Place.{Place}
use Rattle.source_place.specs.Places.{place_of, place_text}
use Rattle.command_refusals.specs.declared.source.SourceCause.{SourceCause}
use Rattle.command_refusals.specs.declared.source.SourceCause.TheVariants as source
use Rattle.command_refusals.specs.declared.suite.SuiteCause.{SuiteCause}
use Rattle.command_refusals.specs.declared.suite.SuiteCause.TheVariants as suite
use Rattle.command_refusals.specs.declared.history.HistoryCause.{HistoryCause}
use Rattle.command_refusals.specs.declared.history.HistoryCause.TheVariants as history
use Rattle.command_refusals.specs.declared.certificate.CertificateCause.{CertificateCause}
use Rattle.command_refusals.specs.declared.certificate.CertificateCause.TheVariants as certificate

-- ---- lines and digests

-- a line breaks a rule, whose number stands behind the letter of its format
abbrev pub rule_text : ℕ → List ℕ → ℕ → List ℕ
rule_text n letter rule = codes " line " ++ decimal n ++ codes " rule " ++ letter ++ decimal rule

-- behind a word the digest that the text has, and the one that was computed
abbrev pub digests_text : List ℕ → List ℕ → List ℕ → List ℕ
digests_text word found computed = word ++ encode_lower found ++ codes " " ++ encode_lower computed

-- ---- sources

-- what is told of an error of a source; want of memory tells nothing of the source
abbrev pub source_cause : List ℕ → SourceError → Option SourceCause
source_cause bytes (sources.TooLong n) = Some source.TooLong
source_cause bytes (sources.Lex kind at) = Some (source.Lex kind (place_of bytes at))
source_cause bytes (sources.Syntax at) = Some (source.Syntax (place_of bytes at))
source_cause bytes (sources.Meaning rule at) = Some (source.Rule rule (place_of bytes at))
source_cause bytes (sources.Limit number count) = Some (source.Limit number count)
source_cause bytes sources.Memory = None

abbrev pub kind_word : LexKind → List ℕ
kind_word kinds.Byte = codes "byte"
kind_word kinds.Number = codes "number"
kind_word kinds.Directive = codes "directive"

-- the names of the limits 1 to 7
abbrev pub limit_word : ℕ → List ℕ
limit_word n =
    if n == 1 then codes "functions" else (
    if n == 2 then codes "points" else (
    if n == 3 then codes "edges" else (
    if n == 4 then codes "frame" else (
    if n == 5 then codes "globals" else (
    if n == 6 then codes "arguments" else codes "printf")))))

abbrev pub at_place : Place → List ℕ
at_place at = codes " at " ++ place_text at

-- what stands behind the word for the source
abbrev pub source_text : SourceCause → List ℕ
source_text source.TooLong = codes " too long"
source_text (source.Lex kind at) = codes " lex " ++ kind_word kind ++ at_place at
source_text (source.Syntax at) = codes " syntax" ++ at_place at
source_text (source.Rule rule at) = codes " rule M" ++ decimal rule ++ at_place at
source_text (source.Limit number count) = codes " limit " ++ limit_word number ++ codes " " ++ decimal count

-- ---- suites

-- what is told of an error of a suite
abbrev pub suite_cause : SuiteError → Option SuiteCause
suite_cause (suites.TooLong n) = Some suite.TooLong
suite_cause (suites.Line n rule) = Some (suite.Line n rule)
suite_cause (suites.TooMany count) = Some (suite.Tests count)
suite_cause (suites.Twice n) = Some (suite.Twice n)
suite_cause suites.Memory = None

-- what stands behind the word `suite`
abbrev pub suite_text : SuiteCause → List ℕ
suite_text suite.TooLong = codes " too long"
suite_text (suite.Line n rule) = rule_text n (codes "S") rule
suite_text (suite.Tests count) = codes " tests " ++ decimal count
suite_text (suite.Twice n) = codes " line " ++ decimal n ++ codes " twice"

-- ---- histories

-- what is told of an error of a history: the values that it has, and those that were computed of the files
abbrev pub history_cause : HistoryError → Option HistoryCause
history_cause (histories.TooLong n) = Some history.TooLong
history_cause (histories.Version number) = Some (history.Version number)
history_cause (histories.Malformed n rule) = Some (history.Line n rule)
history_cause (histories.Sum found computed) = Some (history.Sum found computed)
history_cause (histories.Foreign found computed) = Some (history.Source found computed)
history_cause (histories.EdgeCount found real) = Some (history.Edges found real)
history_cause histories.Memory = None

-- what stands behind the word `history`
abbrev pub history_text : HistoryCause → List ℕ
history_text history.TooLong = codes " too long"
history_text (history.Version number) = codes " version " ++ decimal number
history_text (history.Line n rule) = rule_text n (codes "H") rule
history_text (history.Sum found computed) = digests_text (codes " sum ") found computed
history_text (history.Source found computed) = digests_text (codes " source ") found computed
history_text (history.Edges found real) = codes " edges " ++ decimal found ++ codes " " ++ decimal real

-- ---- certificates

-- what is told of an error of a certificate, as of one of a history
abbrev pub certificate_cause : CertificateError → Option CertificateCause
certificate_cause (certificates.TooLong n) = Some certificate.TooLong
certificate_cause (certificates.Malformed n rule) = Some (certificate.Line n rule)
certificate_cause (certificates.Sum found computed) = Some (certificate.Sum found computed)
certificate_cause (certificates.Old found computed) = Some (certificate.Old found computed)
certificate_cause (certificates.New found computed) = Some (certificate.New found computed)
certificate_cause certificates.Memory = None

-- what stands behind the word `certificate`
abbrev pub certificate_text : CertificateCause → List ℕ
certificate_text certificate.TooLong = codes " too long"
certificate_text (certificate.Line n rule) = rule_text n (codes "C") rule
certificate_text (certificate.Sum found computed) = digests_text (codes " sum ") found computed
certificate_text (certificate.Old found computed) = digests_text (codes " old ") found computed
certificate_text (certificate.New found computed) = digests_text (codes " new ") found computed
