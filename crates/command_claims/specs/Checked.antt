-- What `check` writes: whether the claim of a certificate of two versions is closed, whoever made it.
use Rattle.std.specs.Prelude.{ℕ, ◌≡◌, ◌≤◌, Bool, true, false, List, [], ◌∷◌, length, codes, Option, Some, None}
use Rattle.std.specs.Fmt.{decimal}
use Rattle.sha2.specs.Sha256.{sha256}
use Rattle.line_text.specs.Lines.{text_of_lines}
use Rattle.line_text.specs.Words.{line_of_words}
use Rattle.csub_semantics.specs.Syntax.{ProgramTree}
use Rattle.csub_semantics.specs.Flows.{Edge, edge_list, point_list, flow_of}
use Rattle.csub_semantics.specs.Numbers.{edge_at}
use Rattle.edge_trace.specs.Rows.{size}
use Rattle.call_walk.specs.Lockstep.{SameRuns}
use Rattle.explain_report.specs.WalkTexts.{exit_text}
use Rattle.cert_text.specs.declared.bounds.Bounds.{Bounds}
use Rattle.cert_text.specs.declared.error.CertificateError.{CertificateError}
use Rattle.cert_text.specs.declared.pair.Pair.{Pair}
use Rattle.cert_text.specs.Causes.{HasCause, IsTextOf}
use Rattle.cert_text.specs.Certificates.{CertificateParts}
use Rattle.cert_text.specs.CertificateTexts.{most_certificate_bytes}
use Rattle.walk_cert.specs.declared.answer.Verdict.{Verdict}
use Rattle.walk_cert.specs.declared.answer.Verdict.TheVariants.{Closed, NoStart, Label, Callee, Exit}
use Rattle.walk_cert.specs.Claims.{IsClaimed, IsInRow}
use Rattle.walk_cert.specs.Verdicts.{IsVerdict}
use Rattle.command_refusals.specs.Causes.{certificate_cause}
use Rattle.command_refusals.specs.declared.certificate.CertificateCause.{CertificateCause}
use Rattle.command_refusals.specs.declared.refusal.Refusal.{Refusal}
use Rattle.command_refusals.specs.declared.refusal.Refusal.TheVariants as refusal

-- ---- the certificate

-- how many edges and points two programs have
abbrev pub bounds_by : ProgramTree → ProgramTree → Bounds
bounds_by P P' = record { edges = length (edge_list P); old_points = length (point_list P); new_points = length (point_list P') }

-- the bytes are the text of this certificate of two sources, whose programs are P and P'
pub record IsCertificateFile (old new bytes : List ℕ) (P P' : ProgramTree) (certificate : CertificateParts) : Type 0 where
  pub text : IsTextOf (bounds_by P P') bytes certificate
  pub short : length bytes ≤ most_certificate_bytes
  pub old_is : certificate.old ≡ sha256 old
  pub new_is : certificate.new ≡ sha256 new

-- the bytes are no certificate of these sources, and this is told of them
pub record NoCertificate (old new bytes : List ℕ) (P P' : ProgramTree) (cause : CertificateCause) : Type 0 where
  pub none : (certificate : CertificateParts) → IsCertificateFile old new bytes P P' certificate → ⊥
  pub error : CertificateError
  pub why : HasCause (bounds_by P P') bytes old new error
  pub is : certificate_cause error ≡ Some cause

-- ---- what is told of it

-- the way out of the old edge with this number
abbrev pub way_text : Option Edge → List ℕ
way_text None = []
way_text (Some edge) = exit_text edge.exit

-- the claim is closed: `closed pairs P dangerous K`
abbrev pub closed_line : CertificateParts → List ℕ
closed_line certificate =
    line_of_words (codes "closed" ∷ codes "pairs" ∷ decimal (length certificate.pairs) ∷ codes "dangerous" ∷ decimal (size certificate.danger) ∷ [])

-- the claim is open at a pair
abbrev pub open_line : Pair → List ℕ → List ℕ
open_line pair what = line_of_words (codes "open" ∷ codes "pair" ∷ decimal pair.old ∷ decimal pair.new ∷ what ∷ [])

-- the line of a verdict on a certificate: that it is closed, or the first break
abbrev pub verdict_line : ProgramTree → CertificateParts → Verdict → List ℕ
verdict_line P certificate Closed = closed_line certificate
verdict_line P certificate NoStart = codes "open start"
verdict_line P certificate (Label pair) = open_line pair (codes "label")
verdict_line P certificate (Callee pair) = open_line pair (codes "call")
verdict_line P certificate (Exit pair e) = open_line pair (way_text (edge_at P e))

abbrev pub is_closed : Verdict → Bool
is_closed Closed = true
is_closed verdict = false

-- the text of `check` for both sources with their programs and the bytes of a certificate's file, and whether the claim is
-- closed: then a run of the old program that crosses no edge of the claim has the same output, status and turns on the new one
pub record IsChecked (old new bytes : List ℕ) (P P' : ProgramTree) (closed : Bool) (text : List ℕ) : Type 0 where
  pub certificate : CertificateParts
  pub file : IsCertificateFile old new bytes P P' certificate
  pub verdict : Verdict
  pub is : IsVerdict P P' certificate.danger certificate.pairs verdict
  pub line : text ≡ text_of_lines (verdict_line P certificate verdict ∷ [])
  pub told : closed ≡ is_closed verdict
  pub runs : closed ≡ true → SameRuns (flow_of P) (flow_of P') (IsClaimed P P' certificate.pairs) (IsInRow P certificate.danger)

-- it isn't made for want of memory, or where the bytes are no certificate of both sources
abbrev pub IsCheckCause : (old new bytes : List ℕ) → ProgramTree → ProgramTree → Refusal → Type 0
IsCheckCause old new bytes P P' refusal.Memory = Unit {0}
IsCheckCause old new bytes P P' (refusal.Certificate cause) = NoCertificate old new bytes P P' cause
IsCheckCause old new bytes P P' r = ⊥
