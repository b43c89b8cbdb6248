-- Why a certificate is not written, and why a text is not read.
use Rattle.std.specs.Prelude.{◌≡◌, ◌≢◌, ◌<◌, ◌≤◌, ⊤, ℕ, List, length}
use Rattle.sha2.specs.Sha256.{sha256}
use Rattle.cert_text.specs.declared.bounds.Bounds.{Bounds}
use Rattle.cert_text.specs.declared.error.CertificateError.{CertificateError}
use Rattle.cert_text.specs.declared.error.CertificateError.TheVariants as read
use Rattle.cert_text.specs.declared.error.CertificateTextError.{CertificateTextError}
use Rattle.cert_text.specs.declared.error.CertificateTextError.TheVariants.{TooLong, Memory}
use Rattle.cert_text.specs.Certificates.{CertificateParts, IsReadable}
use Rattle.cert_text.specs.CertificateTexts.{certificate_text, text_before_end, text_with_sum, most_certificate_bytes}
use Rattle.line_text.specs.Values.{IsDigest}
use Rattle.cert_text.specs.Rules.{IsFirstFault}

-- what each refusal says of the certificate; want of memory may come at any
abbrev pub HasTextCause : CertificateParts → CertificateTextError → Type 0
-- its text would have too many bytes, so many
HasTextCause certificate (TooLong bytes) = (bytes ≡ length (certificate_text certificate)) × (most_certificate_bytes < bytes)
HasTextCause certificate Memory = ⊤

-- the text is that of a certificate that can be read, but for the sum on its line `end`
pub record SaysCertificate (bounds : Bounds) (text : List ℕ) (certificate : CertificateParts) (sum : List ℕ) : Type 0 where
  pub readable : IsReadable bounds certificate
  pub written : IsDigest sum
  pub is : text ≡ text_with_sum certificate sum

-- the text is that of a certificate that can be read
pub record IsTextOf (bounds : Bounds) (text : List ℕ) (certificate : CertificateParts) : Type 0 where
  pub readable : IsReadable bounds certificate
  pub is : text ≡ certificate_text certificate

-- what each refusal says of the text, of both sources and of the bounds; want of memory may come at any
abbrev pub HasCause : Bounds → List ℕ → List ℕ → List ℕ → CertificateError → Type 0
-- the text has too many bytes, so many
HasCause bounds text old new (read.TooLong bytes) = (bytes ≡ length text) × (most_certificate_bytes < bytes)
-- it has not, and this is the first line that breaks the rule of its place
HasCause bounds text old new (read.Malformed n rule) = (length text ≤ most_certificate_bytes) × IsFirstFault bounds text n rule
-- no line breaks a rule, and the sum on the line `end` is not that of what stands before
HasCause bounds text old new (read.Sum found computed) = (length text ≤ most_certificate_bytes)
    × (certificate : CertificateParts) × SaysCertificate bounds text certificate found
    × (computed ≡ sha256 (text_before_end certificate)) × (found ≢ computed)
-- the text is right, and is of another old source
HasCause bounds text old new (read.Old found computed) = (length text ≤ most_certificate_bytes)
    × (certificate : CertificateParts) × IsTextOf bounds text certificate
    × (found ≡ certificate.old) × (computed ≡ sha256 old) × (found ≢ computed)
-- it is of this old source, and of another new one
HasCause bounds text old new (read.New found computed) = (length text ≤ most_certificate_bytes)
    × (certificate : CertificateParts) × IsTextOf bounds text certificate × (certificate.old ≡ sha256 old)
    × (found ≡ certificate.new) × (computed ≡ sha256 new) × (found ≢ computed)
HasCause bounds text old new read.Memory = ⊤

-- no refusal but this has a cause, and want of memory
abbrev pub IsOnlyCause : Bounds → List ℕ → List ℕ → List ℕ → CertificateError → Type 0
IsOnlyCause bounds text old new error = (other : CertificateError) → HasCause bounds text old new other
    → other ≢ read.Memory → error ≢ read.Memory → other ≡ error

-- no refusal has a cause but want of memory
abbrev pub HasNoCause : Bounds → List ℕ → List ℕ → List ℕ → Type 0
HasNoCause bounds text old new = (error : CertificateError) → HasCause bounds text old new error → error ≡ read.Memory
