-- A text has a certificate or one cause of refusal and never both, and its certificate is determined.
use Rattle.std.proofs.Common.{◌≡◌, ◌≢◌, ◌<◌, ◌≤◌, ◌+◌, ℕ, List, [], ◌∷◌, ◌++◌, length, codes, None, Result, Ok, Err, MatchResult, refl, sym, ap, subst, ◌∙◌, inl, inr, arith, append_assoc}
use Rattle.std.specs.Result.{IsErrAnd}
use Rattle.std.proofs.lemmas.Bool.{cases_lt}
use Rattle.hex.specs.Hex.{encode_lower}
use Rattle.sha2.specs.Sha256.{sha256}
use Rattle.line_text.specs.Lines.{text_of_lines, line_at}
use Rattle.cert_text.specs.declared.bounds.Bounds.{Bounds}
use Rattle.cert_text.specs.declared.error.CertificateError.{CertificateError}
use Rattle.cert_text.specs.declared.error.CertificateError.TheVariants.{TooLong, Malformed, Sum, Old, New, Memory}
use Rattle.cert_text.specs.Causes.{SaysCertificate, IsTextOf, HasCause, IsOnlyCause}
use Rattle.cert_text.specs.Certificates.{CertificateParts}
use Rattle.edge_trace.specs.Rows.{numbers_of}
use Rattle.cert_text.specs.CertificateTexts.{title, danger_lines, pairs_lines, end_line, text_before_end, text_with_sum, most_certificate_bytes}
use Rattle.cert_text.specs.Faults.{IsReadTo, IsRefusalOf}
use Rattle.line_text.specs.Values.{value_line}
use Rattle.cert_text.specs.Rules.{c9, Keeps, IsFirstFault, SaysPairs}
use Rattle.cert_text.proofs.AskedLemmas.{same_rule, asked_once, asked_after, asked_within}
use Rattle.line_text.proofs.LawsOfDigests.{IsDigest-sha256}
use Rattle.line_text.proofs.LawsOfTexts.{line_next}
use Rattle.cert_text.proofs.ReadLemmas.{at_line}
use Rattle.cert_text.proofs.SameLemmas.{IsSmall, certificates_same}
use Rattle.cert_text.proofs.WholeLemmas.{head_read, edges_read, pairs_read, end_read}

-- ---- a text of a certificate has no fault

whole_read : (bounds : Bounds) (text : List ℕ) (certificate : CertificateParts) (sum : List ℕ) → IsSmall bounds → SaysCertificate bounds text certificate sum
    → SaysPairs bounds text (length (numbers_of certificate.danger)) (length certificate.pairs) × IsReadTo bounds text (6 + length (numbers_of certificate.danger) + length certificate.pairs) []
whole_read bounds text certificate sum small says =
    let edges : ℕ = length (numbers_of certificate.danger) in
    let pairs : ℕ = length certificate.pairs in
    let one : List ℕ = text_of_lines (title ∷ value_line (codes "old") (encode_lower certificate.old) ∷ value_line (codes "new") (encode_lower certificate.new) ∷ []) in
    let two : List ℕ = text_of_lines (danger_lines certificate.danger) in
    let three : List ℕ = text_of_lines (pairs_lines certificate.pairs) in
    let last : List ℕ = end_line sum ++ 10 ∷ [] in
    let cut : text ≡ one ++ (two ++ (three ++ last)) = says.is ∙ append_assoc one (two ++ three) last ∙ ap (λ r. one ++ r) (append_assoc two three last) in
    let head : IsReadTo bounds text 3 (two ++ (three ++ last)) = head_read bounds text certificate.old certificate.new (two ++ (three ++ last)) says.readable.old says.readable.new cut in
    let danger = edges_read bounds text (two ++ (three ++ last)) (three ++ last) certificate.danger small.edges says.readable.edges head refl in
    let claimed = pairs_read bounds text (three ++ last) last edges certificate.pairs small danger.0 danger.1 refl says.readable.below says.readable.within.rise says.readable.within.few in
    let end = end_read bounds text last [] sum edges pairs (5 + edges + pairs) small.edges claimed.0 refl claimed.1 refl says.written in
    (claimed.0, at_line bounds text [] (5 + edges + pairs + 1) (6 + edges + pairs) (omega arith) end)

pub says_no_fault : (bounds : Bounds) (text : List ℕ) (certificate : CertificateParts) (sum : List ℕ) (n r : ℕ) → IsSmall bounds → SaysCertificate bounds text certificate sum → ¬ IsFirstFault bounds text n r
says_no_fault bounds text certificate sum n r small says fault =
    let edges : ℕ = length (numbers_of certificate.danger) in
    let pairs : ℕ = length certificate.pairs in
    let read = whole_read bounds text certificate sum small says in
    let within : n ≤ 7 + edges + pairs = asked_within bounds text edges pairs n fault.rule small.edges read.0 fault.asked in
    elim (cases_lt (6 + edges + pairs) n) [
      | inl beyond ↦
          let last : n ≡ 7 + edges + pairs = omega arith in
          let next : n ≡ 6 + edges + pairs + 1 = omega arith in
          let rule : fault.rule ≡ c9 = same_rule fault.rule c9 (asked_after bounds text edges pairs n fault.rule small.edges read.0 last fault.asked) in
          let none : line_at text (6 + edges + pairs + 1) ≡ None = line_next text [] (6 + edges + pairs) read.1.lines in
          fault.broken (subst (λ r. Keeps bounds text r n) (sym rule) (subst (λ k. line_at text k ≡ None) (sym next) none))
      | inr inside ↦ fault.broken (read.1.keeps n fault.rule inside fault.asked)
    ]

pub says_same : (bounds : Bounds) (text : List ℕ) (a b : CertificateParts) (s t : List ℕ) → IsSmall bounds → SaysCertificate bounds text a s → SaysCertificate bounds text b t → (a ≡ b) × (s ≡ t)
says_same bounds text a b s t small one other = certificates_same bounds a b s t small one.readable other.readable one.written other.written (sym one.is ∙ other.is)

pub says_whole : (bounds : Bounds) (text : List ℕ) (certificate : CertificateParts) → IsTextOf bounds text certificate → SaysCertificate bounds text certificate (sha256 (text_before_end certificate))
says_whole bounds text certificate is = record { readable = is.readable; written = IsDigest-sha256 (text_before_end certificate); is = is.is }

-- ---- a text has one first fault

one_fault : (bounds : Bounds) (text : List ℕ) (n r m s : ℕ) → bounds.edges ≤ 10000 → IsFirstFault bounds text n r → IsFirstFault bounds text m s → (n ≡ m) × (r ≡ s)
one_fault bounds text n r m s small one other =
    elim (cases_lt n m) [
      | inl before ↦ absurd (not_before n r m s one other before)
      | inr not_before' ↦ elim (cases_lt m n) [
        | inl after ↦ absurd (not_before m s n r other one after)
        | inr not_after ↦
            let same : n ≡ m = omega arith in
            let again : IsFirstFault bounds text n s = subst (λ k. IsFirstFault bounds text k s) (sym same) other in
            (same, omega (arith, one.number, again.number, asked_once bounds text n one.rule again.rule small one.asked again.asked))
      ]
    ]
  where
    not_before : (k q l p : ℕ) → IsFirstFault bounds text k q → IsFirstFault bounds text l p → k < l → ⊥
    not_before k q l p fault later before = fault.broken (later.earlier k fault.rule before fault.asked)

-- ---- a text that is read

-- the sum that the text says is that of what stands before
pub sum_is : (bounds : Bounds) (text : List ℕ) (told certificate : CertificateParts) (found : List ℕ) → IsSmall bounds → SaysCertificate bounds text told found → IsTextOf bounds text certificate → found ≡ sha256 (text_before_end told)
sum_is bounds text told certificate found small says is =
    let both = says_same bounds text told certificate found (sha256 (text_before_end certificate)) small says (says_whole bounds text certificate is) in
    both.1 ∙ ap (λ h. sha256 (text_before_end h)) (sym both.0)

pub told_is : (bounds : Bounds) (text : List ℕ) (told certificate : CertificateParts) (found : List ℕ) → IsSmall bounds → SaysCertificate bounds text told found → IsTextOf bounds text certificate → told ≡ certificate
told_is bounds text told certificate found small says is = (says_same bounds text told certificate found (sha256 (text_before_end certificate)) small says (says_whole bounds text certificate is)).0

pub same_texts : (bounds : Bounds) (text : List ℕ) (a b : CertificateParts) → IsSmall bounds → IsTextOf bounds text a → IsTextOf bounds text b → a ≡ b
same_texts bounds text a b small one other = told_is bounds text a b (sha256 (text_before_end a)) small (says_whole bounds text a one) other

pub told_whole : (bounds : Bounds) (text : List ℕ) (told : CertificateParts) (found : List ℕ) → SaysCertificate bounds text told found → found ≡ sha256 (text_before_end told) → IsTextOf bounds text told
told_whole bounds text told found says sum = record { readable = says.readable; is = says.is ∙ ap (λ s. text_with_sum told s) sum }

-- ---- causes

-- where a text is that of a certificate, only memory can refuse its lines
pub only_memory : (bounds : Bounds) (text : List ℕ) (certificate : CertificateParts) (error : CertificateError) → IsSmall bounds → IsTextOf bounds text certificate → IsRefusalOf bounds text error → error ≡ Memory
only_memory bounds text certificate (TooLong n) small is refused = absurd refused
only_memory bounds text certificate (Malformed n r) small is refused = absurd (says_no_fault bounds text certificate _ n r small (says_whole bounds text certificate is) refused)
only_memory bounds text certificate (Sum found computed) small is refused = absurd refused
only_memory bounds text certificate (Old found computed) small is refused = absurd refused
only_memory bounds text certificate (New found computed) small is refused = absurd refused
only_memory bounds text certificate Memory small is refused = refl

-- an error that was passed on
pub passed_on : {V : Type 0} (r : Result V CertificateError) (found : V → Type 0) (error : CertificateError) → IsErrAnd r (λ e. e ≡ error) → error ≡ Memory → MatchResult r found (λ e. e ≡ Memory)
passed_on (Ok v) found error err memory = absurd err
passed_on (Err e) found error err memory = err ∙ memory

-- a cause other than memory excludes that the text is read
pub cause_excludes : (bounds : Bounds) (text old new : List ℕ) (error : CertificateError) (certificate : CertificateParts) → IsSmall bounds → HasCause bounds text old new error → IsTextOf bounds text certificate → length text ≤ most_certificate_bytes
    → certificate.old ≡ sha256 old → certificate.new ≡ sha256 new → error ≡ Memory
cause_excludes bounds text old new (TooLong n) certificate small cause is short digest digest' = absurd (omega (arith, cause.0, cause.1))
cause_excludes bounds text old new (Malformed n r) certificate small cause is short digest digest' = absurd (says_no_fault bounds text certificate _ n r small (says_whole bounds text certificate is) cause.1)
cause_excludes bounds text old new (Sum found computed) certificate small cause is short digest digest' = absurd (cause.4 (sum_is bounds text cause.1 certificate found small cause.2 is ∙ sym cause.3))
cause_excludes bounds text old new (Old found computed) certificate small cause is short digest digest' =
    absurd (cause.5 (cause.3 ∙ ap (λ (h : CertificateParts). h.old) (same_texts bounds text cause.1 certificate small cause.2 is) ∙ digest ∙ sym cause.4))
cause_excludes bounds text old new (New found computed) certificate small cause is short digest digest' =
    absurd (cause.6 (cause.4 ∙ ap (λ (h : CertificateParts). h.new) (same_texts bounds text cause.1 certificate small cause.2 is) ∙ digest' ∙ sym cause.5))
cause_excludes bounds text old new Memory certificate small cause is short digest digest' = refl

-- two causes other than memory are one
one_cause : (bounds : Bounds) (text old new : List ℕ) (a b : CertificateError) → IsSmall bounds → HasCause bounds text old new a → HasCause bounds text old new b → a ≢ Memory → b ≢ Memory → a ≡ b
one_cause bounds text old new (TooLong n) (TooLong m) small one other some some' = ap TooLong (one.0 ∙ sym other.0)
one_cause bounds text old new (TooLong n) (Malformed m s) small one other some some' = absurd (omega (arith, one.0, one.1, other.0))
one_cause bounds text old new (TooLong n) (Sum found' computed') small one other some some' = absurd (omega (arith, one.0, one.1, other.0))
one_cause bounds text old new (TooLong n) (Old found' computed') small one other some some' = absurd (omega (arith, one.0, one.1, other.0))
one_cause bounds text old new (TooLong n) (New found' computed') small one other some some' = absurd (omega (arith, one.0, one.1, other.0))
one_cause bounds text old new (TooLong n) Memory small one other some some' = absurd (some' refl)
one_cause bounds text old new (Malformed n r) (TooLong m) small one other some some' = absurd (omega (arith, other.0, other.1, one.0))
one_cause bounds text old new (Malformed n r) (Malformed m s) small one other some some' =
    let same = one_fault bounds text n r m s small.edges one.1 other.1 in
    cc (same.0, same.1)
one_cause bounds text old new (Malformed n r) (Sum found' computed') small one other some some' = absurd (says_no_fault bounds text other.1 found' n r small other.2 one.1)
one_cause bounds text old new (Malformed n r) (Old found' computed') small one other some some' = absurd (says_no_fault bounds text other.1 _ n r small (says_whole bounds text other.1 other.2) one.1)
one_cause bounds text old new (Malformed n r) (New found' computed') small one other some some' = absurd (says_no_fault bounds text other.1 _ n r small (says_whole bounds text other.1 other.2) one.1)
one_cause bounds text old new (Malformed n r) Memory small one other some some' = absurd (some' refl)
one_cause bounds text old new (Sum found computed) (TooLong m) small one other some some' = absurd (omega (arith, other.0, other.1, one.0))
one_cause bounds text old new (Sum found computed) (Malformed m s) small one other some some' = absurd (says_no_fault bounds text one.1 found m s small one.2 other.1)
one_cause bounds text old new (Sum found computed) (Sum found' computed') small one other some some' =
    let same = says_same bounds text one.1 other.1 found found' small one.2 other.2 in
    let sums : computed ≡ computed' = one.3 ∙ ap (λ h. sha256 (text_before_end h)) same.0 ∙ sym other.3 in
    cc (same.1, sums)
one_cause bounds text old new (Sum found computed) (Old found' computed') small one other some some' = absurd (one.4 (sum_is bounds text one.1 other.1 found small one.2 other.2 ∙ sym one.3))
one_cause bounds text old new (Sum found computed) (New found' computed') small one other some some' = absurd (one.4 (sum_is bounds text one.1 other.1 found small one.2 other.2 ∙ sym one.3))
one_cause bounds text old new (Sum found computed) Memory small one other some some' = absurd (some' refl)
one_cause bounds text old new (Old found computed) (TooLong m) small one other some some' = absurd (omega (arith, other.0, other.1, one.0))
one_cause bounds text old new (Old found computed) (Malformed m s) small one other some some' = absurd (says_no_fault bounds text one.1 _ m s small (says_whole bounds text one.1 one.2) other.1)
one_cause bounds text old new (Old found computed) (Sum found' computed') small one other some some' = absurd (other.4 (sum_is bounds text other.1 one.1 found' small other.2 one.2 ∙ sym other.3))
one_cause bounds text old new (Old found computed) (Old found' computed') small one other some some' =
    let founds : found ≡ found' = one.3 ∙ ap (λ (h : CertificateParts). h.old) (same_texts bounds text one.1 other.1 small one.2 other.2) ∙ sym other.3 in
    let digests : computed ≡ computed' = one.4 ∙ sym other.4 in
    cc (founds, digests)
one_cause bounds text old new (Old found computed) (New found' computed') small one other some some' = absurd (one.5 (one.3 ∙ ap (λ (h : CertificateParts). h.old) (same_texts bounds text one.1 other.1 small one.2 other.2) ∙ other.3 ∙ sym one.4))
one_cause bounds text old new (Old found computed) Memory small one other some some' = absurd (some' refl)
one_cause bounds text old new (New found computed) (TooLong m) small one other some some' = absurd (omega (arith, other.0, other.1, one.0))
one_cause bounds text old new (New found computed) (Malformed m s) small one other some some' = absurd (says_no_fault bounds text one.1 _ m s small (says_whole bounds text one.1 one.2) other.1)
one_cause bounds text old new (New found computed) (Sum found' computed') small one other some some' = absurd (other.4 (sum_is bounds text other.1 one.1 found' small other.2 one.2 ∙ sym other.3))
one_cause bounds text old new (New found computed) (Old found' computed') small one other some some' = absurd (other.5 (other.3 ∙ ap (λ (h : CertificateParts). h.old) (same_texts bounds text other.1 one.1 small other.2 one.2) ∙ one.3 ∙ sym other.4))
one_cause bounds text old new (New found computed) (New found' computed') small one other some some' =
    let founds : found ≡ found' = one.4 ∙ ap (λ (h : CertificateParts). h.new) (same_texts bounds text one.1 other.1 small one.2 other.2) ∙ sym other.4 in
    let digests : computed ≡ computed' = one.5 ∙ sym other.5 in
    cc (founds, digests)
one_cause bounds text old new (New found computed) Memory small one other some some' = absurd (some' refl)
one_cause bounds text old new Memory b small one other some some' = absurd (some refl)

-- the refusal of a text's lines is a cause
pub refusal_cause : (bounds : Bounds) (text old new : List ℕ) (error : CertificateError) → length text ≤ most_certificate_bytes → IsRefusalOf bounds text error → HasCause bounds text old new error
refusal_cause bounds text old new (TooLong n) short refused = absurd refused
refusal_cause bounds text old new (Malformed n r) short refused = (short, refused)
refusal_cause bounds text old new (Sum found computed) short refused = absurd refused
refusal_cause bounds text old new (Old found computed) short refused = absurd refused
refusal_cause bounds text old new (New found computed) short refused = absurd refused
refusal_cause bounds text old new Memory short refused = tt

pub only_cause : (bounds : Bounds) (text old new : List ℕ) (error : CertificateError) → IsSmall bounds → HasCause bounds text old new error → IsOnlyCause bounds text old new error
only_cause bounds text old new error small cause = λ other has some some'. one_cause bounds text old new other error small has cause some some'

pub passed_only : {V : Type 0} (r : Result V CertificateError) (found : V → Type 0) (only : CertificateError → Type 0) (error : CertificateError) → IsErrAnd r (λ e. e ≡ error) → only error → MatchResult r found only
passed_only (Ok v) found only error err holds = absurd err
passed_only (Err e) found only error err holds = subst only (sym err) holds
