-- A text has a history or one cause of refusal and never both, and its history is determined.
use Rattle.std.proofs.Common.{◌≡◌, ◌≢◌, ◌<◌, ◌≤◌, ◌+◌, ◌*◌, ℕ, List, [], ◌∷◌, ◌++◌, length, codes, None, Result, Ok, Err, MatchResult, refl, sym, ap, subst, ◌∙◌, inl, inr, arith, append_assoc}
use Rattle.std.specs.List.{flat_map}
use Rattle.std.specs.Fmt.{decimal}
use Rattle.std.specs.Result.{IsErrAnd}
use Rattle.std.proofs.lemmas.Bool.{cases_lt}
use Rattle.std.proofs.lemmas.Fmt.{decimal_injective}
use Rattle.hex.specs.Hex.{encode_lower}
use Rattle.sha2.specs.Sha256.{sha256}
use Rattle.line_text.specs.Lines.{text_of_lines, HasLine, line_at}
use Rattle.test_history.specs.declared.error.HistoryError.{HistoryError}
use Rattle.test_history.specs.declared.error.HistoryError.TheVariants.{TooLong, Version, Malformed, Sum, Foreign, EdgeCount, Memory}
use Rattle.test_history.specs.declared.version.Version.{Version as Format}
use Rattle.test_history.specs.Causes.{IsOfOther, SaysHistory, HasHistoryCause, IsOnlyCause}
use Rattle.test_history.specs.Faults.{IsReadTo, IsHead, IsRefusalOf, head_lines}
use Rattle.line_text.specs.Values.{value_line}
use Rattle.test_history.specs.Histories.{HistoryParts, IsReadable}
use Rattle.test_history.specs.HistoryTexts.{version_line, entry_lines, text_before_end, text_with_sum, versioned_text, most_history_bytes}
use Rattle.test_history.specs.Rules.{h14, number_of, IsFirstFault, SaysTests}
use Rattle.test_history.proofs.AskedLemmas.{keeps_same, asked_after, asked_within}
use Rattle.line_text.proofs.LawsOfDigests.{IsDigest-sha256}
use Rattle.line_text.proofs.LawsOfTexts.{line_next}
use Rattle.test_history.proofs.ReadLemmas.{at_line}
use Rattle.test_history.proofs.SameLemmas.{good_entries, histories_same}
use Rattle.test_history.proofs.WholeLemmas.{head_read, entries_end, end_read, no_version}
use Rattle.line_text.proofs.LawsOfValues.{one_value}

-- ---- a text of a history has no fault

head_of : (version : Format) (text : List ℕ) (history : HistoryParts) (sum : List ℕ) → SaysHistory version text history sum
    → IsHead version text history.digest history.edges (length history.entries) (text_of_lines (flat_map (entry_lines version) history.entries) ++ text_of_lines (value_line (codes "end") (encode_lower sum) ∷ []))
head_of version text history sum says = record {
  good = says.readable.digest;
  few_edges = says.readable.within.edges;
  few_tests = says.readable.within.few;
  is = says.is ∙ append_assoc (text_of_lines (head_lines version history.digest history.edges (length history.entries))) (text_of_lines (flat_map (entry_lines version) history.entries)) (text_of_lines (value_line (codes "end") (encode_lower sum) ∷ []));
}

whole_read : (version : Format) (text : List ℕ) (history : HistoryParts) (sum : List ℕ) → SaysHistory version text history sum → HasLine text 1 (version_line version) × SaysTests text (length history.entries) × IsReadTo version text (5 + 7 * length history.entries) []
whole_read version text history sum says =
    let head = head_of version text history sum says in
    let first = head_read version text history.digest history.edges (length history.entries) _ head in
    let last = entries_end version text history.digest _ (value_line (codes "end") (encode_lower sum) ++ 10 ∷ []) history.edges (length history.entries) history.entries head refl (good_entries history says.readable) says.readable.apart refl in
    let end = end_read version text (value_line (codes "end") (encode_lower sum) ++ 10 ∷ []) [] sum (length history.entries) (4 + 7 * length history.entries) first.says refl last refl says.written in
    (first.first, first.says, at_line version text [] (4 + 7 * length history.entries + 1) (5 + 7 * length history.entries) (omega arith) end)

pub says_no_fault : (version : Format) (text : List ℕ) (history : HistoryParts) (sum : List ℕ) (n r : ℕ) → SaysHistory version text history sum → ¬ IsFirstFault version text n r
says_no_fault version text history sum n r says fault =
    let read = whole_read version text history sum says in
    let within : n ≤ 6 + 7 * length history.entries = asked_within text (length history.entries) n fault.rule read.1 fault.asked in
    elim (cases_lt (5 + 7 * length history.entries) n) [
      | inl beyond ↦
          let last : n ≡ 5 + 7 * length history.entries + 1 = omega arith in
          let rule : number_of fault.rule ≡ 14 = asked_after text (length history.entries) 1 n fault.rule read.1 last fault.asked in
          let none : line_at text (5 + 7 * length history.entries + 1) ≡ None = line_next text [] (5 + 7 * length history.entries) read.2.lines in
          fault.broken (keeps_same version text n h14 fault.rule rule (subst (λ k. line_at text k ≡ None) (sym last) none))
      | inr inside ↦ fault.broken (read.2.keeps n fault.rule inside fault.asked)
    ]

pub says_no_version : (version : Format) (text : List ℕ) (history : HistoryParts) (sum : List ℕ) (number : ℕ) → SaysHistory version text history sum → ¬ IsOfOther version text number
says_no_version version text history sum number says = no_version version text number (whole_read version text history sum says).0

pub says_same : (version : Format) (text : List ℕ) (a b : HistoryParts) (s t : List ℕ) → SaysHistory version text a s → SaysHistory version text b t → (a ≡ b) × (s ≡ t)
says_same version text a b s t one other = histories_same version a b s t one.readable other.readable one.written other.written (sym one.is ∙ other.is)

pub says_whole : (version : Format) (text : List ℕ) (history : HistoryParts) → IsReadable history → text ≡ versioned_text version history → SaysHistory version text history (sha256 (text_before_end version history))
says_whole version text history readable is = record { readable = readable; written = IsDigest-sha256 (text_before_end version history); is = is }

-- ---- a text has one first fault

pub one_fault : (version : Format) (text : List ℕ) (n r m s : ℕ) → IsFirstFault version text n r → IsFirstFault version text m s → (n ≡ m) × (r ≡ s)
one_fault version text n r m s one other =
    elim (cases_lt n m) [
      | inl before ↦ absurd (not_before n r m s one other before)
      | inr not_before' ↦ elim (cases_lt m n) [
        | inl after ↦ absurd (not_before m s n r other one after)
        | inr not_after ↦
            let same : n ≡ m = omega arith in
            (same, same_rule n r s one (subst (λ k. IsFirstFault version text k s) (sym same) other))
      ]
    ]
  where
    not_before : (k q l p : ℕ) → IsFirstFault version text k q → IsFirstFault version text l p → k < l → ⊥
    not_before k q l p fault later before = fault.broken (later.earlier k fault.rule before fault.asked)

    not_less : (k q p : ℕ) → IsFirstFault version text k q → IsFirstFault version text k p → q < p → ⊥
    not_less k q p fault more less = fault.broken (more.least fault.rule fault.asked (omega (arith, fault.number)))

    same_rule : (k q p : ℕ) → IsFirstFault version text k q → IsFirstFault version text k p → q ≡ p
    same_rule k q p fault more = elim (cases_lt q p) [
      | inl less ↦ absurd (not_less k q p fault more less)
      | inr not_less' ↦ elim (cases_lt p q) [ inl greater ↦ absurd (not_less k p q more fault greater) | inr not_greater ↦ omega arith ]
    ]

pub one_version : (version : Format) (text : List ℕ) (a b : ℕ) → IsOfOther version text a → IsOfOther version text b → a ≡ b
one_version version text a b one other =
    decimal_injective a b (omega (arith, one.line.0)) (omega (arith, other.line.0)) (one_value text 1 (codes "dejavu history") (decimal a) (decimal b) one.line.1 other.line.1)

-- ---- a text that is read

-- the sum that the text says is that of what stands before
pub sum_is : (version : Format) (text : List ℕ) (told history : HistoryParts) (found : List ℕ) → SaysHistory version text told found → IsReadable history → text ≡ versioned_text version history → found ≡ sha256 (text_before_end version told)
sum_is version text told history found says readable is =
    let both = says_same version text told history found (sha256 (text_before_end version history)) says (says_whole version text history readable is) in
    both.1 ∙ ap (λ h. sha256 (text_before_end version h)) (sym both.0)

pub told_is : (version : Format) (text : List ℕ) (told history : HistoryParts) (found : List ℕ) → SaysHistory version text told found → IsReadable history → text ≡ versioned_text version history → told ≡ history
told_is version text told history found says readable is = (says_same version text told history found (sha256 (text_before_end version history)) says (says_whole version text history readable is)).0

pub told_whole : (version : Format) (text : List ℕ) (told : HistoryParts) (found : List ℕ) → SaysHistory version text told found → found ≡ sha256 (text_before_end version told) → text ≡ versioned_text version told
told_whole version text told found says sum = says.is ∙ ap (λ s. text_with_sum version told s) sum

-- ---- causes

-- where a text is that of a history, only memory can refuse its lines
pub only_memory : (version : Format) (text : List ℕ) (history : HistoryParts) (error : HistoryError) → IsReadable history → text ≡ versioned_text version history → IsRefusalOf version text error → error ≡ Memory
only_memory version text history (TooLong n) readable is refused = absurd refused
only_memory version text history (Version n) readable is refused = absurd (says_no_version version text history _ n (says_whole version text history readable is) refused)
only_memory version text history (Malformed n r) readable is refused = absurd (says_no_fault version text history _ n r (says_whole version text history readable is) refused.1)
only_memory version text history (Sum found computed) readable is refused = absurd refused
only_memory version text history (Foreign found computed) readable is refused = absurd refused
only_memory version text history (EdgeCount found real) readable is refused = absurd refused
only_memory version text history Memory readable is refused = refl

-- an error that was passed on
pub passed_on : {V : Type 0} (r : Result V HistoryError) (found : V → Type 0) (error : HistoryError) → IsErrAnd r (λ e. e ≡ error) → error ≡ Memory → MatchResult r found (λ e. e ≡ Memory)
passed_on (Ok v) found error err memory = absurd err
passed_on (Err e) found error err memory = err ∙ memory

-- a cause other than memory excludes that the text is read
pub cause_excludes : (version : Format) (text old : List ℕ) (edges : ℕ) (error : HistoryError) (history : HistoryParts) → HasHistoryCause version text old edges error → IsReadable history → text ≡ versioned_text version history → length text ≤ most_history_bytes
    → history.digest ≡ sha256 old → history.edges ≡ edges → error ≡ Memory
cause_excludes version text old edges (TooLong n) history cause readable is short digest same = absurd (omega (arith, cause.0, cause.1))
cause_excludes version text old edges (Version n) history cause readable is short digest same = absurd (says_no_version version text history _ n (says_whole version text history readable is) cause.1)
cause_excludes version text old edges (Malformed n r) history cause readable is short digest same = absurd (says_no_fault version text history _ n r (says_whole version text history readable is) cause.2)
cause_excludes version text old edges (Sum found computed) history cause readable is short digest same =
    let both = says_same version text cause.1 history found (sha256 (text_before_end version history)) cause.2 (says_whole version text history readable is) in
    absurd (cause.4 (both.1 ∙ ap (λ h. sha256 (text_before_end version h)) (sym both.0) ∙ sym cause.3))
cause_excludes version text old edges (Foreign found computed) history cause readable is short digest same =
    let both = says_same version text cause.1 history _ _ (says_whole version text cause.1 cause.2 cause.3) (says_whole version text history readable is) in
    absurd (cause.6 (cause.4 ∙ ap (λ (h : HistoryParts). h.digest) both.0 ∙ digest ∙ sym cause.5))
cause_excludes version text old edges (EdgeCount found real) history cause readable is short digest same =
    let both = says_same version text cause.1 history _ _ (says_whole version text cause.1 cause.2 cause.3) (says_whole version text history readable is) in
    absurd (cause.7 (cause.5 ∙ ap (λ (h : HistoryParts). h.edges) both.0 ∙ same ∙ sym cause.6))
cause_excludes version text old edges Memory history cause readable is short digest same = refl

-- two causes other than memory are one
pub one_cause : (version : Format) (text old : List ℕ) (edges : ℕ) (a b : HistoryError) → HasHistoryCause version text old edges a → HasHistoryCause version text old edges b → a ≢ Memory → b ≢ Memory → a ≡ b
one_cause version text old edges (TooLong n) (TooLong m) one other some some' = ap TooLong (one.0 ∙ sym other.0)
one_cause version text old edges (TooLong n) (Version m) one other some some' = absurd (omega (arith, one.0, one.1, other.0))
one_cause version text old edges (TooLong n) (Malformed m s) one other some some' = absurd (omega (arith, one.0, one.1, other.0))
one_cause version text old edges (TooLong n) (Sum found' computed') one other some some' = absurd (omega (arith, one.0, one.1, other.0))
one_cause version text old edges (TooLong n) (Foreign found' computed') one other some some' = absurd (omega (arith, one.0, one.1, other.0))
one_cause version text old edges (TooLong n) (EdgeCount found' real') one other some some' = absurd (omega (arith, one.0, one.1, other.0))
one_cause version text old edges (TooLong n) Memory one other some some' = absurd (some' refl)
one_cause version text old edges (Version n) (TooLong m) one other some some' = absurd (omega (arith, other.0, other.1, one.0))
one_cause version text old edges (Version n) (Version m) one other some some' = ap Version (one_version version text n m one.1 other.1)
one_cause version text old edges (Version n) (Malformed m s) one other some some' = absurd (other.1 n one.1)
one_cause version text old edges (Version n) (Sum found' computed') one other some some' = absurd (says_no_version version text other.1 found' n other.2 one.1)
one_cause version text old edges (Version n) (Foreign found' computed') one other some some' = absurd (says_no_version version text other.1 _ n (says_whole version text other.1 other.2 other.3) one.1)
one_cause version text old edges (Version n) (EdgeCount found' real') one other some some' = absurd (says_no_version version text other.1 _ n (says_whole version text other.1 other.2 other.3) one.1)
one_cause version text old edges (Version n) Memory one other some some' = absurd (some' refl)
one_cause version text old edges (Malformed n r) (TooLong m) one other some some' = absurd (omega (arith, other.0, other.1, one.0))
one_cause version text old edges (Malformed n r) (Version m) one other some some' = absurd (one.1 m other.1)
one_cause version text old edges (Malformed n r) (Malformed m s) one other some some' = let same = one_fault version text n r m s one.2 other.2 in cc (same.0, same.1)
one_cause version text old edges (Malformed n r) (Sum found' computed') one other some some' = absurd (says_no_fault version text other.1 found' n r other.2 one.2)
one_cause version text old edges (Malformed n r) (Foreign found' computed') one other some some' = absurd (says_no_fault version text other.1 _ n r (says_whole version text other.1 other.2 other.3) one.2)
one_cause version text old edges (Malformed n r) (EdgeCount found' real') one other some some' = absurd (says_no_fault version text other.1 _ n r (says_whole version text other.1 other.2 other.3) one.2)
one_cause version text old edges (Malformed n r) Memory one other some some' = absurd (some' refl)
one_cause version text old edges (Sum found computed) (TooLong m) one other some some' = absurd (omega (arith, other.0, other.1, one.0))
one_cause version text old edges (Sum found computed) (Version m) one other some some' = absurd (says_no_version version text one.1 found m one.2 other.1)
one_cause version text old edges (Sum found computed) (Malformed m s) one other some some' = absurd (says_no_fault version text one.1 found m s one.2 other.2)
one_cause version text old edges (Sum found computed) (Sum found' computed') one other some some' =
    let same = says_same version text one.1 other.1 found found' one.2 other.2 in
    let sums : computed ≡ computed' = one.3 ∙ ap (λ h. sha256 (text_before_end version h)) same.0 ∙ sym other.3 in
    cc (same.1, sums)
one_cause version text old edges (Sum found computed) (Foreign found' computed') one other some some' = absurd (one.4 (sum_is version text one.1 other.1 found one.2 other.2 other.3 ∙ sym one.3))
one_cause version text old edges (Sum found computed) (EdgeCount found' real') one other some some' = absurd (one.4 (sum_is version text one.1 other.1 found one.2 other.2 other.3 ∙ sym one.3))
one_cause version text old edges (Sum found computed) Memory one other some some' = absurd (some' refl)
one_cause version text old edges (Foreign found computed) (TooLong m) one other some some' = absurd (omega (arith, other.0, other.1, one.0))
one_cause version text old edges (Foreign found computed) (Version m) one other some some' = absurd (says_no_version version text one.1 _ m (says_whole version text one.1 one.2 one.3) other.1)
one_cause version text old edges (Foreign found computed) (Malformed m s) one other some some' = absurd (says_no_fault version text one.1 _ m s (says_whole version text one.1 one.2 one.3) other.2)
one_cause version text old edges (Foreign found computed) (Sum found' computed') one other some some' = absurd (other.4 (sum_is version text other.1 one.1 found' other.2 one.2 one.3 ∙ sym other.3))
one_cause version text old edges (Foreign found computed) (Foreign found' computed') one other some some' =
    let same : one.1 ≡ other.1 = told_is version text one.1 other.1 _ (says_whole version text one.1 one.2 one.3) other.2 other.3 in
    let founds : found ≡ found' = one.4 ∙ ap (λ (h : HistoryParts). h.digest) same ∙ sym other.4 in
    let digests : computed ≡ computed' = one.5 ∙ sym other.5 in
    cc (founds, digests)
one_cause version text old edges (Foreign found computed) (EdgeCount found' real') one other some some' = absurd (one.6 (one.4 ∙ ap (λ (h : HistoryParts). h.digest) (told_is version text one.1 other.1 _ (says_whole version text one.1 one.2 one.3) other.2 other.3) ∙ other.4 ∙ sym one.5))
one_cause version text old edges (Foreign found computed) Memory one other some some' = absurd (some' refl)
one_cause version text old edges (EdgeCount found real) (TooLong m) one other some some' = absurd (omega (arith, other.0, other.1, one.0))
one_cause version text old edges (EdgeCount found real) (Version m) one other some some' = absurd (says_no_version version text one.1 _ m (says_whole version text one.1 one.2 one.3) other.1)
one_cause version text old edges (EdgeCount found real) (Malformed m s) one other some some' = absurd (says_no_fault version text one.1 _ m s (says_whole version text one.1 one.2 one.3) other.2)
one_cause version text old edges (EdgeCount found real) (Sum found' computed') one other some some' = absurd (other.4 (sum_is version text other.1 one.1 found' other.2 one.2 one.3 ∙ sym other.3))
one_cause version text old edges (EdgeCount found real) (Foreign found' computed') one other some some' = absurd (other.6 (other.4 ∙ ap (λ (h : HistoryParts). h.digest) (told_is version text other.1 one.1 _ (says_whole version text other.1 other.2 other.3) one.2 one.3) ∙ one.4 ∙ sym other.5))
one_cause version text old edges (EdgeCount found real) (EdgeCount found' real') one other some some' =
    let same : one.1 ≡ other.1 = told_is version text one.1 other.1 _ (says_whole version text one.1 one.2 one.3) other.2 other.3 in
    let founds : found ≡ found' = one.5 ∙ ap (λ (h : HistoryParts). h.edges) same ∙ sym other.5 in
    let reals : real ≡ real' = one.6 ∙ sym other.6 in
    cc (founds, reals)
one_cause version text old edges (EdgeCount found real) Memory one other some some' = absurd (some' refl)
one_cause version text old edges Memory b one other some some' = absurd (some refl)

-- the refusal of a text's lines is a cause
pub refusal_cause : (version : Format) (text old : List ℕ) (edges : ℕ) (error : HistoryError) → length text ≤ most_history_bytes → IsRefusalOf version text error → HasHistoryCause version text old edges error
refusal_cause version text old edges (TooLong n) short refused = absurd refused
refusal_cause version text old edges (Version n) short refused = (short, refused)
refusal_cause version text old edges (Malformed n r) short refused = (short, refused.0, refused.1)
refusal_cause version text old edges (Sum found computed) short refused = absurd refused
refusal_cause version text old edges (Foreign found computed) short refused = absurd refused
refusal_cause version text old edges (EdgeCount found real) short refused = absurd refused
refusal_cause version text old edges Memory short refused = tt

pub only_cause : (version : Format) (text old : List ℕ) (edges : ℕ) (error : HistoryError) → HasHistoryCause version text old edges error → IsOnlyCause version text old edges error
only_cause version text old edges error cause = λ other has some some'. one_cause version text old edges other error has cause some some'

pub passed_only : {V : Type 0} (r : Result V HistoryError) (found : V → Type 0) (only : HistoryError → Type 0) (error : HistoryError) → IsErrAnd r (λ e. e ≡ error) → only error → MatchResult r found only
passed_only (Ok v) found only error err holds = absurd err
passed_only (Err e) found only error err holds = subst only (sym err) holds
