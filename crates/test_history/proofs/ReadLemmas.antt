-- A text that is read line by line, and the first line that breaks a rule.
use Rattle.std.proofs.Common.{◌≡◌, ◌<◌, ◌+◌, ◌*◌, ℕ, List, ◌∷◌, ◌++◌, length, drop, codes, get_or, refl, sym, ap, subst, ◌∙◌, inl, inr, arith}
use Rattle.std.specs.List.{Contains}
use Rattle.std.proofs.lemmas.Bool.{cases_lt}
use Rattle.std.proofs.lemmas.List.{drop-drop}
use Rattle.std.proofs.lemmas.Option.{slice_get-get_or}
use Rattle.line_text.specs.Lines.{lines_of, HasLine}
use Rattle.test_suite.specs.Tests.{IsTestName}
use Rattle.test_history.specs.declared.version.Version.{Version}
use Rattle.test_history.specs.Faults.{IsReadTo, IsAtEntry}
use Rattle.line_text.specs.Values.{value_line}
use Rattle.test_history.specs.Rules.{Rule, h5, h6, number_of, IsAsked, Keeps, IsFirstFault, HasName}
use Rattle.test_history.proofs.AskedLemmas.{keeps_same, asked_head, asked_entry, asked_some}
use Rattle.line_text.proofs.LawsOfTexts.{in_rest, lines_cut, has_next}
use Rattle.line_text.proofs.LawsOfValues.{IsPlain, plain_value, one_value}
use Rattle.test_history.proofs.PlainLemmas.{plain_name}

-- ---- lines

-- nothing is read at first
pub none_read : (version : Version) (text : List ℕ) → IsReadTo version text 0 text
none_read version text = record {
  lines = refl;
  keeps = λ m rule low asked. absurd (omega (arith, asked_some text m rule asked));
}

-- one more line is read, which keeps the rules of its place
pub one_more : (version : Version) (text rest line left : List ℕ) (n : ℕ) → IsReadTo version text n rest → rest ≡ line ++ 10 ∷ left → IsPlain line
    → ((rule : Rule) → IsAsked text rule (n + 1) → Keeps version text rule (n + 1)) → IsReadTo version text (n + 1) left
one_more version text rest line left n read cut plain keeps = record {
  lines = sym (drop-drop 1 n (lines_of text)) ∙ ap (drop 1) (read.lines ∙ lines_cut rest line left cut plain);
  keeps = λ m rule low asked. elim (cases_lt n m) [
    | inl last ↦
        let same : m ≡ n + 1 = omega arith in
        subst (Keeps version text rule) (sym same) (keeps rule (subst (IsAsked text rule) same asked))
    | inr before ↦ read.keeps m rule before asked
  ];
}

-- the line after those that are read breaks a rule
pub fault_next : (version : Version) (text rest : List ℕ) (n : ℕ) (rule : Rule) → IsReadTo version text n rest → IsAsked text rule (n + 1) → ¬ Keeps version text rule (n + 1)
    → ((other : Rule) → IsAsked text other (n + 1) → number_of other < number_of rule → Keeps version text other (n + 1)) → IsFirstFault version text (n + 1) (number_of rule)
fault_next version text rest n rule read asked broken least = record {
  rule = rule;
  number = refl;
  asked = asked;
  broken = broken;
  least = least;
  earlier = λ m other before. read.keeps m other (omega arith);
}

pub at_line : (version : Version) (text rest : List ℕ) (n m : ℕ) → n ≡ m → IsReadTo version text n rest → IsReadTo version text m rest
at_line version text rest n m same read = subst (λ k. IsReadTo version text k rest) same read

-- ---- the first four lines

pub head_line : (version : Version) (text rest line left : List ℕ) (n : ℕ) (rule : Rule) → number_of rule ≡ n + 1 → n < 4 → IsReadTo version text n rest → rest ≡ line ++ 10 ∷ left → IsPlain line
    → (HasLine text (n + 1) line → Keeps version text rule (n + 1)) → IsReadTo version text (n + 1) left
head_line version text rest line left n rule number few read cut plain keeps =
    one_more version text rest line left n read cut plain
    (λ other asked. keeps_same version text (n + 1) rule other (asked_head text (n + 1) other (omega arith) asked ∙ sym number) (keeps (has_next text rest line left n read.lines cut plain)))

pub head_fault : (version : Version) (text rest : List ℕ) (n : ℕ) (rule : Rule) → number_of rule ≡ n + 1 → n < 4 → IsAsked text rule (n + 1) → IsReadTo version text n rest
    → ¬ Keeps version text rule (n + 1) → IsFirstFault version text (n + 1) (number_of rule)
head_fault version text rest n rule number few asked read broken =
    fault_next version text rest n rule read asked broken
    (λ other also less. absurd (omega (arith, asked_head text (n + 1) other (omega arith) also)))

-- ---- the lines of an entry

-- one of its lines but the first: m lines are read, k of them of the entry
pub entry_line : (version : Version) (text : List ℕ) (edges : ℕ) (names : List (List ℕ)) (rest line left : List ℕ) (m k : ℕ) (rule : Rule) → IsAtEntry text edges names → m ≡ 4 + 7 * length names + k → 0 < k → k < 7
    → number_of rule ≡ k + 6 → IsReadTo version text m rest → rest ≡ line ++ 10 ∷ left → IsPlain line → (HasLine text (m + 1) line → Keeps version text rule (m + 1)) → IsReadTo version text (m + 1) left
entry_line version text edges names rest line left m k rule at is some few number read cut plain keeps =
    one_more version text rest line left m read cut plain
    (λ other asked. elim (asked_entry text at.tests (length names) k (m + 1) other at.says at.more few (omega arith) asked) [
      | inl same ↦ keeps_same version text (m + 1) rule other (same ∙ sym number) (keeps (has_next text rest line left m read.lines cut plain))
      | inr first ↦ absurd (omega (arith, first.0))
    ])

pub entry_fault : (version : Version) (text : List ℕ) (edges : ℕ) (names : List (List ℕ)) (rest : List ℕ) (m k : ℕ) (rule : Rule) → IsAtEntry text edges names → m ≡ 4 + 7 * length names + k → 0 < k → k < 7
    → number_of rule ≡ k + 6 → IsAsked text rule (m + 1) → IsReadTo version text m rest → ¬ Keeps version text rule (m + 1) → IsFirstFault version text (m + 1) (number_of rule)
entry_fault version text edges names rest m k rule at is some few number asked read broken =
    fault_next version text rest m rule read asked broken
    (λ other also less. elim (asked_entry text at.tests (length names) k (m + 1) other at.says at.more few (omega arith) also) [
      | inl same ↦ absurd (omega (arith, same))
      | inr first ↦ absurd (omega (arith, first.0))
    ])

-- its first line: the name
of_earlier : (text : List ℕ) (edges : ℕ) (names : List (List ℕ)) (m place : ℕ) (name : List ℕ) → IsAtEntry text edges names → m ≡ 5 + 7 * place → place < length names → HasName text m name → Contains names name
of_earlier text edges names m place name at is before has =
    let there : HasName text (5 + 7 * place) (get_or names place name) = at.named place (get_or names place name) (slice_get-get_or names place name before) in
    (place, before, one_value text (5 + 7 * place) (codes "test") (get_or names place name) name there.1 (subst (λ n. HasLine text n (value_line (codes "test") name)) is has.1))

keeps_new : (version : Version) (text : List ℕ) (edges : ℕ) (names : List (List ℕ)) (n : ℕ) (name : List ℕ) → IsAtEntry text edges names → n ≡ 4 + 7 * length names → HasName text (n + 1) name → ¬ Contains names name → Keeps version text h6 (n + 1)
keeps_new version text edges names n name at is has new = λ other other_has m before asked earlier.
    let same : other ≡ name = one_value text (n + 1) (codes "test") other name other_has.1 has.1 in
    let first : m ≡ 5 + 7 * asked.1 = omega (arith, asked.4) in
    new (subst (Contains names) same (of_earlier text edges names m asked.1 other at first (omega (arith, asked.4)) earlier))

pub name_line : (version : Version) (text : List ℕ) (edges : ℕ) (names : List (List ℕ)) (rest name left : List ℕ) (n : ℕ) → IsAtEntry text edges names → n ≡ 4 + 7 * length names → IsReadTo version text n rest
    → rest ≡ value_line (codes "test") name ++ 10 ∷ left → IsTestName name → ¬ Contains names name → IsReadTo version text (n + 1) left × HasName text (n + 1) name
name_line version text edges names rest name left n at is read cut good new =
    let plain : IsPlain (value_line (codes "test") name) = plain_value (codes "test") name refl (plain_name name good) in
    let here : HasName text (n + 1) name = (good, has_next text rest (value_line (codes "test") name) left n read.lines cut plain) in (
      one_more version text rest (value_line (codes "test") name) left n read cut plain
          (λ other asked. elim (asked_entry text at.tests (length names) 0 (n + 1) other at.says at.more (omega arith) (omega arith) asked) [
            | inl second ↦ keeps_same version text (n + 1) h6 other second (keeps_new version text edges names n name at is here new)
            | inr first ↦ keeps_same version text (n + 1) h5 other first.1 (name, here)
          ]),
      here,
    )

pub no_name : (version : Version) (text : List ℕ) (edges : ℕ) (names : List (List ℕ)) (rest : List ℕ) (n : ℕ) → IsAtEntry text edges names → n ≡ 4 + 7 * length names → IsReadTo version text n rest
    → ((name : List ℕ) → ¬ HasName rest 1 name) → IsFirstFault version text (n + 1) 5
no_name version text edges names rest n at is read none =
    fault_next version text rest n h5 read (at.tests, length names, at.says, at.more, omega arith)
    (λ keeps. none keeps.0 (keeps.1.0, in_rest text rest n (value_line (codes "test") keeps.0) read.lines keeps.1.1))
    (λ other also less. elim (asked_entry text at.tests (length names) 0 (n + 1) other at.says at.more (omega arith) (omega arith) also) [
      | inl second ↦ absurd (omega (arith, second))
      | inr first ↦ absurd (omega (arith, first.1))
    ])

pub old_name : (version : Version) (text : List ℕ) (edges : ℕ) (names : List (List ℕ)) (rest name left : List ℕ) (n : ℕ) → IsAtEntry text edges names → n ≡ 4 + 7 * length names → IsReadTo version text n rest
    → rest ≡ value_line (codes "test") name ++ 10 ∷ left → IsTestName name → Contains names name → IsFirstFault version text (n + 1) 6
old_name version text edges names rest name left n at is read cut good has =
    let plain : IsPlain (value_line (codes "test") name) = plain_value (codes "test") name refl (plain_name name good) in
    let here : HasName text (n + 1) name = (good, has_next text rest (value_line (codes "test") name) left n read.lines cut plain) in
    let place : ℕ = has.0 in
    let before : place < length names = has.1 in
    let there : HasName text (5 + 7 * place) (get_or names place name) = at.named place (get_or names place name) (slice_get-get_or names place name before) in
    fault_next version text rest n h6 read (at.tests, length names, at.says, at.more, omega arith)
    (λ keeps. keeps name here (5 + 7 * place) (omega arith) (at.tests, place, at.says, omega (arith, at.more), omega arith) (subst (HasName text (5 + 7 * place)) has.2 there))
    (λ other also less. elim (asked_entry text at.tests (length names) 0 (n + 1) other at.says at.more (omega arith) (omega arith) also) [
      | inl second ↦ absurd (omega (arith, second))
      | inr first ↦ keeps_same version text (n + 1) h5 other first.1 (name, here)
    ])
