-- A whole text, read from its first line to its last.
use Rattle.std.proofs.Common.{◌≡◌, ◌≢◌, ◌<◌, ◌≤◌, ◌+◌, ◌*◌, ◌⊎◌, ℕ, zero, suc, List, [], ◌∷◌, ◌++◌, length, length-append, drop, codes, get_or, Some, refl, sym, ap, subst, ◌∙◌, inl, inr, arith, append_assoc, append-nil}
use Rattle.std.specs.Fmt.{decimal}
use Rattle.std.specs.List.{All, AllPairs, Contains, flat_map, slice_get}
use Rattle.std.proofs.Math.Seq.{get_or-append_seam}
use Rattle.std.proofs.lemmas.Fmt.{decimal_injective}
use Rattle.std.proofs.lemmas.List.{drop_more, get_or_append_left, get_or_default, length-map, map-append}
use Rattle.std.proofs.lemmas.List.Concat.{flat_map-append}
use Rattle.std.proofs.lemmas.List.Quantifiers.{all_pairs_push}
use Rattle.std.proofs.lemmas.List.Elements.{All-head, All-tail}
use Rattle.hex.specs.Hex.{encode_lower}
use Rattle.csub_core.specs.Valid.{most_edges}
use Rattle.line_text.specs.Lines.{text_of_lines, HasLine}
use Rattle.test_suite.specs.Suites.{most_tests}
use Rattle.test_history.specs.declared.version.Version.{Version}
use Rattle.test_history.specs.declared.version.Version.TheVariants.{Third}
use Rattle.test_history.specs.Causes.{IsOfOther}
use Rattle.test_history.specs.declared.fault.Fault.{Fault}
use Rattle.test_history.specs.declared.fault.Fault.TheVariants.{Broken, Memory}
use Rattle.test_history.specs.Faults.{IsReadTo, IsAtEntry, IsGoodEntry, IsHead, head_lines, IsFaultAfter, IsEntryFault, IsRestRefusal, IsEntriesRefusal, IsEndFault, IsRefusalOf, refusal_after}
use Rattle.test_history.specs.declared.error.HistoryError.{HistoryError}
use Rattle.test_history.specs.declared.error.HistoryError.TheVariants as error
use Rattle.line_text.specs.Values.{IsDigest, value_line, HasNumber, HasDigest}
use Rattle.test_history.specs.Histories.{EntryParts, names_of}
use Rattle.test_history.specs.HistoryTexts.{version_line, version_number, entry_lines, text_before_end}
use Rattle.test_history.specs.Rules.{h1, h2, h3, h4, h13, h14, IsFirstFault, HasName, SaysEdges, SaysTests}
use Rattle.test_history.proofs.AskedLemmas.{keeps_same, asked_after}
use Rattle.test_history.proofs.EntryLemmas.{entry_read}
use Rattle.line_text.proofs.LawsOfValues.{IsPlain, plain_value, plain_decimal, plain_digest, one_value}
use Rattle.test_history.proofs.PlainLemmas.{plain_version, small_version}
use Rattle.test_history.proofs.ReadLemmas.{none_read, one_more, fault_next, at_line, head_line, head_fault}
use Rattle.line_text.proofs.LawsOfTexts.{in_rest, has_next, line_next, some_line, lines_append, lines_cons}

-- ---- the entries

-- the tests of these names stand at the first lines of the first entries
abbrev pub AreNamed : List ℕ → List (List ℕ) → Type 0
AreNamed text names = (place : ℕ) (name : List ℕ) → slice_get names place ≡ Some name → HasName text (5 + 7 * place) name

pushed : (names : List (List ℕ)) (name other : List ℕ) (place : ℕ) → slice_get (names ++ name ∷ []) place ≡ Some other → (slice_get names place ≡ Some other) ⊎ ((place ≡ length names) × (name ≡ other))
pushed [] name other zero is = inr (refl, cc is)
pushed [] name other (suc place) is = cc is
pushed (x ∷ names) name other zero is = inl is
pushed (x ∷ names) name other (suc place) is = elim (pushed names name other place is) [ inl before ↦ inl before | inr last ↦ inr (ap suc last.0, last.1) ]

more_named : (text : List ℕ) (names : List (List ℕ)) (name : List ℕ) (n : ℕ) → AreNamed text names → n ≡ 4 + 7 * length names → HasName text (n + 1) name → AreNamed text (names ++ name ∷ [])
more_named text names name n named is has = λ place other here. elim (pushed names name other place here) [
  | inl before ↦ named place other before
  | inr last ↦
      let at : n + 1 ≡ 5 + 7 * place = omega (arith, last.0) in
      subst (λ k. HasName text k other) at (subst (HasName text (n + 1)) last.1 has)
]

-- no earlier one of names that differ is this
pub fresh : (names more : List (List ℕ)) (name : List ℕ) → AllPairs (λ one other. one ≢ other) (names ++ name ∷ more) → ¬ Contains names name
fresh names more name apart has =
    let here : get_or (names ++ name ∷ more) (length names) name ≡ name = get_or-append_seam names name more name in
    let there : get_or (names ++ name ∷ more) has.0 name ≡ name = get_or_append_left names (name ∷ more) name has.0 has.1 ∙ has.2 in
    apart has.0 (length names) name has.1 (omega (arith, length-append names (name ∷ more))) (there ∙ sym here)

pub entries_read : (version : Version) (text : List ℕ) (edges tests : ℕ) (entries : List EntryParts) (names : List (List ℕ)) (n : ℕ) (rest left : List ℕ) → SaysEdges text edges → SaysTests text tests → AreNamed text names
    → n ≡ 4 + 7 * length names → IsReadTo version text n rest → All (IsGoodEntry edges) entries → AllPairs (λ one other. one ≢ other) (names ++ names_of entries) → length names + length entries ≤ tests
    → rest ≡ text_of_lines (flat_map (entry_lines version) entries) ++ left → IsReadTo version text (n + 7 * length entries) left × AreNamed text (names ++ names_of entries)
entries_read version text edges tests [] names n rest left bound says named is read good apart few cut =
    let same : n ≡ n + 7 * 0 = omega arith in
    (at_line version text left n (n + 7 * 0) same (subst (IsReadTo version text n) cut read), subst (AreNamed text) (sym (append-nil names)) named)
entries_read version text edges tests (entry ∷ entries) names n rest left bound says named is read good apart few cut =
    let at : IsAtEntry text edges names = record { bound = bound; tests = tests; says = says; more = omega (arith, few); named = named } in
    let one = entry_read version text edges names n at is rest (text_of_lines (flat_map (entry_lines version) entries) ++ left) entry read (All-head (IsGoodEntry edges) entry entries good) (fresh names (names_of entries) entry.test.name apart)
    (cut ∙ lines_append (entry_lines version entry) (flat_map (entry_lines version) entries) left) in
    let size : length (names ++ entry.test.name ∷ []) ≡ length names + 1 = length-append names (entry.test.name ∷ []) in
    let whole : names ++ entry.test.name ∷ names_of entries ≡ (names ++ entry.test.name ∷ []) ++ names_of entries = sym (append_assoc names (entry.test.name ∷ []) (names_of entries)) in
    let next = entries_read version text edges tests entries (names ++ entry.test.name ∷ []) (n + 7) (text_of_lines (flat_map (entry_lines version) entries) ++ left) left bound says (more_named text names entry.test.name n named is one.1)
    (omega (arith, size)) one.0 (All-tail (IsGoodEntry edges) entry entries good) (subst (AllPairs (λ one other. one ≢ other)) whole apart) (omega (arith, size, few)) refl in
    let at_end : n + 7 + 7 * length entries ≡ n + 7 * suc (length entries) = omega arith in
    (at_line version text left (n + 7 + 7 * length entries) (n + 7 * suc (length entries)) at_end next.0, subst (AreNamed text) (sym whole) next.1)

-- the fault of an entry, as that of the text of which the earlier ones are read
pub entries_fault : (version : Version) (begin rest : List ℕ) (edges tests : ℕ) (entries : List EntryParts) (names : List (List ℕ)) (fault : Fault) → begin ≡ text_of_lines (flat_map (entry_lines version) entries) ++ rest → All (IsGoodEntry edges) entries
    → AllPairs (λ one other. one ≢ other) (names_of entries) → length entries < tests → names ≡ names_of entries → IsEntryFault version rest edges names fault → IsRestRefusal version begin edges tests (refusal_after (4 + 7 * length entries) fault)
entries_fault version begin rest edges tests entries names fault cut good apart more same broken = λ text bound says read.
    let none : AreNamed text [] = λ place name here. cc here in
    let read_all = entries_read version text edges tests entries [] 4 begin rest bound says none refl read good apart (omega arith) cut in
    let size : length (names_of entries) ≡ length entries = length-map entries (λ (e : EntryParts). e.test.name) in
    let count : length names ≡ length entries = ap length same ∙ size in
    let at : IsAtEntry text edges names = record { bound = bound; tests = tests; says = says; more = omega (arith, count); named = subst (AreNamed text) (sym same) read_all.1 } in
    let lines : 4 + 7 * length entries ≡ 4 + 7 * length names = omega (arith, count) in
    answer text fault (4 + 7 * length names) (4 + 7 * length entries) (sym lines) (broken text at (at_line version text rest (4 + 7 * length entries) (4 + 7 * length names) lines read_all.0))
  where
    answer : (text : List ℕ) (f : Fault) (n m : ℕ) → n ≡ m → IsFaultAfter version text n f → IsEntriesRefusal version text (refusal_after m f)
    answer text (Broken k r) n m is h = subst (λ lines. IsFirstFault version text (lines + k) r) is h
    answer text Memory n m is h = tt

-- one more entry
pub more_entry : (version : Version) (begin rest left : List ℕ) (entries : List EntryParts) (entry : EntryParts) → begin ≡ text_of_lines (flat_map (entry_lines version) entries) ++ rest → rest ≡ text_of_lines (entry_lines version entry) ++ left
    → begin ≡ text_of_lines (flat_map (entry_lines version) (entries ++ entry ∷ [])) ++ left
more_entry version begin rest left entries entry cut next =
    cut ∙ ap (λ r. text_of_lines (flat_map (entry_lines version) entries) ++ r) next
    ∙ sym (lines_append (flat_map (entry_lines version) entries) (entry_lines version entry) left)
    ∙ ap (λ lines. text_of_lines lines ++ left) (ap (λ last. flat_map (entry_lines version) entries ++ last) (sym (append-nil (entry_lines version entry))) ∙ sym (flat_map-append (entry_lines version) entries (entry ∷ [])))

pub names_more : (entries : List EntryParts) (entry : EntryParts) → names_of entries ++ entry.test.name ∷ [] ≡ names_of (entries ++ entry ∷ [])
names_more entries entry = sym (map-append (λ (e : EntryParts). e.test.name) entries (entry ∷ []))

pub apart_more : (names : List (List ℕ)) (name : List ℕ) → AllPairs (λ one other. one ≢ other) names → ¬ Contains names name → AllPairs (λ one other. one ≢ other) (names ++ name ∷ [])
apart_more names name apart new = all_pairs_push (λ one other. one ≢ other) names name apart (λ k d below equal. new (k, below, get_or_default names k name d below ∙ equal))

-- ---- the lines before the entries

pub version_read : (version : Version) (text left : List ℕ) → text ≡ version_line version ++ 10 ∷ left → IsReadTo version text 1 left × HasLine text 1 (version_line version)
version_read version text left cut =
    let plain : IsPlain (version_line version) = plain_version version in
    let here : HasLine text (0 + 1) (version_line version) = has_next text text (version_line version) left 0 (none_read version text).lines cut plain in
    (at_line version text left (0 + 1) 1 refl (head_line version text text (version_line version) left 0 h1 refl (omega arith) (none_read version text) cut plain (λ has. has)), here)

pub source_read : (version : Version) (text rest left digest : List ℕ) → IsReadTo version text 1 rest → rest ≡ value_line (codes "source") (encode_lower digest) ++ 10 ∷ left → IsDigest digest → IsReadTo version text 2 left
source_read version text rest left digest read cut good =
    at_line version text left (1 + 1) 2 refl
    (head_line version text rest (value_line (codes "source") (encode_lower digest)) left 1 h2 refl (omega arith) read cut (plain_value (codes "source") (encode_lower digest) refl (plain_digest digest good)) (λ has. (digest, good, has)))

pub edges_read : (version : Version) (text rest left : List ℕ) (edges : ℕ) → IsReadTo version text 2 rest → rest ≡ value_line (codes "edges") (decimal edges) ++ 10 ∷ left → edges ≤ most_edges → IsReadTo version text 3 left × SaysEdges text edges
edges_read version text rest left edges read cut few =
    let plain : IsPlain (value_line (codes "edges") (decimal edges)) = plain_value (codes "edges") (decimal edges) refl (plain_decimal edges (omega arith)) in (
      at_line version text left (2 + 1) 3 refl (head_line version text rest (value_line (codes "edges") (decimal edges)) left 2 h3 refl (omega arith) read cut plain (λ has. (edges, (few, has)))),
      (few, has_next text rest (value_line (codes "edges") (decimal edges)) left 2 read.lines cut plain),
    )

pub tests_read : (version : Version) (text rest left : List ℕ) (tests : ℕ) → IsReadTo version text 3 rest → rest ≡ value_line (codes "tests") (decimal tests) ++ 10 ∷ left → tests ≤ most_tests → IsReadTo version text 4 left × SaysTests text tests
tests_read version text rest left tests read cut few =
    let plain : IsPlain (value_line (codes "tests") (decimal tests)) = plain_value (codes "tests") (decimal tests) refl (plain_decimal tests (omega arith)) in (
      at_line version text left (3 + 1) 4 refl (head_line version text rest (value_line (codes "tests") (decimal tests)) left 3 h4 refl (omega arith) read cut plain (λ has. (tests, (few, has)))),
      (few, has_next text rest (value_line (codes "tests") (decimal tests)) left 3 read.lines cut plain),
    )

-- what stands before the entries is read
pub record HeadRead (version : Version) (text : List ℕ) (edges tests : ℕ) (rest : List ℕ) : Type 0 where
  pub first : HasLine text 1 (version_line version)
  pub bound : SaysEdges text edges
  pub says : SaysTests text tests
  pub read : IsReadTo version text 4 rest

pub head_read : (version : Version) (text digest : List ℕ) (edges tests : ℕ) (rest : List ℕ) → IsHead version text digest edges tests rest → HeadRead version text edges tests rest
head_read version text digest edges tests rest head =
    let one = version_read version text _ (head.is ∙ next_line (version_line version) (text_of_lines (drop 1 (head_lines version digest edges tests)))) in
    let two = source_read version text _ _ digest one.0 (next_line (value_line (codes "source") (encode_lower digest)) (text_of_lines (drop 2 (head_lines version digest edges tests)))) head.good in
    let three = edges_read version text _ _ edges two (next_line (value_line (codes "edges") (decimal edges)) (text_of_lines (drop 3 (head_lines version digest edges tests)))) head.few_edges in
    let four = tests_read version text _ rest tests three.0 (next_line (value_line (codes "tests") (decimal tests)) []) head.few_tests in
    record { first = one.1; bound = three.1; says = four.1; read = four.0 }
  where
    next_line : (line more : List ℕ) → (line ++ 10 ∷ more) ++ rest ≡ line ++ 10 ∷ (more ++ rest)
    next_line line more = append_assoc line (10 ∷ more) rest

pub head_is : (version : Version) (text r1 r2 r3 rest digest : List ℕ) (edges tests : ℕ) → text ≡ version_line version ++ 10 ∷ r1 → r1 ≡ value_line (codes "source") (encode_lower digest) ++ 10 ∷ r2
    → r2 ≡ value_line (codes "edges") (decimal edges) ++ 10 ∷ r3 → r3 ≡ value_line (codes "tests") (decimal tests) ++ 10 ∷ rest → IsDigest digest → edges ≤ most_edges → tests ≤ most_tests → IsHead version text digest edges tests rest
head_is version text r1 r2 r3 rest digest edges tests one two three four good few_edges few_tests = record {
  good = good;
  few_edges = few_edges;
  few_tests = few_tests;
  is = lines_cons text (version_line version) r1 rest (drop 1 (head_lines version digest edges tests)) one
      (lines_cons r1 (value_line (codes "source") (encode_lower digest)) r2 rest (drop 2 (head_lines version digest edges tests)) two
      (lines_cons r2 (value_line (codes "edges") (decimal edges)) r3 rest (drop 3 (head_lines version digest edges tests)) three
      (lines_cons r3 (value_line (codes "tests") (decimal tests)) rest rest [] four refl)));
}

-- a text of a version is of no other
pub no_version : (version : Version) (text : List ℕ) (number : ℕ) → HasLine text 1 (version_line version) → ¬ IsOfOther version text number
no_version version text number here other =
    let same : decimal number ≡ decimal (version_number version) = one_value text 1 (codes "dejavu history") (decimal number) (decimal (version_number version)) other.line.1 here in
    other.other (decimal_injective number (version_number version) (omega (arith, other.line.0)) (omega (arith, small_version version)) same)

pub this_version : (version : Version) (text left : List ℕ) (number : ℕ) → text ≡ value_line (codes "dejavu history") (decimal number) ++ 10 ∷ left → number ≡ version_number version → text ≡ version_line version ++ 10 ∷ left
this_version version text left number cut same = cut ∙ ap (λ n. value_line (codes "dejavu history") (decimal n) ++ 10 ∷ left) same

pub other_version : (version : Version) (text left : List ℕ) (number : ℕ) → text ≡ value_line (codes "dejavu history") (decimal number) ++ 10 ∷ left → number ≤ 999999999 → number ≢ version_number version → IsOfOther version text number
other_version version text left number cut few other = record {
  other = other;
  line = (few, has_next text text (value_line (codes "dejavu history") (decimal number)) left 0 (none_read version text).lines cut (plain_value (codes "dejavu history") (decimal number) refl (plain_decimal number (omega arith))));
}

pub version_fault : (version : Version) (text : List ℕ) → ((number : ℕ) → ¬ HasNumber text 1 (codes "dejavu history") 999999999 number) → ((number : ℕ) → ¬ IsOfOther version text number) × IsFirstFault version text 1 1
version_fault version text none = (
  (λ number other. none number other.line),
  head_fault version text text 0 h1 refl (omega arith) refl (none_read version text) (λ keeps. none (version_number version) (omega (arith, small_version version), keeps)),
)

-- the other lines of the head
pub source_fault : (version : Version) (text rest : List ℕ) → IsReadTo version text 1 rest → ¬ HasDigest rest 1 (codes "source") → IsFirstFault version text 2 2
source_fault version text rest read none = head_fault version text rest 1 h2 refl (omega arith) refl read (λ keeps. none (keeps.0, keeps.1, in_rest text rest 1 (value_line (codes "source") (encode_lower keeps.0)) read.lines keeps.2))

pub edges_fault : (version : Version) (text rest : List ℕ) → IsReadTo version text 2 rest → ((edges : ℕ) → ¬ HasNumber rest 1 (codes "edges") most_edges edges) → IsFirstFault version text 3 3
edges_fault version text rest read none = head_fault version text rest 2 h3 refl (omega arith) refl read (λ keeps. none keeps.0 (keeps.1.0, in_rest text rest 2 (value_line (codes "edges") (decimal keeps.0)) read.lines keeps.1.1))

pub tests_fault : (version : Version) (text rest : List ℕ) → IsReadTo version text 3 rest → ((tests : ℕ) → ¬ HasNumber rest 1 (codes "tests") most_tests tests) → IsFirstFault version text 4 4
tests_fault version text rest read none = head_fault version text rest 3 h4 refl (omega arith) refl read (λ keeps. none keeps.0 (keeps.1.0, in_rest text rest 3 (value_line (codes "tests") (decimal keeps.0)) read.lines keeps.1.1))

-- ---- the last line

pub end_read : (version : Version) (text rest left sum : List ℕ) (tests n : ℕ) → SaysTests text tests → n ≡ 4 + 7 * tests → IsReadTo version text n rest → rest ≡ value_line (codes "end") (encode_lower sum) ++ 10 ∷ left → IsDigest sum → IsReadTo version text (n + 1) left
end_read version text rest left sum tests n says is read cut good =
    let plain : IsPlain (value_line (codes "end") (encode_lower sum)) = plain_value (codes "end") (encode_lower sum) refl (plain_digest sum good) in
    one_more version text rest (value_line (codes "end") (encode_lower sum)) left n read cut plain
    (λ other asked. keeps_same version text (n + 1) h13 other (asked_after text tests 0 (n + 1) other says (omega arith) asked)
    (sum, good, has_next text rest (value_line (codes "end") (encode_lower sum)) left n read.lines cut plain))

pub no_end : (version : Version) (text rest : List ℕ) (tests n : ℕ) → SaysTests text tests → n ≡ 4 + 7 * tests → IsReadTo version text n rest → ¬ HasDigest rest 1 (codes "end") → IsFirstFault version text (n + 1) 13
no_end version text rest tests n says is read none =
    fault_next version text rest n h13 read (tests, says, omega arith)
    (λ keeps. none (keeps.0, keeps.1, in_rest text rest n (value_line (codes "end") (encode_lower keeps.0)) read.lines keeps.2))
    (λ other also less. absurd (omega (arith, asked_after text tests 0 (n + 1) other says (omega arith) also)))

pub more_after : (version : Version) (text rest left sum : List ℕ) (tests n : ℕ) → SaysTests text tests → n ≡ 4 + 7 * tests → IsReadTo version text n rest → rest ≡ value_line (codes "end") (encode_lower sum) ++ 10 ∷ left → IsDigest sum → left ≢ []
    → IsFirstFault version text (n + 2) 14
more_after version text rest left sum tests n says is read cut good some =
    let end : IsReadTo version text (n + 1) left = end_read version text rest left sum tests n says is read cut good in
    let next : n + 1 + 1 ≡ n + 2 = omega arith in
    subst (λ k. IsFirstFault version text k 14) next
    (fault_next version text left (n + 1) h14 end (tests, says, omega arith)
    (λ keeps. some_line left some (sym (line_next text left (n + 1) end.lines) ∙ keeps))
    (λ other also less. absurd (omega (arith, asked_after text tests 1 (n + 1 + 1) other says (omega arith) also))))

-- ---- the refusal of a whole text

pub refusal_of : (version : Version) (text : List ℕ) (error : HistoryError) → HasLine text 1 (version_line version) → IsEntriesRefusal version text error → IsRefusalOf version text error
refusal_of version text (error.TooLong bytes) here refused = refused
refusal_of version text (error.Version n) here refused = absurd refused
refusal_of version text (error.Malformed n r) here refused = ((λ other. no_version version text other here), refused)
refusal_of version text (error.Sum found computed) here refused = refused
refusal_of version text (error.Foreign found computed) here refused = refused
refusal_of version text (error.EdgeCount found real) here refused = refused
refusal_of version text error.Memory here refused = tt

-- the entries are read, and what stands before them
pub entries_end : (version : Version) (text digest r1 rest : List ℕ) (edges tests : ℕ) (entries : List EntryParts) → IsHead version text digest edges tests r1 → r1 ≡ text_of_lines (flat_map (entry_lines version) entries) ++ rest → All (IsGoodEntry edges) entries
    → AllPairs (λ one other. one ≢ other) (names_of entries) → length entries ≡ tests → IsReadTo version text (4 + 7 * tests) rest
entries_end version text digest r1 rest edges tests entries head cut good apart count =
    let first = head_read version text digest edges tests r1 head in
    let none : AreNamed text [] = λ place name here. cc here in
    let all = entries_read version text edges tests entries [] 4 r1 rest first.bound first.says none refl first.read good apart (omega (arith, count)) cut in
    at_line version text rest (4 + 7 * length entries) (4 + 7 * tests) (omega (arith, count)) all.0

pub end_refusal : (version : Version) (text digest r1 rest : List ℕ) (edges tests : ℕ) (entries : List EntryParts) (fault : Fault) → IsHead version text digest edges tests r1 → r1 ≡ text_of_lines (flat_map (entry_lines version) entries) ++ rest → All (IsGoodEntry edges) entries
    → AllPairs (λ one other. one ≢ other) (names_of entries) → length entries ≡ tests → IsEndFault rest fault → IsRefusalOf version text (refusal_after (4 + 7 * tests) fault)
end_refusal version text digest r1 rest edges tests entries fault head cut good apart count broken =
    let first = head_read version text digest edges tests r1 head in
    refusal_of version text (refusal_after (4 + 7 * tests) fault) first.first
    (answer fault (broken version text tests first.says (entries_end version text digest r1 rest edges tests entries head cut good apart count)))
  where
    answer : (f : Fault) → IsFaultAfter version text (4 + 7 * tests) f → IsEntriesRefusal version text (refusal_after (4 + 7 * tests) f)
    answer (Broken k r) h = h
    answer Memory h = tt

pub before_is : (version : Version) (text digest r1 rest : List ℕ) (edges tests : ℕ) (entries : List EntryParts) → IsHead version text digest edges tests r1 → r1 ≡ text_of_lines (flat_map (entry_lines version) entries) ++ rest → length entries ≡ tests
    → text ≡ text_before_end version (record { digest = digest; edges = edges; entries = entries }) ++ rest
before_is version text digest r1 rest edges tests entries head cut count =
    head.is ∙ ap (λ r. text_of_lines (head_lines version digest edges tests) ++ r) cut
    ∙ sym (append_assoc (text_of_lines (head_lines version digest edges tests)) (text_of_lines (flat_map (entry_lines version) entries)) rest)
    ∙ ap (λ n. (text_of_lines (head_lines version digest edges n) ++ text_of_lines (flat_map (entry_lines version) entries)) ++ rest) (sym count)

-- a text to which the entries before a place are written, and the one that stands there
pub entry_written : (old new : List ℕ) (entries : List EntryParts) (place : ℕ) (entry : EntryParts) → place < length entries → entry ≡ get_or entries place entry → new ≡ old ++ text_of_lines (entry_lines Third entry)
    → new ++ text_of_lines (flat_map (entry_lines Third) (drop (place + 1) entries)) ≡ old ++ text_of_lines (flat_map (entry_lines Third) (drop place entries))
entry_written old new entries place entry within is put =
    let later = flat_map (entry_lines Third) (drop (place + 1) entries) in
    let left : drop place entries ≡ entry ∷ drop (place + 1) entries = drop_more entries place entry within ∙ ap (λ e. e ∷ drop (place + 1) entries) (sym is) in
    let joined : text_of_lines (entry_lines Third entry) ++ text_of_lines later ≡ text_of_lines (entry_lines Third entry ++ later) =
    ap (λ rest. text_of_lines (entry_lines Third entry) ++ rest) (sym (append-nil (text_of_lines later)))
    ∙ sym (lines_append (entry_lines Third entry) later []) ∙ append-nil (text_of_lines (entry_lines Third entry ++ later)) in
    ap (λ text. text ++ text_of_lines later) put ∙ append_assoc old (text_of_lines (entry_lines Third entry)) (text_of_lines later)
    ∙ ap (λ rest. old ++ rest) (joined ∙ ap (λ es. text_of_lines (flat_map (entry_lines Third) es)) (sym left))
