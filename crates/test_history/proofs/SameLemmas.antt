-- A text is that of one history.
use Rattle.std.proofs.Common.{◌≡◌, ◌≢◌, ◌<◌, ◌^◌, ℕ, eqb, cond, Bool, true, List, [], ◌∷◌, ◌++◌, length, length-append, map, drop, codes, get_or, refl, sym, ap, subst, ◌∙◌, arith, append_assoc, append-nil}
use Rattle.std.specs.Fmt.{decimal}
use Rattle.std.specs.List.{All, flat_map}
use Rattle.std.proofs.lemmas.Fmt.{decimal_injective, decimal_nonempty}
use Rattle.std.proofs.lemmas.List.{append_cancel_left}
use Rattle.std.proofs.lemmas.List.Elements.{All-nil, All-cons, All-head, All-tail, All-append}
use Rattle.hex.specs.Hex.{encode_lower, IsBytes}
use Rattle.csub_semantics.specs.declared.status.Status.{Status}
use Rattle.csub_semantics.specs.declared.status.Status.TheVariants as status
use Rattle.csub_types.specs.declared.trap.Trap.{Trap}
use Rattle.csub_types.specs.declared.trap.Trap.TheVariants.{Overflow, Divide, Shift, Bounds, Unset, Flood, Depth, Missing}
use Rattle.line_text.specs.Bytes.{bytes_or_dash}
use Rattle.line_text.specs.Lines.{TextLine, lines_of, line_with, text_of_lines}
use Rattle.line_text.specs.Words.{line_of_words}
use Rattle.line_text.proofs.Laws.{lines_of-text_of_lines, bytes_or_dash-injective}
use Rattle.line_text.proofs.LawsOfNumbers.{decimal-all_digits}
use Rattle.test_suite.specs.Tests.{TestParts}
use Rattle.test_history.specs.declared.version.Version.{Version}
use Rattle.test_history.specs.declared.version.Version.TheVariants.{Second, Third}
use Rattle.test_history.specs.Faults.{IsGoodEntry}
use Rattle.line_text.specs.Values.{IsDigest, value_line}
use Rattle.test_history.specs.Histories.{EntryParts, HistoryParts, IsByteStatus, IsReadable}
use Rattle.edge_trace.specs.Rows.{numbers_of}
use Rattle.test_history.specs.HistoryTexts.{version_line, crossed_line, status_words, trap_name, words_or_dash, row_bytes, entry_lines, first_lines, text_with_sum}
use Rattle.test_history.proofs.BitsLemmas.{row_bytes-injective, IsBytes-row_bytes}
use Rattle.test_history.proofs.NumbersLemmas.{pieces_are}
use Rattle.line_text.proofs.LawsOfValues.{IsPlain, plain_value, plain_decimal, plain_bytes, plain_digest}
use Rattle.test_history.proofs.PlainLemmas.{plain_name, plain_status, plain_crossed, plain_version}
use Rattle.edge_trace.proofs.LawsOfNumbers.{AreRising, AreRising-numbers_of, numbers_of-injective}
use Rattle.line_text.proofs.LawsOfTexts.{lines_append}
use Rattle.test_history.proofs.StatusLemmas.{status_line}

-- ---- a value has one line

pub value_same : (word a b : List ℕ) → value_line word a ≡ value_line word b → a ≡ b
value_same word a b is = cc (append_cancel_left word (32 ∷ a) (32 ∷ b) is)

pub number_same : (word : List ℕ) (a b : ℕ) → a < 2 ^ 64 → b < 2 ^ 64 → value_line word (decimal a) ≡ value_line word (decimal b) → a ≡ b
number_same word a b small small' is = decimal_injective a b small small' (value_same word (decimal a) (decimal b) is)

pub bytes_same : (word a b : List ℕ) → IsBytes a → IsBytes b → value_line word (bytes_or_dash a) ≡ value_line word (bytes_or_dash b) → a ≡ b
bytes_same word a b ha hb is = bytes_or_dash-injective a b ha hb (value_same word (bytes_or_dash a) (bytes_or_dash b) is)

digest_word : (digest : List ℕ) → IsDigest digest → bytes_or_dash digest ≡ encode_lower digest
digest_word [] h = absurd (omega (arith, h.size))
digest_word (byte ∷ more) h = refl

pub digest_same : (word a b : List ℕ) → IsDigest a → IsDigest b → value_line word (encode_lower a) ≡ value_line word (encode_lower b) → a ≡ b
digest_same word a b ha hb is =
    bytes_or_dash-injective a b ha.bytes hb.bytes (digest_word a ha ∙ value_same word (encode_lower a) (encode_lower b) is ∙ sym (digest_word b hb))

-- a trap by its name
trap_of : List ℕ → Trap
trap_of name =
    cond (eqb (get_or name 0 0) 111) Overflow (cond (eqb (get_or name 0 0) 115) Shift (cond (eqb (get_or name 0 0) 98) Bounds (cond (eqb (get_or name 0 0) 117) Unset
    (cond (eqb (get_or name 0 0) 102) Flood (cond (eqb (get_or name 0 0) 109) Missing (cond (eqb (get_or name 1 0) 105) Divide Depth))))))

trap_of-name : (trap : Trap) → trap_of (trap_name trap) ≡ trap
unfolding trap_of
trap_of-name Overflow = refl
trap_of-name Divide = refl
trap_of-name Shift = refl
trap_of-name Bounds = refl
trap_of-name Unset = refl
trap_of-name Flood = refl
trap_of-name Depth = refl
trap_of-name Missing = refl

trap_same : (a b : Trap) → trap_name a ≡ trap_name b → a ≡ b
trap_same a b is = sym (trap_of-name a) ∙ ap trap_of is ∙ trap_of-name b

words_same : (a b : Status) → IsByteStatus a → IsByteStatus b → line_of_words (status_words a) ≡ line_of_words (status_words b) → a ≡ b
words_same (status.Exit n) (status.Exit m) ha hb is = ap status.Exit (number_same (codes "exit") n m (omega arith) (omega arith) is)
words_same (status.Exit n) (status.Trap t) ha hb is = absurd (first (decimal n) (trap_name t) is)
  where
    first : (x y : List ℕ) → value_line (codes "exit") x ≢ value_line (codes "trap") y
    first x y e = let same : ◌≡◌ {A = ℕ} 101 116 = cc e in omega (arith, same)
words_same (status.Exit n) status.Turns ha hb is = absurd (first (decimal n) is)
  where
    first : (x : List ℕ) → value_line (codes "exit") x ≢ codes "turns"
    first x e = let same : ◌≡◌ {A = ℕ} 101 116 = cc e in omega (arith, same)
words_same (status.Trap t) (status.Exit n) ha hb is = absurd (first (decimal n) (trap_name t) is)
  where
    first : (x y : List ℕ) → value_line (codes "trap") y ≢ value_line (codes "exit") x
    first x y e = let same : ◌≡◌ {A = ℕ} 116 101 = cc e in omega (arith, same)
words_same (status.Trap t) (status.Trap u) ha hb is = ap status.Trap (trap_same t u (value_same (codes "trap") (trap_name t) (trap_name u) is))
words_same (status.Trap t) status.Turns ha hb is = absurd (second (trap_name t) is)
  where
    second : (x : List ℕ) → value_line (codes "trap") x ≢ codes "turns"
    second x e = let same : ◌≡◌ {A = ℕ} 114 117 = cc e in omega (arith, same)
words_same status.Turns (status.Exit n) ha hb is = absurd (first (decimal n) is)
  where
    first : (x : List ℕ) → codes "turns" ≢ value_line (codes "exit") x
    first x e = let same : ◌≡◌ {A = ℕ} 116 101 = cc e in omega (arith, same)
words_same status.Turns (status.Trap t) ha hb is = absurd (second (trap_name t) is)
  where
    second : (x : List ℕ) → codes "turns" ≢ value_line (codes "trap") x
    second x e = let same : ◌≡◌ {A = ℕ} 117 114 = cc e in omega (arith, same)
words_same status.Turns status.Turns ha hb is = refl

pub status_same : (a b : Status) → IsByteStatus a → IsByteStatus b → line_of_words (codes "status" ∷ status_words a) ≡ line_of_words (codes "status" ∷ status_words b) → a ≡ b
status_same a b ha hb is =
    words_same a b ha hb (value_same (codes "status") (line_of_words (status_words a)) (line_of_words (status_words b)) (sym (status_line (codes "status") a) ∙ is ∙ status_line (codes "status") b))

-- numbers by their words
decimals_same : (bound : ℕ) (a b : List ℕ) → bound < 2 ^ 32 → All (λ n. n < bound) a → All (λ n. n < bound) b → map decimal a ≡ map decimal b → a ≡ b
decimals_same bound [] [] small ha hb is = refl
decimals_same bound [] (m ∷ b) small ha hb is = absurd (empty (decimal m) (map decimal b) is)
  where
    empty : (x : List ℕ) (xs : List (List ℕ)) → ◌≢◌ {A = List (List ℕ)} [] (x ∷ xs)
    empty x xs e = cc e
decimals_same bound (n ∷ a) [] small ha hb is = absurd (empty (decimal n) (map decimal a) is)
  where
    empty : (x : List ℕ) (xs : List (List ℕ)) → ◌≢◌ {A = List (List ℕ)} (x ∷ xs) []
    empty x xs e = cc e
decimals_same bound (n ∷ a) (m ∷ b) small ha hb is =
    let Under : ℕ → Type 0 = λ k. k < bound in
    let under : n < bound = All-head Under n a ha in
    let under' : m < bound = All-head Under m b hb in
    let first : n ≡ m = decimal_injective n m (omega arith) (omega arith) (cc is) in
    let rest : a ≡ b = decimals_same bound a b small (All-tail Under n a ha) (All-tail Under m b hb) (cc is) in
    cc (first, rest)

dash_not : (n : ℕ) → n < 2 ^ 64 → codes "-" ≢ decimal n
dash_not n small = decimal-all_digits n (codes "-") small refl

not_dash : (bound n : ℕ) (more : List ℕ) → bound < 2 ^ 32 → AreRising bound (n ∷ more) → line_of_words (words_or_dash (n ∷ more)) ≢ codes "-"
not_dash bound n [] small h is = dash_not n (omega (arith, All-head (λ k. k < bound) n [] h.below)) (sym is)
not_dash bound n (m ∷ more) small h is =
    omega (arith, ap length is, length-append (decimal n) (32 ∷ line_of_words (map decimal (m ∷ more))), decimal_nonempty n (omega (arith, All-head (λ k. k < bound) n (m ∷ more) h.below)))

numbers_same : (bound : ℕ) (a b : List ℕ) → bound < 2 ^ 32 → AreRising bound a → AreRising bound b → line_of_words (words_or_dash a) ≡ line_of_words (words_or_dash b) → a ≡ b
numbers_same bound [] [] small ha hb is = refl
numbers_same bound [] (m ∷ b) small ha hb is = absurd (not_dash bound m b small hb (sym is))
numbers_same bound (n ∷ a) [] small ha hb is = absurd (not_dash bound n a small ha is)
numbers_same bound (n ∷ a) (m ∷ b) small ha hb is =
    let one = pieces_are bound (line_of_words (words_or_dash (n ∷ a))) (n ∷ a) small ha (not_dash bound n a small ha) refl in
    let two = pieces_are bound (line_of_words (words_or_dash (n ∷ a))) (m ∷ b) small hb (not_dash bound n a small ha) is in
    decimals_same bound (n ∷ a) (m ∷ b) small ha.below hb.below (sym one ∙ two)

pub row_same : (version : Version) (a b : List Bool) → length a < 2 ^ 32 → length a ≡ length b → crossed_line version a ≡ crossed_line version b → a ≡ b
row_same Second a b small size is =
    numbers_of-injective a b size
    (numbers_same (length a) (numbers_of a) (numbers_of b) small (AreRising-numbers_of a (length a) refl) (subst (λ n. AreRising n (numbers_of b)) (sym size) (AreRising-numbers_of b (length b) refl))
    (value_same (codes "crossed") (line_of_words (words_or_dash (numbers_of a))) (line_of_words (words_or_dash (numbers_of b))) is))
row_same Third a b small size is = row_bytes-injective a b size (bytes_same (codes "crossed") (row_bytes a) (row_bytes b) (IsBytes-row_bytes a) (IsBytes-row_bytes b) is)

-- ---- entries

abbrev test_with : List ℕ → ℕ → List ℕ → TestParts
test_with name budget input = record { name = name; budget = budget; input = input }

test_parts : (x y : TestParts) → x.name ≡ y.name → x.budget ≡ y.budget → x.input ≡ y.input → x ≡ y
test_parts x y names budgets inputs =
    ap (λ name. test_with name x.budget x.input) names ∙ ap (λ budget. test_with y.name budget x.input) budgets ∙ ap (λ input. test_with y.name y.budget input) inputs

abbrev entry_with : TestParts → Status → ℕ → List ℕ → List Bool → EntryParts
entry_with test s turns output crossed = record { test = test; status = s; turns = turns; output = output; crossed = crossed }

entry_parts : (x y : EntryParts) → x.test ≡ y.test → x.status ≡ y.status → x.turns ≡ y.turns → x.output ≡ y.output → x.crossed ≡ y.crossed → x ≡ y
entry_parts x y tests statuses turns outputs rows =
    ap (λ test. entry_with test x.status x.turns x.output x.crossed) tests
    ∙ ap (λ s. entry_with y.test s x.turns x.output x.crossed) statuses
    ∙ ap (λ n. entry_with y.test y.status n x.output x.crossed) turns
    ∙ ap (λ output. entry_with y.test y.status y.turns output x.crossed) outputs
    ∙ ap (λ row. entry_with y.test y.status y.turns y.output row) rows

entry_same : (version : Version) (edges : ℕ) (x y : EntryParts) → edges < 2 ^ 32 → IsGoodEntry edges x → IsGoodEntry edges y → value_line (codes "test") x.test.name ≡ value_line (codes "test") y.test.name
    → value_line (codes "budget") (decimal x.test.budget) ≡ value_line (codes "budget") (decimal y.test.budget) → value_line (codes "input") (bytes_or_dash x.test.input) ≡ value_line (codes "input") (bytes_or_dash y.test.input)
    → line_of_words (codes "status" ∷ status_words x.status) ≡ line_of_words (codes "status" ∷ status_words y.status) → value_line (codes "turns") (decimal x.turns) ≡ value_line (codes "turns") (decimal y.turns)
    → value_line (codes "output") (bytes_or_dash x.output) ≡ value_line (codes "output") (bytes_or_dash y.output)
    → crossed_line version x.crossed ≡ crossed_line version y.crossed → x ≡ y
entry_same version edges x y small hx hy l1 l2 l3 l4 l5 l6 l7 =
    entry_parts x y
    (test_parts x.test y.test (value_same (codes "test") x.test.name y.test.name l1)
    (number_same (codes "budget") x.test.budget y.test.budget (omega (arith, hx.within.test.budget)) (omega (arith, hy.within.test.budget)) l2)
    (bytes_same (codes "input") x.test.input y.test.input hx.bytes.input hy.bytes.input l3))
    (status_same x.status y.status hx.bytes.status hy.bytes.status l4)
    (number_same (codes "turns") x.turns y.turns (omega (arith, hx.within.turns, hx.within.test.budget)) (omega (arith, hy.within.turns, hy.within.test.budget)) l5)
    (bytes_same (codes "output") x.output y.output hx.bytes.output hy.bytes.output l6)
    (row_same version x.crossed y.crossed (omega (arith, hx.row)) (hx.row ∙ sym hy.row) l7)

-- seven lines before others
seven_same : (a b c d e f g a' b' c' d' e' f' g' : List ℕ) (more more' : List (List ℕ)) → (a ∷ b ∷ c ∷ d ∷ e ∷ f ∷ g ∷ more) ≡ (a' ∷ b' ∷ c' ∷ d' ∷ e' ∷ f' ∷ g' ∷ more')
    → (a ≡ a') × (b ≡ b') × (c ≡ c') × (d ≡ d') × (e ≡ e') × (f ≡ f') × (g ≡ g') × (more ≡ more')
seven_same a b c d e f g a' b' c' d' e' f' g' more more' is = (cc is, cc is, cc is, cc is, cc is, cc is, cc is, cc is)

one_or_more : (last a b c : List ℕ) (more : List (List ℕ)) → last ∷ [] ≢ a ∷ b ∷ c ∷ more
one_or_more last a b c more is = let none : ◌≡◌ {A = List (List ℕ)} [] (b ∷ c ∷ more) = cc is in cc none

pub entries_same : (version : Version) (edges : ℕ) (a b : List EntryParts) (last last' : List ℕ) → edges < 2 ^ 32 → All (IsGoodEntry edges) a → All (IsGoodEntry edges) b
    → flat_map (entry_lines version) a ++ last ∷ [] ≡ flat_map (entry_lines version) b ++ last' ∷ [] → (a ≡ b) × (last ≡ last')
entries_same version edges [] [] last last' small ha hb is = (refl, cc is)
entries_same version edges [] (y ∷ b) last last' small ha hb is = absurd (one_or_more last _ _ _ _ is)
entries_same version edges (x ∷ a) [] last last' small ha hb is = absurd (one_or_more last' _ _ _ _ (sym is))
entries_same version edges (x ∷ a) (y ∷ b) last last' small ha hb is =
    let seven = seven_same _ _ _ _ _ _ _ _ _ _ _ _ _ _ (flat_map (entry_lines version) a ++ last ∷ []) (flat_map (entry_lines version) b ++ last' ∷ []) is in
    let first : x ≡ y = entry_same version edges x y small (All-head (IsGoodEntry edges) x a ha) (All-head (IsGoodEntry edges) y b hb) seven.0 seven.1 seven.2 seven.3 seven.4 seven.5 seven.6 in
    let rest = entries_same version edges a b last last' small (All-tail (IsGoodEntry edges) x a ha) (All-tail (IsGoodEntry edges) y b hb) seven.7 in
    (cc (first, rest.0), rest.1)

-- ---- whole texts

abbrev sum_line : List ℕ → List ℕ
sum_line sum = value_line (codes "end") (encode_lower sum)

-- all lines of a text
abbrev all_lines : Version → HistoryParts → List ℕ → List (List ℕ)
all_lines version history sum = first_lines version history ++ (flat_map (entry_lines version) history.entries ++ sum_line sum ∷ [])

pub good_entries : (history : HistoryParts) → IsReadable history → All (IsGoodEntry history.edges) history.entries
good_entries history h = λ k d within. record { within = h.within.entries k d within; row = h.within.rows k d within; bytes = h.bytes k d within }

four_plain : (a b c d : List ℕ) (more : List (List ℕ)) → IsPlain a → IsPlain b → IsPlain c → IsPlain d → All IsPlain more → All IsPlain (a ∷ b ∷ c ∷ d ∷ more)
four_plain a b c d more ha hb hc hd h = All-cons IsPlain a (b ∷ c ∷ d ∷ more) ha (All-cons IsPlain b (c ∷ d ∷ more) hb (All-cons IsPlain c (d ∷ more) hc (All-cons IsPlain d more hd h)))

three_plain : (a b c : List ℕ) → IsPlain a → IsPlain b → IsPlain c → All IsPlain (a ∷ b ∷ c ∷ [])
three_plain a b c ha hb hc = All-cons IsPlain a (b ∷ c ∷ []) ha (All-cons IsPlain b (c ∷ []) hb (All-cons IsPlain c [] hc (All-nil IsPlain)))

plain_entry : (version : Version) (edges : ℕ) (entry : EntryParts) → edges < 2 ^ 32 → IsGoodEntry edges entry → All IsPlain (entry_lines version entry)
plain_entry version edges entry small h =
    four_plain (value_line (codes "test") entry.test.name) (value_line (codes "budget") (decimal entry.test.budget)) (value_line (codes "input") (bytes_or_dash entry.test.input)) (line_of_words (codes "status" ∷ status_words entry.status))
    (drop 4 (entry_lines version entry))
    (plain_value (codes "test") entry.test.name refl (plain_name entry.test.name h.within.test.name))
    (plain_value (codes "budget") (decimal entry.test.budget) refl (plain_decimal entry.test.budget (omega (arith, h.within.test.budget))))
    (plain_value (codes "input") (bytes_or_dash entry.test.input) refl (plain_bytes entry.test.input))
    (plain_status entry.status h.bytes.status)
    (three_plain (value_line (codes "turns") (decimal entry.turns)) (value_line (codes "output") (bytes_or_dash entry.output)) (crossed_line version entry.crossed)
    (plain_value (codes "turns") (decimal entry.turns) refl (plain_decimal entry.turns (omega (arith, h.within.turns, h.within.test.budget))))
    (plain_value (codes "output") (bytes_or_dash entry.output) refl (plain_bytes entry.output))
    (plain_crossed version entry.crossed (omega (arith, h.row))))

plain_entries : (version : Version) (edges : ℕ) (entries : List EntryParts) → edges < 2 ^ 32 → All (IsGoodEntry edges) entries → All IsPlain (flat_map (entry_lines version) entries)
plain_entries version edges [] small h = All-nil IsPlain
plain_entries version edges (entry ∷ more) small h =
    All-append IsPlain (entry_lines version entry) (flat_map (entry_lines version) more) (plain_entry version edges entry small (All-head (IsGoodEntry edges) entry more h)) (plain_entries version edges more small (All-tail (IsGoodEntry edges) entry more h))

plain_lines : (version : Version) (history : HistoryParts) (sum : List ℕ) → IsReadable history → IsDigest sum → All IsPlain (all_lines version history sum)
plain_lines version history sum h good =
    four_plain (version_line version) (value_line (codes "source") (encode_lower history.digest)) (value_line (codes "edges") (decimal history.edges)) (value_line (codes "tests") (decimal (length history.entries)))
    (flat_map (entry_lines version) history.entries ++ sum_line sum ∷ [])
    (plain_version version)
    (plain_value (codes "source") (encode_lower history.digest) refl (plain_digest history.digest h.digest))
    (plain_value (codes "edges") (decimal history.edges) refl (plain_decimal history.edges (omega (arith, h.within.edges))))
    (plain_value (codes "tests") (decimal (length history.entries)) refl (plain_decimal (length history.entries) (omega (arith, h.within.few))))
    (All-append IsPlain (flat_map (entry_lines version) history.entries) (sum_line sum ∷ []) (plain_entries version history.edges history.entries (omega (arith, h.within.edges)) (good_entries history h))
    (All-cons IsPlain (sum_line sum) [] (plain_value (codes "end") (encode_lower sum) refl (plain_digest sum good)) (All-nil IsPlain)))

text_lines : (version : Version) (history : HistoryParts) (sum : List ℕ) → text_with_sum version history sum ≡ text_of_lines (all_lines version history sum) ++ []
text_lines version history sum =
    append_assoc (text_of_lines (first_lines version history)) (text_of_lines (flat_map (entry_lines version) history.entries)) (text_of_lines (sum_line sum ∷ []))
    ∙ ap (λ rest. text_of_lines (first_lines version history) ++ rest)
    (ap (λ last. text_of_lines (flat_map (entry_lines version) history.entries) ++ last) (sym (append-nil (text_of_lines (sum_line sum ∷ [])))) ∙ sym (lines_append (flat_map (entry_lines version) history.entries) (sum_line sum ∷ []) []))
    ∙ sym (lines_append (first_lines version history) (flat_map (entry_lines version) history.entries ++ sum_line sum ∷ []) [])

ended_same : (a b : List (List ℕ)) → map (λ line. line_with line true) a ≡ map (λ line. line_with line true) b → a ≡ b
ended_same a b is = sym (back a) ∙ ap (map bytes_in) is ∙ back b
  where
    bytes_in : TextLine → List ℕ
    bytes_in line = line.bytes

    back : (lines : List (List ℕ)) → map bytes_in (map (λ line. line_with line true) lines) ≡ lines
    back [] = refl
    back (line ∷ more) = ap (λ rest. line ∷ rest) (back more)

lines_same : (version : Version) (a b : HistoryParts) (s t : List ℕ) → IsReadable a → IsReadable b → IsDigest s → IsDigest t → text_with_sum version a s ≡ text_with_sum version b t → all_lines version a s ≡ all_lines version b t
lines_same version a b s t ha hb hs ht is =
    ended_same (all_lines version a s) (all_lines version b t)
    (sym (append-nil _) ∙ sym (lines_of-text_of_lines (all_lines version a s) [] (plain_lines version a s ha hs))
    ∙ ap lines_of (sym (text_lines version a s) ∙ is ∙ text_lines version b t)
    ∙ lines_of-text_of_lines (all_lines version b t) [] (plain_lines version b t hb ht) ∙ append-nil _)

four_same : (a b c d a' b' c' d' : List ℕ) (more more' : List (List ℕ)) → (a ∷ b ∷ c ∷ d ∷ more) ≡ (a' ∷ b' ∷ c' ∷ d' ∷ more') → (b ≡ b') × (c ≡ c') × (more ≡ more')
four_same a b c d a' b' c' d' more more' is = (cc is, cc is, cc is)

abbrev history_with : List ℕ → ℕ → List EntryParts → HistoryParts
history_with digest edges entries = record { digest = digest; edges = edges; entries = entries }

history_parts : (a b : HistoryParts) → a.digest ≡ b.digest → a.edges ≡ b.edges → a.entries ≡ b.entries → a ≡ b
history_parts a b digests edges entries =
    ap (λ digest. history_with digest a.edges a.entries) digests ∙ ap (λ n. history_with b.digest n a.entries) edges ∙ ap (λ es. history_with b.digest b.edges es) entries

pub histories_same : (version : Version) (a b : HistoryParts) (s t : List ℕ) → IsReadable a → IsReadable b → IsDigest s → IsDigest t → text_with_sum version a s ≡ text_with_sum version b t → (a ≡ b) × (s ≡ t)
histories_same version a b s t ha hb hs ht is =
    let four = four_same _ _ _ _ _ _ _ _ _ _ (lines_same version a b s t ha hb hs ht is) in
    let digests : a.digest ≡ b.digest = digest_same (codes "source") a.digest b.digest ha.digest hb.digest four.0 in
    let edges : a.edges ≡ b.edges = number_same (codes "edges") a.edges b.edges (omega (arith, ha.within.edges)) (omega (arith, hb.within.edges)) four.1 in
    let both = entries_same version b.edges a.entries b.entries (sum_line s) (sum_line t) (omega (arith, hb.within.edges)) (subst (λ n. All (IsGoodEntry n) a.entries) edges (good_entries a ha)) (good_entries b hb) four.2 in
    (history_parts a b digests edges both.0, digest_same (codes "end") s t hs ht both.1)
