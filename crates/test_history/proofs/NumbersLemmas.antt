-- Numbers that are read word by word.
use Rattle.std.proofs.Common.{◌≡◌, ◌≢◌, eqb, ℕ, suc, ◌+◌, ◌<◌, ◌≤◌, ◌^◌, Bool, true, false, List, [], ◌∷◌, ◌++◌, length, map, set, replicate, codes, Option, Some, None, MatchOption, sym, ap, subst, ◌∙◌, arith, append_assoc}
use Rattle.std.specs.Fmt.{decimal}
use Rattle.std.specs.List.{All}
use Rattle.std.proofs.lemmas.Fmt.{decimal_injective, decimal_nonempty}
use Rattle.std.proofs.lemmas.List.{map-append}
use Rattle.std.proofs.lemmas.List.Elements.{All-head, All-tail, All-map, All-weaker}
use Rattle.std.proofs.lemmas.List.Splits.{length-slice_split}
use Rattle.line_text.specs.Words.{line_of_words, pieces}
use Rattle.line_text.proofs.Laws.{line_of_words-pieces, pieces-line_of_words, IsWord-decimal}
use Rattle.edge_trace.specs.Rows.{has, numbers_of}
use Rattle.edge_trace.proofs.Laws.{has-set_other, has-replicate}
use Rattle.test_history.specs.HistoryTexts.{words_or_dash}
use Rattle.edge_trace.proofs.LawsOfNumbers.{AreRising, numbers_of-set, numbers_of-empty}

-- the words that are left are of rising numbers, none below the least
abbrev pub AreLeft : ℕ → ℕ → List (List ℕ) → Type 0
AreLeft bound least words = (left : List ℕ) × AreRising bound left × All (λ n. least ≤ n) left × (words ≡ map decimal left)

-- nothing from a place on is in the row
abbrev pub IsClear : List Bool → ℕ → Type 0
IsClear row least = (k : ℕ) → least ≤ k → has row k ≡ false

pub rising_tail : (bound n : ℕ) (more : List ℕ) → AreRising bound (n ∷ more) → AreRising bound more
rising_tail bound n more h = record {
  rising = λ i j d before within. h.rising (suc i) (suc j) d (omega arith) (omega arith);
  below = All-tail (λ number. number < bound) n more h.below;
}

pub rising_above : (bound n : ℕ) (more : List ℕ) → AreRising bound (n ∷ more) → All (λ later. n + 1 ≤ later) more
rising_above bound n more h = λ k d within. omega (arith, h.rising 0 (suc k) d (omega arith) (omega arith))

-- ---- a row into which words are read

-- the first word of what is left
pub begins : {X : Type 0} (now : X → List ℕ) (parts : List (List ℕ)) (word : List ℕ) (rest : Option X)
    → MatchOption rest (parts ≡ word ∷ []) (λ more. parts ≡ word ∷ pieces (now more)) → (more : List (List ℕ)) × (parts ≡ word ∷ more)
begins now parts word None is = ([], is)
begins now parts word (Some more) is = (pieces (now more), is)

-- no number is left that is none
pub no_word : (bound least : ℕ) (parts more : List (List ℕ)) → bound < 2 ^ 32 → AreLeft bound least parts → parts ≡ [] ∷ more → ⊥
no_word bound least parts more small left is = at left.0 left.1 (sym left.3 ∙ is)
  where
    at : (numbers : List ℕ) → AreRising bound numbers → map decimal numbers ≡ [] ∷ more → ⊥
    at [] h same = cc same
    at (n ∷ ns) h same =
        let under : n < bound = All-head (λ number. number < bound) n ns h.below in
        let none : decimal n ≡ [] = cc same in
        omega (arith, decimal_nonempty n (omega arith), ap length none)

-- the first number that is left
pub first_left : (bound least : ℕ) (parts more : List (List ℕ)) (word : List ℕ) → AreLeft bound least parts → parts ≡ word ∷ more
    → (n : ℕ) × (word ≡ decimal n) × (n < bound) × (least ≤ n) × AreLeft bound (n + 1) more
first_left bound least parts more word left is = at left.0 left.1 left.2 (sym left.3 ∙ is)
  where
    at : (numbers : List ℕ) → AreRising bound numbers → All (λ n. least ≤ n) numbers → map decimal numbers ≡ word ∷ more
        → (n : ℕ) × (word ≡ decimal n) × (n < bound) × (least ≤ n) × AreLeft bound (n + 1) more
    at [] h low same = cc same
    at (n ∷ ns) h low same = (n, cc same, All-head (λ number. number < bound) n ns h.below, All-head (λ number. least ≤ number) n ns low, (ns, rising_tail bound n ns h, rising_above bound n ns h, cc same))

pub no_number : (bound least : ℕ) (parts more : List (List ℕ)) (word : List ℕ) → bound < 2 ^ 32 → AreLeft bound least parts → parts ≡ word ∷ more
    → ((n : ℕ) → n ≤ 4294967295 → word ≢ decimal n) → ⊥
no_number bound least parts more word small left is none =
    let first = first_left bound least parts more word left is in
    none first.0 (omega (arith, first.2)) first.1

-- the number that was read is the one that is left
read_is : (bound n : ℕ) (word : List ℕ) (m : ℕ) → bound < 2 ^ 32 → word ≡ decimal n → n < 2 ^ 64 → m < bound → word ≡ decimal m → m ≡ n
read_is bound n word m small is fits under other = decimal_injective m n (omega arith) fits (sym other ∙ is)

pub bad_number : (bound least n : ℕ) (parts more : List (List ℕ)) (word : List ℕ) → bound < 2 ^ 32 → AreLeft bound least parts → parts ≡ word ∷ more
    → word ≡ decimal n → n < 2 ^ 64 → (least ≤ n → bound ≤ n) → ⊥
bad_number bound least n parts more word small left is number fits bad =
    let first = first_left bound least parts more word left is in
    let same : first.0 ≡ n = read_is bound n word first.0 small number fits first.2 first.1 in
    let past : bound ≤ n = bad (omega (arith, first.3, same)) in
    omega (arith, first.2, same, past)

pub next_left : (bound least n : ℕ) (parts more : List (List ℕ)) (word : List ℕ) → bound < 2 ^ 32 → AreLeft bound least parts → parts ≡ word ∷ more
    → word ≡ decimal n → n < 2 ^ 64 → AreLeft bound (n + 1) more
next_left bound least n parts more word small left is number fits =
    let first = first_left bound least parts more word left is in
    let same : first.0 ≡ n = read_is bound n word first.0 small number fits first.2 first.1 in
    subst (λ m. AreLeft bound (m + 1) more) same first.4

-- the row with one more number
pub clear_set : (row : List Bool) (least n : ℕ) → IsClear row least → least ≤ n → IsClear (set row n true) (n + 1)
clear_set row least n clear low = λ k past. has-set_other row n k (λ same. omega (arith, past, same)) ∙ clear k (omega arith)

pub said_more : (words parts more : List (List ℕ)) (row : List Bool) (n least : ℕ) (word : List ℕ) → words ≡ map decimal (numbers_of row) ++ parts → parts ≡ word ∷ more → word ≡ decimal n
    → IsClear row least → least ≤ n → n < length row → words ≡ map decimal (numbers_of (set row n true)) ++ more
said_more words parts more row n least word said is number clear low within =
    let grown : numbers_of (set row n true) ≡ numbers_of row ++ n ∷ [] = numbers_of-set row n within (λ k past. clear k (omega arith)) in
    said ∙ ap (λ ps. map decimal (numbers_of row) ++ ps) (is ∙ ap (λ w. w ∷ more) number)
    ∙ sym (append_assoc (map decimal (numbers_of row)) (decimal n ∷ []) more)
    ∙ ap (λ ws. ws ++ more) (sym (map-append decimal (numbers_of row) (n ∷ [])))
    ∙ ap (λ numbers. map decimal numbers ++ more) (sym grown)

-- the empty row
pub said_first : (words : List (List ℕ)) (row : List Bool) → row ≡ replicate (length row) false → words ≡ map decimal (numbers_of row) ++ words
said_first words row empty =
    let none : numbers_of row ≡ [] = ap numbers_of empty ∙ numbers_of-empty (length row) in
    ap (λ numbers. map decimal numbers ++ words) (sym none)

pub clear_first : (row : List Bool) → row ≡ replicate (length row) false → IsClear row 0
clear_first row empty = λ k past. ap (λ r. has r k) empty ∙ has-replicate (length row) k

-- ---- the words of a row

some_piece : (line : List ℕ) → pieces line ≢ []
some_piece line none = omega (arith, length-slice_split (λ b. eqb b 32) line, ap length none)

-- the pieces that are numbers are the words of these
pub words_are : (line : List ℕ) (numbers : List ℕ) → pieces line ≡ map decimal numbers → line ≡ line_of_words (words_or_dash numbers)
words_are line [] is = absurd (some_piece line is)
words_are line (n ∷ more) is = sym (line_of_words-pieces line) ∙ ap line_of_words is

Plain : List ℕ → Type 0
Plain word = All (λ byte. byte ≢ 32) word

plain_numbers : (bound : ℕ) (numbers : List ℕ) → bound < 2 ^ 32 → All (λ number. number < bound) numbers → All (λ word. All (λ byte. byte ≢ 32) word) (map decimal numbers)
plain_numbers bound numbers small below =
    All-map (λ word. All (λ byte. byte ≢ 32) word) decimal numbers
    (All-weaker (λ number. number < bound) (λ n. All (λ byte. byte ≢ 32) (decimal n)) (λ n under. (IsWord-decimal n (omega arith)).no_space) numbers below)

pub pieces_are : (bound : ℕ) (line : List ℕ) (numbers : List ℕ) → bound < 2 ^ 32 → AreRising bound numbers → line ≢ codes "-" → line ≡ line_of_words (words_or_dash numbers) → pieces line ≡ map decimal numbers
pieces_are bound line [] small rising other is = absurd (other is)
pieces_are bound line (n ∷ more) small rising other is =
    ap pieces is ∙ pieces-line_of_words (map decimal (n ∷ more)) (λ none. cc none) (plain_numbers bound (n ∷ more) small rising.below)

-- a row without numbers
pub dash_line : (row : List Bool) → row ≡ replicate (length row) false → line_of_words (words_or_dash (numbers_of row)) ≡ codes "-"
dash_line row empty =
    let none : numbers_of row ≡ [] = ap numbers_of empty ∙ numbers_of-empty (length row) in
    ap (λ numbers. line_of_words (words_or_dash numbers)) none
