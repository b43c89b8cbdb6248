-- The two words of a pair, and lines of things that are read one by one.
use Rattle.std.proofs.Common.{◌≡◌, ◌<◌, ◌≤◌, ◌+◌, ◌^◌, ℕ, Bool, true, false, List, [], ◌∷◌, ◌++◌, length, map, set, codes, Option, Some, None, MatchOption, refl, sym, ap, subst, ◌∙◌, arith, append_assoc}
use Rattle.std.specs.Fmt.{decimal}
use Rattle.std.specs.List.{All}
use Rattle.std.proofs.lemmas.Fmt.{decimal_nonempty}
use Rattle.std.proofs.lemmas.List.{map-append}
use Rattle.edge_trace.specs.Rows.{has, numbers_of}
use Rattle.edge_trace.proofs.Laws.{has-set_other}
use Rattle.line_text.specs.Lines.{text_of_lines, HasLine}
use Rattle.line_text.specs.Words.{line_of_words, pieces, StartsWithNoWord}
use Rattle.line_text.proofs.Laws.{line_of_words-pieces}
use Rattle.cert_text.specs.declared.bounds.Bounds.{Bounds}
use Rattle.cert_text.specs.declared.pair.Pair.{Pair}
use Rattle.cert_text.specs.Certificates.{IsAfter, RiseAfter, IsBefore, IsBelow, Rise, most_pairs}
use Rattle.cert_text.specs.CertificateTexts.{edge_line, pair_line}
use Rattle.cert_text.specs.Faults.{IsReadTo}
use Rattle.line_text.specs.Values.{value_line}
use Rattle.cert_text.specs.Rules.{c5, c7, IsFirstFault, SaysEdges}
use Rattle.cert_text.proofs.ItemLemmas.{last_of, items_read, fault_item}
use Rattle.edge_trace.proofs.LawsOfNumbers.{numbers_of-set}
use Rattle.cert_text.proofs.SameLemmas.{IsSmall, pieces_of_two}
use Rattle.line_text.proofs.LawsOfTexts.{lines_append}
use Rattle.cert_text.proofs.WholeLemmas.{count_read, edge_items, pairs_count_read, pair_items}

-- ---- two words

pub two_words : (words : List ℕ) (a b : ℕ) → a < 2 ^ 64 → b < 2 ^ 64 → words ≡ line_of_words (decimal a ∷ decimal b ∷ []) → pieces words ≡ decimal a ∷ decimal b ∷ []
two_words words a b small small' is = ap pieces is ∙ pieces_of_two a b small small'

pub no_first : (words : List ℕ) (a b : ℕ) → a < 2 ^ 64 → b < 2 ^ 64 → words ≡ line_of_words (decimal a ∷ decimal b ∷ []) → StartsWithNoWord words → ⊥
no_first words a b small small' is none =
    let both : decimal a ∷ decimal b ∷ [] ≡ [] ∷ none.0 = sym (two_words words a b small small' is) ∙ none.1 in
    let empty : decimal a ≡ [] = cc both in
    omega (arith, decimal_nonempty a small, ap length empty)

pub first_of_two : {X : Type 0} (now : X → List ℕ) (words word : List ℕ) (rest : Option X) (a b : ℕ) → a < 2 ^ 64 → b < 2 ^ 64 → words ≡ line_of_words (decimal a ∷ decimal b ∷ [])
    → MatchOption rest (pieces words ≡ word ∷ []) (λ more. pieces words ≡ word ∷ pieces (now more)) → word ≡ decimal a
first_of_two now words word None a b small small' is cut = let both = two_words words a b small small' is in cc (both, cut)
first_of_two now words word (Some more) a b small small' is cut = let both = two_words words a b small small' is in cc (both, cut)

pub not_alone : (words word : List ℕ) (a b : ℕ) → a < 2 ^ 64 → b < 2 ^ 64 → words ≡ line_of_words (decimal a ∷ decimal b ∷ []) → pieces words ≡ word ∷ [] → ⊥
not_alone words word a b small small' is alone = omega (arith, ap length (sym (two_words words a b small small' is) ∙ alone))

pub second_of_two : (words word rest : List ℕ) (a b : ℕ) → a < 2 ^ 64 → b < 2 ^ 64 → words ≡ line_of_words (decimal a ∷ decimal b ∷ []) → pieces words ≡ word ∷ pieces rest → rest ≡ decimal b
second_of_two words word rest a b small small' is cut =
    let both = two_words words a b small small' is in
    let last : pieces rest ≡ decimal b ∷ [] = cc (both, cut) in
    sym (line_of_words-pieces rest) ∙ ap line_of_words last

-- ---- lines of things

pub items_more : {X : Type 0} (line : X → List ℕ) (xs : List X) (x : X) (rest left : List ℕ) → rest ≡ line x ++ 10 ∷ left → text_of_lines (map line xs) ++ rest ≡ text_of_lines (map line (xs ++ x ∷ [])) ++ left
items_more line xs x rest left cut =
    ap (λ r. text_of_lines (map line xs) ++ r) (cut ∙ sym (append_assoc (line x) (10 ∷ []) left))
    ∙ sym (lines_append (map line xs) (line x ∷ []) left)
    ∙ ap (λ lines. text_of_lines lines ++ left) (sym (map-append line xs (x ∷ [])))

pub lines_more : {X : Type 0} (head : List ℕ) (line : X → List ℕ) (xs : List X) (x : X) (text rest left : List ℕ) → text ≡ head ++ 10 ∷ (text_of_lines (map line xs) ++ rest) → rest ≡ line x ++ 10 ∷ left
    → text ≡ head ++ 10 ∷ (text_of_lines (map line (xs ++ x ∷ [])) ++ left)
lines_more head line xs x text rest left is cut = is ∙ ap (λ r. head ++ 10 ∷ r) (items_more line xs x rest left cut)

-- the line of their number and theirs
pub lines_all : {X : Type 0} (head : List ℕ) (line : X → List ℕ) (xs : List X) (text rest : List ℕ) → text ≡ head ++ 10 ∷ (text_of_lines (map line xs) ++ rest) → text ≡ text_of_lines (head ∷ map line xs) ++ rest
lines_all head line xs text rest is = is ∙ sym (append_assoc head (10 ∷ text_of_lines (map line xs)) rest)

-- ---- the row of edges that are read

-- nothing that may follow is in the row
abbrev pub IsClear : List Bool → Option ℕ → Type 0
IsClear row last = (k : ℕ) → IsAfter (λ a b. a < b) last k → has row k ≡ false

after_more : (last : Option ℕ) (e k : ℕ) → IsAfter (λ a b. a < b) last e → e ≤ k → IsAfter (λ a b. a < b) last k
after_more None e k after low = tt
after_more (Some y) e k after low = omega arith

pub one_more_number : (row : List Bool) (last : Option ℕ) (e : ℕ) → IsClear row last → IsAfter (λ a b. a < b) last e → e < length row → numbers_of (set row e true) ≡ numbers_of row ++ e ∷ []
one_more_number row last e clear after within = numbers_of-set row e within (λ k low. clear k (after_more last e k after low))

pub clear_more : (row : List Bool) (last : Option ℕ) (e : ℕ) → IsClear row last → IsAfter (λ a b. a < b) last e → IsClear (set row e true) (Some e)
clear_more row last e clear after = λ k above. has-set_other row e k (λ same. omega (arith, above, same)) ∙ clear k (after_more last e k after (omega arith))

-- ---- the first line that is refused

pub edge_fault : (bounds : Bounds) (text begin rest : List ℕ) (count : ℕ) (edges : List ℕ) → bounds.edges ≤ 10000 → IsReadTo bounds text 3 begin → begin ≡ value_line (codes "dangerous") (decimal count) ++ 10 ∷ (text_of_lines (map edge_line edges) ++ rest)
    → count ≤ bounds.edges → length edges < count → All (λ e. e < bounds.edges) edges → RiseAfter (λ a b. a < b) None edges
    → ((e : ℕ) → e < bounds.edges → IsAfter (λ a b. a < b) (last_of None edges) e → ¬ HasLine rest 1 (edge_line e)) → IsFirstFault bounds text (5 + length edges) 5
edge_fault bounds text begin rest count edges small read cut few more below rise none =
    let first = count_read bounds text begin (text_of_lines (map edge_line edges) ++ rest) count small read cut few in
    let items = edge_items bounds text count small first.1 in
    let upto = items_read bounds text ℕ c5 4 count edge_line (λ e. e < bounds.edges) (λ a b. a < b) items edges 4 (text_of_lines (map edge_line edges) ++ rest) rest None first.0 refl (omega arith) (omega arith) below rise refl in
    let next : 4 + length edges + 1 ≡ 5 + length edges = omega arith in
    subst (λ k. IsFirstFault bounds text k 5) next
    (fault_item bounds text ℕ c5 4 count edge_line (λ e. e < bounds.edges) (λ a b. a < b) items (4 + length edges) rest (last_of None edges) upto.0 upto.1 (omega arith) (omega arith) none)

pub pair_fault : (bounds : Bounds) (text begin rest : List ℕ) (edges count : ℕ) (pairs : List Pair) → IsSmall bounds → SaysEdges bounds text edges → IsReadTo bounds text (4 + edges) begin
    → begin ≡ value_line (codes "pairs") (decimal count) ++ 10 ∷ (text_of_lines (map pair_line pairs) ++ rest) → count ≤ most_pairs → length pairs < count → All (IsBelow bounds) pairs → Rise pairs
    → ((p : Pair) → IsBelow bounds p → IsAfter IsBefore (last_of None pairs) p → ¬ HasLine rest 1 (pair_line p)) → IsFirstFault bounds text (6 + edges + length pairs) 7
pair_fault bounds text begin rest edges count pairs small says read cut few more below rise none =
    let first = pairs_count_read bounds text begin (text_of_lines (map pair_line pairs) ++ rest) edges count small.edges says read cut few in
    let items = pair_items bounds text edges count small first.1 in
    let upto = items_read bounds text Pair c7 (5 + edges) count pair_line (IsBelow bounds) IsBefore items pairs (5 + edges) (text_of_lines (map pair_line pairs) ++ rest) rest None first.0 refl (omega arith) (omega arith) below rise refl in
    let next : 5 + edges + length pairs + 1 ≡ 6 + edges + length pairs = omega arith in
    subst (λ k. IsFirstFault bounds text k 7) next
    (fault_item bounds text Pair c7 (5 + edges) count pair_line (IsBelow bounds) IsBefore items (5 + edges + length pairs) rest (last_of None pairs) upto.0 upto.1 (omega arith) (omega arith) none)
