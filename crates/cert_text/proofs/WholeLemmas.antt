-- A whole text, read from its first line to its last.
use Rattle.std.proofs.Common.{◌≡◌, ◌≢◌, ◌<◌, ◌≤◌, ◌+◌, ◌^◌, ℕ, Bool, true, List, [], ◌∷◌, ◌++◌, length, map, codes, None, refl, sym, subst, ◌∙◌, arith, append_assoc}
use Rattle.std.specs.Fmt.{decimal}
use Rattle.std.specs.List.{All}
use Rattle.hex.specs.Hex.{encode_lower}
use Rattle.line_text.specs.Lines.{text_of_lines, HasLine}
use Rattle.cert_text.specs.declared.bounds.Bounds.{Bounds}
use Rattle.cert_text.specs.declared.pair.Pair.{Pair}
use Rattle.cert_text.specs.Certificates.{IsBefore, IsBelow, Rise, most_pairs}
use Rattle.edge_trace.specs.Rows.{numbers_of}
use Rattle.cert_text.specs.CertificateTexts.{title, edge_line, pair_line, danger_lines, pairs_lines, end_line}
use Rattle.cert_text.specs.Faults.{IsReadTo}
use Rattle.line_text.specs.Values.{IsDigest, HasNumber, HasDigest, value_line}
use Rattle.cert_text.specs.Rules.{Rule, c1, c2, c3, c4, c5, c6, c7, c8, c9, Keeps, IsFirstFault, SaysEdges, SaysPairs}
use Rattle.cert_text.proofs.AskedLemmas.{IsOnly, only_head, only_one, edges_same}
use Rattle.cert_text.proofs.ItemLemmas.{AreItems, items_read}
use Rattle.line_text.proofs.LawsOfTexts.{in_rest, has_next, line_next, some_line}
use Rattle.line_text.proofs.LawsOfValues.{IsPlain, lacks_newline, plain_word, plain_value, plain_decimal, plain_digest}
use Rattle.cert_text.proofs.PlainLemmas.{plain_edge, plain_pair}
use Rattle.cert_text.proofs.ReadLemmas.{none_read, one_more, fault_next, at_line}
use Rattle.edge_trace.proofs.LawsOfNumbers.{few-numbers_of}
use Rattle.cert_text.proofs.RowLemmas.{rise-numbers_of}
use Rattle.cert_text.proofs.SameLemmas.{IsSmall, number_same, pair_same, danger_below}

-- ---- a line of a digest, and one of a number

pub digest_read : (bounds : Bounds) (text rest left word digest : List ℕ) (n : ℕ) (rule : Rule) → IsOnly bounds text (n + 1) rule → lacks_newline word ≡ true → (HasDigest text (n + 1) word → Keeps bounds text rule (n + 1))
    → IsReadTo bounds text n rest → rest ≡ value_line word (encode_lower digest) ++ 10 ∷ left → IsDigest digest → IsReadTo bounds text (n + 1) left
digest_read bounds text rest left word digest n rule only plain keeps read cut good =
    one_more bounds text rest (value_line word (encode_lower digest)) left n rule only read cut (plain_value word (encode_lower digest) plain (plain_digest digest good)) (λ has. keeps (digest, good, has))

pub number_read : (bounds : Bounds) (text rest left word : List ℕ) (most number n : ℕ) (rule : Rule) → IsOnly bounds text (n + 1) rule → lacks_newline word ≡ true → (HasNumber text (n + 1) word most number → Keeps bounds text rule (n + 1))
    → IsReadTo bounds text n rest → rest ≡ value_line word (decimal number) ++ 10 ∷ left → number ≤ most → number < 2 ^ 64 → IsReadTo bounds text (n + 1) left × HasNumber text (n + 1) word most number
number_read bounds text rest left word most number n rule only plain keeps read cut few small =
    let line_plain : IsPlain (value_line word (decimal number)) = plain_value word (decimal number) plain (plain_decimal number small) in
    (one_more bounds text rest (value_line word (decimal number)) left n rule only read cut line_plain (λ has. keeps (few, has)), (few, has_next text rest (value_line word (decimal number)) left n read.lines cut line_plain))

-- ---- the first three lines

pub title_read : (bounds : Bounds) (text left : List ℕ) → text ≡ title ++ 10 ∷ left → IsReadTo bounds text 1 left
title_read bounds text left cut = one_more bounds text text title left 0 c1 (only_head bounds text 1 c1 (omega arith) refl) (none_read bounds text) cut (plain_word title refl) (λ has. has)

pub old_read : (bounds : Bounds) (text rest left digest : List ℕ) → IsReadTo bounds text 1 rest → rest ≡ value_line (codes "old") (encode_lower digest) ++ 10 ∷ left → IsDigest digest → IsReadTo bounds text 2 left
old_read bounds text rest left digest read cut good = digest_read bounds text rest left (codes "old") digest 1 c2 (only_head bounds text 2 c2 (omega arith) refl) refl (λ has. has) read cut good

pub new_read : (bounds : Bounds) (text rest left digest : List ℕ) → IsReadTo bounds text 2 rest → rest ≡ value_line (codes "new") (encode_lower digest) ++ 10 ∷ left → IsDigest digest → IsReadTo bounds text 3 left
new_read bounds text rest left digest read cut good = digest_read bounds text rest left (codes "new") digest 2 c3 (only_head bounds text 3 c3 (omega arith) refl) refl (λ has. has) read cut good

pub head_read : (bounds : Bounds) (text old new rest : List ℕ) → IsDigest old → IsDigest new
    → text ≡ text_of_lines (title ∷ value_line (codes "old") (encode_lower old) ∷ value_line (codes "new") (encode_lower new) ∷ []) ++ rest → IsReadTo bounds text 3 rest
head_read bounds text old new rest good good' cut =
    let last : List ℕ = value_line (codes "new") (encode_lower new) ++ 10 ∷ [] in
    let one = title_read bounds text ((value_line (codes "old") (encode_lower old) ++ 10 ∷ last) ++ rest) (cut ∙ next_line title (value_line (codes "old") (encode_lower old) ++ 10 ∷ last)) in
    let two = old_read bounds text ((value_line (codes "old") (encode_lower old) ++ 10 ∷ last) ++ rest) (last ++ rest) old one (next_line (value_line (codes "old") (encode_lower old)) last) good in
    new_read bounds text (last ++ rest) rest new two (next_line (value_line (codes "new") (encode_lower new)) []) good'
  where
    next_line : (line more : List ℕ) → (line ++ 10 ∷ more) ++ rest ≡ line ++ 10 ∷ (more ++ rest)
    next_line line more = append_assoc line (10 ∷ more) rest

pub title_fault : (bounds : Bounds) (text : List ℕ) → ¬ HasLine text 1 title → IsFirstFault bounds text 1 1
title_fault bounds text none = fault_next bounds text text 0 c1 refl (none_read bounds text) none

pub old_fault : (bounds : Bounds) (text rest : List ℕ) → IsReadTo bounds text 1 rest → ¬ HasDigest rest 1 (codes "old") → IsFirstFault bounds text 2 2
old_fault bounds text rest read none = fault_next bounds text rest 1 c2 refl read (λ keeps. none (keeps.0, keeps.1, in_rest text rest 1 (value_line (codes "old") (encode_lower keeps.0)) read.lines keeps.2))

pub new_fault : (bounds : Bounds) (text rest : List ℕ) → IsReadTo bounds text 2 rest → ¬ HasDigest rest 1 (codes "new") → IsFirstFault bounds text 3 3
new_fault bounds text rest read none = fault_next bounds text rest 2 c3 refl read (λ keeps. none (keeps.0, keeps.1, in_rest text rest 2 (value_line (codes "new") (encode_lower keeps.0)) read.lines keeps.2))

-- ---- the edges

pub count_read : (bounds : Bounds) (text rest left : List ℕ) (count : ℕ) → bounds.edges ≤ 10000 → IsReadTo bounds text 3 rest → rest ≡ value_line (codes "dangerous") (decimal count) ++ 10 ∷ left → count ≤ bounds.edges
    → IsReadTo bounds text 4 left × SaysEdges bounds text count
count_read bounds text rest left count small read cut few = number_read bounds text rest left (codes "dangerous") bounds.edges count 3 c4 (only_head bounds text 4 c4 (omega arith) refl) refl (λ has. (count, has)) read cut few (omega arith)

pub count_fault : (bounds : Bounds) (text rest : List ℕ) → IsReadTo bounds text 3 rest → ((count : ℕ) → ¬ HasNumber rest 1 (codes "dangerous") bounds.edges count) → IsFirstFault bounds text 4 4
count_fault bounds text rest read none = fault_next bounds text rest 3 c4 refl read (λ keeps. none keeps.0 (keeps.1.0, in_rest text rest 3 (value_line (codes "dangerous") (decimal keeps.0)) read.lines keeps.1.1))

pub edge_items : (bounds : Bounds) (text : List ℕ) (count : ℕ) → bounds.edges ≤ 10000 → SaysEdges bounds text count → AreItems bounds text ℕ c5 4 count edge_line (λ e. e < bounds.edges) (λ a b. a < b)
edge_items bounds text count small says = record {
  asked = λ n low high. only_one bounds text n c5 small (count, says, low, high);
  late = λ n asked. asked.2;
  plain = λ e below. plain_edge e (omega arith);
  same = λ x y hx hy is. number_same (codes "edge") x y (omega arith) (omega arith) is;
  keeps = λ n x fine has up. (x, (fine, has), up);
  kept = λ n keeps. (keeps.0, keeps.1.0, keeps.1.1, keeps.2);
}

pub edges_read : (bounds : Bounds) (text rest left : List ℕ) (row : List Bool) → bounds.edges ≤ 10000 → length row ≡ bounds.edges → IsReadTo bounds text 3 rest → rest ≡ text_of_lines (danger_lines row) ++ left
    → SaysEdges bounds text (length (numbers_of row)) × IsReadTo bounds text (4 + length (numbers_of row)) left
edges_read bounds text rest left row small size read cut =
    let few : length (numbers_of row) ≤ bounds.edges = omega (arith, few-numbers_of row) in
    let first = count_read bounds text rest _ (length (numbers_of row)) small read (cut ∙ append_assoc (value_line (codes "dangerous") (decimal (length (numbers_of row)))) (10 ∷ text_of_lines (map edge_line (numbers_of row))) left) few in
    let items = items_read bounds text ℕ c5 4 (length (numbers_of row)) edge_line (λ e. e < bounds.edges) (λ a b. a < b) (edge_items bounds text (length (numbers_of row)) small first.1)
    (numbers_of row) 4 _ left None first.0 refl (omega arith) (omega arith) (danger_below bounds row size) (rise-numbers_of row) refl in
    (first.1, items.0)

-- ---- the pairs

pub pairs_count_read : (bounds : Bounds) (text rest left : List ℕ) (edges count : ℕ) → bounds.edges ≤ 10000 → SaysEdges bounds text edges → IsReadTo bounds text (4 + edges) rest → rest ≡ value_line (codes "pairs") (decimal count) ++ 10 ∷ left → count ≤ most_pairs
    → IsReadTo bounds text (5 + edges) left × SaysPairs bounds text edges count
pairs_count_read bounds text rest left edges count small says read cut few =
    let next : 4 + edges + 1 ≡ 5 + edges = omega arith in
    let one = number_read bounds text rest left (codes "pairs") most_pairs count (4 + edges) c6 (only_one bounds text (4 + edges + 1) c6 small (edges, says, next)) refl (λ has. (count, has)) read cut few (omega arith) in
    (at_line bounds text left (4 + edges + 1) (5 + edges) next one.0, (says, subst (λ k. HasNumber text k (codes "pairs") most_pairs count) next one.1))

pub pairs_count_fault : (bounds : Bounds) (text rest : List ℕ) (edges : ℕ) → SaysEdges bounds text edges → IsReadTo bounds text (4 + edges) rest → ((count : ℕ) → ¬ HasNumber rest 1 (codes "pairs") most_pairs count) → IsFirstFault bounds text (5 + edges) 6
pairs_count_fault bounds text rest edges says read none =
    let next : 4 + edges + 1 ≡ 5 + edges = omega arith in
    subst (λ k. IsFirstFault bounds text k 6) next
    (fault_next bounds text rest (4 + edges) c6 (edges, says, next) read (λ keeps. none keeps.0 (keeps.1.0, in_rest text rest (4 + edges) (value_line (codes "pairs") (decimal keeps.0)) read.lines keeps.1.1)))

pub pair_items : (bounds : Bounds) (text : List ℕ) (edges count : ℕ) → IsSmall bounds → SaysPairs bounds text edges count → AreItems bounds text Pair c7 (5 + edges) count pair_line (IsBelow bounds) IsBefore
pair_items bounds text edges count small says = record {
  asked = λ n low high. only_one bounds text n c7 small.edges (edges, count, says, low, high);
  late = λ n asked. omega (arith, asked.3, edges_same bounds text asked.0 edges small.edges asked.2.0 says.0);
  plain = λ p below. plain_pair p (omega (arith, below.0, small.old)) (omega (arith, below.1, small.new));
  same = λ x y hx hy is. pair_same bounds x y small hx hy is;
  keeps = λ n x fine has up. (x, (fine, has), up);
  kept = λ n keeps. (keeps.0, keeps.1.0, keeps.1.1, keeps.2);
}

pub pairs_read : (bounds : Bounds) (text rest left : List ℕ) (edges : ℕ) (pairs : List Pair) → IsSmall bounds → SaysEdges bounds text edges → IsReadTo bounds text (4 + edges) rest → rest ≡ text_of_lines (pairs_lines pairs) ++ left
    → All (IsBelow bounds) pairs → Rise pairs → length pairs ≤ most_pairs → SaysPairs bounds text edges (length pairs) × IsReadTo bounds text (5 + edges + length pairs) left
pairs_read bounds text rest left edges pairs small says read cut below rise few =
    let first = pairs_count_read bounds text rest _ edges (length pairs) small.edges says read (cut ∙ append_assoc (value_line (codes "pairs") (decimal (length pairs))) (10 ∷ text_of_lines (map pair_line pairs)) left) few in
    let items = items_read bounds text Pair c7 (5 + edges) (length pairs) pair_line (IsBelow bounds) IsBefore (pair_items bounds text edges (length pairs) small first.1)
    pairs (5 + edges) _ left None first.0 refl (omega arith) (omega arith) below rise refl in
    (first.1, items.0)

-- ---- the last line

pub end_read : (bounds : Bounds) (text rest left sum : List ℕ) (edges pairs n : ℕ) → bounds.edges ≤ 10000 → SaysPairs bounds text edges pairs → n ≡ 5 + edges + pairs → IsReadTo bounds text n rest
    → rest ≡ end_line sum ++ 10 ∷ left → IsDigest sum → IsReadTo bounds text (n + 1) left
end_read bounds text rest left sum edges pairs n small says at read cut good =
    digest_read bounds text rest left (codes "end") sum n c8 (only_one bounds text (n + 1) c8 small (edges, pairs, says, omega arith)) refl (λ has. has) read cut good

pub no_end : (bounds : Bounds) (text rest : List ℕ) (edges pairs n : ℕ) → SaysPairs bounds text edges pairs → n ≡ 5 + edges + pairs → IsReadTo bounds text n rest → ¬ HasDigest rest 1 (codes "end") → IsFirstFault bounds text (n + 1) 8
no_end bounds text rest edges pairs n says at read none =
    fault_next bounds text rest n c8 (edges, pairs, says, omega arith) read
    (λ keeps. none (keeps.0, keeps.1, in_rest text rest n (value_line (codes "end") (encode_lower keeps.0)) read.lines keeps.2))

pub more_after : (bounds : Bounds) (text rest left sum : List ℕ) (edges pairs n : ℕ) → bounds.edges ≤ 10000 → SaysPairs bounds text edges pairs → n ≡ 5 + edges + pairs → IsReadTo bounds text n rest
    → rest ≡ end_line sum ++ 10 ∷ left → IsDigest sum → left ≢ [] → IsFirstFault bounds text (n + 2) 9
more_after bounds text rest left sum edges pairs n small says at read cut good some =
    let end : IsReadTo bounds text (n + 1) left = end_read bounds text rest left sum edges pairs n small says at read cut good in
    let next : n + 1 + 1 ≡ n + 2 = omega arith in
    subst (λ k. IsFirstFault bounds text k 9) next
    (fault_next bounds text left (n + 1) c9 (edges, pairs, says, omega arith) end (λ keeps. some_line left some (sym (line_next text left (n + 1) end.lines) ∙ keeps)))
