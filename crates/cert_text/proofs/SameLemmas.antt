-- A text is that of one certificate.
use Rattle.std.proofs.Common.{◌≡◌, ◌≢◌, ◌<◌, ◌≤◌, ◌^◌, ℕ, Bool, true, List, [], ◌∷◌, ◌++◌, length, map, drop, codes, refl, sym, ap, subst, ◌∙◌, arith, append_assoc, append-nil}
use Rattle.std.specs.Fmt.{decimal}
use Rattle.std.specs.List.{All}
use Rattle.std.proofs.lemmas.Fmt.{decimal_injective}
use Rattle.std.proofs.lemmas.List.{append_cancel_left}
use Rattle.std.proofs.lemmas.List.Elements.{All-nil, All-cons, All-head, All-tail, All-append, All-map, All-weaker}
use Rattle.hex.specs.Hex.{encode_lower}
use Rattle.line_text.specs.Bytes.{bytes_or_dash}
use Rattle.line_text.specs.Lines.{TextLine, lines_of, line_with, text_of_lines}
use Rattle.line_text.specs.Words.{line_of_words, pieces}
use Rattle.line_text.proofs.Laws.{lines_of-text_of_lines, bytes_or_dash-injective, pieces-line_of_words, IsWord-decimal}
use Rattle.cert_text.specs.declared.bounds.Bounds.{Bounds}
use Rattle.cert_text.specs.declared.pair.Pair.{Pair}
use Rattle.cert_text.specs.Certificates.{CertificateParts, IsBelow, IsReadable}
use Rattle.edge_trace.specs.Rows.{numbers_of}
use Rattle.cert_text.specs.CertificateTexts.{title, edge_line, pair_line, first_lines, danger_lines, pairs_lines, end_line, text_with_sum}
use Rattle.line_text.specs.Values.{IsDigest, value_line}
use Rattle.line_text.proofs.LawsOfValues.{IsPlain, plain_word, plain_value, plain_decimal, plain_digest}
use Rattle.cert_text.proofs.PlainLemmas.{plain_edge, plain_pair}
use Rattle.edge_trace.proofs.LawsOfNumbers.{numbers_of-injective, below-numbers_of, few-numbers_of}
use Rattle.line_text.proofs.LawsOfTexts.{lines_append}

-- the numbers of programs that a reader meets
pub record IsSmall (bounds : Bounds) : Type 0 where
  pub edges : bounds.edges ≤ 10000
  pub old : bounds.old_points < 2 ^ 32
  pub new : bounds.new_points < 2 ^ 32

-- ---- a value has one line

pub value_same : (word a b : List ℕ) → value_line word a ≡ value_line word b → a ≡ b
value_same word a b is = cc (append_cancel_left word (32 ∷ a) (32 ∷ b) is)

pub number_same : (word : List ℕ) (a b : ℕ) → a < 2 ^ 64 → b < 2 ^ 64 → value_line word (decimal a) ≡ value_line word (decimal b) → a ≡ b
number_same word a b small small' is = decimal_injective a b small small' (value_same word (decimal a) (decimal b) is)

digest_word : (digest : List ℕ) → IsDigest digest → bytes_or_dash digest ≡ encode_lower digest
digest_word [] h = absurd (omega (arith, h.size))
digest_word (byte ∷ more) h = refl

pub digest_same : (word a b : List ℕ) → IsDigest a → IsDigest b → value_line word (encode_lower a) ≡ value_line word (encode_lower b) → a ≡ b
digest_same word a b ha hb is =
    bytes_or_dash-injective a b ha.bytes hb.bytes (digest_word a ha ∙ value_same word (encode_lower a) (encode_lower b) is ∙ sym (digest_word b hb))

-- the words of a pair
pub pieces_of_two : (a b : ℕ) → a < 2 ^ 64 → b < 2 ^ 64 → pieces (line_of_words (decimal a ∷ decimal b ∷ [])) ≡ decimal a ∷ decimal b ∷ []
pieces_of_two a b small small' =
    let Spaceless : List ℕ → Type 0 = λ word. All (λ byte. byte ≢ 32) word in
    pieces-line_of_words (decimal a ∷ decimal b ∷ []) (λ none. cc none)
    (All-cons Spaceless (decimal a) (decimal b ∷ []) (IsWord-decimal a small).no_space (All-cons Spaceless (decimal b) [] (IsWord-decimal b small').no_space (All-nil Spaceless)))

abbrev pair_with : ℕ → ℕ → Pair
pair_with old new = record { old = old; new = new }

pair_parts : (x y : Pair) → x.old ≡ y.old → x.new ≡ y.new → x ≡ y
pair_parts x y olds news = ap (λ old. pair_with old x.new) olds ∙ ap (λ new. pair_with y.old new) news

two_same : (a b c d : List ℕ) → (a ∷ b ∷ []) ≡ (c ∷ d ∷ []) → (a ≡ c) × (b ≡ d)
two_same a b c d is = (cc is, cc is)

pub pair_same : (bounds : Bounds) (x y : Pair) → IsSmall bounds → IsBelow bounds x → IsBelow bounds y → pair_line x ≡ pair_line y → x ≡ y
pair_same bounds x y small hx hy is =
    let words : line_of_words (decimal x.old ∷ decimal x.new ∷ []) ≡ line_of_words (decimal y.old ∷ decimal y.new ∷ []) =
    value_same (codes "pair") (line_of_words (decimal x.old ∷ decimal x.new ∷ [])) (line_of_words (decimal y.old ∷ decimal y.new ∷ [])) is in
    let one = pieces_of_two x.old x.new (omega (arith, hx.0, small.old)) (omega (arith, hx.1, small.new)) in
    let two = pieces_of_two y.old y.new (omega (arith, hy.0, small.old)) (omega (arith, hy.1, small.new)) in
    let both = two_same _ _ _ _ (sym one ∙ ap pieces words ∙ two) in
    pair_parts x y (decimal_injective x.old y.old (omega (arith, hx.0, small.old)) (omega (arith, hy.0, small.old)) both.0)
    (decimal_injective x.new y.new (omega (arith, hx.1, small.new)) (omega (arith, hy.1, small.new)) both.1)

-- ---- lists of things by their lines

pub items_same : {X : Type 0} (line : X → List ℕ) (good : X → Type 0) (a b : List X) (more other : List (List ℕ)) → ((x y : X) → good x → good y → line x ≡ line y → x ≡ y) → All good a → All good b
    → length a ≡ length b → map line a ++ more ≡ map line b ++ other → (a ≡ b) × (more ≡ other)
items_same line good [] [] more other same ha hb size is = (refl, is)
items_same line good [] (y ∷ b) more other same ha hb size is = absurd (omega arith)
items_same line good (x ∷ a) [] more other same ha hb size is = absurd (omega arith)
items_same line good (x ∷ a) (y ∷ b) more other same ha hb size is =
    let both = first_same (line x) (line y) (map line a ++ more) (map line b ++ other) is in
    let first : x ≡ y = same x y (All-head good x a ha) (All-head good y b hb) both.0 in
    let rest = items_same line good a b more other same (All-tail good x a ha) (All-tail good y b hb) (omega arith) both.1 in
    (cc (first, rest.0), rest.1)
  where
    first_same : (u v : List ℕ) (us vs : List (List ℕ)) → (u ∷ us) ≡ (v ∷ vs) → (u ≡ v) × (us ≡ vs)
    first_same u v us vs e = (cc e, cc e)

-- ---- whole texts

-- all lines of a text
abbrev all_lines : CertificateParts → List ℕ → List (List ℕ)
all_lines certificate sum = first_lines certificate ++ (danger_lines certificate.danger ++ (pairs_lines certificate.pairs ++ end_line sum ∷ []))

plain_edges : (bound : ℕ) (edges : List ℕ) → bound ≤ 10000 → All (λ e. e < bound) edges → All (λ line. All (λ byte. byte ≢ 10) line) (map edge_line edges)
plain_edges bound edges small below =
    All-map (λ line. All (λ byte. byte ≢ 10) line) edge_line edges (All-weaker (λ e. e < bound) (λ e. All (λ byte. byte ≢ 10) (edge_line e)) (λ e under. plain_edge e (omega arith)) edges below)

plain_pairs : (bounds : Bounds) (pairs : List Pair) → IsSmall bounds → All (IsBelow bounds) pairs → All (λ line. All (λ byte. byte ≢ 10) line) (map pair_line pairs)
plain_pairs bounds pairs small below =
    All-map (λ line. All (λ byte. byte ≢ 10) line) pair_line pairs
    (All-weaker (IsBelow bounds) (λ p. All (λ byte. byte ≢ 10) (pair_line p)) (λ p under. plain_pair p (omega (arith, under.0, small.old)) (omega (arith, under.1, small.new))) pairs below)

pub danger_below : (bounds : Bounds) (row : List Bool) → length row ≡ bounds.edges → All (λ e. e < bounds.edges) (numbers_of row)
danger_below bounds row size = subst (λ n. All (λ e. e < n) (numbers_of row)) size (below-numbers_of row)

plain_lines : (bounds : Bounds) (certificate : CertificateParts) (sum : List ℕ) → IsSmall bounds → IsReadable bounds certificate → IsDigest sum → All IsPlain (all_lines certificate sum)
plain_lines bounds certificate sum small h good =
    let last : List (List ℕ) = end_line sum ∷ [] in
    let pairs : List (List ℕ) = map pair_line certificate.pairs ++ last in
    let edges : List (List ℕ) = map edge_line (numbers_of certificate.danger) ++ (value_line (codes "pairs") (decimal (length certificate.pairs)) ∷ pairs) in
    let count : List (List ℕ) = value_line (codes "dangerous") (decimal (length (numbers_of certificate.danger))) ∷ edges in
    All-cons IsPlain title (drop 1 (all_lines certificate sum)) (plain_word title refl)
    (All-cons IsPlain (value_line (codes "old") (encode_lower certificate.old)) (drop 2 (all_lines certificate sum)) (plain_value (codes "old") (encode_lower certificate.old) refl (plain_digest certificate.old h.old))
    (All-cons IsPlain (value_line (codes "new") (encode_lower certificate.new)) count (plain_value (codes "new") (encode_lower certificate.new) refl (plain_digest certificate.new h.new))
    (All-cons IsPlain (value_line (codes "dangerous") (decimal (length (numbers_of certificate.danger)))) edges
    (plain_value (codes "dangerous") (decimal (length (numbers_of certificate.danger))) refl (plain_decimal (length (numbers_of certificate.danger)) (omega (arith, few-numbers_of certificate.danger, h.edges, small.edges))))
    (All-append IsPlain (map edge_line (numbers_of certificate.danger)) (value_line (codes "pairs") (decimal (length certificate.pairs)) ∷ pairs) (plain_edges bounds.edges (numbers_of certificate.danger) small.edges (danger_below bounds certificate.danger h.edges))
    (All-cons IsPlain (value_line (codes "pairs") (decimal (length certificate.pairs))) pairs
    (plain_value (codes "pairs") (decimal (length certificate.pairs)) refl (plain_decimal (length certificate.pairs) (omega (arith, h.within.few))))
    (All-append IsPlain (map pair_line certificate.pairs) last (plain_pairs bounds certificate.pairs small h.below)
    (All-cons IsPlain (end_line sum) [] (plain_value (codes "end") (encode_lower sum) refl (plain_digest sum good)) (All-nil IsPlain))))))))

text_lines : (certificate : CertificateParts) (sum : List ℕ) → text_with_sum certificate sum ≡ text_of_lines (all_lines certificate sum) ++ []
text_lines certificate sum =
    let one : List ℕ = text_of_lines (first_lines certificate) in
    let two : List ℕ = text_of_lines (danger_lines certificate.danger) in
    let three : List ℕ = text_of_lines (pairs_lines certificate.pairs) in
    let last : List ℕ = text_of_lines (end_line sum ∷ []) in
    append_assoc one (two ++ three) last ∙ ap (λ r. one ++ r) (append_assoc two three last)
    ∙ ap (λ r. one ++ (two ++ (three ++ r))) (sym (append-nil last))
    ∙ ap (λ r. one ++ (two ++ r)) (sym (lines_append (pairs_lines certificate.pairs) (end_line sum ∷ []) []))
    ∙ ap (λ r. one ++ r) (sym (lines_append (danger_lines certificate.danger) (pairs_lines certificate.pairs ++ end_line sum ∷ []) []))
    ∙ sym (lines_append (first_lines certificate) (danger_lines certificate.danger ++ (pairs_lines certificate.pairs ++ end_line sum ∷ [])) [])

ended_same : (a b : List (List ℕ)) → map (λ line. line_with line true) a ≡ map (λ line. line_with line true) b → a ≡ b
ended_same a b is = sym (back a) ∙ ap (map bytes_in) is ∙ back b
  where
    bytes_in : TextLine → List ℕ
    bytes_in line = line.bytes

    back : (lines : List (List ℕ)) → map bytes_in (map (λ line. line_with line true) lines) ≡ lines
    back [] = refl
    back (line ∷ more) = ap (λ rest. line ∷ rest) (back more)

lines_same : (bounds : Bounds) (a b : CertificateParts) (s t : List ℕ) → IsSmall bounds → IsReadable bounds a → IsReadable bounds b → IsDigest s → IsDigest t → text_with_sum a s ≡ text_with_sum b t → all_lines a s ≡ all_lines b t
lines_same bounds a b s t small ha hb hs ht is =
    ended_same (all_lines a s) (all_lines b t)
    (sym (append-nil _) ∙ sym (lines_of-text_of_lines (all_lines a s) [] (plain_lines bounds a s small ha hs))
    ∙ ap lines_of (sym (text_lines a s) ∙ is ∙ text_lines b t)
    ∙ lines_of-text_of_lines (all_lines b t) [] (plain_lines bounds b t small hb ht) ∙ append-nil _)

four_same : (a b c d a' b' c' d' : List ℕ) (more more' : List (List ℕ)) → (a ∷ b ∷ c ∷ d ∷ more) ≡ (a' ∷ b' ∷ c' ∷ d' ∷ more') → (b ≡ b') × (c ≡ c') × (d ≡ d') × (more ≡ more')
four_same a b c d a' b' c' d' more more' is = (cc is, cc is, cc is, cc is)

count_same : (a b : List ℕ) (more more' : List (List ℕ)) → (a ∷ more) ≡ (b ∷ more') → (a ≡ b) × (more ≡ more')
count_same a b more more' is = (cc is, cc is)

last_same : (a b : List ℕ) → ◌≡◌ {A = List (List ℕ)} (a ∷ []) (b ∷ []) → a ≡ b
last_same a b is = cc is

abbrev certificate_with : List ℕ → List ℕ → List Bool → List Pair → CertificateParts
certificate_with old new danger pairs = record { old = old; new = new; danger = danger; pairs = pairs }

certificate_parts : (a b : CertificateParts) → a.old ≡ b.old → a.new ≡ b.new → a.danger ≡ b.danger → a.pairs ≡ b.pairs → a ≡ b
certificate_parts a b olds news dangers pairs =
    ap (λ old. certificate_with old a.new a.danger a.pairs) olds ∙ ap (λ new. certificate_with b.old new a.danger a.pairs) news
    ∙ ap (λ row. certificate_with b.old b.new row a.pairs) dangers ∙ ap (λ ps. certificate_with b.old b.new b.danger ps) pairs

pub certificates_same : (bounds : Bounds) (a b : CertificateParts) (s t : List ℕ) → IsSmall bounds → IsReadable bounds a → IsReadable bounds b → IsDigest s → IsDigest t → text_with_sum a s ≡ text_with_sum b t → (a ≡ b) × (s ≡ t)
certificates_same bounds a b s t small ha hb hs ht is =
    let four = four_same _ _ _ _ _ _ _ _ _ _ (lines_same bounds a b s t small ha hb hs ht is) in
    let olds : a.old ≡ b.old = digest_same (codes "old") a.old b.old ha.old hb.old four.0 in
    let news : a.new ≡ b.new = digest_same (codes "new") a.new b.new ha.new hb.new four.1 in
    let counts : length (numbers_of a.danger) ≡ length (numbers_of b.danger) =
    number_same (codes "dangerous") (length (numbers_of a.danger)) (length (numbers_of b.danger)) (omega (arith, few-numbers_of a.danger, ha.edges, small.edges)) (omega (arith, few-numbers_of b.danger, hb.edges, small.edges)) four.2 in
    let edges = items_same edge_line (λ e. e < bounds.edges) (numbers_of a.danger) (numbers_of b.danger) _ _ (λ x y hx hy e. number_same (codes "edge") x y (omega (arith, hx, small.edges)) (omega (arith, hy, small.edges)) e)
    (danger_below bounds a.danger ha.edges) (danger_below bounds b.danger hb.edges) counts four.3 in
    let rows : a.danger ≡ b.danger = numbers_of-injective a.danger b.danger (ha.edges ∙ sym hb.edges) edges.0 in
    let five = count_same _ _ _ _ edges.1 in
    let sizes : length a.pairs ≡ length b.pairs = number_same (codes "pairs") (length a.pairs) (length b.pairs) (omega (arith, ha.within.few)) (omega (arith, hb.within.few)) five.0 in
    let pairs = items_same pair_line (IsBelow bounds) a.pairs b.pairs _ _ (λ x y hx hy e. pair_same bounds x y small hx hy e) ha.below hb.below sizes five.1 in
    (certificate_parts a b olds news rows pairs.0, digest_same (codes "end") s t hs ht (last_same _ _ pairs.1))
