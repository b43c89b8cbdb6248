-- Gains and covered edges.
use Rattle.std.proofs.Common.{◌≡◌, ◌<◌, ◌≤◌, ℕ, Bool, true, false, cond, not, ◌&&◌, ◌||◌, ◌⊎◌, inl, inr, true≢false, List, [], ◌∷◌, ◌++◌, length, get_or, map, refl, sym, ap, ◌∙◌, arith}
use Rattle.std.specs.List.{list_any, range_with_len}
use Rattle.std.proofs.lemmas.Bool.{cases_lt, and_parts, and_from, or_left, not-true, not_from_false, false_from_ne_true, both_ways}
use Rattle.std.proofs.lemmas.List.Sums.{sum_by-cons}
use Rattle.std.proofs.lemmas.List.{get_or-map, length-map}
use Rattle.std.proofs.lemmas.List.Elements.{All-map}
use Rattle.std.proofs.lemmas.List.Folds.{list_any-append}
use Rattle.edge_trace.specs.Rows.{has, below, size, union}
use Rattle.edge_trace.proofs.Laws.{same_rows, has_past, length-below, has-below, length-union, has-union}
use Rattle.test_history.specs.Histories.{EntryParts, HaveRows}
use Rattle.test_order.specs.declared.placed.Placed.{Placed}
use Rattle.test_order.specs.Orders.{row_of, covered, gain_after}
use Rattle.test_order.specs.Counts.{gain_beyond}

-- the row of a test is that of its entry, and has the bound of all rows
pub row_at : (entries : List EntryParts) (test : ℕ) (d : EntryParts) → test < length entries → row_of entries test ≡ (get_or entries test d).crossed
row_at entries test d stands = get_or-map (λ entry. entry.crossed) entries test d [] stands

pub row_bound : (entries : List EntryParts) (edges test : ℕ) → HaveRows edges entries → test < length entries → length (row_of entries test) ≡ edges
row_bound entries edges test rows stands =
    All-map (λ row. length row ≡ edges) (λ (entry : EntryParts). entry.crossed) entries rows test [] (omega (arith, length-map entries (λ (entry : EntryParts). entry.crossed), stands))

-- the gain beyond the covered edges is the gain after the placed tests
pub gain_is : (entries : List EntryParts) (edges test : ℕ) (seen : List Bool) (placed : List Placed) → HaveRows edges entries → test < length entries → seen ≡ covered entries edges placed
    → gain_beyond entries seen test ≡ gain_after entries placed test
gain_is entries edges test seen placed rows stands same =
    ap (λ set. gain_beyond entries set test) (same ∙ ap (λ bound. covered entries bound placed) (sym (row_bound entries edges test rows stands)))

-- `or` with nothing more
pub or_none : (a : Bool) → (a || false) ≡ a
or_none true = refl
or_none false = refl

-- the edges of one more test
pub covered_more : (entries : List EntryParts) (edges : ℕ) (d : EntryParts) (seen : List Bool) (placed : List Placed) (next : Placed) → HaveRows edges entries → next.at < length entries
    → seen ≡ covered entries edges placed → union seen (get_or entries next.at d).crossed ≡ covered entries edges (placed ++ next ∷ [])
covered_more entries edges d seen placed next rows stands same =
    let crosses : ℕ → Placed → Bool = λ edge place. has (row_of entries place.at) edge in
    let long : length seen ≡ edges = ap length same ∙ length-below edges (λ edge. list_any (crosses edge) placed) in
    let row : row_of entries next.at ≡ (get_or entries next.at d).crossed = row_at entries next.at d stands in
    let bound : length (get_or entries next.at d).crossed ≡ edges = rows next.at d stands in
    let whole : length (union seen (get_or entries next.at d).crossed) ≡ edges = length-union seen (get_or entries next.at d).crossed ∙ long in
    same_rows _ _ (whole ∙ sym (length-below edges (λ edge. list_any (crosses edge) (placed ++ next ∷ []))))
    (λ edge below.
    let under : edge < edges = omega (arith, whole, below) in
    has-union seen (get_or entries next.at d).crossed (long ∙ sym bound) edge
    ∙ ap (λ b. b || has (get_or entries next.at d).crossed edge) (ap (λ set. has set edge) same ∙ has-below edges (λ e. list_any (crosses e) placed) edge under)
    ∙ ap (λ r. list_any (crosses edge) placed || has r edge) (sym row)
    ∙ sym (has-below edges (λ e. list_any (crosses e) (placed ++ next ∷ [])) edge under ∙ list_any-append (crosses edge) placed (next ∷ []) ∙ ap (λ b. list_any (crosses edge) placed || b) (or_none (crosses edge next))))

-- ---- a gain never grows

-- a test that passes only where another does counts no more
one_le : (a b : Bool) → (a ≡ true → b ≡ true) → cond a 1 0 ≤ cond b 1 0
one_le true b more = let same : b ≡ true = more refl in rw same (omega arith)
one_le false b more = omega arith

count_map_le : (one other : ℕ → Bool) → ((edge : ℕ) → one edge ≡ true → other edge ≡ true) → (edges : List ℕ) → size (map one edges) ≤ size (map other edges)
count_map_le one other more [] = omega arith
count_map_le one other more (edge ∷ edges) =
    omega (arith, sum_by-cons (λ b. cond b 1 0) (one edge) (map one edges), sum_by-cons (λ b. cond b 1 0) (other edge) (map other edges), one_le (one edge) (other edge) (more edge), count_map_le one other more edges)

-- the numbers below a bound that pass a narrower test are not more
size_below_le : (bound : ℕ) (one other : ℕ → Bool) → ((edge : ℕ) → one edge ≡ true → other edge ≡ true) → size (below bound one) ≤ size (below bound other)
unfolding below
size_below_le bound one other more = count_map_le one other more (range_with_len 0 bound)

-- what is covered stays covered
covered_stays : (entries : List EntryParts) (bound : ℕ) (placed : List Placed) (next : Placed) (edge : ℕ) → has (covered entries bound placed) edge ≡ true → has (covered entries bound (placed ++ next ∷ [])) edge ≡ true
covered_stays entries bound placed next edge held = at (cases_lt edge bound)
  where
    crosses : Placed → Bool
    crosses place = has (row_of entries place.at) edge

    at : (edge < bound) ⊎ (bound ≤ edge) → has (covered entries bound (placed ++ next ∷ [])) edge ≡ true
    at (inl under) =
        let before : list_any (λ (place : Placed). has (row_of entries place.at) edge) placed ≡ true = sym (has-below bound (λ e. list_any (λ (place : Placed). has (row_of entries place.at) e) placed) edge under) ∙ held in
        has-below bound (λ e. list_any (λ (place : Placed). has (row_of entries place.at) e) (placed ++ next ∷ [])) edge under
        ∙ list_any-append (λ (place : Placed). has (row_of entries place.at) edge) placed (next ∷ []) ∙ or_left _ _ before
    at (inr past) =
        absurd (true≢false (sym held ∙ has_past (covered entries bound placed) edge (omega (arith, length-below bound (λ e. list_any (λ (place : Placed). has (row_of entries place.at) e) placed)))))

-- so one more test before a test takes gain from it, or leaves it
pub gain_falls : (entries : List EntryParts) (placed : List Placed) (next : Placed) (test : ℕ) → gain_after entries (placed ++ next ∷ []) test ≤ gain_after entries placed test
gain_falls entries placed next test =
    let bound : ℕ = length (row_of entries test) in
    size_below_le bound (λ edge. has (row_of entries test) edge && not (has (covered entries bound (placed ++ next ∷ [])) edge)) (λ edge. has (row_of entries test) edge && not (has (covered entries bound placed) edge))
    (λ edge adds.
    let parts = and_parts (has (row_of entries test) edge) (not (has (covered entries bound (placed ++ next ∷ [])) edge)) adds in
    and_from (has (row_of entries test) edge) (not (has (covered entries bound placed) edge)) parts.0
    (not_from_false (has (covered entries bound placed) edge) (false_from_ne_true (has (covered entries bound placed) edge) (λ held. both_ways (has (covered entries bound (placed ++ next ∷ [])) edge) (not-true (has (covered entries bound (placed ++ next ∷ [])) edge) parts.1) (covered_stays entries bound placed next edge held)))))
