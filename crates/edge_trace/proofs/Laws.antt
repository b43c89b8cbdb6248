-- Laws of rows: what a set has after each call, for proofs here and above.
use Rattle.std.proofs.Common.{◌≡◌, ◌≢◌, ◌<◌, ◌≤◌, ℕ, Bool, true, false, not, ◌&&◌, ◌||◌, ◌⊎◌, inl, inr, IsTrue, List, length, set, replicate, refl, arith, get_or-set_same, get_or-set_other}
use Rattle.std.proofs.lemmas.Bool.{cases_lt}
use Rattle.std.proofs.lemmas.List.{get_or_past, get_or-replicate, ext_get_or, length-replicate}
use Rattle.std.proofs.lemmas.List.FromFn.{length-map-range_with_len, get_or-map-range_with_len}
use Rattle.edge_trace.specs.Rows.{has, below, union, difference}

-- ---- a row by what it has

-- no number from the bound on is in the set
pub has_past : (row : List Bool) (edge : ℕ) → length row ≤ edge → has row edge ≡ false
has_past row edge past = get_or_past row edge false past

-- so a number of the set is below the bound
pub has-within : (row : List Bool) (edge : ℕ) → IsTrue (has row edge) → edge < length row
has-within row edge is_in = at (cases_lt edge (length row))
  where
    at : (edge < length row) ⊎ (length row ≤ edge) → edge < length row
    at (inl within) = within
    at (inr past) = let none : has row edge ≡ false = has_past row edge past in cc

-- rows of the same bound that have the same numbers are one
pub same_rows : (a b : List Bool) → length a ≡ length b → ((edge : ℕ) → edge < length a → has a edge ≡ has b edge) → a ≡ b
same_rows a b bounds each = ext_get_or false a b bounds each

-- ---- `new` and `set`

-- the empty set has no number
pub has-replicate : (bound edge : ℕ) → has (replicate bound false) edge ≡ false
has-replicate bound edge = at (cases_lt edge bound)
  where
    at : (edge < bound) ⊎ (bound ≤ edge) → has (replicate bound false) edge ≡ false
    at (inl under) = get_or-replicate bound edge false false under
    at (inr past) = has_past (replicate bound false) edge (omega (arith, length-replicate bound false))

-- a number that was added is in the set
pub has-set_same : (row : List Bool) (edge : ℕ) → edge < length row → has (set row edge true) edge ≡ true
has-set_same row edge under = get_or-set_same row edge true false under

-- the other numbers are in it as before
pub has-set_other : (row : List Bool) (edge other : ℕ) → other ≢ edge → has (set row edge true) other ≡ has row other
has-set_other row edge other apart = get_or-set_other row edge other true false apart

-- ---- the numbers below a bound that pass a test

-- their row has that bound
pub length-below : (bound : ℕ) (test : ℕ → Bool) → length (below bound test) ≡ bound
unfolding below
length-below bound test = length-map-range_with_len test 0 bound

-- a number below the bound is among them where it passes
pub has-below : (bound : ℕ) (test : ℕ → Bool) (edge : ℕ) → edge < bound → has (below bound test) edge ≡ test edge
unfolding below
has-below bound test edge under = get_or-map-range_with_len test 0 bound edge edge false under (omega arith)

-- ---- `join` and `beyond`

-- two sets together have the bound of the first
pub length-union : (a b : List Bool) → length (union a b) ≡ length a
length-union a b = length-below (length a) (λ edge. has a edge || has b edge)

-- so has what the first has beyond the second
pub length-difference : (a b : List Bool) → length (difference a b) ≡ length a
length-difference a b = length-below (length a) (λ edge. has a edge && not (has b edge))

-- a number is in both together where one has it
pub has-union : (a b : List Bool) → length a ≡ length b → (edge : ℕ) → has (union a b) edge ≡ (has a edge || has b edge)
has-union a b bounds edge = at (cases_lt edge (length a))
  where
    at : (edge < length a) ⊎ (length a ≤ edge) → has (union a b) edge ≡ (has a edge || has b edge)
    at (inl under) = has-below (length a) (λ e. has a e || has b e) edge under
    at (inr past) =
        let none : has (union a b) edge ≡ false = has_past (union a b) edge (omega (arith, length-union a b)) in
        rw (none, has_past a edge past, has_past b edge (omega arith)) refl

-- a number is in what the first has beyond the second where the first has it and the second has not
pub has-difference : (a b : List Bool) (edge : ℕ) → has (difference a b) edge ≡ (has a edge && not (has b edge))
has-difference a b edge = at (cases_lt edge (length a))
  where
    at : (edge < length a) ⊎ (length a ≤ edge) → has (difference a b) edge ≡ (has a edge && not (has b edge))
    at (inl under) = has-below (length a) (λ e. has a e && not (has b e)) edge under
    at (inr past) =
        let none : has (difference a b) edge ≡ false = has_past (difference a b) edge (omega (arith, length-difference a b)) in
        rw (none, has_past a edge past) refl
