-- Laws of the numbers of a row, for proofs above: they rise, are below its bound, and determine it.
use Rattle.std.proofs.Common.{◌≡◌, ◌≢◌, ℕ, zero, suc, ◌+◌, ◌<◌, ◌≤◌, Bool, true, false, cond, List, [], ◌∷◌, ◌++◌, length, length-append, set, replicate, refl, sym, ap, subst, ◌∙◌, arith, append_assoc}
use Rattle.std.specs.List.{All, AllPairs, filter, range_with_len}
use Rattle.std.proofs.Math.Seq.{get_or-append_seam}
use Rattle.std.proofs.lemmas.List.Elements.{All-nil, All-cons, All-weaker}
use Rattle.std.proofs.lemmas.List.Kept.{AllPairs-cons}
use Rattle.std.proofs.lemmas.List.Sums.{count_by-le-length, sum_by-cons}
use Rattle.edge_trace.specs.Rows.{has, size, numbers_of}
use Rattle.edge_trace.proofs.Laws.{has-replicate}

-- each number is less than every later one, and less than the bound
pub record AreRising (bound : ℕ) (numbers : List ℕ) : Type 0 where
  pub rising : AllPairs (λ number later. number < later) numbers
  pub below : All (λ number. number < bound) numbers

-- the places of a row that are in it, counted from one on
abbrev pub places : ℕ → List Bool → List ℕ
places off [] = []
places off (is_in ∷ row) = cond is_in (off ∷ places (off + 1) row) (places (off + 1) row)

pub numbers_of-places : (row : List Bool) → numbers_of row ≡ places 0 row
numbers_of-places row = from [] row
  where
    from : (before row : List Bool) → filter (has (before ++ row)) (range_with_len (length before) (length row)) ≡ places (length before) row
    from before [] = refl
    from before (is_in ∷ row) =
        let here : has (before ++ is_in ∷ row) (length before) ≡ is_in = get_or-append_seam before is_in row false in
        let same : (before ++ is_in ∷ []) ++ row ≡ before ++ is_in ∷ row = append_assoc before (is_in ∷ []) row in
        let next : length (before ++ is_in ∷ []) ≡ length before + 1 = length-append before (is_in ∷ []) in
        let Rest : List Bool → ℕ → Type 0 = λ whole place. filter (has whole) (range_with_len place (length row)) ≡ places place row in
        let rest : Rest (before ++ is_in ∷ row) (length before + 1) = subst (Rest (before ++ is_in ∷ row)) next (subst (λ whole. Rest whole (length (before ++ is_in ∷ []))) same (from (before ++ is_in ∷ []) row)) in
        rw here (ap (λ numbers. cond is_in (length before ∷ numbers) numbers) rest)

-- no number where nothing is in the row
places-none : (off : ℕ) (row : List Bool) → ((k : ℕ) → has row k ≡ false) → places off row ≡ []
places-none off [] none = refl
places-none off (is_in ∷ row) none =
    let here : is_in ≡ false = none 0 in
    rw here (places-none (off + 1) row (λ k. none (suc k)))

pub numbers_of-empty : (bound : ℕ) → numbers_of (replicate bound false) ≡ []
numbers_of-empty bound = numbers_of-places (replicate bound false) ∙ places-none 0 (replicate bound false) (has-replicate bound)

-- one more number after all others
places-set : (off n : ℕ) (row : List Bool) → n < length row → ((k : ℕ) → n ≤ k → has row k ≡ false) → places off (set row n true) ≡ places off row ++ (off + n) ∷ []
places-set off n [] within none = absurd (omega arith)
places-set off zero (is_in ∷ row) within none =
    let here : is_in ≡ false = none 0 (omega arith) in
    let rest : (from : ℕ) → places from row ≡ [] = λ from. places-none from row (λ k. none (suc k) (omega arith)) in
    let at : off ≡ off + 0 = omega arith in
    rw (here, rest (off + 1)) (ap (λ number. number ∷ []) at)
places-set off (suc n) (true ∷ row) within none =
    let at : off + 1 + n ≡ off + suc n = omega arith in
    ap (λ numbers. off ∷ numbers) (places-set (off + 1) n row (omega arith) (λ k past. none (suc k) (omega arith)) ∙ ap (λ number. places (off + 1) row ++ number ∷ []) at)
places-set off (suc n) (false ∷ row) within none =
    let at : off + 1 + n ≡ off + suc n = omega arith in
    places-set (off + 1) n row (omega arith) (λ k past. none (suc k) (omega arith)) ∙ ap (λ number. places (off + 1) row ++ number ∷ []) at

pub numbers_of-set : (row : List Bool) (n : ℕ) → n < length row → ((k : ℕ) → n ≤ k → has row k ≡ false) → numbers_of (set row n true) ≡ numbers_of row ++ n ∷ []
numbers_of-set row n within none =
    let at : 0 + n ≡ n = omega arith in
    numbers_of-places (set row n true) ∙ places-set 0 n row within none ∙ ap (λ number. places 0 row ++ number ∷ []) at
    ∙ ap (λ numbers. numbers ++ n ∷ []) (sym (numbers_of-places row))

-- the numbers rise
places-bounds : (off : ℕ) (row : List Bool) → All (λ n. (off ≤ n) × (n < off + length row)) (places off row)
places-bounds off [] = All-nil (λ n. (off ≤ n) × (n < off + 0))
places-bounds off (true ∷ row) =
    All-cons (λ n. (off ≤ n) × (n < off + suc (length row))) off (places (off + 1) row) (omega arith, omega arith)
    (All-weaker (λ n. (off + 1 ≤ n) × (n < off + 1 + length row)) (λ n. (off ≤ n) × (n < off + suc (length row))) (λ n h. (omega (arith, h.0), omega (arith, h.1))) (places (off + 1) row) (places-bounds (off + 1) row))
places-bounds off (false ∷ row) =
    All-weaker (λ n. (off + 1 ≤ n) × (n < off + 1 + length row)) (λ n. (off ≤ n) × (n < off + suc (length row))) (λ n h. (omega (arith, h.0), omega (arith, h.1))) (places (off + 1) row) (places-bounds (off + 1) row)

places-rising : (off : ℕ) (row : List Bool) → AllPairs (λ number later. number < later) (places off row)
places-rising off [] = λ i j d before within. absurd (omega arith)
places-rising off (true ∷ row) =
    AllPairs-cons (λ number later. number < later) off (places (off + 1) row)
    (All-weaker (λ n. (off + 1 ≤ n) × (n < off + 1 + length row)) (λ n. off < n) (λ n h. omega (arith, h.0)) (places (off + 1) row) (places-bounds (off + 1) row))
    (places-rising (off + 1) row)
places-rising off (false ∷ row) = places-rising (off + 1) row

pub below-numbers_of : (row : List Bool) → All (λ n. n < length row) (numbers_of row)
below-numbers_of row =
    subst (All (λ n. n < length row)) (sym (numbers_of-places row))
    (All-weaker (λ n. (0 ≤ n) × (n < 0 + length row)) (λ n. n < length row) (λ n h. omega (arith, h.1)) (places 0 row) (places-bounds 0 row))

pub AreRising-numbers_of : (row : List Bool) (bound : ℕ) → length row ≡ bound → AreRising bound (numbers_of row)
AreRising-numbers_of row bound size = subst (λ n. AreRising n (numbers_of row)) size (record {
  rising = subst (AllPairs (λ number later. number < later)) (sym (numbers_of-places row)) (places-rising 0 row);
  below = below-numbers_of row;
})

-- there are as many as the row has
length-places : (off : ℕ) (row : List Bool) → length (places off row) ≡ size row
length-places off [] = refl
length-places off (true ∷ row) = omega (arith, length-places (off + 1) row, sum_by-cons (λ t. cond t 1 0) true row)
length-places off (false ∷ row) = omega (arith, length-places (off + 1) row, sum_by-cons (λ t. cond t 1 0) false row)

pub length-numbers_of : (row : List Bool) → length (numbers_of row) ≡ size row
length-numbers_of row = ap length (numbers_of-places row) ∙ length-places 0 row

pub few-numbers_of : (row : List Bool) → length (numbers_of row) ≤ length row
few-numbers_of row = omega (arith, length-numbers_of row, count_by-le-length (λ is_in. is_in) row)

-- two rows of one bound with the same numbers are one
places-same : (off : ℕ) (a b : List Bool) → length a ≡ length b → places off a ≡ places off b → a ≡ b
places-same off [] [] bounds is = refl
places-same off [] (y ∷ b) bounds is = absurd (omega arith)
places-same off (x ∷ a) [] bounds is = absurd (omega arith)
places-same off (true ∷ a) (true ∷ b) bounds is = ap (λ row. true ∷ row) (places-same (off + 1) a b (omega arith) (cc is))
places-same off (false ∷ a) (false ∷ b) bounds is = ap (λ row. false ∷ row) (places-same (off + 1) a b (omega arith) is)
places-same off (true ∷ a) (false ∷ b) bounds is = absurd (not_first off b (places (off + 1) a) (sym is))
  where
    not_first : (off : ℕ) (row : List Bool) (more : List ℕ) → places (off + 1) row ≢ off ∷ more
    not_first off row more same =
        let low = places-bounds (off + 1) row in
        let first : All (λ n. (off + 1 ≤ n) × (n < off + 1 + length row)) (off ∷ more) = subst (All (λ n. (off + 1 ≤ n) × (n < off + 1 + length row))) same low in
        let head = first 0 0 (omega arith) in
        omega (arith, head.0)
places-same off (false ∷ a) (true ∷ b) bounds is = absurd (not_first off a (places (off + 1) b) is)
  where
    not_first : (off : ℕ) (row : List Bool) (more : List ℕ) → places (off + 1) row ≢ off ∷ more
    not_first off row more same =
        let low = places-bounds (off + 1) row in
        let first : All (λ n. (off + 1 ≤ n) × (n < off + 1 + length row)) (off ∷ more) = subst (All (λ n. (off + 1 ≤ n) × (n < off + 1 + length row))) same low in
        let head = first 0 0 (omega arith) in
        omega (arith, head.0)

pub numbers_of-injective : (a b : List Bool) → length a ≡ length b → numbers_of a ≡ numbers_of b → a ≡ b
numbers_of-injective a b bounds is = places-same 0 a b bounds (sym (numbers_of-places a) ∙ is ∙ numbers_of-places b)
