-- The row of crossed edges, and one edge more.
use Rattle.std.proofs.Common.{◌≡◌, ◌≢◌, ◌<◌, ℕ, zero, suc, List, [], ◌∷◌, map, length, Bool, true, false, ◌||◌, Option, Some, IsTrue, refl, ap, sym, ◌∙◌, ◌⊎◌, inl, inr, arith}
use Rattle.std.specs.Prelude.{slice_get, slice_set, slice_index_or, replicate}
use Rattle.std.specs.List.{Contains}
use Rattle.std.proofs.lemmas.Simd.{splat_is_map}
use Rattle.csub_semantics.specs.Syntax.{ProgramTree}
use Rattle.csub_semantics.specs.Flows.{Edge, edge_list}
use Rattle.csub_semantics.specs.Numbers.{edge_at, IsCrossed}
use Rattle.csub_semantics.specs.Runs.{crossing}
use Rattle.flow_graph.proofs.LawsOnce.{Once}
use Rattle.csub_machine.specs.Crossed.{edge_eq, is_among, crossed_row}
use Rattle.csub_machine.proofs.EdgeLemmas.{edge_true, edge_same, edge_other}

once_tail : (x : Edge) (xs : List Edge) → Once (x ∷ xs) → Once xs
once_tail x xs h i j d e g = let k = h (suc i) (suc j) d e g in cc

-- an edge that isn't there is no other's
none_changed : (xs es : List Edge) (d : Edge) → ((i : ℕ) → slice_get xs i ≢ Some d) → map (is_among es) xs ≡ map (is_among (d ∷ es)) xs
none_changed [] es d h = refl
none_changed (x ∷ xs) es d h =
    let other : x ≢ d = λ e. h 0 (ap Some e) in
    ap (λ b. (b || is_among es x) ∷ map (is_among es) xs) (sym (edge_other x d other))
    ∙ ap (λ l. (edge_eq x d || is_among es x) ∷ l) (none_changed xs es d (λ i. h (suc i)))

pub set_crossed : (xs es : List Edge) (e : ℕ) (d : Edge) → Once xs → slice_get xs e ≡ Some d → slice_set (map (is_among es) xs) e true ≡ map (is_among (d ∷ es)) xs
set_crossed [] es e d h g = cc
set_crossed (x ∷ xs) es zero d h g =
    let same : x ≡ d = cc in
    ap (λ b. (b || is_among es x) ∷ map (is_among es) xs) (sym (ap (edge_eq x) (sym same) ∙ edge_same x))
    ∙ ap (λ l. (edge_eq x d || is_among es x) ∷ l) (none_changed xs es d (λ i e. let k = h 0 (suc i) d g e in cc))
set_crossed (x ∷ xs) es (suc e) d h g =
    let other : x ≢ d = λ k. (let j = h 0 (suc e) d (ap Some k) g in cc) in
    ap (λ b. (b || is_among es x) ∷ slice_set (map (is_among es) xs) e true) (sym (edge_other x d other))
    ∙ ap (λ l. (edge_eq x d || is_among es x) ∷ l) (set_crossed xs es e d (once_tail x xs h) g)

-- an edge of the list has one behind its number
pub edge_there : (xs : List Edge) (e : ℕ) → e < length xs → (d : Edge) × (slice_get xs e ≡ Some d)
edge_there [] e h = absurd (omega arith)
edge_there (x ∷ xs) zero h = (x, refl)
edge_there (x ∷ xs) (suc e) h = edge_there xs e (omega arith)

-- the row with one edge more
pub row_crossed : (P : ProgramTree) (es : List Edge) (e : ℕ) → Once (edge_list P) → e < length (edge_list P)
    → slice_set (crossed_row P es) e true ≡ crossed_row P (crossing (edge_at P e) es)
row_crossed P es e h l =
    let d = edge_there (edge_list P) e l in
    set_crossed (edge_list P) es e d.0 h d.1 ∙ ap (λ (c : Option Edge). crossed_row P (crossing c es)) (sym d.1)

-- an edge is among those that were crossed exactly where the test says so
either : (b c : Bool) → (b || c) ≡ true → (b ≡ true) ⊎ (c ≡ true)
either true c e = inl refl
either false c e = inr e

first : (b c : Bool) → b ≡ true → (b || c) ≡ true
first true c e = refl
first false c e = cc

second : (b c : Bool) → c ≡ true → (b || c) ≡ true
second true c e = refl
second false c e = e

pub among_there : (es : List Edge) (d : Edge) → is_among es d ≡ true → Contains es d
among_there [] d e = cc
among_there (x ∷ es) d e = step (either (edge_eq d x) (is_among es d) e) (among_there es d)
  where
    step : (edge_eq d x ≡ true) ⊎ (is_among es d ≡ true) → (is_among es d ≡ true → Contains es d) → Contains (x ∷ es) d
    step (inl g) later = (0, omega arith, sym (edge_true d x g))
    step (inr g) later = (suc (later g).0, omega (arith, (later g).1), (later g).2)

pub there_among : (es : List Edge) (d : Edge) → Contains es d → is_among es d ≡ true
there_among [] d h = absurd (omega (arith, h.1))
there_among (x ∷ es) d h = step h.0 h.1 h.2 (there_among es d)
  where
    step : (k : ℕ) → k < length (x ∷ es) → slice_index_or (x ∷ es) k d ≡ d → (Contains es d → is_among es d ≡ true) → is_among (x ∷ es) d ≡ true
    step zero l e later = first (edge_eq d x) (is_among es d) (ap (edge_eq d) e ∙ edge_same d)
    step (suc k) l e later = second (edge_eq d x) (is_among es d) (later (k, omega arith, e))

-- the row holds the numbers of the edges that were crossed, and no others
pub row_holds : (xs es : List Edge) (e : ℕ) → slice_index_or (map (is_among es) xs) e false ≡ true → (d : Edge) × (slice_get xs e ≡ Some d) × Contains es d
row_holds [] es e h = absurd (no_bit h)
  where
    no_bit : false ≡ true → ⊥
    no_bit h = cc
row_holds (x ∷ xs) es zero h = (x, refl, among_there es x h)
row_holds (x ∷ xs) es (suc e) h = row_holds xs es e h

pub holds_row : (xs es : List Edge) (e : ℕ) (d : Edge) → slice_get xs e ≡ Some d → Contains es d → slice_index_or (map (is_among es) xs) e false ≡ true
holds_row [] es e d g h = cc
holds_row (x ∷ xs) es zero d g h = let same : x ≡ d = cc in ap (is_among es) same ∙ there_among es d h
holds_row (x ∷ xs) es (suc e) d g h = holds_row xs es e d g h

pub crossed_is : (P : ProgramTree) (es : List Edge) (e : ℕ) → IsTrue (slice_index_or (crossed_row P es) e false) → IsCrossed P es e
crossed_is P es e h = let d = row_holds (edge_list P) es e h in record { edge = d.0; numbered = d.1; among = d.2 }

pub is_crossed : (P : ProgramTree) (es : List Edge) (e : ℕ) → IsCrossed P es e → IsTrue (slice_index_or (crossed_row P es) e false)
is_crossed P es e h = holds_row (edge_list P) es e h.edge h.numbered h.among

-- at first no edge was crossed
pub none_crossed : (xs : List Edge) (n : ℕ) → length xs ≡ n → replicate n false ≡ map (is_among []) xs
none_crossed xs n e = splat_is_map xs n false e
