-- What the draws of a pair give, put together.
use Rattle.std.proofs.Common.{◌≡◌, ℕ, ◌+◌, ◌*◌, ◌%◌, List, length, Option, sym, ap, ◌∙◌}
use Rattle.std.proofs.lemmas.List.FromFn.{length-map-range_with_len}
use Rattle.dv_gen.specs.declared.functions.Function.{Function}
use Rattle.dv_gen.specs.Draws.{next_state, state_after}
use Rattle.dv_gen.specs.Functions.{numbers_of, functions_of}
use Rattle.dv_gen.specs.Pairs.{changed_of, source_with}
use Rattle.dv_gen.proofs.DrawLemmas.{state_after-next, drawn-next}

-- the function that is changed is drawn behind the numbers of all functions
pub changed_is : (seed size first second changed : ℕ) → first ≡ seed → second ≡ state_after first (3 * size) → changed ≡ next_state second % size → changed ≡ changed_of seed size
changed_is seed size first second changed begins at is =
    let here : second ≡ state_after seed (3 * size) = at ∙ ap (λ x. state_after x (3 * size)) begins in
    is ∙ ap (λ x. next_state x % size) here ∙ drawn-next seed (3 * size) size

-- the tests are drawn behind it
pub tests_begin : (seed size first second third : ℕ) → first ≡ seed → second ≡ state_after first (3 * size) → third ≡ next_state second → third ≡ state_after seed (3 * size + 1)
tests_begin seed size first second third begins at moved =
    let here : second ≡ state_after seed (3 * size) = at ∙ ap (λ x. state_after x (3 * size)) begins in
    moved ∙ ap next_state here ∙ state_after-next seed (3 * size)

count_of : (seed size : ℕ) → length (functions_of seed size) ≡ size
count_of seed size = length-map-range_with_len (numbers_of seed) 0 size

-- a source of the functions that were drawn
pub source_is : (seed size first : ℕ) (changed : Option ℕ) (functions lent : List Function) (text : List ℕ) → first ≡ seed → functions ≡ functions_of first size → lent ≡ functions
    → (lent ≡ functions_of seed (length lent) → text ≡ source_with seed (length lent) changed) → text ≡ source_with seed size changed
source_is seed size first changed functions lent text begins drawn same is =
    let are : lent ≡ functions_of seed size = same ∙ drawn ∙ ap (λ x. functions_of x size) begins in
    let count : length lent ≡ size = ap length are ∙ count_of seed size in
    is (are ∙ ap (functions_of seed) (sym count)) ∙ ap (λ n. source_with seed n changed) count
