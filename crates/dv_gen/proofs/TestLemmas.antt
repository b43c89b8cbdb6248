-- The tests of a pair: one more draw is one more test.
use Rattle.std.proofs.Common.{◌≡◌, ℕ, ◌+◌, ◌*◌, List, [], ◌∷◌, ◌++◌, map, sym, ap, ◌∙◌, arith, add-zero}
use Rattle.std.proofs.lemmas.List.FromFn.{map-range_with_len_more}
use Rattle.std.specs.List.{range_with_len}
use Rattle.test_suite.specs.Tests.{TestParts}
use Rattle.dv_gen.specs.Draws.{state_after, drawn}
use Rattle.dv_gen.specs.Pairs.{byte_of, test_with}
use Rattle.dv_gen.proofs.DrawLemmas.{state_after-add, drawn-after}

-- the byte of a test that is drawn so many draws behind the first
byte_at : (seed size k first state : ℕ) → first ≡ state_after seed (3 * size + 1) → state ≡ state_after first k → drawn state 0 256 ≡ byte_of seed size k
byte_at seed size k first state begins at =
    let whole : state ≡ state_after seed (3 * size + 1 + k) = at ∙ ap (λ x. state_after x k) begins ∙ state_after-add seed (3 * size + 1) k in
    ap (λ x. drawn x 0 256) whole ∙ drawn-after seed (3 * size + 1 + k) 0 256 ∙ ap (λ n. drawn seed n 256) (add-zero (3 * size + 1 + k))

pub test_pushed : (seed size k first state : ℕ) (before after : List TestParts) (test : TestParts) → first ≡ state_after seed (3 * size + 1) → state ≡ state_after first k
    → test ≡ test_with k (drawn state 0 256) → before ≡ map (λ i. test_with i (byte_of seed size i)) (range_with_len 0 k) → after ≡ before ++ test ∷ []
    → after ≡ map (λ i. test_with i (byte_of seed size i)) (range_with_len 0 (k + 1))
test_pushed seed size k first state before after test begins at is so_far pushed =
    let last : test ≡ test_with k (byte_of seed size k) = is ∙ ap (test_with k) (byte_at seed size k first state begins at) in
    let more = map-range_with_len_more (λ i. test_with i (byte_of seed size i)) 0 k k (omega arith) in
    pushed ∙ rw (so_far, last) (sym more)
