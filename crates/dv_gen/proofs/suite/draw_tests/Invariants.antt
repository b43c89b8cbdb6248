use Rattle.std.proofs.Common.{◌≡◌, ◌+◌, ◌*◌, ℕ, map}
use Rattle.std.specs.List.{range_with_len}
use Rattle.dv_gen.specs.Draws.{state_after}
use Rattle.dv_gen.specs.Pairs.{byte_of, test_with}
use Rattle.dv_gen.proofs.suite.draw_tests.Given as goal

abbrev pub invariant-loop-number : goal.invariant-loop-number
invariant-loop-number l = record {
  tests : (seed : ℕ) → l.fn.draws.state ≡ state_after seed (3 * l.fn.size + 1) → l.tests.items ≡ map (λ k. test_with k (byte_of seed l.fn.size k)) (range_with_len 0 l.number);
  state : l.draws.state ≡ state_after l.fn.draws.state l.number;
}
