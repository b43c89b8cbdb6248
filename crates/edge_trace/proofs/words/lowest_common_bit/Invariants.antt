use Rattle.std.proofs.Common.{◌≡◌, ◌*◌, ◌<◌, ℕ, true}
use Rattle.edge_trace.specs.Words.{bit_of}
use Rattle.edge_trace.proofs.words.lowest_common_bit.Given as goal

abbrev pub invariant-loop-at : goal.invariant-loop-at
invariant-loop-at l = (place : ℕ) → place < 64 * l.at → bit_of l.words place ≡ true → bit_of l.others place ≡ true → ⊥
