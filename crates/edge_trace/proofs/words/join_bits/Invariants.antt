use Rattle.std.proofs.Common.{◌≡◌, ◌<◌, ◌≤◌, ℕ, length, slice_index, bit_or}
use Rattle.edge_trace.proofs.words.join_bits.Given as goal

abbrev pub invariant-loop-at : goal.invariant-loop-at
invariant-loop-at l = record {
  long : length l.words.items ≡ length l.initial.words.items;
  joined : (k : ℕ) → k < l.at → slice_index l.words.items k ≡ bit_or (slice_index l.initial.words.items k) (slice_index l.others k);
  rest : (k : ℕ) → l.at ≤ k → slice_index l.words.items k ≡ slice_index l.initial.words.items k;
}
