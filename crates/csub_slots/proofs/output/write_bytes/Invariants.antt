use Rattle.std.proofs.Common.{◌≡◌, drop}
use Rattle.csub_semantics.specs.Memory.{put_bytes}
use Rattle.csub_slots.specs.States.{state_of, Keeps}
use Rattle.csub_slots.proofs.output.write_bytes.Given as goal

abbrev pub invariant-loop-byte : goal.invariant-loop-byte
invariant-loop-byte l =
    record {
      written : put_bytes (drop l.byte-index l.bytes) (state_of l.store) ≡ put_bytes l.bytes (state_of l.fn.store);
      kept : Keeps l.fn.store l.store;
    }
