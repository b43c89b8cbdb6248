use Rattle.std.proofs.Common.{◌≡◌, drop}
use Rattle.csub_semantics.specs.Formats.{text_of}
use Rattle.csub_semantics.specs.Memory.{put_bytes}
use Rattle.csub_slots.specs.States.{state_of, Keeps}
use Rattle.csub_slots.proofs.output.write_pieces.Given as goal

abbrev pub invariant-loop-piece : goal.invariant-loop-piece
invariant-loop-piece l =
    record {
      written : put_bytes (text_of (drop l.piece-index l.pieces) l.rest) (state_of l.store) ≡ put_bytes (text_of l.pieces l.values) (state_of l.fn.store);
      kept : Keeps l.fn.store l.store;
    }
