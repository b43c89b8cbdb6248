use Rattle.std.proofs.Common.{◌≡◌, map, drop}
use Rattle.csub_flat.specs.Seen.{write_seen}
use Rattle.csub_slots.specs.Acts.{flat_begins}
use Rattle.csub_slots.specs.States.{state_of, Keeps}
use Rattle.csub_slots.proofs.init.initialise.Given as goal

abbrev pub invariant-loop-step : goal.invariant-loop-step
invariant-loop-step l =
    record {
      written : flat_begins l.base (map write_seen (drop l.step-index l.steps)) (state_of l.store) ≡ flat_begins l.base (map write_seen l.steps) (state_of l.fn.store);
      kept : Keeps l.fn.store l.store;
    }
