use Rattle.std.proofs.Common.{◌≡◌, ◌++◌, map, drop, length}
use Rattle.csub_semantics.specs.Memory.{then_do, value}
use Rattle.csub_slots.specs.Acts.{flat_arguments}
use Rattle.csub_slots.specs.Seen.{slot_seen}
use Rattle.csub_flat.specs.Seen.{arg_seen}
use Rattle.csub_slots.specs.States.{state_of}
use Rattle.csub_slots.proofs.act.eval_args.Given as goal

abbrev pub invariant-loop-arg : goal.invariant-loop-arg
invariant-loop-arg l =
    record {
      made :
          then_do (flat_arguments l.base (map arg_seen (drop l.arg-index l.args)) (state_of l.store)) (λ vs t. value (map slot_seen l.store.values.items ++ vs) t)
          ≡ flat_arguments l.base (map arg_seen l.args) (state_of l.fn.store);
      done : length l.store.values.items ≡ l.arg-index;
      input : l.store.input.items ≡ l.fn.store.input.items;
      sizes : l.store.sizes ≡ l.fn.store.sizes;
      count : length l.store.slots.items ≡ length l.fn.store.slots.items;
    }
