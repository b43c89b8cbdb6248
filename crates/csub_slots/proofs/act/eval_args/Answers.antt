use Rattle.std.proofs.Common.{map, rules}
use Rattle.csub_flat.specs.Seen.{arg_seen}
use Rattle.csub_flat.proofs.LawsRows.{mapped_has}
use Rattle.csub_slots.specs.Seen.{slot_seen}
use Rattle.csub_slots.specs.States.{state_of, FewInGiven}
use Rattle.csub_slots.proofs.Fills.{args_more}
use Rattle.csub_slots.proofs.act.eval_args.Goals as goal

pub give-requires : goal.give-requires
give-requires c = mapped_has (λ a. FewInGiven a.given) arg_seen c.args.args.now c.loop-arg.arg-index c.arg-item.result c.requires.each c.loop-arg-test.true c.arg-item.is

pub loop-arg-preserved : goal.loop-arg-preserved
loop-arg-preserved c = record {
  made =
      args_more c.args.base c.args.args.now c.loop-arg.arg-index c.arg-item.result (map slot_seen c.loop-arg.store.values.items) (map slot_seen c.push_value.new.values.items)
      (slot_seen c.in_ok-slot.slot) (state_of c.loop-arg.store) (state_of c.give.new.store) _ c.loop-arg-test.true c.arg-item.is (search rules) (search rules)
      c.loop-arg.invariant.made;
  done = search rules;
  input = search rules;
  sizes = search rules;
  count = search rules;
}
