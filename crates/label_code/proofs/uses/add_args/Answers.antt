use Rattle.std.proofs.Common.{map, refl}
use Rattle.std.specs.List.{flat_map}
use Rattle.csub_semantics.specs.Trees.{arg_tree}
use Rattle.label_code.specs.Uses.{arg_uses, use_tree}
use Rattle.label_code.proofs.WriteLemmas.{next_written}
use Rattle.label_code.proofs.uses.add_args.Goals as goal

pub loop-arg-preserved : goal.loop-arg-preserved
loop-arg-preserved c =
    let x = c.arg-item.result in
    next_written (λ args. flat_map arg_uses (map arg_tree args)) (λ arg. arg_uses (arg_tree arg)) (λ arg rest. refl) c.args.args.now c.loop-arg.arg-index x x
    (map use_tree c.loop-arg.uses.items) (map use_tree c.add_arg.new.uses.items) _ c.loop-arg-test.true c.arg-item.is c.in_ok-add_arg.ensures c.loop-arg.invariant
