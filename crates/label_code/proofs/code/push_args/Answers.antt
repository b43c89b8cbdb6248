use Rattle.std.proofs.Common.{map, refl}
use Rattle.std.specs.List.{flat_map}
use Rattle.csub_semantics.specs.Trees.{arg_tree}
use Rattle.label_code.specs.Bare.{bare_arg}
use Rattle.label_code.specs.Codes.{arg_code}
use Rattle.label_code.proofs.WriteLemmas.{next_written}
use Rattle.label_code.proofs.code.push_args.Goals as goal

pub loop-arg-preserved : goal.loop-arg-preserved
loop-arg-preserved c =
    let x = c.arg-item.result in
    next_written (λ args. flat_map arg_code (map bare_arg (map arg_tree args))) (λ arg. arg_code (bare_arg (arg_tree arg))) (λ arg rest. refl) c.args.args.now c.loop-arg.arg-index x x
    c.loop-arg.out.items c.push_arg.new.out.items _ c.loop-arg-test.true c.arg-item.is c.in_ok-push_arg.ensures c.loop-arg.invariant
