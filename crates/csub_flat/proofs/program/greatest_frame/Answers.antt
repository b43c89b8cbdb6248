use Rattle.std.proofs.Common.{◌≡◌, ◌<◌, ◌≤◌, max, map, length, get_or, List, All, subst, arith}
use Rattle.csub_semantics.specs.declared.function.Function.{Function}
use Rattle.csub_semantics.specs.Syntax.{function_tree}
use Rattle.csub_flat.specs.Frames.{frame_size}
use Rattle.csub_flat.proofs.Programs.{small_at, most_more, most_of_all}
use Rattle.csub_flat.proofs.program.greatest_frame.Goals as goal

pub frame_slots-requires : goal.frame_slots-requires
frame_slots-requires c =
    small_at c.args.program.now c.loop-i.i c.index-functions-i.result c.functions-functions.ensures.valid
    (subst (λ (fs : List Function). c.loop-i.i < length fs) c.functions-functions.ensures.value c.loop-i-test.true)
    (subst (λ (fs : List Function). c.index-functions-i.result ≡ get_or fs c.loop-i.i c.index-functions-i.result) c.functions-functions.ensures.value c.index-functions-i.is)

pub loop-i-preserved : goal.loop-i-preserved
loop-i-preserved c =
    let greater : c.max-most.result ≡ max c.loop-i.most c.frame_slots.result = c.max-most.ensures in
    record {
      most = most_more c.functions-functions.result.now c.loop-i.i c.loop-i.most c.max-most.result c.index-functions-i.result c.loop-i-test.true c.index-functions-i.is c.loop-i.invariant.most (omega (arith, greater)) (omega (arith, greater, c.frame_slots.ensures.value));
      small = omega (arith, greater, c.loop-i.invariant.small, c.frame_slots.ensures.small);
    }

pub returns-clause-most : goal.returns-clause-most
returns-clause-most c =
    subst (λ (fs : List Function). All (λ f. frame_size f ≤ c.loop-i.most) (map function_tree fs)) c.functions-functions.ensures.value
    (most_of_all c.functions-functions.result.now c.loop-i.i c.loop-i.most c.loop-i-test.false c.loop-i.invariant.most)
