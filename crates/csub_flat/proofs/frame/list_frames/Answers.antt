use Rattle.std.proofs.Common.{◌≡◌, ◌<◌, length, get_or, map, List, subst}
use Rattle.csub_semantics.specs.declared.function.Function.{Function}
use Rattle.csub_flat.proofs.Programs.{small_at}
use Rattle.csub_semantics.specs.Syntax.{function_tree}
use Rattle.csub_flat.specs.Objects.{AreFramesOf}
use Rattle.csub_flat.proofs.Lookups.{frames_more, frames_all}
use Rattle.csub_flat.proofs.frame.list_frames.Goals as goal

pub frame_of-requires : goal.frame_of-requires
frame_of-requires c =
    small_at c.args.program.now c.loop-i.i c.index-functions-i.result c.functions-functions.ensures.valid
    (subst (λ (fs : List Function). c.loop-i.i < length fs) c.functions-functions.ensures.value c.loop-i-test.true)
    (subst (λ (fs : List Function). c.index-functions-i.result ≡ get_or fs c.loop-i.i c.index-functions-i.result) c.functions-functions.ensures.value c.index-functions-i.is)

pub loop-i-preserved : goal.loop-i-preserved
loop-i-preserved c =
    frames_more c.functions-functions.result.now c.loop-i.i c.index-functions-i.result c.loop-i.frames.items c.push.new.self.items c.in_ok-frame_of.field-0
    c.loop-i-test.true c.index-functions-i.is c.in_ok-push.ensures.items c.loop-i.invariant c.in_ok-frame_of.ensures

pub returns : goal.returns
returns c =
    subst (λ (fs : List Function). AreFramesOf (map function_tree fs) c.loop-i.frames.items) c.functions-functions.ensures.value
    (frames_all c.functions-functions.result.now c.loop-i.i c.loop-i.frames.items c.loop-i-test.false c.loop-i.invariant)
