use Rattle.std.proofs.Common.{length}
use Rattle.dv_gen.proofs.TextLemmas.{function_line_pushed}
use Rattle.dv_gen.proofs.source.push_functions.Goals as goal

pub loop-place-preserved : goal.loop-place-preserved
loop-place-preserved c seed are =
    function_line_pushed seed c.loop-place.place (length c.args.functions.now) c.added_number.result c.args.changed c.args.functions.now _ c.args.text.now.items _ _
    are c.loop-place-test.true (c.added_number.ensures seed) (c.loop-place.invariant seed are) c.in_ok-push_function.ensures
