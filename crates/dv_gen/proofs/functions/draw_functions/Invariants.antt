use Rattle.std.proofs.Common.{◌≡◌, ◌*◌}
use Rattle.dv_gen.specs.Draws.{state_after}
use Rattle.dv_gen.specs.Functions.{functions_of}
use Rattle.dv_gen.proofs.functions.draw_functions.Given as goal

abbrev pub invariant-loop : goal.invariant-loop
invariant-loop l = record {
  functions : l.functions.items ≡ functions_of l.fn.draws.state l.counter;
  state : l.draws.state ≡ state_after l.fn.draws.state (3 * l.counter);
}
