use Rattle.std.proofs.Common.{◌≡◌}
use Rattle.csub_semantics.specs.Syntax.{program_tree}
use Rattle.csub_machine.specs.Moments.{IsRunningAt}
use Rattle.csub_machine.specs.Standings.{IsAt, moment_at}
use Rattle.csub_machine.proofs.run.advance_to.Given as goal

abbrev pub invariant-loop-turn : goal.invariant-loop-turn
invariant-loop-turn l = record {
  at : IsAt (program_tree l.program) l.run;
  running : IsRunningAt (moment_at (program_tree l.program) l.run);
  input : l.run.store.input.items ≡ l.fn.run.store.input.items;
  sizes : l.run.store.sizes ≡ l.flat.sizes;
  done : l.run.done ≡ l._turn;
}
