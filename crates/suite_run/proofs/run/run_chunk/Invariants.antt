use Rattle.std.proofs.Common.{take}
use Rattle.std.specs.List.{AllZip}
use Rattle.csub_semantics.specs.Syntax.{program_tree}
use Rattle.test_history.specs.Entries.{IsEntry}
use Rattle.suite_run.proofs.run.run_chunk.Given as goal

abbrev pub invariant-loop-i : goal.invariant-loop-i
invariant-loop-i g l = AllZip (IsEntry (program_tree l.program)) (take l.i l.tests) l.entries.items
