use Rattle.csub_semantics.specs.Syntax.{program_tree}
use Rattle.test_history.specs.Entries.{IsEntry}
use Rattle.suite_run.proofs.Zips.{all_zip_next}
use Rattle.suite_run.proofs.run.run_chunk.Goals as goal

pub loop-i-preserved : goal.loop-i-preserved
loop-i-preserved g c =
    rw c.in_ok-push.ensures.items (all_zip_next (IsEntry (program_tree c.args.program.now)) _ _ _ _ _ c.loop-i-test.true c.index-tests-i.is c.loop-i.invariant c.in_ok-run_one.ensures)
