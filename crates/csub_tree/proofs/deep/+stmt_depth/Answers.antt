use Rattle.std.proofs.Common.{rules, arith, take, ◌+◌, ap}
use denote.Param.Weighed.{at_most}
use Rattle.csub_tree.proofs.statement.Stmt.TheLaws.{the_size}
use Rattle.csub_tree.specs.Statements.{stmt_tree}
use Rattle.csub_tree.specs.Depth.{stmt_depth}
use Rattle.csub_tree.proofs.Depths.{most_at, most_take, most_stmts}
use Rattle.csub_tree.proofs.deep.+stmt_depth.Goals as goal

pub stmts_depth-stmt_depth-requires : goal.stmts_depth-stmt_depth-requires
stmts_depth-stmt_depth-requires t c =
    let less = at_most the_size c.args.stmts.now c.loop-stmt.stmt-index c.stmt-item.result c.loop-stmt-test.true in
    let same = ap the_size c.stmt-item.is in
    (search rules, omega (arith, c.requires, most_stmts c.args.stmts.now, most_at stmt_depth stmt_tree c.args.stmts.now c.loop-stmt.stmt-index c.stmt-item.result c.loop-stmt-test.true c.stmt-item.is))

pub stmts_depth-loop-stmt-preserved : goal.stmts_depth-loop-stmt-preserved
stmts_depth-loop-stmt-preserved t c =
    let step = most_take stmt_depth stmt_tree c.args.stmts.now c.loop-stmt.stmt-index c.stmt-item.result c.loop-stmt-test.true c.stmt-item.is in
    omega (arith, step, most_stmts (take (c.loop-stmt.stmt-index + 1) c.args.stmts.now), most_stmts (take c.loop-stmt.stmt-index c.args.stmts.now), c.max-deep.ensures, c.stmt_depth.ensures, c.loop-stmt.invariant)
