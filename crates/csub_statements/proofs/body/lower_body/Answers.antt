use Rattle.std.proofs.Common.{map}
use Rattle.csub_tree.specs.Statements.{stmt_tree, stmts_of}
use Rattle.csub_rules.specs.Bodies.{in_body}
use Rattle.csub_bodies.specs.Views.{here_of}
use Rattle.csub_statements.proofs.LawsResolvable.{resolvable_lines}
use Rattle.csub_statements.proofs.body.lower_body.Goals as goal

pub lower_lines-requires : goal.lower_lines-requires
lower_lines-requires c =
    resolvable_lines (in_body c.args.result_kind (stmts_of (map stmt_tree c.args.lines.now))) (here_of c.args.here.now)
    (stmts_of (map stmt_tree c.args.lines.now)) c.requires.0
