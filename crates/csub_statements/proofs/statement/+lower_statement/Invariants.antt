use Rattle.std.proofs.Common.{◌≡◌, ◌++◌, map, drop}
use Rattle.csub_tree.specs.Statements.{stmt_tree, stmts_of}
use Rattle.csub_semantics.specs.Syntax.{local_tree}
use Rattle.csub_semantics.specs.Syntax.{stmt_tree as made_tree}
use Rattle.csub_rules.specs.Past.{past_lines}
use Rattle.csub_bodies.specs.Views.{here_of}
use Rattle.csub_resolution.specs.Lines.{locals_lines}
use Rattle.csub_statements.specs.Resolvable.{ResolvableLines, line_list}
use Rattle.csub_statements.proofs.statement.+lower_statement.Given as goal

abbrev pub invariant-lower_lines-loop-line : goal.invariant-lower_lines-loop-line
invariant-lower_lines-loop-line l = record {
  trees : map made_tree l.made.items ++ line_list l.within.definitions.now l.within.result l.kind (here_of l.here) (stmts_of (map stmt_tree (drop l.line-index l.lines)))
      ≡ line_list l.within.definitions.now l.within.result l.kind (here_of l.fn.here) (stmts_of (map stmt_tree l.lines));
  past : past_lines (here_of l.here) (stmts_of (map stmt_tree (drop l.line-index l.lines))) ≡ past_lines (here_of l.fn.here) (stmts_of (map stmt_tree l.lines));
  locals : map local_tree l.locals.items ++ locals_lines (here_of l.here) (stmts_of (map stmt_tree (drop l.line-index l.lines)))
      ≡ map local_tree l.fn.locals.items ++ locals_lines (here_of l.fn.here) (stmts_of (map stmt_tree l.lines));
  fine : ResolvableLines (here_of l.here) (stmts_of (map stmt_tree (drop l.line-index l.lines)));
}
