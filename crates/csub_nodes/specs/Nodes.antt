-- Statements as the code puts them together. No definition of what a source stands for needs this file.
use Rattle.std.specs.Prelude.{Option, Some, None}
use Rattle.csub_semantics.specs.Syntax.{StmtTree, ElseTree, no_else, else_stmt}

-- the statement behind `else`, or none
abbrev pub else_of : Option StmtTree → ElseTree
else_of None = no_else
else_of (Some s) = else_stmt s
