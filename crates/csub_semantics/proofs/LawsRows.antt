-- What the elements of a vector of statements, expressions or initialisers stand for, read as a row of a tree or as a list.
use Rattle.std.proofs.Common.{◌≡◌, ℕ, map, refl, ap, rules}
use Rattle.std.specs.declared.vec.Vec.{Vec}
use Rattle.std.specs.declared.alloc.Global.{Global}
use Rattle.csub_semantics.specs.declared.function.RStmt.{RStmt, Block, Switch, Row_of-RStmt, end_of-RStmt, more_of-RStmt, items-the_row-RStmt, the_lemmas}
use Rattle.csub_semantics.specs.declared.function.RPart.{RPart}
use Rattle.csub_semantics.specs.declared.expression.Piece.{Piece}
use Rattle.csub_semantics.specs.declared.expression.RExpr.{RExpr, Printf, Row_of-RExpr, end_of-RExpr, more_of-RExpr, items-the_row-RExpr}
use Rattle.csub_semantics.specs.declared.expression.RExpr.{the_lemmas as the_expr_lemmas}
use Rattle.csub_semantics.specs.declared.label.RInit.{RInit, List as ListedInit, Row_of-RInit, end_of-RInit, more_of-RInit, items-the_row-RInit}
use Rattle.csub_semantics.specs.declared.label.RInit.{the_lemmas as the_init_lemmas}
use Rattle.csub_semantics.specs.Labels.{listed, more_inits, inits_of, init_tree, row_inits}
use Rattle.csub_semantics.specs.Trees.{formatted, more_exprs, exprs_of, expr_tree, row_exprs}
use Rattle.csub_semantics.proofs.expression.RExpr.TheLaws.{the_size as the_expr_size}
use Rattle.csub_semantics.proofs.label.RInit.TheLaws.{the_size as the_init_size}
use Rattle.csub_semantics.proofs.function.RStmt.TheLaws.{the_size}
use Rattle.csub_semantics.specs.Syntax.{block, switch_on, more_stmts, part_tree, stmt_tree, row_trees, stmts_of}

-- how large a statement, an expression or an initialiser is: what a recursion over them goes down by
abbrev pub stmt_size : RStmt → ℕ
stmt_size s = the_size s

abbrev pub expr_size : RExpr → ℕ
expr_size e = the_expr_size e

abbrev pub init_size : RInit → ℕ
init_size x = the_init_size x

-- a row of statements, by their list
pub row_trees-list : {m : _} (row : Row_of-RStmt m) → row_trees row ≡ stmts_of (map stmt_tree (items-the_row-RStmt m row))
row_trees-list end_of-RStmt = refl
row_trees-list (more_of-RStmt s rest) = ap (λ t. more_stmts (stmt_tree s) t) (row_trees-list rest)

-- what a block of these statements stands for
pub stmt_tree-Block : (stmts : Vec RStmt Global) → stmt_tree (Block stmts) ≡ block (stmts_of (map stmt_tree stmts.items))
stmt_tree-Block stmts = search (rules, row_trees-list, the_lemmas)

-- what a `switch` of these lines stands for
pub stmt_tree-Switch : (part : RPart) (stmts : Vec RStmt Global) → stmt_tree (Switch part stmts) ≡ switch_on (part_tree part) (stmts_of (map stmt_tree stmts.items))
stmt_tree-Switch part stmts = search (rules, row_trees-list, the_lemmas)

-- the same of expressions
pub row_exprs-list : {m : _} (row : Row_of-RExpr m) → row_exprs row ≡ exprs_of (map expr_tree (items-the_row-RExpr m row))
row_exprs-list end_of-RExpr = refl
row_exprs-list (more_of-RExpr e rest) = ap (λ t. more_exprs (expr_tree e) t) (row_exprs-list rest)

-- what a `printf` of these values stands for
pub expr_tree-Printf : (pieces : Vec Piece Global) (values : Vec RExpr Global) → expr_tree (Printf pieces values) ≡ formatted pieces.items (exprs_of (map expr_tree values.items))
expr_tree-Printf pieces values = search (rules, row_exprs-list, the_expr_lemmas)

-- the same of initialisers
pub row_inits-list : {m : _} (row : Row_of-RInit m) → row_inits row ≡ inits_of (map init_tree (items-the_row-RInit m row))
row_inits-list end_of-RInit = refl
row_inits-list (more_of-RInit x rest) = ap (λ t. more_inits (init_tree x) t) (row_inits-list rest)

-- what a list of these entries stands for
pub init_tree-List : (entries : Vec RInit Global) → init_tree (ListedInit entries) ≡ listed (inits_of (map init_tree entries.items))
init_tree-List entries = search (rules, row_inits-list, the_init_lemmas)
