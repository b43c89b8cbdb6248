-- What statements of boxed statements stand for.
use Rattle.std.proofs.Common.{◌≡◌, map, Some, rules}
use Rattle.std.specs.Global.{Box}
use Rattle.std.specs.declared.vec.Vec.{Vec}
use Rattle.std.specs.declared.alloc.Global.{Global}
use Rattle.csub_semantics.specs.declared.function.RPart.{RPart}
use Rattle.csub_semantics.specs.declared.function.RStmt.{RStmt, If, Do, For, the_lemmas}
use Rattle.csub_semantics.specs.Syntax.{conditional, do_loop, else_stmt, for_loop, part_tree, stmt_tree}

pub if_made : (test : RPart) (t e : Box RStmt)
    → stmt_tree (If test t (Some e)) ≡ conditional (part_tree test) (stmt_tree t.value) (else_stmt (stmt_tree e.value))
if_made test t e = search (rules, the_lemmas)

pub do_made : (body : Box RStmt) (test : RPart) → stmt_tree (Do body test) ≡ do_loop (stmt_tree body.value) (part_tree test)
do_made body test = search (rules, the_lemmas)

pub for_made : (first : Vec RPart Global) (test : RPart) (third : Vec RPart Global) (body : Box RStmt)
    → stmt_tree (For first test third body)
    ≡ for_loop (map part_tree first.items) (part_tree test) (map part_tree third.items) (stmt_tree body.value)
for_made first test third body = search (rules, the_lemmas)
