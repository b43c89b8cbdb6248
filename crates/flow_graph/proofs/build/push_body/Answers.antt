use Rattle.std.proofs.Common.{◌≡◌, ◌∙◌, List, ℕ, ◌+◌, ◌-◌, ap, map, arith}
use Rattle.std.proofs.Math.Path.{fun_ext}
use Rattle.csub_objects.specs.Types.{Name}
use Rattle.csub_semantics.specs.declared.function.RStmt.{RStmt}
use Rattle.csub_semantics.specs.Syntax.{stmt_tree, stmts_of, function_tree}
use Rattle.csub_semantics.specs.Successors.{target}
use Rattle.flow_graph.specs.Jumps.{jump_by}
use Rattle.flow_graph.specs.Numbers.{count_list, marks_list, jump_of, around, all_to}
use Rattle.flow_graph.proofs.Listed.{body_begins, body_made}
use Rattle.flow_graph.proofs.build.push_body.Goals as goal

pub returns-clause-enter : goal.returns-clause-enter
returns-clause-enter c =
    let slice = c.as_slice-body.result.now in
    let first = c.in_ok-begin.begin.first in
    let is_body = ap (λ (b : List RStmt). stmts_of (map stmt_tree b)) c.as_slice-body.ensures.value in
    let counted = ap count_list is_body in
    let begun : first + count_list (stmts_of (map stmt_tree slice)) ≡ c.args.exit = c.in_ok-begin.ensures.first in
    let is_first : first ≡ c.args.start + 1 = omega arith in
    body_begins (function_tree c.args.function.now) (stmts_of (map stmt_tree slice)) c.args.start first _ (around c.all_to.result) is_body is_first (c.all_to.ensures ∙ ap all_to c.requires) c.in_ok-begin.ensures.enter

pub returns-clause-nodes : goal.returns-clause-nodes
returns-clause-nodes c =
    let f = c.args.function.now in
    let start = c.args.start in
    let exit = c.args.exit in
    let tree = function_tree f in
    let slice = c.as_slice-body.result.now in
    let first = c.in_ok-begin.begin.first in
    let is_body = ap (λ (b : List RStmt). stmts_of (map stmt_tree b)) c.as_slice-body.ensures.value in
    let counted = ap count_list is_body in
    let begun : first + count_list (stmts_of (map stmt_tree slice)) ≡ exit = c.in_ok-begin.ensures.first in
    let is_first : first ≡ start + 1 = omega arith in
    let is_begin : exit - count_list (stmts_of (map stmt_tree slice)) ≡ start + 1 = omega arith in
    let led = λ (b : List RStmt) (n : ℕ) (e : ℕ) (name : Name). target (marks_list (stmts_of (map stmt_tree b)) n (all_to e)) e name in
    let is_jump : jump_by c.in_ok-jumps.jumps ≡ jump_of tree start =
    fun_ext (λ name. c.in_ok-jumps.ensures name ∙ ap (λ n. led slice n exit name) is_begin ∙ ap (λ b. led b (start + 1) exit name) c.as_slice-body.ensures.value ∙ ap (λ e. led f.body.items (start + 1) e name) c.requires) in
    body_made tree (stmts_of (map stmt_tree slice)) start first (jump_by c.in_ok-jumps.jumps) (around c.all_to.result) _ _ is_body is_first is_jump (c.all_to.ensures ∙ ap all_to c.requires) c.in_ok-begin.ensures.nodes
