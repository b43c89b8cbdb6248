use Rattle.std.proofs.Common.{◌≡◌, ◌∙◌, ◌-◌, ◌++◌, ap, map, reverse, arith}
use Rattle.std.proofs.lemmas.List.{reverse-reverse}
use Rattle.csub_semantics.specs.Syntax.{stmt_tree, stmts_of}
use Rattle.csub_semantics.specs.Successors.{Around, target}
use Rattle.flow_graph.specs.Numbers.{around, all_to, count_list, marks_list, numbered_mark}
use Rattle.flow_graph.proofs.jumps.jumps_of.Goals as goal

pub returns : goal.returns
returns c =
    let stmts = stmts_of (map stmt_tree c.args.body.now) in
    let exit = c.args.exit in
    let first = c.in_ok-mark_list.field-0.first in
    let is_first : first ≡ exit - count_list stmts = omega (arith, c.in_ok-mark_list.ensures.first) in
    let marked =
    ap (map numbered_mark) c.as_slice.ensures.value
    ∙ c.in_ok-mark_list.ensures.marks
    ∙ ap (λ l. map numbered_mark l ++ reverse (marks_list stmts first (around c.all_to.result))) c.new-marks.ensures.items
    ∙ ap (λ (a : Around _). reverse (marks_list stmts first a)) c.all_to.ensures
    ∙ ap (λ n. reverse (marks_list stmts n (all_to exit))) is_first in
    λ name. c.in_ok-jumps.ensures name
    ∙ ap (λ l. target (reverse l) exit name) marked
    ∙ ap (λ l. target l exit name) (reverse-reverse (marks_list stmts (exit - count_list stmts) (all_to exit)))
