use Rattle.std.proofs.Common.{rules, arith, ◌≡◌, ◌∙◌, ◌++◌, ◌∷◌, [], ℕ, ◌+◌, ◌-◌, ap, map, length}
use Rattle.std.proofs.lemmas.List.{map-append, length-map}
use Rattle.csub_semantics.specs.Syntax.{function_tree}
use Rattle.csub_objects.specs.Types.{Name}
use Rattle.flow_graph.specs.Numbers.{numbered_node, numbered_point, numbered_function, of_function, count_function, function_numbered, exit_number}
use Rattle.flow_graph.proofs.Listed.{nodes_made, more, count_within, appended_length}
use Rattle.flow_graph.proofs.build.list_points.Goals as goal

pub overflow_cast-exit : goal.overflow_cast-exit
overflow_cast-exit c =
    let made = nodes_made c.in_ok-nodes.nodes.items (function_tree c.index-functions-i.result) c.len-start.result c.in_ok-nodes.ensures in
    let counted : c.len.result ≡ length c.in_ok-nodes.nodes.items = search rules in
    let fits = count_within c.args.functions.now c.loop-i.i c.index-functions-i.result (length c.loop-i.points.items) _ c.loop-i-test.true c.index-functions-i.is c.loop-i.invariant.count in
    let few = c.requires.few_points in
    omega arith

pub overflow_add-exit : goal.overflow_add-exit
overflow_add-exit c =
    let made = nodes_made c.in_ok-nodes.nodes.items (function_tree c.index-functions-i.result) c.len-start.result c.in_ok-nodes.ensures in
    let counted : c.len.result ≡ length c.in_ok-nodes.nodes.items = search rules in
    let start : c.len-start.result ≡ length c.loop-i.points.items = search rules in
    let fits = count_within c.args.functions.now c.loop-i.i c.index-functions-i.result (length c.loop-i.points.items) _ c.loop-i-test.true c.index-functions-i.is c.loop-i.invariant.count in
    let few = c.requires.few_points in
    omega arith

pub loop-i-preserved : goal.loop-i-preserved
loop-i-preserved c =
    let x = c.index-functions-i.result in
    let tree = function_tree x in
    let n = length c.loop-i.points.items in
    let made = nodes_made c.in_ok-nodes.nodes.items tree c.len-start.result c.in_ok-nodes.ensures in
    let counted : c.len.result ≡ length c.in_ok-nodes.nodes.items = search rules in
    let start : c.len-start.result ≡ n = search rules in
    let exit : c.len-start.result + (c.len.result - 1) ≡ exit_number tree n = omega arith in
    let nodes = c.in_ok-nodes.ensures ∙ ap (function_numbered tree) start in
    let grown = appended_length numbered_point c.loop-i.points.items c.append.new.points.items (map (of_function c.loop-i.i) (map numbered_node c.in_ok-nodes.nodes.items)) c.in_ok-append.ensures in
    let grown_by : length (map (of_function c.loop-i.i) (map numbered_node c.in_ok-nodes.nodes.items)) ≡ count_function tree =
    length-map (map numbered_node c.in_ok-nodes.nodes.items) (of_function c.loop-i.i) ∙ length-map c.in_ok-nodes.nodes.items numbered_node ∙ made in
    let of = λ (name : Name) (s e : ℕ). map numbered_function c.loop-i.listed.items ++ record { name = name; start = s; exit = e } ∷ [] in
    let one =
    ap (map numbered_function) c.in_ok-push.ensures.items
    ∙ map-append numbered_function c.loop-i.listed.items _
    ∙ ap (λ name. of name c.len-start.result (c.len-start.result + (c.len.result - 1))) c.in_ok-name.ensures
    ∙ ap (λ s. of x.name s (c.len-start.result + (c.len.result - 1))) start
    ∙ ap (λ e. of x.name n e) exit in
    let some = c.in_ok-append.ensures ∙ ap (λ l. map numbered_point c.loop-i.points.items ++ map (of_function c.loop-i.i) l) nodes in
    let made_more = more c.args.functions.now c.loop-i.i x n (length c.append.new.points.items) (map numbered_function c.loop-i.listed.items) (map numbered_function c.push.new.self.items) (map numbered_point c.loop-i.points.items) (map numbered_point c.append.new.points.items) _ _ _ c.loop-i-test.true c.index-functions-i.is (grown ∙ ap (λ k. n + k) grown_by) c.loop-i.invariant.count c.loop-i.invariant.functions c.loop-i.invariant.points one some in
    record { count = made_more.count; functions = made_more.functions; points = made_more.points }
