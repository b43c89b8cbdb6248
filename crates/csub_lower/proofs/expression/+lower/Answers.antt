use Rattle.std.proofs.Common.{◌∙◌, ◌+◌, ◌++◌, ap, arith, map, length}
use Rattle.csub_types.specs.declared.kind.IntKind.TheVariants.{Int}
use Rattle.csub_tree.specs.Expressions.{expr_tree, exprs_of}
use Rattle.csub_scopes.specs.Meanings.{scope_of}
use Rattle.csub_semantics.specs.Syntax.{call_at}
use Rattle.csub_semantics.specs.Trees.{input_byte, output_byte, formatted}
use Rattle.csub_semantics.specs.Trees.{expr_tree as value_tree}
use Rattle.csub_semantics.specs.Trees.{exprs_of as values_of}
use Rattle.csub_rules.specs.Sorts.{a_value}
use Rattle.csub_rules.specs.Callees.{callee_of}
use Rattle.csub_resolution.specs.Values.{first_value, no_place, calls_in_all, count_all}
use Rattle.csub_lower.specs.Calls.{value_list}
use Rattle.csub_lower.proofs.Called.{ok_made, on_ok, one_value, input_made, input_calls, input_count, output_made, printed_made, printed_calls, printed_count}
use Rattle.csub_lower.proofs.Each.{small, fine, number}
use Rattle.csub_lower.proofs.expression.+lower.Goals as goal

pub arguments-lower-requires : goal.arguments-lower-requires
arguments-lower-requires t c =
    let least = small c.args.args.now c.loop-arg.arg-index c.arg-item.result c.loop-arg-test.true c.arg-item.is in
    (omega arith, fine c.args.args.now c.loop-arg.arg-index c.arg-item.result c.loop-arg-test.true c.arg-item.is (scope_of c.args.known.scope.now) c.loop-arg.invariant.fine)

pub numbers-number_of-requires : goal.numbers-number_of-requires
numbers-number_of-requires t c =
    let least = small c.args.args.now c.loop-arg.arg-index c.arg-item.result c.loop-arg-test.true c.arg-item.is in
    (omega arith, number c.args.args.now c.loop-arg.arg-index c.arg-item.result c.loop-arg-test.true c.arg-item.is (scope_of c.args.known.scope.now) c.loop-arg.invariant.fine)

pub call-output_node-requires : goal.call-output_node-requires
call-output_node-requires t c =
    one_value value_tree (scope_of c.args.known.scope.now) (length c.args.made.now.items) c.output_arg-args.result.now
    c.in_ok-numbers-in-Putchar.field-0.items c.in_ok-numbers-in-Putchar.ensures.values c.output_arg-args.ensures.one

pub call-returns-in-Getchar-clause-made : goal.call-returns-in-Getchar-clause-made
call-returns-in-Getchar-clause-made t c =
    ok_made c.input_node.result (a_value Int) no_place input_byte _
    (λ m. input_made (scope_of c.args.known.scope.now) (length c.args.made.now.items) c.args.f.now (exprs_of (map expr_tree c.args.args.now)) c.args.f.now.span m
    (c.in-Getchar.ensures ∙ ap (callee_of (scope_of c.args.known.scope.now)) c.bytes.ensures) c.requires)
    c.input_node.ensures.sort c.input_node.ensures.place c.input_node.ensures.value

pub call-returns-in-Getchar-clause-calls : goal.call-returns-in-Getchar-clause-calls
call-returns-in-Getchar-clause-calls t c =
    on_ok c.input_node.result
    (input_calls c.args.known.definitions.now (scope_of c.args.known.scope.now) (length c.args.made.now.items) c.args.f.now
    (exprs_of (map expr_tree c.args.args.now)) (map call_at c.args.made.now.items) (c.in-Getchar.ensures ∙ ap (callee_of (scope_of c.args.known.scope.now)) c.bytes.ensures) c.requires)

pub call-returns-in-Getchar-clause-count : goal.call-returns-in-Getchar-clause-count
call-returns-in-Getchar-clause-count t c =
    on_ok c.input_node.result
    (input_count (scope_of c.args.known.scope.now) (length c.args.made.now.items) c.args.f.now (exprs_of (map expr_tree c.args.args.now))
    (c.in-Getchar.ensures ∙ ap (callee_of (scope_of c.args.known.scope.now)) c.bytes.ensures) c.requires)

pub call-returns-in_ok-numbers-in-Putchar-clause-made : goal.call-returns-in_ok-numbers-in-Putchar-clause-made
call-returns-in_ok-numbers-in-Putchar-clause-made t c =
    ok_made c.output_node.result (a_value Int) no_place (output_byte (first_value (values_of (map value_tree c.in_ok-numbers-in-Putchar.field-0.items)))) _
    (λ m. output_made (scope_of c.args.known.scope.now) (length c.args.made.now.items) c.args.f.now (exprs_of (map expr_tree c.args.args.now)) c.args.f.now.span m
    (map value_tree c.in_ok-numbers-in-Putchar.field-0.items) (c.in-Putchar.ensures ∙ ap (callee_of (scope_of c.args.known.scope.now)) c.bytes.ensures) c.requires
    (c.in_ok-numbers-in-Putchar.ensures.values
    ∙ ap (λ es. value_list (scope_of c.args.known.scope.now) (length c.args.made.now.items) (exprs_of (map expr_tree es))) c.output_arg-args.ensures.same))
    c.output_node.ensures.sort c.output_node.ensures.place c.output_node.ensures.value

pub call-returns-in_ok-numbers-in-Printf-clause-made : goal.call-returns-in_ok-numbers-in-Printf-clause-made
call-returns-in_ok-numbers-in-Printf-clause-made t c =
    ok_made c.formatted_node.result (a_value Int) no_place
    (formatted c.in_ok-pieces-in-Printf.pieces.items (values_of (map value_tree c.in_ok-numbers-in-Printf.field-0.items))) _
    (λ m. printed_made c.args.known.definitions.now (scope_of c.args.known.scope.now) (length c.args.made.now.items) c.args.f.now c.args.args.now
    c.args.f.now.span m c.in_ok-pieces-in-Printf.pieces.items (map value_tree c.in_ok-numbers-in-Printf.field-0.items) (c.in-Printf.ensures ∙ ap (callee_of (scope_of c.args.known.scope.now)) c.bytes.ensures) c.requires
    c.in_ok-pieces-in-Printf.ensures
    (c.in_ok-numbers-in-Printf.ensures.values
    ∙ ap (λ es. value_list (scope_of c.args.known.scope.now) (length c.args.made.now.items) (exprs_of (map expr_tree es))) c.printed_args-args.ensures.behind))
    c.formatted_node.ensures.sort c.formatted_node.ensures.place c.formatted_node.ensures.value

pub call-returns-in_ok-numbers-in-Printf-clause-calls : goal.call-returns-in_ok-numbers-in-Printf-clause-calls
call-returns-in_ok-numbers-in-Printf-clause-calls t c =
    on_ok c.formatted_node.result
    (printed_calls c.args.known.definitions.now (scope_of c.args.known.scope.now) (length c.args.made.now.items) c.args.f.now c.args.args.now
    (map call_at c.args.made.now.items) (map call_at c.numbers-in-Printf.new.made.items) (c.in-Printf.ensures ∙ ap (callee_of (scope_of c.args.known.scope.now)) c.bytes.ensures) c.requires
    (c.in_ok-numbers-in-Printf.ensures.calls
    ∙ ap (λ es. map call_at c.args.made.now.items
    ++ calls_in_all c.args.known.definitions.now (scope_of c.args.known.scope.now) (length c.args.made.now.items) (exprs_of (map expr_tree es)))
    c.printed_args-args.ensures.behind))

pub call-returns-in_ok-numbers-in-Printf-clause-count : goal.call-returns-in_ok-numbers-in-Printf-clause-count
call-returns-in_ok-numbers-in-Printf-clause-count t c =
    on_ok c.formatted_node.result
    (printed_count c.args.known.definitions.now (scope_of c.args.known.scope.now) (length c.args.made.now.items) (length c.numbers-in-Printf.new.made.items)
    c.args.f.now c.args.args.now (c.in-Printf.ensures ∙ ap (callee_of (scope_of c.args.known.scope.now)) c.bytes.ensures) c.requires
    (c.in_ok-numbers-in-Printf.ensures.count
    ∙ ap (λ es. length c.args.made.now.items + count_all (scope_of c.args.known.scope.now) (exprs_of (map expr_tree es))) c.printed_args-args.ensures.behind))
