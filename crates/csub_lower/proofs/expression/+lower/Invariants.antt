use Rattle.std.proofs.Common.{◌≡◌, ◌+◌, ◌*◌, ◌++◌, IsTrue, map, drop, length}
use Rattle.csub_tree.specs.Expressions.{expr_tree, exprs_of}
use Rattle.csub_objects.specs.Meaning.{type_tree}
use Rattle.csub_scopes.specs.Meanings.{scope_of}
use Rattle.csub_semantics.specs.Syntax.{call_at}
use Rattle.csub_semantics.specs.Trees.{arg_tree}
use Rattle.csub_semantics.specs.Trees.{expr_tree as value_tree}
use Rattle.csub_rules.specs.Callees.{take_all}
use Rattle.csub_rules.specs.ExprSorts.{sorts_of}
use Rattle.csub_rules.specs.Fine.{FineNumbers}
use Rattle.csub_resolution.specs.Values.{arguments, calls_in_all, count_all}
use Rattle.csub_lower.specs.Calls.{FineEach, value_list}
use Rattle.csub_lower.specs.Sizes.{size, all_size}
use Rattle.csub_lower.proofs.expression.+lower.Given as goal

abbrev pub decreases-lower : goal.decreases-lower
decreases-lower l = 4 * size (expr_tree l.e.now)

abbrev pub decreases-number_of : goal.decreases-number_of
decreases-number_of l = 4 * size (expr_tree l.e.now) + 1

abbrev pub decreases-two_numbers : goal.decreases-two_numbers
decreases-two_numbers l = 4 * (size (expr_tree l.a.now) + size (expr_tree l.b.now)) + 2

abbrev pub decreases-made_and_number : goal.decreases-made_and_number
decreases-made_and_number l = 4 * (size (expr_tree l.a.now) + size (expr_tree l.b.now)) + 2

abbrev pub decreases-call : goal.decreases-call
decreases-call l = 4 * all_size (exprs_of (map expr_tree l.args.now)) + 3

abbrev pub decreases-arguments : goal.decreases-arguments
decreases-arguments l = 4 * all_size (exprs_of (map expr_tree l.args.now)) + 2

abbrev pub decreases-numbers : goal.decreases-numbers
decreases-numbers l = 4 * all_size (exprs_of (map expr_tree l.args.now)) + 2

abbrev pub invariant-arguments-loop-arg : goal.invariant-arguments-loop-arg
invariant-arguments-loop-arg l = record {
  args : map arg_tree l.values.items ++ arguments (scope_of l.known.scope.now) (length l.made.items) (map type_tree l.rest) (exprs_of (map expr_tree (drop l.arg-index l.args)))
      ≡ arguments (scope_of l.known.scope.now) (length l.fn.made.items) (map type_tree l.types) (exprs_of (map expr_tree l.args));
  calls : map call_at l.made.items ++ calls_in_all l.known.definitions.now (scope_of l.known.scope.now) (length l.made.items) (exprs_of (map expr_tree (drop l.arg-index l.args)))
      ≡ map call_at l.fn.made.items ++ calls_in_all l.known.definitions.now (scope_of l.known.scope.now) (length l.fn.made.items) (exprs_of (map expr_tree l.args));
  counts : length l.made.items + count_all (scope_of l.known.scope.now) (exprs_of (map expr_tree (drop l.arg-index l.args)))
      ≡ length l.fn.made.items + count_all (scope_of l.known.scope.now) (exprs_of (map expr_tree l.args));
  fine : FineEach (scope_of l.known.scope.now) (exprs_of (map expr_tree (drop l.arg-index l.args)));
  taken : IsTrue (take_all (map type_tree l.rest) (sorts_of (scope_of l.known.scope.now) (exprs_of (map expr_tree (drop l.arg-index l.args)))));
}

abbrev pub invariant-numbers-loop-arg : goal.invariant-numbers-loop-arg
invariant-numbers-loop-arg l = record {
  values : map value_tree l.values.items ++ value_list (scope_of l.known.scope.now) (length l.made.items) (exprs_of (map expr_tree (drop l.arg-index l.args)))
      ≡ value_list (scope_of l.known.scope.now) (length l.fn.made.items) (exprs_of (map expr_tree l.args));
  calls : map call_at l.made.items ++ calls_in_all l.known.definitions.now (scope_of l.known.scope.now) (length l.made.items) (exprs_of (map expr_tree (drop l.arg-index l.args)))
      ≡ map call_at l.fn.made.items ++ calls_in_all l.known.definitions.now (scope_of l.known.scope.now) (length l.fn.made.items) (exprs_of (map expr_tree l.args));
  counts : length l.made.items + count_all (scope_of l.known.scope.now) (exprs_of (map expr_tree (drop l.arg-index l.args)))
      ≡ length l.fn.made.items + count_all (scope_of l.known.scope.now) (exprs_of (map expr_tree l.args));
  fine : FineNumbers (scope_of l.known.scope.now) (exprs_of (map expr_tree (drop l.arg-index l.args)));
}
