use Rattle.std.proofs.Common.{◌≡◌, ◌&&◌, ◌||◌, map, drop}
use Rattle.csub_scopes.specs.Meanings.{scope_of}
use Rattle.csub_tree.specs.Expressions.{expr_tree, exprs_of}
use Rattle.csub_rules.specs.ExprSorts.{sorts_of}
use Rattle.csub_rules.specs.Faults.{◌or_earlier◌}
use Rattle.csub_check.specs.Arguments.{all_fault, all_suit, any_misfit}
use Rattle.csub_check.specs.Seen.{the_standing, the_wanted}
use Rattle.csub_check.proofs.expression.+check.Given as goal

abbrev pub invariant-check_args-loop-arg : goal.invariant-check_args-loop-arg
invariant-check_args-loop-arg l = record {
  suits : (l.suits && all_suit (the_wanted l.rest) (sorts_of (scope_of l.scope) (exprs_of (map expr_tree (drop l.arg-index l.args)))))
      ≡ all_suit (the_wanted l.wanted) (sorts_of (scope_of l.scope) (exprs_of (map expr_tree l.args)));
  misfits : (l.misfits || any_misfit (the_wanted l.rest) (sorts_of (scope_of l.scope) (exprs_of (map expr_tree (drop l.arg-index l.args)))))
      ≡ any_misfit (the_wanted l.wanted) (sorts_of (scope_of l.scope) (exprs_of (map expr_tree l.args)));
  faults : (l.least or_earlier all_fault (scope_of l.scope) (the_standing l.standing) (the_wanted l.rest) (exprs_of (map expr_tree (drop l.arg-index l.args))))
      ≡ all_fault (scope_of l.scope) (the_standing l.standing) (the_wanted l.wanted) (exprs_of (map expr_tree l.args));
}
