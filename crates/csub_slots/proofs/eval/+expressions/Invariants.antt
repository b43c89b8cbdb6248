use Rattle.std.proofs.Common.{◌≡◌, ◌++◌, map, drop, length}
use Rattle.csub_semantics.specs.Trees.{exprs_of}
use Rattle.csub_semantics.specs.Memory.{then_do, value}
use Rattle.csub_semantics.specs.Evaluation.{eval_all}
use Rattle.csub_flat.specs.Seen.{expr_seen}
use Rattle.csub_slots.specs.Memory.{flat}
use Rattle.csub_slots.specs.States.{state_of, Keeps}
use Rattle.csub_slots.proofs.eval.+expressions.Given as goal

abbrev pub invariant-eval_values-loop-expr : goal.invariant-eval_values-loop-expr
invariant-eval_values-loop-expr l =
    record {
      made :
          then_do (eval_all (flat l.base) (exprs_of (map expr_seen (drop l.expr-index l.exprs))) (state_of l.store)) (λ vs t. value (l.values.items ++ vs) t)
          ≡ eval_all (flat l.base) (exprs_of (map expr_seen l.exprs)) (state_of l.fn.store);
      done : length l.values.items ≡ l.expr-index;
      kept : Keeps l.fn.store l.store;
    }
