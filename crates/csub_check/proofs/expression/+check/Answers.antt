use Rattle.std.proofs.Common.{◌≡◌, ◌∙◌, ap}
use Rattle.csub_scopes.specs.Meanings.{scope_of}
use Rattle.csub_text.specs.declared.span.Span.{Span}
use Rattle.csub_tree.specs.Expressions.{expr_tree}
use Rattle.csub_rules.specs.ExprFaults.{lacks_number, number_fault}
use Rattle.csub_rules.specs.ExprSorts.{sort_of}
use Rattle.csub_rules.specs.Faults.{fault_if}
use Rattle.csub_check.specs.Seen.{the_sort, the_standing, the_wanted}
use Rattle.csub_check.proofs.Steps.{suits_more, misfits_more, fault_more}
use Rattle.csub_check.proofs.expression.+check.Goals as goal

pub check_args-loop-arg-preserved : goal.check_args-loop-arg-preserved
check_args-loop-arg-preserved t c =
    let number : c.number_fault.result ≡ number_fault (scope_of c.args.scope.now) (expr_tree c.arg-item.result) =
    c.number_fault.ensures ∙ ap (λ s. fault_if (lacks_number s) 7 c.check-checked.result.span) c.check-checked.ensures.sort
    ∙ ap (λ (at : Span). fault_if (lacks_number (sort_of (scope_of c.args.scope.now) (expr_tree c.arg-item.result))) 7 at) c.check-checked.ensures.span in
    record {
      suits = suits_more (scope_of c.args.scope.now) c.args.args.now c.loop-arg.arg-index c.arg-item.result
          (the_wanted c.loop-arg.rest) (the_wanted c.after-rest.result) c.loop-arg.suits c.next_suits.result (the_sort c.check-checked.result.sort)
          c.loop-arg-test.true c.arg-item.is c.check-checked.ensures.sort c.next_suits.ensures c.after-rest.ensures ∙ c.loop-arg.invariant.suits;
      misfits = misfits_more (scope_of c.args.scope.now) c.args.args.now c.loop-arg.arg-index c.arg-item.result
          (the_wanted c.loop-arg.rest) (the_wanted c.after-rest.result) c.loop-arg.misfits c.next_misfits.result (the_sort c.check-checked.result.sort)
          c.loop-arg-test.true c.arg-item.is c.check-checked.ensures.sort c.next_misfits.ensures c.after-rest.ensures ∙ c.loop-arg.invariant.misfits;
      faults = fault_more (scope_of c.args.scope.now) (the_standing c.args.standing) c.args.args.now c.loop-arg.arg-index c.arg-item.result
          (the_wanted c.loop-arg.rest) (the_wanted c.after-rest.result) c.loop-arg.least c.earlier-least.result c.next_fault-fault.result
          c.check-checked.result.fault c.number_fault.result c.loop-arg-test.true c.arg-item.is c.check-checked.ensures.fault number
          c.next_fault-fault.ensures c.earlier-least.ensures c.after-rest.ensures ∙ c.loop-arg.invariant.faults;
    }
