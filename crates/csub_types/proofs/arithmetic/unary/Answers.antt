use Rattle.std.proofs.Common.{IfOk, rules, sym, subst}
use Rattle.csub_types.specs.Kinds.{IsOf}
use Rattle.csub_types.specs.Arithmetic.{unary_kind}
use Rattle.csub_types.proofs.ResultLemmas.{unary_of_kind, unary_of_result_kind}
use Rattle.csub_types.proofs.arithmetic.unary.Goals as goal

pub returns-in-Minus-clause-value : goal.returns-in-Minus-clause-value
returns-in-Minus-clause-value c = search rules

pub returns-in-Minus-clause-of_kind : goal.returns-in-Minus-clause-of_kind
returns-in-Minus-clause-of_kind c = subst (λ r. IfOk r (IsOf c.args.kind)) (sym (returns-in-Minus-clause-value c)) (unary_of_kind c.args.op c.args.kind c.args.a c.requires.promoted c.requires.operand)

pub returns-in-Minus-clause-of_result_kind : goal.returns-in-Minus-clause-of_result_kind
returns-in-Minus-clause-of_result_kind c = subst (λ r. IfOk r (IsOf (unary_kind c.args.op c.args.kind))) (sym (returns-in-Minus-clause-value c)) (unary_of_result_kind c.args.op c.args.kind c.args.a c.requires.promoted c.requires.operand)

pub returns-in-Not-clause-value : goal.returns-in-Not-clause-value
returns-in-Not-clause-value c = search rules

pub returns-in-Not-clause-of_kind : goal.returns-in-Not-clause-of_kind
returns-in-Not-clause-of_kind c = subst (λ r. IfOk r (IsOf c.args.kind)) (sym (returns-in-Not-clause-value c)) (unary_of_kind c.args.op c.args.kind c.args.a c.requires.promoted c.requires.operand)

pub returns-in-Not-clause-of_result_kind : goal.returns-in-Not-clause-of_result_kind
returns-in-Not-clause-of_result_kind c = subst (λ r. IfOk r (IsOf (unary_kind c.args.op c.args.kind))) (sym (returns-in-Not-clause-value c)) (unary_of_result_kind c.args.op c.args.kind c.args.a c.requires.promoted c.requires.operand)

pub returns-in-Flip-clause-value : goal.returns-in-Flip-clause-value
returns-in-Flip-clause-value c = search rules

pub returns-in-Flip-clause-of_kind : goal.returns-in-Flip-clause-of_kind
returns-in-Flip-clause-of_kind c = subst (λ r. IfOk r (IsOf c.args.kind)) (sym (returns-in-Flip-clause-value c)) (unary_of_kind c.args.op c.args.kind c.args.a c.requires.promoted c.requires.operand)

pub returns-in-Flip-clause-of_result_kind : goal.returns-in-Flip-clause-of_result_kind
returns-in-Flip-clause-of_result_kind c = subst (λ r. IfOk r (IsOf (unary_kind c.args.op c.args.kind))) (sym (returns-in-Flip-clause-value c)) (unary_of_result_kind c.args.op c.args.kind c.args.a c.requires.promoted c.requires.operand)
