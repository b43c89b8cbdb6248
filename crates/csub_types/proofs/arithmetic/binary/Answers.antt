use Rattle.std.proofs.Common.{IfOk, rules, sym, subst}
use Rattle.csub_types.proofs.ResultLemmas.{binary_of_kind, binary_of_result_kind}
use Rattle.csub_types.specs.Kinds.{IsOf}
use Rattle.csub_types.specs.Arithmetic.{binary_kind}
use Rattle.csub_types.proofs.arithmetic.binary.Goals as goal

pub returns-in-Mul-clause-value : goal.returns-in-Mul-clause-value
returns-in-Mul-clause-value c = search rules

pub returns-in-Mul-clause-of_kind : goal.returns-in-Mul-clause-of_kind
returns-in-Mul-clause-of_kind c = subst (λ r. IfOk r (IsOf c.args.kind)) (sym (returns-in-Mul-clause-value c)) (binary_of_kind c.args.op c.args.kind c.args.a c.args.b c.requires.promoted c.requires.left)

pub returns-in-Mul-clause-of_result_kind : goal.returns-in-Mul-clause-of_result_kind
returns-in-Mul-clause-of_result_kind c = subst (λ r. IfOk r (IsOf (binary_kind c.args.op c.args.kind))) (sym (returns-in-Mul-clause-value c)) (binary_of_result_kind c.args.op c.args.kind c.args.a c.args.b c.requires.promoted c.requires.left)

pub returns-in-Div-clause-value : goal.returns-in-Div-clause-value
returns-in-Div-clause-value c = search rules

pub returns-in-Div-clause-of_kind : goal.returns-in-Div-clause-of_kind
returns-in-Div-clause-of_kind c = subst (λ r. IfOk r (IsOf c.args.kind)) (sym (returns-in-Div-clause-value c)) (binary_of_kind c.args.op c.args.kind c.args.a c.args.b c.requires.promoted c.requires.left)

pub returns-in-Div-clause-of_result_kind : goal.returns-in-Div-clause-of_result_kind
returns-in-Div-clause-of_result_kind c = subst (λ r. IfOk r (IsOf (binary_kind c.args.op c.args.kind))) (sym (returns-in-Div-clause-value c)) (binary_of_result_kind c.args.op c.args.kind c.args.a c.args.b c.requires.promoted c.requires.left)

pub returns-in-Rem-clause-value : goal.returns-in-Rem-clause-value
returns-in-Rem-clause-value c = search rules

pub returns-in-Rem-clause-of_kind : goal.returns-in-Rem-clause-of_kind
returns-in-Rem-clause-of_kind c = subst (λ r. IfOk r (IsOf c.args.kind)) (sym (returns-in-Rem-clause-value c)) (binary_of_kind c.args.op c.args.kind c.args.a c.args.b c.requires.promoted c.requires.left)

pub returns-in-Rem-clause-of_result_kind : goal.returns-in-Rem-clause-of_result_kind
returns-in-Rem-clause-of_result_kind c = subst (λ r. IfOk r (IsOf (binary_kind c.args.op c.args.kind))) (sym (returns-in-Rem-clause-value c)) (binary_of_result_kind c.args.op c.args.kind c.args.a c.args.b c.requires.promoted c.requires.left)

pub returns-in-Add-clause-value : goal.returns-in-Add-clause-value
returns-in-Add-clause-value c = search rules

pub returns-in-Add-clause-of_kind : goal.returns-in-Add-clause-of_kind
returns-in-Add-clause-of_kind c = subst (λ r. IfOk r (IsOf c.args.kind)) (sym (returns-in-Add-clause-value c)) (binary_of_kind c.args.op c.args.kind c.args.a c.args.b c.requires.promoted c.requires.left)

pub returns-in-Add-clause-of_result_kind : goal.returns-in-Add-clause-of_result_kind
returns-in-Add-clause-of_result_kind c = subst (λ r. IfOk r (IsOf (binary_kind c.args.op c.args.kind))) (sym (returns-in-Add-clause-value c)) (binary_of_result_kind c.args.op c.args.kind c.args.a c.args.b c.requires.promoted c.requires.left)

pub returns-in-Sub-clause-value : goal.returns-in-Sub-clause-value
returns-in-Sub-clause-value c = search rules

pub returns-in-Sub-clause-of_kind : goal.returns-in-Sub-clause-of_kind
returns-in-Sub-clause-of_kind c = subst (λ r. IfOk r (IsOf c.args.kind)) (sym (returns-in-Sub-clause-value c)) (binary_of_kind c.args.op c.args.kind c.args.a c.args.b c.requires.promoted c.requires.left)

pub returns-in-Sub-clause-of_result_kind : goal.returns-in-Sub-clause-of_result_kind
returns-in-Sub-clause-of_result_kind c = subst (λ r. IfOk r (IsOf (binary_kind c.args.op c.args.kind))) (sym (returns-in-Sub-clause-value c)) (binary_of_result_kind c.args.op c.args.kind c.args.a c.args.b c.requires.promoted c.requires.left)

pub returns-in-Shl-clause-value : goal.returns-in-Shl-clause-value
returns-in-Shl-clause-value c = search rules

pub returns-in-Shl-clause-of_kind : goal.returns-in-Shl-clause-of_kind
returns-in-Shl-clause-of_kind c = subst (λ r. IfOk r (IsOf c.args.kind)) (sym (returns-in-Shl-clause-value c)) (binary_of_kind c.args.op c.args.kind c.args.a c.args.b c.requires.promoted c.requires.left)

pub returns-in-Shl-clause-of_result_kind : goal.returns-in-Shl-clause-of_result_kind
returns-in-Shl-clause-of_result_kind c = subst (λ r. IfOk r (IsOf (binary_kind c.args.op c.args.kind))) (sym (returns-in-Shl-clause-value c)) (binary_of_result_kind c.args.op c.args.kind c.args.a c.args.b c.requires.promoted c.requires.left)

pub returns-in-Shr-clause-value : goal.returns-in-Shr-clause-value
returns-in-Shr-clause-value c = search rules

pub returns-in-Shr-clause-of_kind : goal.returns-in-Shr-clause-of_kind
returns-in-Shr-clause-of_kind c = subst (λ r. IfOk r (IsOf c.args.kind)) (sym (returns-in-Shr-clause-value c)) (binary_of_kind c.args.op c.args.kind c.args.a c.args.b c.requires.promoted c.requires.left)

pub returns-in-Shr-clause-of_result_kind : goal.returns-in-Shr-clause-of_result_kind
returns-in-Shr-clause-of_result_kind c = subst (λ r. IfOk r (IsOf (binary_kind c.args.op c.args.kind))) (sym (returns-in-Shr-clause-value c)) (binary_of_result_kind c.args.op c.args.kind c.args.a c.args.b c.requires.promoted c.requires.left)

pub returns-in-Lt-clause-value : goal.returns-in-Lt-clause-value
returns-in-Lt-clause-value c = search rules

pub returns-in-Lt-clause-of_kind : goal.returns-in-Lt-clause-of_kind
returns-in-Lt-clause-of_kind c = subst (λ r. IfOk r (IsOf c.args.kind)) (sym (returns-in-Lt-clause-value c)) (binary_of_kind c.args.op c.args.kind c.args.a c.args.b c.requires.promoted c.requires.left)

pub returns-in-Lt-clause-of_result_kind : goal.returns-in-Lt-clause-of_result_kind
returns-in-Lt-clause-of_result_kind c = subst (λ r. IfOk r (IsOf (binary_kind c.args.op c.args.kind))) (sym (returns-in-Lt-clause-value c)) (binary_of_result_kind c.args.op c.args.kind c.args.a c.args.b c.requires.promoted c.requires.left)

pub returns-in-Gt-clause-value : goal.returns-in-Gt-clause-value
returns-in-Gt-clause-value c = search rules

pub returns-in-Gt-clause-of_kind : goal.returns-in-Gt-clause-of_kind
returns-in-Gt-clause-of_kind c = subst (λ r. IfOk r (IsOf c.args.kind)) (sym (returns-in-Gt-clause-value c)) (binary_of_kind c.args.op c.args.kind c.args.a c.args.b c.requires.promoted c.requires.left)

pub returns-in-Gt-clause-of_result_kind : goal.returns-in-Gt-clause-of_result_kind
returns-in-Gt-clause-of_result_kind c = subst (λ r. IfOk r (IsOf (binary_kind c.args.op c.args.kind))) (sym (returns-in-Gt-clause-value c)) (binary_of_result_kind c.args.op c.args.kind c.args.a c.args.b c.requires.promoted c.requires.left)

pub returns-in-Le-clause-value : goal.returns-in-Le-clause-value
returns-in-Le-clause-value c = search rules

pub returns-in-Le-clause-of_kind : goal.returns-in-Le-clause-of_kind
returns-in-Le-clause-of_kind c = subst (λ r. IfOk r (IsOf c.args.kind)) (sym (returns-in-Le-clause-value c)) (binary_of_kind c.args.op c.args.kind c.args.a c.args.b c.requires.promoted c.requires.left)

pub returns-in-Le-clause-of_result_kind : goal.returns-in-Le-clause-of_result_kind
returns-in-Le-clause-of_result_kind c = subst (λ r. IfOk r (IsOf (binary_kind c.args.op c.args.kind))) (sym (returns-in-Le-clause-value c)) (binary_of_result_kind c.args.op c.args.kind c.args.a c.args.b c.requires.promoted c.requires.left)

pub returns-in-Ge-clause-value : goal.returns-in-Ge-clause-value
returns-in-Ge-clause-value c = search rules

pub returns-in-Ge-clause-of_kind : goal.returns-in-Ge-clause-of_kind
returns-in-Ge-clause-of_kind c = subst (λ r. IfOk r (IsOf c.args.kind)) (sym (returns-in-Ge-clause-value c)) (binary_of_kind c.args.op c.args.kind c.args.a c.args.b c.requires.promoted c.requires.left)

pub returns-in-Ge-clause-of_result_kind : goal.returns-in-Ge-clause-of_result_kind
returns-in-Ge-clause-of_result_kind c = subst (λ r. IfOk r (IsOf (binary_kind c.args.op c.args.kind))) (sym (returns-in-Ge-clause-value c)) (binary_of_result_kind c.args.op c.args.kind c.args.a c.args.b c.requires.promoted c.requires.left)

pub returns-in-Eq-clause-value : goal.returns-in-Eq-clause-value
returns-in-Eq-clause-value c = search rules

pub returns-in-Eq-clause-of_kind : goal.returns-in-Eq-clause-of_kind
returns-in-Eq-clause-of_kind c = subst (λ r. IfOk r (IsOf c.args.kind)) (sym (returns-in-Eq-clause-value c)) (binary_of_kind c.args.op c.args.kind c.args.a c.args.b c.requires.promoted c.requires.left)

pub returns-in-Eq-clause-of_result_kind : goal.returns-in-Eq-clause-of_result_kind
returns-in-Eq-clause-of_result_kind c = subst (λ r. IfOk r (IsOf (binary_kind c.args.op c.args.kind))) (sym (returns-in-Eq-clause-value c)) (binary_of_result_kind c.args.op c.args.kind c.args.a c.args.b c.requires.promoted c.requires.left)

pub returns-in-Ne-clause-value : goal.returns-in-Ne-clause-value
returns-in-Ne-clause-value c = search rules

pub returns-in-Ne-clause-of_kind : goal.returns-in-Ne-clause-of_kind
returns-in-Ne-clause-of_kind c = subst (λ r. IfOk r (IsOf c.args.kind)) (sym (returns-in-Ne-clause-value c)) (binary_of_kind c.args.op c.args.kind c.args.a c.args.b c.requires.promoted c.requires.left)

pub returns-in-Ne-clause-of_result_kind : goal.returns-in-Ne-clause-of_result_kind
returns-in-Ne-clause-of_result_kind c = subst (λ r. IfOk r (IsOf (binary_kind c.args.op c.args.kind))) (sym (returns-in-Ne-clause-value c)) (binary_of_result_kind c.args.op c.args.kind c.args.a c.args.b c.requires.promoted c.requires.left)

pub returns-in-BitAnd-clause-value : goal.returns-in-BitAnd-clause-value
returns-in-BitAnd-clause-value c = search rules

pub returns-in-BitAnd-clause-of_kind : goal.returns-in-BitAnd-clause-of_kind
returns-in-BitAnd-clause-of_kind c = subst (λ r. IfOk r (IsOf c.args.kind)) (sym (returns-in-BitAnd-clause-value c)) (binary_of_kind c.args.op c.args.kind c.args.a c.args.b c.requires.promoted c.requires.left)

pub returns-in-BitAnd-clause-of_result_kind : goal.returns-in-BitAnd-clause-of_result_kind
returns-in-BitAnd-clause-of_result_kind c = subst (λ r. IfOk r (IsOf (binary_kind c.args.op c.args.kind))) (sym (returns-in-BitAnd-clause-value c)) (binary_of_result_kind c.args.op c.args.kind c.args.a c.args.b c.requires.promoted c.requires.left)

pub returns-in-BitXor-clause-value : goal.returns-in-BitXor-clause-value
returns-in-BitXor-clause-value c = search rules

pub returns-in-BitXor-clause-of_kind : goal.returns-in-BitXor-clause-of_kind
returns-in-BitXor-clause-of_kind c = subst (λ r. IfOk r (IsOf c.args.kind)) (sym (returns-in-BitXor-clause-value c)) (binary_of_kind c.args.op c.args.kind c.args.a c.args.b c.requires.promoted c.requires.left)

pub returns-in-BitXor-clause-of_result_kind : goal.returns-in-BitXor-clause-of_result_kind
returns-in-BitXor-clause-of_result_kind c = subst (λ r. IfOk r (IsOf (binary_kind c.args.op c.args.kind))) (sym (returns-in-BitXor-clause-value c)) (binary_of_result_kind c.args.op c.args.kind c.args.a c.args.b c.requires.promoted c.requires.left)

pub returns-in-BitOr-clause-value : goal.returns-in-BitOr-clause-value
returns-in-BitOr-clause-value c = search rules

pub returns-in-BitOr-clause-of_kind : goal.returns-in-BitOr-clause-of_kind
returns-in-BitOr-clause-of_kind c = subst (λ r. IfOk r (IsOf c.args.kind)) (sym (returns-in-BitOr-clause-value c)) (binary_of_kind c.args.op c.args.kind c.args.a c.args.b c.requires.promoted c.requires.left)

pub returns-in-BitOr-clause-of_result_kind : goal.returns-in-BitOr-clause-of_result_kind
returns-in-BitOr-clause-of_result_kind c = subst (λ r. IfOk r (IsOf (binary_kind c.args.op c.args.kind))) (sym (returns-in-BitOr-clause-value c)) (binary_of_result_kind c.args.op c.args.kind c.args.a c.args.b c.requires.promoted c.requires.left)
