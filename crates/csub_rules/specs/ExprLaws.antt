-- The laws of faults of expressions.
use Rattle.std.specs.Prelude.{◌≡◌, Some, None}
use Rattle.csub_tree.specs.Expressions.{Expr}
use Rattle.csub_scopes.specs.Scopes.{Scope, HasTypes}
use Rattle.csub_rules.specs.declared.fault.Fault.{Fault}
use Rattle.csub_rules.specs.Faults.{IsFirst}
use Rattle.csub_rules.specs.ExprFaults.{Standing, is_whole, fault}
use Rattle.csub_rules.specs.Fine.{Fine}
use Rattle.csub_rules.specs.Broken.{Broken}

-- a fault is a broken rule
abbrev pub FaultsAreBroken : Type 0
FaultsAreBroken = (scope : Scope) (h : Standing) (e : Expr) (f : Fault) → fault scope h e ≡ Some f → Broken scope h e f

-- no rule is broken before it
abbrev pub FaultsAreLeast : Type 0
FaultsAreLeast =
    (scope : Scope) (h : Standing) (e : Expr) (f g : Fault) → fault scope h e ≡ Some f → Broken scope h e g → IsFirst f g

-- where there is none, no rule is broken
abbrev pub NoFaultNothingBroken : Type 0
NoFaultNothingBroken = (scope : Scope) (h : Standing) (e : Expr) (g : Fault) → fault scope h e ≡ None → Broken scope h e g → ⊥

-- and the expression can be resolved, where each object in scope has a type
abbrev pub NoFaultIsFine : Type 0
NoFaultIsFine = (scope : Scope) (h : Standing) (e : Expr) → HasTypes scope → fault scope h e ≡ None → Fine scope (is_whole h) e
