-- The types of parameters (C11 6.7.6.3), and the rules on them.
use Rattle.std.specs.Prelude.{◌≡◌, Bool, Option, Some, None, option_map, is_some, not, ◌||◌, IsTrue, if◌then◌else◌}
use Rattle.csub_tree.specs.declared.name.Name.{Name}
use Rattle.csub_tree.specs.declared.name.TypeName.{TypeName}
use Rattle.csub_tree.specs.declared.name.TypeName.TheVariants as names
use Rattle.csub_tree.specs.Expressions.{Expr}
use Rattle.csub_tree.specs.Declarations.{Param}
use Rattle.csub_objects.specs.Types.{TypeTree, loose_type}
use Rattle.csub_scopes.specs.Scopes.{Scope}
use Rattle.csub_rules.specs.declared.fault.Fault.{Fault}
use Rattle.csub_rules.specs.Faults.{fault_if, ◌or_earlier◌, IsFirst}
use Rattle.csub_rules.specs.Uses.{as_constant, use_fault}
use Rattle.csub_rules.specs.BrokenUse.{BrokenUse}
use Rattle.csub_rules.specs.Declarators.{number_base, base_type, lacks_struct}

-- with brackets it is a parameter for an array, whose length means nothing (C11 6.7.6.3p7); without, a number
abbrev pub param_type : Scope → Param → Option TypeTree
param_type scope p = if p.array then option_map loose_type (base_type scope p.base) else number_base p.base

-- M4: a struct isn't defined before its use, or a parameter without brackets has a struct type
abbrev pub param_base_fault : Scope → Bool → TypeName → Option Fault
param_base_fault scope array names.Void = None
param_base_fault scope array names.Char = None
param_base_fault scope array names.Int = None
param_base_fault scope array names.Unsigned = None
param_base_fault scope array (names.Struct tag) = fault_if (not array || lacks_struct scope tag) 4 tag.span

-- M9 and others: a length is a constant
abbrev pub length_fault : Scope → Option Expr → Option Fault
length_fault scope None = None
length_fault scope (Some e) = use_fault scope as_constant e

-- the earliest fault of a parameter's type
abbrev pub param_fault : Scope → Param → Option Fault
param_fault scope p = param_base_fault scope p.array p.base or_earlier length_fault scope p.length

-- each rule by itself
pub data BrokenParam (scope : Scope) (p : Param) : Fault → Type 0 where
  -- no struct of the tag is defined before, or its definition breaks a rule
  m4_tag : (tag : Name) → p.base ≡ names.Struct tag → base_type scope (names.Struct tag) ≡ None
      → BrokenParam scope p (record { rule = 4; span = tag.span })
  -- a parameter that is no array has a struct type
  m4_struct : (tag : Name) → p.base ≡ names.Struct tag → IsTrue (not p.array) → BrokenParam scope p (record { rule = 4; span = tag.span })
  in_brackets : (e : Expr) (f : Fault) → p.length ≡ Some e → BrokenUse scope as_constant e f → BrokenParam scope p f

abbrev pub ParamFaultsAreBroken : Type 0
ParamFaultsAreBroken = (scope : Scope) (p : Param) (f : Fault) → param_fault scope p ≡ Some f → BrokenParam scope p f

abbrev pub ParamFaultsAreLeast : Type 0
ParamFaultsAreLeast = (scope : Scope) (p : Param) (f g : Fault) → param_fault scope p ≡ Some f → BrokenParam scope p g → IsFirst f g

abbrev pub NoParamFaultNothingBroken : Type 0
NoParamFaultNothingBroken = (scope : Scope) (p : Param) (g : Fault) → param_fault scope p ≡ None → BrokenParam scope p g → ⊥

-- and the type is known
abbrev pub NoParamFaultIsFine : Type 0
NoParamFaultIsFine =
    (scope : Scope) (p : Param) → param_fault scope p ≡ None → IsTrue (is_some (param_type scope p))
