-- The rules on declared names, each by itself, and the laws of their faults.
use Rattle.std.specs.Prelude.{◌≡◌, ◌<◌, List, ◌∷◌, length, Option, Some, None, IsTrue, is_some}
use Rattle.csub_text.specs.declared.span.Span.{Span}
use Rattle.csub_tree.specs.declared.name.Name.{Name}
use Rattle.csub_tree.specs.declared.name.TypeName.{TypeName}
use Rattle.csub_tree.specs.declared.name.TypeName.TheVariants.{Struct}
use Rattle.csub_tree.specs.Expressions.{Expr}
use Rattle.csub_objects.specs.Types.{TypeTree, IsSized}
use Rattle.csub_scopes.specs.Scopes.{Scope}
use Rattle.csub_rules.specs.declared.fault.Fault.{Fault}
use Rattle.csub_rules.specs.Faults.{IsFirst}
use Rattle.csub_rules.specs.Constants.{constant}
use Rattle.csub_rules.specs.Uses.{as_constant}
use Rattle.csub_rules.specs.BrokenUse.{BrokenUse}
use Rattle.csub_rules.specs.Declarators.{base_type, is_bad_length, declared_type, base_fault, slot_fault}

-- the type that a declaration begins with
pub data BrokenBase (scope : Scope) : TypeName → Fault → Type 0 where
  -- no struct of the tag is defined before, or its definition breaks a rule
  m4 : (tag : Name) → base_type scope (Struct tag) ≡ None → BrokenBase scope (Struct tag) (record { rule = 4; span = tag.span })

-- one of the lengths
pub data IsDim : Expr → List Expr → Type 0 where
  this_dim : (d : Expr) (dims : List Expr) → IsDim d (d ∷ dims)
  next_dim : (d e : Expr) (dims : List Expr) → IsDim d dims → IsDim d (e ∷ dims)

-- a declared name at a place, with its lengths
pub data BrokenSlot (scope : Scope) (base : Option TypeTree) (at : Span) (dims : List Expr) : Fault → Type 0 where
  in_length : (d : Expr) (f : Fault) → IsDim d dims → BrokenUse scope as_constant d f → BrokenSlot scope base at dims f
  -- a length is a constant, and isn't 1 to 65,536
  m10_length : (d : Expr) → IsDim d dims → IsTrue (is_bad_length (constant scope d))
      → BrokenSlot scope base at dims (record { rule = 10; span = at })
  -- it has more than 3 dimensions
  m10_dimensions : 3 < length dims → BrokenSlot scope base at dims (record { rule = 10; span = at })
  -- no object may have its type
  m10_type : (t : TypeTree) → declared_type scope base dims ≡ Some t → (IsSized t → ⊥)
      → BrokenSlot scope base at dims (record { rule = 10; span = at })

-- what can be declared: its type is known, and an object may have it
pub record FineSlot (scope : Scope) (base : Option TypeTree) (dims : List Expr) : Type 0 where
  pub ctype : TypeTree
  pub is : declared_type scope base dims ≡ Some ctype
  pub sized : IsSized ctype

abbrev pub BaseFaultsAreBroken : Type 0
BaseFaultsAreBroken = (scope : Scope) (base : TypeName) (f : Fault) → base_fault scope base ≡ Some f → BrokenBase scope base f

abbrev pub BaseFaultsAreLeast : Type 0
BaseFaultsAreLeast =
    (scope : Scope) (base : TypeName) (f g : Fault) → base_fault scope base ≡ Some f → BrokenBase scope base g → IsFirst f g

abbrev pub NoBaseFaultNothingBroken : Type 0
NoBaseFaultNothingBroken = (scope : Scope) (base : TypeName) (g : Fault) → base_fault scope base ≡ None → BrokenBase scope base g → ⊥

-- and the type is known
abbrev pub NoBaseFaultIsFine : Type 0
NoBaseFaultIsFine =
    (scope : Scope) (base : TypeName) → base_fault scope base ≡ None → IsTrue (is_some (base_type scope base))

abbrev pub SlotFaultsAreBroken : Type 0
SlotFaultsAreBroken =
    (scope : Scope) (base : Option TypeTree) (at : Span) (dims : List Expr) (f : Fault) → slot_fault scope base at dims ≡ Some f
    → BrokenSlot scope base at dims f

abbrev pub SlotFaultsAreLeast : Type 0
SlotFaultsAreLeast =
    (scope : Scope) (base : Option TypeTree) (at : Span) (dims : List Expr) (f g : Fault) → slot_fault scope base at dims ≡ Some f
    → BrokenSlot scope base at dims g → IsFirst f g

abbrev pub NoSlotFaultNothingBroken : Type 0
NoSlotFaultNothingBroken =
    (scope : Scope) (base : Option TypeTree) (at : Span) (dims : List Expr) (g : Fault) → slot_fault scope base at dims ≡ None
    → BrokenSlot scope base at dims g → ⊥

-- where the type that the declaration begins with is known
abbrev pub NoSlotFaultIsFine : Type 0
NoSlotFaultIsFine =
    (scope : Scope) (base : TypeTree) (at : Span) (dims : List Expr) → slot_fault scope (Some base) at dims ≡ None
    → FineSlot scope (Some base) dims
