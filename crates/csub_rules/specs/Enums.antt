-- Enumerations (C11 6.7.2.2), and the rules on them.
use Rattle.std.specs.Prelude.{ℤ, pos, ◌+ℤ◌, List, [], ◌∷◌, Option, Some, None}
use Rattle.csub_tree.specs.declared.name.Name.{Name as NameAt}
use Rattle.csub_tree.specs.Units.{Constant}
use Rattle.csub_scopes.specs.Scopes.{Scope, Meaning, enum_constant, untyped}
use Rattle.csub_rules.specs.declared.fault.Fault.{Fault}
use Rattle.csub_rules.specs.Faults.{◌or_earlier◌}
use Rattle.csub_rules.specs.Constants.{enum_value}
use Rattle.csub_rules.specs.Uses.{enum_fault}
use Rattle.csub_rules.specs.Files.{naming, name_fault, tagging, tag_fault}

-- the value of a constant without an expression: one more than that of the one before it, and 0 for the first (C11 6.7.2.2p3)
abbrev pub value_after : ℤ → Option ℤ → ℤ
value_after next None = next
value_after next (Some v) = v +ℤ pos 1

abbrev pub constant_meaning : Option ℤ → Meaning
constant_meaning None = untyped
constant_meaning (Some v) = enum_constant v

-- an enum constant counts behind its value (C11 6.2.1p7)
abbrev pub past_constant : Scope → ℤ → Constant → Scope
past_constant scope next c = naming scope c.name.text (constant_meaning (enum_value scope next c.value))

abbrev pub past_constants : Scope → ℤ → List Constant → Scope
past_constants scope next [] = scope
past_constants scope next (c ∷ cs) = past_constants (past_constant scope next c) (value_after next (enum_value scope next c.value)) cs

abbrev pub constant_fault : Scope → ℤ → Constant → Option Fault
constant_fault scope next c = name_fault scope c.name or_earlier enum_fault scope next c.name.span c.value

abbrev pub constants_fault : Scope → ℤ → List Constant → Option Fault
constants_fault scope next [] = None
constants_fault scope next (c ∷ cs) =
    constant_fault scope next c
    or_earlier constants_fault (past_constant scope next c) (value_after next (enum_value scope next c.value)) cs

-- a tag, where there is one
abbrev pub past_tag : Scope → Option NameAt → Scope
past_tag scope None = scope
past_tag scope (Some tag) = tagging scope tag.text None

abbrev pub perhaps_tag_fault : Scope → Option NameAt → Option Fault
perhaps_tag_fault scope None = None
perhaps_tag_fault scope (Some tag) = tag_fault scope tag

abbrev pub past_enum : Scope → Option NameAt → List Constant → Scope
past_enum scope tag cs = past_constants (past_tag scope tag) (pos 0) cs

-- the earliest fault of an enumeration
abbrev pub enumeration_fault : Scope → Option NameAt → List Constant → Option Fault
enumeration_fault scope tag cs = perhaps_tag_fault scope tag or_earlier constants_fault (past_tag scope tag) (pos 0) cs
