-- Objects of file scope (C11 6.9.2), and the rules on them.
use Rattle.std.specs.Prelude.{true, List, [], ◌∷◌, Option, Some, None}
use Rattle.csub_tree.specs.Declarations.{Init, Declarator, Declare}
use Rattle.csub_objects.specs.Types.{TypeTree}
use Rattle.csub_scopes.specs.Scopes.{Scope, Meaning, global_object, untyped}
use Rattle.csub_rules.specs.declared.fault.Fault.{Fault}
use Rattle.csub_rules.specs.Faults.{◌or_earlier◌}
use Rattle.csub_rules.specs.Declarators.{base_type, base_fault, object_type, slot_fault}
use Rattle.csub_rules.specs.Initialisers.{init_fault}
use Rattle.csub_rules.specs.Files.{naming, name_fault}

-- what a declared object means, by its type
abbrev pub global_meaning : Option TypeTree → Meaning
global_meaning None = untyped
global_meaning (Some t) = global_object t

-- A name counts from the end of its declarator on, in its own initialiser too (C11 6.2.1p7).
abbrev pub past_object : Scope → Option TypeTree → Declarator → Scope
past_object scope base d = naming scope d.name.text (global_meaning (object_type scope base d.dims))

abbrev pub past_objects : Scope → Option TypeTree → List Declarator → Scope
past_objects scope base [] = scope
past_objects scope base (d ∷ ds) = past_objects (past_object scope base d) base ds

abbrev pub past_declaration : Scope → Declare → Scope
past_declaration scope d = past_objects scope (base_type scope d.base) d.vars

-- the earliest fault of the initialiser of an object of file scope, whose values are constants (C11 6.7.9p4)
abbrev pub initial_fault : Scope → Option TypeTree → Option Init → Option Fault
initial_fault scope t None = None
initial_fault scope t (Some x) = init_fault scope true t x

abbrev pub object_fault : Scope → Option TypeTree → Declarator → Option Fault
object_fault scope base d =
    name_fault scope d.name or_earlier slot_fault scope base d.name.span d.dims
    or_earlier initial_fault (past_object scope base d) (object_type scope base d.dims) d.init

abbrev pub objects_fault : Scope → Option TypeTree → List Declarator → Option Fault
objects_fault scope base [] = None
objects_fault scope base (d ∷ ds) = object_fault scope base d or_earlier objects_fault (past_object scope base d) base ds

-- the earliest fault of a declaration at file scope
abbrev pub declaration_fault : Scope → Declare → Option Fault
declaration_fault scope d = base_fault scope d.base or_earlier objects_fault scope (base_type scope d.base) d.vars
