-- Declarations in blocks (C11 6.7), what they declare, and the rules on them.
use Rattle.std.specs.Prelude.{false, List, [], ◌∷◌, Option, Some, None}
use Rattle.csub_tree.specs.Declarations.{Init, Declarator, Declare}
use Rattle.csub_objects.specs.Types.{TypeTree}
use Rattle.csub_scopes.specs.Scopes.{Scope}
use Rattle.csub_rules.specs.declared.fault.Fault.{Fault}
use Rattle.csub_rules.specs.Faults.{fault_if, ◌or_earlier◌}
use Rattle.csub_rules.specs.Declarators.{base_type, base_fault, object_type, slot_fault}
use Rattle.csub_rules.specs.Initialisers.{init_fault}
use Rattle.csub_rules.specs.Here.{Here, declaring, is_declared, is_reserved}

-- A name counts from the end of its declarator on, in its own initialiser too (C11 6.2.1p7).
abbrev pub past_var : Here → Option TypeTree → Declarator → Here
past_var here base d = declaring here d.name.text (object_type here.scope base d.dims)

abbrev pub past_vars : Here → Option TypeTree → List Declarator → Here
past_vars here base [] = here
past_vars here base (d ∷ ds) = past_vars (past_var here base d) base ds

abbrev pub past_declare : Here → Declare → Here
past_declare here d = past_vars here (base_type here.scope d.base) d.vars

-- the earliest fault of the initialiser of an object of a function; without a type, which is told before it, it isn't judged
abbrev pub value_fault : Scope → Option TypeTree → Option Init → Option Fault
value_fault scope t None = None
value_fault scope t (Some x) = init_fault scope false t x

-- the earliest fault of a declared object. M2: its name is declared twice in its block. M3: it is one of the library's.
abbrev pub var_fault : Here → Option TypeTree → Declarator → Option Fault
var_fault here base d =
    fault_if (is_declared here d.name.text) 2 d.name.span or_earlier fault_if (is_reserved d.name.text) 3 d.name.span
    or_earlier slot_fault here.scope base d.name.span d.dims
    or_earlier value_fault (past_var here base d).scope (object_type here.scope base d.dims) d.init

abbrev pub vars_fault : Here → Option TypeTree → List Declarator → Option Fault
vars_fault here base [] = None
vars_fault here base (d ∷ ds) = var_fault here base d or_earlier vars_fault (past_var here base d) base ds

-- the earliest fault of a declaration
abbrev pub declare_fault : Here → Declare → Option Fault
declare_fault here d = base_fault here.scope d.base or_earlier vars_fault here (base_type here.scope d.base) d.vars
