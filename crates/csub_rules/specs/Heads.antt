-- Declared functions (C11 6.7.6.3), and the rules on them.
use Rattle.std.specs.Prelude.{List, [], ◌∷◌, Bool, true, false, Option, Some, None, not, ◌&&◌, if◌then◌else◌}
use Rattle.csub_types.specs.declared.kind.IntKind.{IntKind}
use Rattle.csub_types.specs.declared.kind.IntKind.TheVariants.{Int}
use Rattle.csub_tree.specs.declared.name.Name.{Name as NameAt}
use Rattle.csub_tree.specs.Declarations.{Param, Head}
use Rattle.csub_objects.specs.Types.{TypeTree, number_type, type_eq, kind_eq}
use Rattle.csub_scopes.specs.Scopes.{Scope, Declared, Meaning, global_object, local_object, enum_constant, a_function, untyped, find}
use Rattle.csub_rules.specs.declared.fault.Fault.{Fault}
use Rattle.csub_rules.specs.Faults.{fault_if, ◌or_earlier◌}
use Rattle.csub_rules.specs.ExprSorts.{number_of}
use Rattle.csub_rules.specs.Params.{param_type, param_fault}
use Rattle.csub_rules.specs.Here.{Here, declaring, is_declared, is_reserved}
use Rattle.csub_rules.specs.Files.{naming, is_known}

-- where parameters stand: in the block of their function's body, or in the scope of their own prototype (C11 6.2.1p4)
abbrev pub at_params : Scope → Here
at_params scope = record { scope = scope; depth = 1; before = [] }

abbrev pub past_name : Here → Option NameAt → Option TypeTree → Here
past_name here None t = here
past_name here (Some x) t = declaring here x.text t

abbrev pub past_param : Here → Param → Here
past_param here p = past_name here p.name (param_type here.scope p)

abbrev pub past_params : Here → List Param → Here
past_params here [] = here
past_params here (p ∷ ps) = past_params (past_param here p) ps

-- M2: two parameters have one name. M3: it is one of the library's.
abbrev pub param_name_fault : Here → Option NameAt → Option Fault
param_name_fault here None = None
param_name_fault here (Some x) = fault_if (is_declared here x.text) 2 x.span or_earlier fault_if (is_reserved x.text) 3 x.span

-- the earliest fault of parameters, each of which sees those before it
abbrev pub params_fault : Here → List Param → Option Fault
params_fault here [] = None
params_fault here (p ∷ ps) = param_name_fault here p.name or_earlier param_fault here.scope p or_earlier params_fault (past_param here p) ps

-- a parameter's type as calls see it, `int` where its declaration breaks a rule
abbrev pub sure_type : Option TypeTree → TypeTree
sure_type None = number_type Int
sure_type (Some t) = t

abbrev pub param_types : Here → List Param → List TypeTree
param_types here [] = []
param_types here (p ∷ ps) = sure_type (param_type here.scope p) ∷ param_types (past_param here p) ps

-- what a head declares
abbrev pub signature : Scope → Head → Meaning
signature scope h = a_function (param_types (at_params scope) h.params) (number_of h.result)

-- Two declarations of a function agree: they have as many parameters, each with the same type, and results of the same type
-- (C11 6.7.6.3p15). A parameter whose declaration breaks a rule has no type, and agrees with every other.
abbrev pub agrees : TypeTree → Option TypeTree → Bool
agrees t None = true
agrees t (Some u) = type_eq t u

abbrev pub params_agree : Scope → List TypeTree → List Param → Bool
params_agree scope [] [] = true
params_agree scope [] (p ∷ ps) = false
params_agree scope (t ∷ ts) [] = false
params_agree scope (t ∷ ts) (p ∷ ps) = agrees t (param_type scope p) && params_agree scope ts ps

abbrev pub results_eq : Option IntKind → Option IntKind → Bool
results_eq None None = true
results_eq None (Some k) = false
results_eq (Some j) None = false
results_eq (Some j) (Some k) = kind_eq j k

-- a name is declared before as something else than a function
abbrev pub is_other : Meaning → Bool
is_other (global_object t) = true
is_other (local_object n t) = true
is_other (enum_constant v) = true
is_other (a_function ps r) = false
is_other untyped = true

abbrev pub is_taken : Option Declared → Bool
is_taken None = false
is_taken (Some d) = is_other d.means

-- a name is declared before as a function with which the head disagrees
abbrev pub disagrees : Meaning → Scope → Head → Bool
disagrees (global_object t) scope h = false
disagrees (local_object n t) scope h = false
disagrees (enum_constant v) scope h = false
disagrees (a_function ts r) scope h = not (params_agree scope ts h.params && results_eq r (number_of h.result))
disagrees untyped scope h = false

abbrev pub is_declared_otherwise : Option Declared → Scope → Head → Bool
is_declared_otherwise None scope h = false
is_declared_otherwise (Some d) scope h = disagrees d.means scope h

-- M19: the function is declared before, with other types (C11 6.7p4)
abbrev pub contradicts : Scope → Head → Bool
contradicts scope h = is_declared_otherwise (find h.name.text scope.names) scope h

-- the earliest fault of a head's name; M2: it is declared before, and not as a function, and M3: it is one of the library's
abbrev pub head_name_fault : Scope → Head → Option Fault
head_name_fault scope h =
    fault_if (is_taken (find h.name.text scope.names)) 2 h.name.span
    or_earlier fault_if (is_reserved h.name.text) 3 h.name.span
    or_earlier fault_if (contradicts scope h) 19 h.name.span

-- the earliest fault of a head
abbrev pub head_fault : Scope → Head → Option Fault
head_fault scope h = head_name_fault scope h or_earlier params_fault (at_params scope) h.params

-- a name counts from the end of its declarator on (C11 6.2.1p7); what it meant before, it means on
abbrev pub past_head : Scope → Head → Scope
past_head scope h = if is_known scope h.name.text then scope else naming scope h.name.text (signature scope h)
