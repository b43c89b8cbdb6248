-- Items that can be resolved.
use Rattle.std.specs.Prelude.{◌≡◌, true, List, [], ◌∷◌, Option, Some, None, IsTrue, is_some, not}
use Rattle.csub_tree.specs.declared.name.Name.{Name as NameAt}
use Rattle.csub_tree.specs.Declarations.{Param, Init, Declarator, Declare, Head}
use Rattle.csub_tree.specs.Units.{Item, Struct, Enum, Object, Prototype, Function, Source}
use Rattle.csub_objects.specs.Types.{TypeTree}
use Rattle.csub_scopes.specs.Scopes.{Scope, find}
use Rattle.csub_rules.specs.BrokenInit.{FineInit}
use Rattle.csub_rules.specs.BrokenSlot.{FineSlot}
use Rattle.csub_rules.specs.Bodies.{FineBody}
use Rattle.csub_rules.specs.Declarators.{base_type, object_type}
use Rattle.csub_rules.specs.ExprSorts.{number_of}
use Rattle.csub_rules.specs.Here.{Here, is_declared, is_reserved}
use Rattle.csub_rules.specs.Params.{param_type}
use Rattle.csub_rules.specs.Files.{File, no_file, is_known}
use Rattle.csub_rules.specs.Heads.{at_params, past_param, is_taken, contradicts}
use Rattle.csub_rules.specs.Items.{past_item, is_misdefined, in_function}
use Rattle.csub_rules.specs.Objects.{past_object}
use Rattle.csub_rules.specs.Units.{unit_fault}

-- an object of file scope
abbrev pub FineInitial : Scope → Option TypeTree → Option Init → Type 0
FineInitial scope t None = Unit {0}
FineInitial scope t (Some x) = FineInit scope true t x

abbrev pub FineObject : Scope → Option TypeTree → Declarator → Type 0
FineObject scope base d =
    FineSlot scope base d.dims × IsTrue (not (is_known scope d.name.text)) × IsTrue (not (is_reserved d.name.text))
    × FineInitial (past_object scope base d) (object_type scope base d.dims) d.init

abbrev pub FineObjects : Scope → Option TypeTree → List Declarator → Type 0
FineObjects scope base [] = Unit {0}
FineObjects scope base (d ∷ ds) = FineObject scope base d × FineObjects (past_object scope base d) base ds

abbrev pub FineDeclaration : Scope → Declare → Type 0
FineDeclaration scope d = IsTrue (is_some (base_type scope d.base)) × FineObjects scope (base_type scope d.base) d.vars

-- a head with its parameters
abbrev pub FineName : Here → Option NameAt → Type 0
FineName here None = Unit {0}
FineName here (Some x) = IsTrue (not (is_declared here x.text)) × IsTrue (not (is_reserved x.text))

abbrev pub FineParams : Here → List Param → Type 0
FineParams here [] = Unit {0}
FineParams here (p ∷ ps) = IsTrue (is_some (param_type here.scope p)) × FineName here p.name × FineParams (past_param here p) ps

abbrev pub FineHead : Scope → Head → Type 0
FineHead scope h =
    IsTrue (not (is_taken (find h.name.text scope.names))) × IsTrue (not (is_reserved h.name.text)) × IsTrue (not (contradicts scope h))
    × FineParams (at_params scope) h.params

-- structs and enumerations leave nothing to be resolved
abbrev pub FineItem : File → Item → Type 0
FineItem file (Struct tag ds) = Unit {0}
FineItem file (Enum tag cs) = Unit {0}
FineItem file (Object d) = FineDeclaration file.scope d
FineItem file (Prototype h) = FineHead file.scope h
FineItem file (Function h body s) =
    FineHead file.scope h × IsTrue (not (is_misdefined file h)) × FineBody (number_of h.result) (in_function file.scope h) body

abbrev pub FineItems : File → List Item → Type 0
FineItems file [] = Unit {0}
FineItems file (i ∷ rest) = FineItem file i × FineItems (past_item file i) rest

-- where there is no fault, all items of the source can be resolved
abbrev pub NoUnitFaultIsFine : Type 0
NoUnitFaultIsFine = (u : Source) → unit_fault u ≡ None → FineItems no_file u.items
