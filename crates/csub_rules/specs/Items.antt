-- The items of a source (C11 6.9), and the rules on them.
use Rattle.std.specs.Prelude.{List, [], ◌∷◌, Bool, true, false, Option, Some, None, not, is_some, ◌&&◌, ◌||◌, bytes_eq}
use Rattle.std.specs.List.{list_any}
use Rattle.csub_types.specs.declared.kind.IntKind.{IntKind}
use Rattle.csub_types.specs.declared.kind.IntKind.TheVariants.{Int}
use Rattle.csub_tree.specs.Declarations.{Param, Head}
use Rattle.csub_tree.specs.Units.{Item, Struct, Enum, Object, Prototype, Function}
use Rattle.csub_objects.specs.Types.{kind_eq, main_name}
use Rattle.csub_scopes.specs.Scopes.{Scope}
use Rattle.csub_rules.specs.declared.fault.Fault.{Fault}
use Rattle.csub_rules.specs.Faults.{fault_if, ◌or_earlier◌}
use Rattle.csub_rules.specs.ExprSorts.{number_of}
use Rattle.csub_rules.specs.Here.{Here}
use Rattle.csub_rules.specs.Labels.{stands_in}
use Rattle.csub_rules.specs.Bodies.{body_fault}
use Rattle.csub_rules.specs.Files.{File}
use Rattle.csub_rules.specs.Objects.{past_declaration, declaration_fault}
use Rattle.csub_rules.specs.Structs.{past_struct, struct_fault}
use Rattle.csub_rules.specs.Enums.{past_enum, enumeration_fault}
use Rattle.csub_rules.specs.Heads.{at_params, past_params, past_head, head_fault}

-- what is declared behind an item
abbrev pub past_item : File → Item → File
past_item file (Struct tag ds) = record file { scope = past_struct file.scope tag ds }
past_item file (Enum tag cs) = record file { scope = past_enum file.scope tag cs }
past_item file (Object d) = record file { scope = past_declaration file.scope d }
past_item file (Prototype h) = record file { scope = past_head file.scope h }
past_item file (Function h body s) = record { scope = past_head file.scope h; defined = h.name.text ∷ file.defined }

abbrev pub past_items : File → List Item → File
past_items file [] = file
past_items file (i ∷ rest) = past_items (past_item file i) rest

-- M19: a defined parameter has no name (C11 6.9.1p5)
abbrev pub lacks_names : List Param → Bool
lacks_names ps = list_any (λ p. not (is_some p.name)) ps

-- M19: `main` gives `int` and has no parameters (C11 5.1.2.2.1p1)
abbrev pub is_int : Option IntKind → Bool
is_int None = false
is_int (Some k) = kind_eq k Int

abbrev pub has_none : List Param → Bool
has_none [] = true
has_none (p ∷ ps) = false

abbrev pub is_other_main : Head → Bool
is_other_main h = bytes_eq h.name.text main_name && not (is_int (number_of h.result) && has_none h.params)

-- M19: a function is defined twice (C11 6.9p5), or not as its definition has to be
abbrev pub is_misdefined : File → Head → Bool
is_misdefined file h = stands_in h.name.text file.defined || (lacks_names h.params || is_other_main h)

-- what the lines of a function's body see
abbrev pub in_function : Scope → Head → Here
in_function scope h = past_params (at_params (past_head scope h)) h.params

-- the earliest fault of an item
abbrev pub item_fault : File → Item → Option Fault
item_fault file (Struct tag ds) = struct_fault file.scope tag ds
item_fault file (Enum tag cs) = enumeration_fault file.scope tag cs
item_fault file (Object d) = declaration_fault file.scope d
item_fault file (Prototype h) = head_fault file.scope h
item_fault file (Function h body s) =
    head_fault file.scope h or_earlier fault_if (is_misdefined file h) 19 h.name.span
    or_earlier body_fault (number_of h.result) (in_function file.scope h) body

abbrev pub items_fault : File → List Item → Option Fault
items_fault file [] = None
items_fault file (i ∷ rest) = item_fault file i or_earlier items_fault (past_item file i) rest
