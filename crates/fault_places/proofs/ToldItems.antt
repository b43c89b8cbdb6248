-- The first fault of an item of a source lies where the item lies.
use Rattle.std.proofs.Common.{ℕ, ℤ, pos, List, [], ◌∷◌, Option, Some, None, map}
use Rattle.csub_tree.specs.declared.name.Name.{Name as NameAt}
use Rattle.csub_tree.specs.Declarations.{Init, Declarator, Declare, Param, Head}
use Rattle.csub_tree.specs.Units.{Constant, Item, Struct, Enum, Object, Prototype, Function}
use Rattle.csub_objects.specs.Types.{TypeTree}
use Rattle.csub_scopes.specs.Scopes.{Scope}
use Rattle.csub_rules.specs.Declarators.{base_type, object_type}
use Rattle.csub_rules.specs.Constants.{enum_value}
use Rattle.csub_rules.specs.ExprSorts.{number_of}
use Rattle.csub_rules.specs.Here.{Here}
use Rattle.csub_rules.proofs.LawsSound.{nothing, join}
use Rattle.csub_rules.specs.Files.{File, name_fault, tag_fault}
use Rattle.csub_rules.specs.Structs.{field_names, line_fault, fields_fault, struct_fault}
use Rattle.csub_rules.specs.Enums.{value_after, past_constant, constants_fault, past_tag, perhaps_tag_fault}
use Rattle.csub_rules.specs.Objects.{past_object, initial_fault, objects_fault}
use Rattle.csub_rules.specs.Heads.{at_params, past_param, param_name_fault, params_fault, head_fault}
use Rattle.csub_rules.specs.Items.{past_item, in_function, item_fault, items_fault}
use Rattle.fault_places.specs.Within.{WithinEach, WithinMaybe, WithinName, WithinInit, WithinVar, WithinDeclare, WithinParam, WithinHead}
use Rattle.fault_places.specs.Within.{WithinConstant, WithinItem}
use Rattle.fault_places.proofs.Told.{Told, told_if}
use Rattle.fault_places.proofs.ToldExpressions.{enum_told}
use Rattle.fault_places.proofs.ToldDeclarations.{init_told, base_told, slot_told, param_told}
use Rattle.fault_places.proofs.ToldStatements.{both_within, twice_told, body_told}

module _ (n : ℕ) where
  name_told : (scope : Scope) (x : NameAt) → WithinName n x → Told n (name_fault scope x)
  name_told scope x w = join (told_if _ 2 w) (told_if _ 3 w)

  tag_told : (scope : Scope) (x : NameAt) → WithinName n x → Told n (tag_fault scope x)
  tag_told scope x w = join (told_if _ 2 w) (told_if _ 3 w)

  -- ---- structs

  line_told : (scope : Scope) (base : Option TypeTree) (ds : List Declarator) → WithinEach (WithinVar n) ds → Told n (line_fault scope base ds)
  line_told scope base [] w = nothing
  line_told scope base (d ∷ ds) w =
      join (join (told_if _ 3 w.0.0) (slot_told n scope base d.name.span d.dims w.0.0 w.0.1)) (line_told scope base ds w.1)

  fields_told : (scope : Scope) (ds : List Declare) → WithinEach (WithinDeclare n) ds → Told n (fields_fault scope ds)
  fields_told scope [] w = nothing
  fields_told scope (d ∷ ds) w =
      join (join (base_told n scope d.base w.0.0) (line_told scope (base_type scope d.base) d.vars w.0.1)) (fields_told scope ds w.1)

  names_within : (ds : List Declarator) → WithinEach (WithinVar n) ds → WithinEach (WithinName n) (map (λ v. v.name) ds)
  names_within [] w = tt
  names_within (d ∷ ds) w = (w.0.0, names_within ds w.1)

  fields_within : (ds : List Declare) → WithinEach (WithinDeclare n) ds → WithinEach (WithinName n) (field_names ds)
  fields_within [] w = tt
  fields_within (d ∷ ds) w = both_within n (map (λ v. v.name) d.vars) (field_names ds) (names_within d.vars w.0.1) (fields_within ds w.1)

  struct_told : (scope : Scope) (tag : NameAt) (ds : List Declare) → WithinName n tag → WithinEach (WithinDeclare n) ds
      → Told n (struct_fault scope tag ds)
  struct_told scope tag ds w v =
      join (join (join (tag_told scope tag w) (told_if _ 10 w)) (fields_told scope ds v)) (twice_told n [] (field_names ds) (fields_within ds v))

  -- ---- enumerations

  constants_told : (scope : Scope) (next : ℤ) (cs : List Constant) → WithinEach (WithinConstant n) cs → Told n (constants_fault scope next cs)
  constants_told scope next [] w = nothing
  constants_told scope next (c ∷ cs) w =
      join (join (name_told scope c.name w.0.0) (enum_told n scope next c.name.span c.value w.0.0 w.0.1))
      (constants_told (past_constant scope next c) (value_after next (enum_value scope next c.value)) cs w.1)

  perhaps_tag_told : (scope : Scope) (o : Option NameAt) → WithinMaybe (WithinName n) o → Told n (perhaps_tag_fault scope o)
  perhaps_tag_told scope None w = nothing
  perhaps_tag_told scope (Some tag) w = tag_told scope tag w

  -- ---- objects

  initial_told : (scope : Scope) (t : Option TypeTree) (o : Option Init) → WithinMaybe (WithinInit n) o → Told n (initial_fault scope t o)
  initial_told scope t None w = nothing
  initial_told scope t (Some x) w = init_told n scope _ t x w

  objects_told : (scope : Scope) (base : Option TypeTree) (ds : List Declarator) → WithinEach (WithinVar n) ds → Told n (objects_fault scope base ds)
  objects_told scope base [] w = nothing
  objects_told scope base (d ∷ ds) w =
      join (join (join (name_told scope d.name w.0.0) (slot_told n scope base d.name.span d.dims w.0.0 w.0.1))
      (initial_told (past_object scope base d) (object_type scope base d.dims) d.init w.0.2)) (objects_told (past_object scope base d) base ds w.1)

  -- ---- functions

  param_name_told : (here : Here) (o : Option NameAt) → WithinMaybe (WithinName n) o → Told n (param_name_fault here o)
  param_name_told here None w = nothing
  param_name_told here (Some x) w = join (told_if _ 2 w) (told_if _ 3 w)

  params_told : (here : Here) (ps : List Param) → WithinEach (WithinParam n) ps → Told n (params_fault here ps)
  params_told here [] w = nothing
  params_told here (p ∷ ps) w =
      join (join (param_name_told here p.name w.0.1) (param_told n here.scope p w.0)) (params_told (past_param here p) ps w.1)

  head_told : (scope : Scope) (h : Head) → WithinHead n h → Told n (head_fault scope h)
  head_told scope h w = join (join (join (told_if _ 2 w.1) (told_if _ 3 w.1)) (told_if _ 19 w.1)) (params_told (at_params scope) h.params w.2)

  -- ---- items

  item_told : (file : File) (i : Item) → WithinItem n i → Told n (item_fault file i)
  item_told file (Struct tag ds) w = struct_told file.scope tag ds w.0 w.1
  item_told file (Enum tag cs) w = join (perhaps_tag_told file.scope tag w.0) (constants_told (past_tag file.scope tag) (pos 0) cs w.1)
  item_told file (Object d) w = join (base_told n file.scope d.base w.0) (objects_told file.scope (base_type file.scope d.base) d.vars w.1)
  item_told file (Prototype h) w = head_told file.scope h w
  item_told file (Function h body s) w =
      join (join (head_told file.scope h w.0) (told_if _ 19 w.0.1)) (body_told n (number_of h.result) (in_function file.scope h) body w.1)

  pub items_told : (file : File) (items : List Item) → WithinEach (WithinItem n) items → Told n (items_fault file items)
  items_told file [] w = nothing
  items_told file (i ∷ rest) w = join (item_told file i w.0) (items_told (past_item file i) rest w.1)
