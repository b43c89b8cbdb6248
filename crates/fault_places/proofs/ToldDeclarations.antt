-- The first fault of an initialiser, of a declaration and of a parameter lies where these lie.
use Rattle.std.proofs.Common.{ℕ, ◌+◌, Bool, List, [], ◌∷◌, Option, Some, None}
use Rattle.csub_text.specs.declared.span.Span.{Span}
use Rattle.csub_tree.specs.declared.name.TypeName.{TypeName}
use Rattle.csub_tree.specs.declared.name.TypeName.TheVariants as types
use Rattle.csub_tree.specs.Expressions.{Expr}
use Rattle.csub_tree.specs.Declarations.{Init, Inits, One, Listed, NoInits, MoreInits, Declarator, Declare, Param}
use Rattle.csub_objects.specs.Types.{TypeTree}
use Rattle.csub_objects.specs.Parts.{part_type}
use Rattle.csub_scopes.specs.Scopes.{Scope}
use Rattle.csub_rules.specs.Uses.{as_constant}
use Rattle.csub_rules.specs.Initialisers as initialisers
use Rattle.csub_rules.specs.Initialisers.{use_at, init_fault, entries_fault}
use Rattle.csub_rules.specs.Declarators.{base_type, base_fault, object_type, dims_fault, slot_fault}
use Rattle.csub_rules.specs.Params.{param_base_fault, length_fault, param_fault}
use Rattle.csub_rules.specs.Here.{Here}
use Rattle.csub_rules.specs.Locals.{past_var, value_fault, var_fault, vars_fault, declare_fault}
use Rattle.csub_rules.proofs.LawsSound.{nothing, join}
use Rattle.fault_places.specs.Within.{IsWithin, WithinEach, WithinMaybe, WithinType, WithinExpr, WithinInit, WithinInits, WithinVar, WithinDeclare, WithinParam}
use Rattle.fault_places.proofs.Told.{Told, told_if}
use Rattle.fault_places.proofs.ToldExpressions.{span_within, use_told}

module _ (n : ℕ) where
  -- ---- initialisers

  entry_told : (scope : Scope) (file : Bool) (o : Option TypeTree) (e : Expr) → WithinExpr n e → Told n (initialisers.value_fault scope file o e)
  entry_told scope file None e w = nothing
  entry_told scope file (Some t) e w = join (use_told n scope (use_at file) e w) (told_if _ 11 (span_within n e w))

  mutual
    pub init_told : (scope : Scope) (file : Bool) (o : Option TypeTree) (x : Init) → WithinInit n x → Told n (init_fault scope file o x)
    init_told scope file o (One e) w = entry_told scope file o e w
    init_told scope file None (Listed xs s) w = nothing
    init_told scope file (Some t) (Listed xs s) w = join (told_if _ 11 w.1) (entries_told scope file t 0 xs w.0)

    entries_told : (scope : Scope) (file : Bool) (t : TypeTree) (i : ℕ) (xs : Inits) → WithinInits n xs → Told n (entries_fault scope file t i xs)
    entries_told scope file t i NoInits w = nothing
    entries_told scope file t i (MoreInits x rest) w =
        join (init_told scope file (part_type t i) x w.0) (entries_told scope file t (i + 1) rest w.1)

  -- ---- declared names

  pub base_told : (scope : Scope) (t : TypeName) → WithinType n t → Told n (base_fault scope t)
  base_told scope types.Void w = nothing
  base_told scope types.Char w = nothing
  base_told scope types.Int w = nothing
  base_told scope types.Unsigned w = nothing
  base_told scope (types.Struct tag) w = told_if _ 4 w

  dims_told : (scope : Scope) (dims : List Expr) → WithinEach (WithinExpr n) dims → Told n (dims_fault scope dims)
  dims_told scope [] w = nothing
  dims_told scope (d ∷ dims) w = join (use_told n scope as_constant d w.0) (dims_told scope dims w.1)

  pub slot_told : (scope : Scope) (base : Option TypeTree) (at : Span) (dims : List Expr) → IsWithin n at → WithinEach (WithinExpr n) dims
      → Told n (slot_fault scope base at dims)
  slot_told scope base at dims w v = join (told_if _ 10 w) (dims_told scope dims v)

  -- ---- declarations in blocks

  value_told : (scope : Scope) (t : Option TypeTree) (o : Option Init) → WithinMaybe (WithinInit n) o → Told n (value_fault scope t o)
  value_told scope t None w = nothing
  value_told scope t (Some x) w = init_told scope _ t x w

  var_told : (here : Here) (base : Option TypeTree) (d : Declarator) → WithinVar n d → Told n (var_fault here base d)
  var_told here base d w =
      join (join (join (told_if _ 2 w.0) (told_if _ 3 w.0)) (slot_told here.scope base d.name.span d.dims w.0 w.1))
      (value_told (past_var here base d).scope (object_type here.scope base d.dims) d.init w.2)

  vars_told : (here : Here) (base : Option TypeTree) (ds : List Declarator) → WithinEach (WithinVar n) ds → Told n (vars_fault here base ds)
  vars_told here base [] w = nothing
  vars_told here base (d ∷ ds) w = join (var_told here base d w.0) (vars_told (past_var here base d) base ds w.1)

  pub declare_told : (here : Here) (d : Declare) → WithinDeclare n d → Told n (declare_fault here d)
  declare_told here d w = join (base_told here.scope d.base w.0) (vars_told here (base_type here.scope d.base) d.vars w.1)

  -- ---- parameters

  param_base_told : (scope : Scope) (array : Bool) (t : TypeName) → WithinType n t → Told n (param_base_fault scope array t)
  param_base_told scope array types.Void w = nothing
  param_base_told scope array types.Char w = nothing
  param_base_told scope array types.Int w = nothing
  param_base_told scope array types.Unsigned w = nothing
  param_base_told scope array (types.Struct tag) w = told_if _ 4 w

  length_told : (scope : Scope) (o : Option Expr) → WithinMaybe (WithinExpr n) o → Told n (length_fault scope o)
  length_told scope None w = nothing
  length_told scope (Some e) w = use_told n scope as_constant e w

  pub param_told : (scope : Scope) (p : Param) → WithinParam n p → Told n (param_fault scope p)
  param_told scope p w = join (param_base_told scope p.array p.base w.0) (length_told scope p.length w.2)
