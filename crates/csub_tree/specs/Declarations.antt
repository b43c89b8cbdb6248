-- Initialisers and declarations as values.
use Rattle.std.specs.Prelude.{Bool, List, [], ◌∷◌, Option, map}
use Rattle.std.specs.Option.{option_map}
use Rattle.csub_text.specs.declared.span.Span.{Span}
use Rattle.csub_tree.specs.declared.name.Name.{Name}
use Rattle.csub_tree.specs.declared.name.TypeName.{TypeName}
use Rattle.csub_tree.specs.declared.declaration.Init.{Init as CodeInit, fold-Init}
use Rattle.csub_tree.specs.declared.declaration.Init.TheOpen.{Init-F}
use Rattle.csub_tree.specs.declared.declaration.Declarator.{Declarator as CodeDeclarator}
use Rattle.csub_tree.specs.declared.declaration.Declare.{Declare as CodeDeclare}
use Rattle.csub_tree.specs.declared.declaration.Param.{Param as CodeParam}
use Rattle.csub_tree.specs.declared.declaration.Head.{Head as CodeHead}
use Rattle.csub_tree.specs.Expressions.{Expr, expr_tree}

mutual
  pub data Init : Type 0 where
    One : Expr → Init
    Listed : Inits → Span → Init

  pub data Inits : Type 0 where
    NoInits : Inits
    MoreInits : Init → Inits → Inits

pub record Declarator : Type 0 where
  pub name : Name
  pub dims : List Expr
  pub init : Option Init

pub record Declare : Type 0 where
  pub base : TypeName
  pub vars : List Declarator
  pub span : Span

pub record Param : Type 0 where
  pub base : TypeName
  pub name : Option Name
  pub array : Bool
  pub length : Option Expr
  pub span : Span

pub record Head : Type 0 where
  pub result : TypeName
  pub name : Name
  pub params : List Param

abbrev pub inits_of : List Init → Inits
inits_of [] = NoInits
inits_of (i ∷ is) = MoreInits i (inits_of is)

-- the trees of the code
abbrev pub init_step : Init-F Init → Init
init_step (Init-F.One e) = One (expr_tree e)
init_step (Init-F.List is s) = Listed (inits_of is.items) s

abbrev pub init_tree : CodeInit → Init
init_tree = fold-Init Init init_step

abbrev pub declarator_tree : CodeDeclarator → Declarator
declarator_tree d = record { name = d.name; dims = map expr_tree d.dims.items; init = option_map init_tree d.init }

abbrev pub declare_tree : CodeDeclare → Declare
declare_tree d = record { base = d.base; vars = map declarator_tree d.vars.items; span = d.span }

abbrev pub param_tree : CodeParam → Param
param_tree p = record { base = p.base; name = p.name; array = p.array; length = option_map expr_tree p.length; span = p.span }

abbrev pub head_tree : CodeHead → Head
head_tree h = record { result = h.result; name = h.name; params = map param_tree h.params.items }
