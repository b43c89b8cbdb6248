-- Units as values.
use Rattle.std.specs.Prelude.{List, Option, map}
use Rattle.std.specs.Option.{option_map}
use Rattle.csub_text.specs.declared.span.Span.{Span}
use Rattle.csub_tree.specs.declared.name.Name.{Name}
use Rattle.csub_tree.specs.declared.unit.Constant.{Constant as CodeConstant}
use Rattle.csub_tree.specs.declared.unit.Item.{Item as CodeItem}
use Rattle.csub_tree.specs.declared.unit.Item.TheVariants as code
use Rattle.csub_tree.specs.declared.unit.Unit.{Unit as CodeUnit}
use Rattle.csub_tree.specs.Expressions.{Expr, expr_tree}
use Rattle.csub_tree.specs.Declarations.{Declare, declare_tree, Head, head_tree}
use Rattle.csub_tree.specs.Statements.{Stmts, stmts_of, stmt_tree}

pub record Constant : Type 0 where
  pub name : Name
  pub value : Option Expr

pub data Item : Type 0 where
  Struct : Name → List Declare → Item
  Enum : Option Name → List Constant → Item
  Object : Declare → Item
  Prototype : Head → Item
  Function : Head → Stmts → Span → Item

pub record Source : Type 0 where
  pub items : List Item

-- the trees of the code
abbrev pub constant_tree : CodeConstant → Constant
constant_tree c = record { name = c.name; value = option_map expr_tree c.value }

abbrev pub item_tree : CodeItem → Item
item_tree (code.Struct n ds) = Struct n (map declare_tree ds.items)
item_tree (code.Enum n cs) = Enum n (map constant_tree cs.items)
item_tree (code.Object d) = Object (declare_tree d)
item_tree (code.Prototype h) = Prototype (head_tree h)
item_tree (code.Function h ss s) = Function (head_tree h) (stmts_of (map stmt_tree ss.items)) s

abbrev pub unit_tree : CodeUnit → Source
unit_tree u = record { items = map item_tree u.items.items }
