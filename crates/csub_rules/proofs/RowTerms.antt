-- Trees and a scope for closed facts.
use Rattle.std.specs.Prelude.{ℕ, pos, List, [], ◌∷◌, true, false, Option, Some, None, codes}
use Rattle.csub_text.specs.declared.span.Span.{Span}
use Rattle.csub_text.specs.declared.operator.UnaryOp.TheVariants.{Minus}
use Rattle.csub_types.specs.declared.kind.IntKind.TheVariants as kinds
use Rattle.csub_tree.specs.declared.name.Name.{Name}
use Rattle.csub_tree.specs.Expressions.{Expr, Kind, Exprs, Node, Number, Text, Named, Unary}
use Rattle.csub_tree.specs.Expressions.{Call, NoExprs, MoreExprs}
use Rattle.csub_objects.specs.Types.{number_type, array_type}
use Rattle.csub_scopes.specs.Scopes.{Scope, global_object, enum_constant, a_function}
use Rattle.csub_rules.specs.declared.fault.Fault.{Fault}

abbrev pub at : ℕ → Span
at n = record { start = n; end = n }

abbrev pub named : List ℕ → ℕ → Name
named x n = record { text = x; span = at n }

abbrev pub e : Kind → Expr
e k = Node k (at 0)

abbrev pub num : ℕ → Expr
num n = e (Number n false)

abbrev pub unsigned : ℕ → Expr
unsigned n = e (Number n true)

abbrev pub less : ℕ → Expr
less n = e (Unary Minus (num n))

abbrev pub name : List ℕ → Expr
name x = Node (Named (named x 7)) (at 7)

abbrev pub call : List ℕ → Exprs → Expr
call x args = Node (Call (named x 3) args) (at 3)

abbrev pub one : Expr → Exprs
one a = MoreExprs a NoExprs

abbrev pub string : List ℕ → Expr
string t = Node (Text t) (at 5)

abbrev pub breaks : ℕ → ℕ → Option Fault
breaks rule n = Some (record { rule = rule; span = at n })

-- `int x; char c[2]; enum { A = 5 }; int f(int); void g(void);`
abbrev pub here : Scope
here = record {
  names =
      (record { name = codes "x"; depth = 0; means = global_object (number_type kinds.Int) })
      ∷ (record { name = codes "c"; depth = 0; means = global_object (array_type (number_type kinds.Char) 2) })
      ∷ (record { name = codes "A"; depth = 0; means = enum_constant (pos 5) })
      ∷ (record { name = codes "f"; depth = 0; means = a_function (number_type kinds.Int ∷ []) (Some kinds.Int) })
      ∷ (record { name = codes "g"; depth = 0; means = a_function [] None }) ∷ [];
  tags = [];
}
