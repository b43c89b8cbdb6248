-- What the code makes of an expression.
use Rattle.std.specs.Prelude.{◌≡◌, ℕ, Some}
use Rattle.csub_tree.specs.Expressions.{Expr}
use Rattle.csub_objects.specs.Types.{TypeTree, number_type, array_type, struct_type, loose_type}
use Rattle.csub_objects.specs.Meaning.{type_tree}
use Rattle.csub_scopes.specs.Scopes.{Scope}
use Rattle.csub_semantics.specs.Trees.{NamedPlace, NamedExpr, NamedArg, reading, value_argument, array_argument, place_tree, expr_tree}
use Rattle.csub_rules.specs.Sorts.{Sort, a_place, a_value, a_void, kind_of}
use Rattle.csub_rules.specs.ExprSorts.{sort_of}
use Rattle.csub_resolution.specs.Values.{place, value, no_place, zero}
use Rattle.csub_lower.specs.declared.made.Made.{Made}
use Rattle.csub_lower.specs.declared.made.Number.{Number}
use Rattle.csub_lower.specs.declared.made.Made.TheVariants.{Place, Value, Void}

abbrev pub made_sort : Made → Sort
made_sort (Place p t) = a_place (type_tree t.now)
made_sort (Value v k) = a_value k
made_sort Void = a_void

abbrev pub made_place : Made → NamedPlace
made_place (Place p t) = place_tree p.value
made_place (Value v k) = no_place
made_place Void = no_place

abbrev pub made_value : Made → NamedExpr
made_value (Place p t) = reading (place_tree p.value)
made_value (Value v k) = expr_tree v.value
made_value Void = zero

-- the argument for a parameter of a type (C11 6.5.2.2p4 and 6.7.6.3p7)
abbrev pub made_argument : TypeTree → Made → NamedArg
made_argument (number_type k) m = value_argument (made_value m)
made_argument (array_type t n) m = value_argument (made_value m)
made_argument (struct_type tag ms) m = value_argument (made_value m)
made_argument (loose_type t) m = array_argument (made_place m)

-- what was made is what the expression, before which its part makes k calls, stands for
pub record IsMade (scope : Scope) (k : ℕ) (e : Expr) (m : Made) : Type 0 where
  pub sort : sort_of scope e ≡ made_sort m
  pub place : place scope k e ≡ made_place m
  pub value : value scope k e ≡ made_value m

-- what was made is the number that the expression, before which its part makes k calls, stands for
pub record IsNumber (scope : Scope) (k : ℕ) (e : Expr) (n : Number) : Type 0 where
  pub kind : kind_of (sort_of scope e) ≡ Some n.kind
  pub value : value scope k e ≡ expr_tree n.value.value
