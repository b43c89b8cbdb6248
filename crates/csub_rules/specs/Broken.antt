-- The rules on expressions, each by itself: one or two constructors for each.
use Rattle.std.specs.Prelude.{◌≡◌, ℕ, List, Option, Some, None, IsTrue, not}
use Rattle.csub_text.specs.declared.span.Span.{Span}
use Rattle.csub_types.specs.declared.kind.IntKind.{IntKind}
use Rattle.csub_tree.specs.declared.name.Name.{Name}
use Rattle.csub_tree.specs.Expressions.{Expr, Exprs, Node, Text, Named, Call, Index, Member, NoExprs, MoreExprs, span_of}
use Rattle.csub_objects.specs.Types.{TypeTree}
use Rattle.csub_scopes.specs.Scopes.{Scope}
use Rattle.csub_rules.specs.declared.fault.Fault.{Fault}
use Rattle.csub_rules.specs.Sorts.{Sort}
use Rattle.csub_rules.specs.Callees.{Callee, no_function, user_function, printf_function, exit_function, callee_of, params_of, misfits}
use Rattle.csub_rules.specs.Formats.{Literal, literal_of, asks_for}
use Rattle.csub_rules.specs.ExprSorts.{sort_of, sorts_of}
use Rattle.csub_rules.specs.ExprFaults.{Standing, later_operand, is_whole}
use Rattle.csub_rules.specs.ExprFaults.{is_unknown, lacks_member, lacks_array, lacks_number, lacks_place}
use Rattle.csub_rules.specs.Within.{Within, NumberAsked, PlaceAsked}

-- a call, at its callee's name and with the sorts of its arguments, breaks a rule by itself
pub data CallBreaks : Standing → Span → Callee → Exprs → List Sort → ℕ → Span → Type 0 where
  -- the called name is no function that is declared before
  m12 : (h : Standing) (at : Span) (args : Exprs) (ss : List Sort) → CallBreaks h at no_function args ss 12 at
  -- the number or the types of the arguments don't fit
  m13 : (h : Standing) (at : Span) (c : Callee) (args : Exprs) (ss : List Sort) (params : List TypeTree) → params_of c ≡ Some params
      → IsTrue (misfits params ss) → CallBreaks h at c args ss 13 at
  -- a function of the source is called in a later operand of `&&`, `||` or `?:`
  m14 : (at : Span) (params : List TypeTree) (result : Option IntKind) (args : Exprs) (ss : List Sort)
      → CallBreaks later_operand at (user_function params result) args ss 14 at
  -- `exit` is no whole expression statement
  m20_exit : (h : Standing) (at : Span) (args : Exprs) (ss : List Sort) → IsTrue (not (is_whole h))
      → CallBreaks h at exit_function args ss 20 at
  -- `printf` has no first argument
  m20_nothing : (h : Standing) (at : Span) (ss : List Sort) → CallBreaks h at printf_function NoExprs ss 20 at
  -- its first argument is no string
  m20_no_string : (h : Standing) (at : Span) (e : Expr) (rest : Exprs) (ss : List Sort) → literal_of e ≡ None
      → CallBreaks h at printf_function (MoreExprs e rest) ss 20 at
  -- the string has another conversion, or asks for another count of arguments
  m20_format : (h : Standing) (at : Span) (e : Expr) (rest : Exprs) (ss : List Sort) (l : Literal) → literal_of e ≡ Some l
      → IsTrue (not (asks_for l rest)) → CallBreaks h at printf_function (MoreExprs e rest) ss 20 l.span

-- an expression, as it stands, breaks a rule by itself
pub data Breaks (scope : Scope) : Standing → Expr → ℕ → Span → Type 0 where
  -- a name is no object, parameter or enum constant
  m1 : (h : Standing) (x : Name) (s : Span) → IsTrue (is_unknown scope x.text) → Breaks scope h (Node (Named x) s) 1 x.span
  -- a member is asked for of what is no struct place, or has no such member
  m5 : (h : Standing) (a : Expr) (n : Name) (s : Span) → IsTrue (lacks_member n.text (sort_of scope a))
      → Breaks scope h (Node (Member a n) s) 5 n.span
  -- an element is asked for of what is no array place
  m6_array : (h : Standing) (a i : Expr) (s : Span) → IsTrue (lacks_array (sort_of scope a)) → Breaks scope h (Node (Index a i) s) 6 s
  -- an index is no number
  m6_index : (h : Standing) (a i : Expr) (s : Span) → IsTrue (lacks_number (sort_of scope i)) → Breaks scope h (Node (Index a i) s) 6 s
  -- an array, a struct or a call without a value stands where a number is asked for
  m7 : (h : Standing) (x e : Expr) → NumberAsked scope x e → IsTrue (lacks_number (sort_of scope x)) → Breaks scope h e 7 (span_of x)
  -- what is assigned to or stepped is no place of a number
  m8 : (h : Standing) (x e : Expr) → PlaceAsked x e → IsTrue (lacks_place (sort_of scope x)) → Breaks scope h e 8 (span_of x)
  by_call : (h : Standing) (f : Name) (args : Exprs) (s : Span) (r : ℕ) (t : Span)
      → CallBreaks h f.span (callee_of scope f.text) args (sorts_of scope args) r t → Breaks scope h (Node (Call f args) s) r t
  -- a string stands elsewhere than as the first argument of `printf`
  m20_string : (h : Standing) (t : List ℕ) (s : Span) → Breaks scope h (Node (Text t) s) 20 s

-- a rule is broken at a place in an expression that stands so
pub record Broken (scope : Scope) (h : Standing) (e : Expr) (f : Fault) : Type 0 where
  pub standing : Standing
  pub node : Expr
  pub stands : Within scope h e standing node
  pub breaks : Breaks scope standing node f.rule f.span
