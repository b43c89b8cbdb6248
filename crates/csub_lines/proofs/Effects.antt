-- What has an effect and calls none of the source's functions is a number.
use Rattle.std.proofs.Common.{◌≡◌, refl, List, [], ◌∷◌, Option, Some, None, Bool, true, false, ◌&&◌, IsTrue}
use Rattle.csub_types.specs.declared.kind.IntKind.{IntKind}
use Rattle.csub_tree.specs.Expressions.{Expr, Exprs, Node, Number, Char, Text, Named, Paren, Unary, Cast, Step, Binary, And, Or}
use Rattle.csub_tree.specs.Expressions.{Choose, Assign, Call, Index, Member, NoExprs, MoreExprs}
use Rattle.csub_objects.specs.Types.{Name, TypeTree, element_type, member_type}
use Rattle.csub_scopes.specs.Scopes.{Scope, Declared, Meaning, global_object, local_object, enum_constant, a_function, untyped, find}
use Rattle.csub_rules.specs.Library.{LibraryName, getchar, putchar, printf, exit, eof, library_name}
use Rattle.csub_rules.specs.Sorts.{Sort, a_place, a_value, a_void, no_sort, is_sorted, is_number, is_number_place, value_if, sort_if}
use Rattle.csub_rules.specs.Sorts.{place_of, element_of, member_of}
use Rattle.csub_rules.specs.Callees.{Callee, no_function, user_function, getchar_function, putchar_function, printf_function, exit_function}
use Rattle.csub_rules.specs.Callees.{callee_of, fixed_params, takes, take_all, are_numbers}
use Rattle.csub_rules.specs.ExprSorts.{sort_of, sorts_of, sort_by, sort_of_meaning, call_sort}
use Rattle.csub_rules.specs.Fine.{Fine, FineCall, FineArgs, FineNumbers, FinePrint}
use Rattle.csub_rules.specs.Formats.{literal_of, is_format}
use Rattle.csub_rules.specs.Uses.{has_effect}
use Rattle.csub_rules.proofs.LawsServed.{both}
use Rattle.csub_resolution.specs.Lines.{is_own, is_call}

-- a place or a value
abbrev Gives : Sort → Type 0
Gives (a_place t) = Unit {0}
Gives (a_value k) = Unit {0}
Gives a_void = ⊥
Gives no_sort = ⊥

number_given : (s : Sort) → Gives s → IsTrue (has_effect s) → IsTrue (is_number s)
number_given (a_place t) g h = h
number_given (a_value k) g h = refl
number_given a_void g h = absurd g
number_given no_sort g h = absurd g

valued : (b : Bool) (k : IntKind) → IsTrue b → Gives (value_if b k)
valued true k h = tt
valued false k h = absurd (cc)

sorted : (b : Bool) (s : Sort) → IsTrue b → Gives s → Gives (sort_if b s)
sorted true s h g = g
sorted false s h g = absurd (cc)

placed : (o : Option TypeTree) → IsTrue (is_sorted (place_of o)) → Gives (place_of o)
placed None h = absurd (cc)
placed (Some t) h = tt

element : (s : Sort) → IsTrue (is_sorted (element_of s)) → Gives (element_of s)
element (a_place t) h = placed (element_type t) h
element (a_value k) h = absurd (cc)
element a_void h = absurd (cc)
element no_sort h = absurd (cc)

member : (m : Name) (s : Sort) → IsTrue (is_sorted (member_of m s)) → Gives (member_of m s)
member m (a_place t) h = placed (member_type m t) h
member m (a_value k) h = absurd (cc)
member m a_void h = absurd (cc)
member m no_sort h = absurd (cc)

meant : (m : Meaning) → IsTrue (is_sorted (sort_of_meaning m)) → Gives (sort_of_meaning m)
meant (global_object t) h = tt
meant (local_object k t) h = tt
meant (enum_constant v) h = tt
meant (a_function params result) h = absurd (cc)
meant untyped h = absurd (cc)

named : (l : Option LibraryName) (d : Option Declared) → IsTrue (is_sorted (sort_by l d)) → Gives (sort_by l d)
named None None h = absurd (cc)
named None (Some d) h = meant d.means h
named (Some getchar) d h = absurd (cc)
named (Some putchar) d h = absurd (cc)
named (Some printf) d h = absurd (cc)
named (Some exit) d h = absurd (cc)
named (Some eof) d h = tt

module _ (scope : Scope) where
  fit : (ps : List TypeTree) (es : Exprs) → FineArgs scope ps es → IsTrue (take_all ps (sorts_of scope es))
  fit [] NoExprs h = refl
  fit [] (MoreExprs e rest) h = absurd h
  fit (p ∷ ps) NoExprs h = absurd h
  fit (p ∷ ps) (MoreExprs e rest) h = both (takes p (sort_of scope e)) (take_all ps (sorts_of scope rest)) h.1 (fit ps rest h.2)

  all_numbers : (es : Exprs) → FineNumbers scope es → IsTrue (are_numbers (sorts_of scope es))
  all_numbers NoExprs h = refl
  all_numbers (MoreExprs e rest) h = both (is_number (sort_of scope e)) (are_numbers (sorts_of scope rest)) h.1 (all_numbers rest h.2)

  printed : (es : Exprs) → FinePrint scope es → Gives (call_sort printf_function es (sorts_of scope es))
  printed NoExprs h = absurd h
  printed (MoreExprs e rest) h =
      sorted (is_format (literal_of e) rest && are_numbers (sorts_of scope rest)) _
      (both (is_format (literal_of e) rest) (are_numbers (sorts_of scope rest)) h.0 (all_numbers rest h.1)) tt

  called : (c : Callee) (args : Exprs) → FineCall false c (FineArgs scope (fixed_params c) args) (FinePrint scope args) → is_own c ≡ false
      → Gives (call_sort c args (sorts_of scope args))
  called no_function args h e = absurd h
  called (user_function params result) args h e = absurd (cc)
  called getchar_function args h e = sorted (take_all (fixed_params getchar_function) (sorts_of scope args)) _ (fit (fixed_params getchar_function) args h) tt
  called putchar_function args h e = sorted (take_all (fixed_params putchar_function) (sorts_of scope args)) _ (fit (fixed_params putchar_function) args h) tt
  called printf_function args h e = printed args h
  called exit_function args h e = let whole : IsTrue false = h.0 in absurd (cc)

  given : (e : Expr) → Fine scope false e → is_call scope e ≡ false → Gives (sort_of scope e)
  given (Node (Number n u) s) h e = tt
  given (Node (Char b) s) h e = tt
  given (Node (Text t) s) h e = absurd h
  given (Node (Named x) s) h e = named (library_name x.text) (find x.text scope.names) h
  given (Node (Paren a) s) h e = given a h e
  given (Node (Unary o a) s) h e = valued (is_number (sort_of scope a)) _ h.1
  given (Node (Cast t a) s) h e = valued (is_number (sort_of scope a)) _ h.1
  given (Node (Step o a) s) h e = valued (is_number_place (sort_of scope a)) _ h.1
  given (Node (Binary o a b) s) h e =
      valued (is_number (sort_of scope a) && is_number (sort_of scope b)) _ (both (is_number (sort_of scope a)) (is_number (sort_of scope b)) h.2 h.3)
  given (Node (And a b) s) h e =
      valued (is_number (sort_of scope a) && is_number (sort_of scope b)) _ (both (is_number (sort_of scope a)) (is_number (sort_of scope b)) h.2 h.3)
  given (Node (Or a b) s) h e =
      valued (is_number (sort_of scope a) && is_number (sort_of scope b)) _ (both (is_number (sort_of scope a)) (is_number (sort_of scope b)) h.2 h.3)
  given (Node (Choose c a b) s) h e =
      let later = is_number (sort_of scope a) && is_number (sort_of scope b) in
      valued (is_number (sort_of scope c) && later) _
      (both (is_number (sort_of scope c)) later h.3 (both (is_number (sort_of scope a)) (is_number (sort_of scope b)) h.4 h.5))
  given (Node (Assign o a b) s) h e =
      valued (is_number_place (sort_of scope a) && is_number (sort_of scope b)) _
      (both (is_number_place (sort_of scope a)) (is_number (sort_of scope b)) h.2 h.3)
  given (Node (Call f args) s) h e = called (callee_of scope f.text) args h e
  given (Node (Index a i) s) h e = sorted (is_number (sort_of scope i)) (element_of (sort_of scope a)) h.3 (element (sort_of scope a) h.2)
  given (Node (Member a m) s) h e = member m.text (sort_of scope a) h.1

  pub gives_number : (e : Expr) → Fine scope false e → IsTrue (has_effect (sort_of scope e)) → is_call scope e ≡ false
      → IsTrue (is_number (sort_of scope e))
  gives_number e f h c = number_given (sort_of scope e) (given e f c) h
