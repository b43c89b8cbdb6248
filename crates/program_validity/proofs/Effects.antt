-- Expressions that are evaluated for their effects.
use Rattle.std.proofs.Common.{◌≡◌, refl, subst, arith, ℕ, ◌+◌, ◌≤◌, ◌<◌, List, [], ◌∷◌, ◌++◌, map, Option, Some, None, Bool, true, false, IsTrue, ◌&&◌, if◌then◌else◌}
use Rattle.csub_types.specs.declared.kind.IntKind.{IntKind}
use Rattle.csub_tree.specs.Expressions.{Expr, Exprs, Node, Number, Char, Text, Named, Paren, Unary, Cast, Step, Binary, And, Or}
use Rattle.csub_tree.specs.Expressions.{Choose, Assign, Call, Index, Member, NoExprs, MoreExprs}
use Rattle.csub_objects.specs.Types.{Name, TypeTree, element_type, member_type}
use Rattle.csub_semantics.specs.Trees.{NamedExpr}
use Rattle.csub_semantics.specs.Labels.{evaluates, halts}
use Rattle.csub_semantics.specs.Syntax.{in_part, FunctionTree, ProgramTree}
use Rattle.csub_scopes.specs.Scopes.{Scope, Declared, Meaning, global_object, local_object, enum_constant, a_function, untyped, find}
use Rattle.csub_rules.specs.Library.{LibraryName, getchar, putchar, printf, exit, eof, library_name}
use Rattle.csub_rules.specs.Sorts.{Sort, a_place, a_value, a_void, no_sort, is_sorted, is_number, is_number_place, sort_if, value_if, place_of, element_of, member_of}
use Rattle.csub_rules.specs.Callees.{Callee, no_function, user_function, getchar_function, putchar_function, printf_function, exit_function}
use Rattle.csub_rules.specs.Callees.{callee_of, fixed_params, takes, take_all, are_numbers}
use Rattle.csub_rules.specs.Formats.{literal_of, is_format}
use Rattle.csub_rules.specs.ExprSorts.{sort_of, sorts_of, sort_by, sort_of_meaning, suits, prints as prints_well, given_by}
use Rattle.csub_rules.specs.Fine.{Fine, FineArgs, FineNumbers, FinePrint, FineCall}
use Rattle.csub_rules.specs.Uses.{has_effect}
use Rattle.csub_rules.proofs.LawsServed.{both}
use Rattle.csub_resolution.specs.Values.{Defined, count, count_all, own_count, calls_in, value}
use Rattle.csub_resolution.specs.Programs.{part_temps}
use Rattle.csub_resolution.specs.Positions.{first_token}
use Rattle.csub_resolution.specs.Lines.{own, is_own, is_call, exit_argument, exits_with, effect_part, eval_part}
use Rattle.csub_resolution.proofs.LawsExits.{fine_operand}
use Rattle.csub_limits.specs.Prints.{prints, prints_all, printed}
use Rattle.csub_validity.specs.declared.role.Role.{Role}
use Rattle.csub_validity.specs.declared.role.Role.TheVariants.{Whole, Test, Switch, Effect}
use Rattle.csub_validity.specs.Valid as valid
use Rattle.csub_validity.specs.Valid.{IsExpr, IsLast, IsPart, scope_of}
use Rattle.program_validity.specs.Written.{WrittenExpr, WrittenExprs}
use Rattle.program_validity.proofs.Counted.{is_given, calls_length}
use Rattle.program_validity.proofs.Printing.{Few, few_left, few_right}
use Rattle.program_validity.proofs.Calls.{calls_made}
use Rattle.program_validity.proofs.Parts.{MayCall, Stands, call_part, expr_part}

-- ---- sorts of what is no call of a function without a result

value_given : (b : Bool) (k : IntKind) → IsTrue b → IsTrue (is_given (value_if b k))
value_given true k h = refl
value_given false k h = absurd (cc)

sort_given : (b : Bool) (s : Sort) → IsTrue b → IsTrue (is_given s) → IsTrue (is_given (sort_if b s))
sort_given true s h g = g
sort_given false s h g = absurd (cc)

place_sort : (o : Option TypeTree) → IsTrue (is_sorted (place_of o)) → IsTrue (is_given (place_of o))
place_sort None h = absurd (cc)
place_sort (Some t) h = refl

element_given : (s : Sort) → IsTrue (is_sorted (element_of s)) → IsTrue (is_given (element_of s))
element_given (a_place t) h = place_sort (element_type t) h
element_given (a_value k) h = absurd (cc)
element_given a_void h = absurd (cc)
element_given no_sort h = absurd (cc)

inner_given : (a : Name) (s : Sort) → IsTrue (is_sorted (member_of a s)) → IsTrue (is_given (member_of a s))
inner_given a (a_place t) h = place_sort (member_type a t) h
inner_given a (a_value k) h = absurd (cc)
inner_given a a_void h = absurd (cc)
inner_given a no_sort h = absurd (cc)

name_given : (l : Option LibraryName) (d : Option Declared) → IsTrue (is_sorted (sort_by l d)) → IsTrue (is_given (sort_by l d))
name_given None None h = absurd (cc)
name_given None (Some d) h = by d.means h
  where
    by : (m : Meaning) → IsTrue (is_sorted (sort_of_meaning m)) → IsTrue (is_given (sort_of_meaning m))
    by (global_object t) h = refl
    by (local_object n t) h = refl
    by (enum_constant v) h = refl
    by (a_function params result) h = absurd (cc)
    by untyped h = absurd (cc)
name_given (Some getchar) d h = absurd (cc)
name_given (Some putchar) d h = absurd (cc)
name_given (Some printf) d h = absurd (cc)
name_given (Some exit) d h = absurd (cc)
name_given (Some eof) d h = refl

module _ (scope : Scope) where
  taken : (ps : List TypeTree) (es : Exprs) → FineArgs scope ps es → IsTrue (take_all ps (sorts_of scope es))
  taken [] NoExprs h = refl
  taken [] (MoreExprs e rest) h = absurd h
  taken (p ∷ ps) NoExprs h = absurd h
  taken (p ∷ ps) (MoreExprs e rest) h = both (takes p (sort_of scope e)) (take_all ps (sorts_of scope rest)) h.1 (taken ps rest h.2)

  numbers : (es : Exprs) → FineNumbers scope es → IsTrue (are_numbers (sorts_of scope es))
  numbers NoExprs h = refl
  numbers (MoreExprs e rest) h = both (is_number (sort_of scope e)) (are_numbers (sorts_of scope rest)) h.1 (numbers rest h.2)

  printing : (es : Exprs) → FinePrint scope es → IsTrue (prints_well es (sorts_of scope es))
  printing NoExprs h = absurd h
  printing (MoreExprs e rest) h = both (is_format (literal_of e) rest) (are_numbers (sorts_of scope rest)) h.0 (numbers rest h.1)

  call_given : (c : Callee) (args : Exprs) → FineCall false c (FineArgs scope (fixed_params c) args) (FinePrint scope args) → is_own c ≡ false
      → IsTrue (is_given (sort_if (suits c args (sorts_of scope args)) (given_by c)))
  call_given no_function args h e = absurd h
  call_given (user_function types result) args h e = absurd (cc)
  call_given getchar_function args h e = sort_given _ _ (taken _ args h) refl
  call_given putchar_function args h e = sort_given _ _ (taken _ args h) refl
  call_given printf_function args h e = sort_given _ _ (printing args h) refl
  call_given exit_function args h e = let whole : IsTrue false = h.0 in absurd (cc)

  -- an operand that is no call of a function of the source is a place or a value
  given : (e : Expr) → Fine scope false e → is_call scope e ≡ false → IsTrue (is_given (sort_of scope e))
  given (Node (Number n u) s) h c = refl
  given (Node (Char b) s) h c = refl
  given (Node (Text t) s) h c = absurd h
  given (Node (Named x) s) h c = name_given (library_name x.text) (find x.text scope.names) h
  given (Node (Paren e) s) h c = given e h c
  given (Node (Unary o e) s) h c = value_given (is_number (sort_of scope e)) _ h.1
  given (Node (Cast t e) s) h c = value_given (is_number (sort_of scope e)) _ h.1
  given (Node (Step o e) s) h c = value_given (is_number_place (sort_of scope e)) _ h.1
  given (Node (Binary o a b) s) h c = value_given _ _ (both (is_number (sort_of scope a)) (is_number (sort_of scope b)) h.2 h.3)
  given (Node (And a b) s) h c = value_given _ _ (both (is_number (sort_of scope a)) (is_number (sort_of scope b)) h.2 h.3)
  given (Node (Or a b) s) h c = value_given _ _ (both (is_number (sort_of scope a)) (is_number (sort_of scope b)) h.2 h.3)
  given (Node (Choose d a b) s) h c =
      value_given _ _
      (both (is_number (sort_of scope d)) (is_number (sort_of scope a) && is_number (sort_of scope b)) h.3
      (both (is_number (sort_of scope a)) (is_number (sort_of scope b)) h.4 h.5))
  given (Node (Assign o a b) s) h c = value_given _ _ (both (is_number_place (sort_of scope a)) (is_number (sort_of scope b)) h.2 h.3)
  given (Node (Call f args) s) h c = call_given (callee_of scope f.text) args h c
  given (Node (Index a i) s) h c = sort_given (is_number (sort_of scope i)) _ h.3 (element_given (sort_of scope a) h.2)
  given (Node (Member a m) s) h c = inner_given m.text (sort_of scope a) h.1

  effect_number : (s : Sort) → IsTrue (has_effect s) → IsTrue (is_given s) → IsTrue (is_number s)
  effect_number (a_place t) h g = h
  effect_number (a_value k) h g = refl
  effect_number a_void h g = absurd (cc)
  effect_number no_sort h g = absurd (cc)

  own_some : (c : Callee) (n : ℕ) → is_own c ≡ true → 0 < n + own_count c
  own_some no_function n h = absurd (cc)
  own_some (user_function types result) n h = omega arith
  own_some getchar_function n h = absurd (cc)
  own_some putchar_function n h = absurd (cc)
  own_some printf_function n h = absurd (cc)
  own_some exit_function n h = absurd (cc)

  -- a call is one
  some_call : (e : Expr) → is_call scope e ≡ true → 0 < count scope e
  some_call (Node (Paren e) s) h = some_call e h
  some_call (Node (Call f args) s) h = own_some (callee_of scope f.text) (count_all scope args) h
  some_call (Node (Number n u) s) h = absurd (cc)
  some_call (Node (Char b) s) h = absurd (cc)
  some_call (Node (Text t) s) h = absurd (cc)
  some_call (Node (Named x) s) h = absurd (cc)
  some_call (Node (Unary o e) s) h = absurd (cc)
  some_call (Node (Cast t e) s) h = absurd (cc)
  some_call (Node (Step o e) s) h = absurd (cc)
  some_call (Node (Binary o a b) s) h = absurd (cc)
  some_call (Node (And a b) s) h = absurd (cc)
  some_call (Node (Or a b) s) h = absurd (cc)
  some_call (Node (Choose d a b) s) h = absurd (cc)
  some_call (Node (Assign o a b) s) h = absurd (cc)
  some_call (Node (Index a i) s) h = absurd (cc)
  some_call (Node (Member a m) s) h = absurd (cc)

  -- ---- whole statements that are no `exit`

  abbrev FineBy : Bool → Exprs → Callee → Type 0
  FineBy whole es c = FineCall whole c (FineArgs scope (fixed_params c) es) (FinePrint scope es)

  -- an operand is no `exit`
  no_status : (c : Callee) (es : Exprs) → FineBy false es c → exit_argument c es ≡ None
  no_status no_function es h = refl
  no_status (user_function ps r) es h = refl
  no_status getchar_function es h = refl
  no_status putchar_function es h = refl
  no_status printf_function es h = refl
  no_status exit_function es h = let whole : IsTrue false = h.0 in absurd (cc)

  pub no_exit : (e : Expr) → Fine scope false e → exits_with scope e ≡ None
  no_exit (Node (Paren a) s) h = no_exit a h
  no_exit (Node (Call f args) s) h = no_status (callee_of scope f.text) args h
  no_exit (Node (Number n u) s) h = refl
  no_exit (Node (Char b) s) h = refl
  no_exit (Node (Text t) s) h = refl
  no_exit (Node (Named x) s) h = refl
  no_exit (Node (Unary o a) s) h = refl
  no_exit (Node (Cast t a) s) h = refl
  no_exit (Node (Step o a) s) h = refl
  no_exit (Node (Binary o a b) s) h = refl
  no_exit (Node (And a b) s) h = refl
  no_exit (Node (Or a b) s) h = refl
  no_exit (Node (Choose c a b) s) h = refl
  no_exit (Node (Assign o a b) s) h = refl
  no_exit (Node (Index a i) s) h = refl
  no_exit (Node (Member a m) s) h = refl

  -- the status of an `exit`
  record IsStatus (status : Expr) : Type 0 where
    fine : Fine scope false status
    number : IsTrue (is_number (sort_of scope status))
    written : WrittenExpr status
    few : Few (prints status)

  same_status : (a status : Expr) → Some a ≡ Some status → IsStatus a → IsStatus status
  same_status a status e h = let same : a ≡ status = cc in subst (λ x. IsStatus x) same h

  call_status : (c : Callee) (es : Exprs) (status : Expr) → FineBy true es c → exit_argument c es ≡ Some status → WrittenExprs es → Few (prints_all es)
      → IsStatus status
  call_status no_function es status h e x p = absurd (cc)
  call_status (user_function ps r) es status h e x p = absurd (cc)
  call_status getchar_function es status h e x p = absurd (cc)
  call_status putchar_function es status h e x p = absurd (cc)
  call_status printf_function es status h e x p = absurd (cc)
  call_status exit_function NoExprs status h e x p = absurd (cc)
  call_status exit_function (MoreExprs a rest) status h e x p =
      same_status a status e (record { fine = h.1.0; number = h.1.1; written = x.0; few = few_left (prints a) (prints_all rest) p })

  status_made : (e status : Expr) → Fine scope true e → exits_with scope e ≡ Some status → WrittenExpr e → Few (prints e) → IsStatus status
  status_made (Node (Paren a) s) status h e x p = status_made a status h e x p
  status_made (Node (Call f args) s) status h e x p =
      call_status (callee_of scope f.text) args status h e x (few_right (printed f.text args) (prints_all args) p)
  status_made (Node (Number n u) s) status h e x p = absurd (cc)
  status_made (Node (Char b) s) status h e x p = absurd (cc)
  status_made (Node (Text t) s) status h e x p = absurd (cc)
  status_made (Node (Named y) s) status h e x p = absurd (cc)
  status_made (Node (Unary o a) s) status h e x p = absurd (cc)
  status_made (Node (Cast t a) s) status h e x p = absurd (cc)
  status_made (Node (Step o a) s) status h e x p = absurd (cc)
  status_made (Node (Binary o a b) s) status h e x p = absurd (cc)
  status_made (Node (And a b) s) status h e x p = absurd (cc)
  status_made (Node (Or a b) s) status h e x p = absurd (cc)
  status_made (Node (Choose c a b) s) status h e x p = absurd (cc)
  status_made (Node (Assign o a b) s) status h e x p = absurd (cc)
  status_made (Node (Index a i) s) status h e x p = absurd (cc)
  status_made (Node (Member a m) s) status h e x p = absurd (cc)

  -- ---- parts

  module _ (P : ProgramTree) (f : FunctionTree) (defined : List Defined) (stands : Stands P f defined scope) where
    evaluated : (role : Role) (sc : valid.Scope) (n : ℕ) (e : NamedExpr) → MayCall role → IsExpr sc n e → IsLast P f sc role n (evaluates e)
    evaluated Whole sc n e m h = h
    evaluated Test sc n e m h = absurd m
    evaluated Switch sc n e m h = absurd m
    evaluated Effect sc n e m h = h

    pub effect_made : (role : Role) (e : Expr) → MayCall role → Fine scope false e → IsTrue (has_effect (sort_of scope e)) → WrittenExpr e
        → Few (prints e) → part_temps (effect_part defined scope e) ≤ f.temps → IsPart P f role (effect_part defined scope e)
    effect_made role e m fine effect written few room = by (is_call scope e) refl room
      where
        by : (b : Bool) → is_call scope e ≡ b
            → part_temps (map (in_part (first_token e)) (calls_in defined scope 0 e) ++ (if b then [] else own (evaluates (value scope 0 e)) (first_token e))) ≤ f.temps
            → IsPart P f role (map (in_part (first_token e)) (calls_in defined scope 0 e) ++ (if b then [] else own (evaluates (value scope 0 e)) (first_token e)))
        by true c room =
            let some = some_call e c in
            let long = calls_length defined scope 0 e in
            call_part P f role (first_token e) (calls_in defined scope 0 e) (prints e) m (omega arith) few room
            (λ r. calls_made P f (scope_of P f (map (in_part (first_token e)) (calls_in defined scope 0 e) ++ [])) defined scope stands.agrees stands.can false 0 e fine written r)
        by false c room =
            expr_part P f defined scope stands role e (evaluates (value scope 0 e)) (first_token e) (λ sc n h. evaluated role sc n _ m h) fine
            (effect_number (sort_of scope e) effect (given e fine c)) written few room

    pub eval_made : (e : Expr) → Fine scope true e → IsTrue (has_effect (sort_of scope e)) → WrittenExpr e → Few (prints e)
        → part_temps (eval_part defined scope e (exits_with scope e)) ≤ f.temps
        → IsPart P f Whole (eval_part defined scope e (exits_with scope e))
    eval_made e fine effect written few room = by (exits_with scope e) refl room
      where
        by : (o : Option Expr) → exits_with scope e ≡ o → part_temps (eval_part defined scope e o) ≤ f.temps
            → IsPart P f Whole (eval_part defined scope e o)
        by None x room = effect_made Whole e tt (fine_operand scope e fine x) effect written few room
        by (Some status) x room =
            let s = status_made e status fine x written few in
            expr_part P f defined scope stands Whole status (halts (value scope 0 status)) (first_token e) (λ sc n h. h) s.fine s.number s.written
            s.few room
