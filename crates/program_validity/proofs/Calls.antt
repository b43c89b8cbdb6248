-- The calls of expressions that break no rule are those of valid programs.
use Rattle.std.proofs.Common.{◌≡◌, ◌∙◌, refl, sym, ap, subst, arith, ℕ, ◌+◌, ◌≤◌, List, [], ◌∷◌, ◌++◌, length, map}
use Rattle.std.proofs.Common.{Option, Some, None, Bool, false, IsTrue, IfSome}
use Rattle.csub_types.specs.declared.kind.IntKind.{IntKind}
use Rattle.csub_tree.specs.declared.name.Name.{Name as NameAt}
use Rattle.csub_tree.specs.Expressions.{Expr, Exprs, Node, Number, Char, Text, Named, Paren, Unary, Cast, Step, Binary, And, Or}
use Rattle.csub_tree.specs.Expressions.{Choose, Assign, Call, Index, Member, NoExprs, MoreExprs}
use Rattle.csub_objects.specs.Types.{Name, TypeTree, number_type, array_type, struct_type, loose_type, element_type, MemberTree}
use Rattle.csub_objects.proofs.LawsTypes.{type_eq-Decides}
use Rattle.csub_semantics.specs.Syntax.{CallAt, FunctionTree, ProgramTree}
use Rattle.csub_semantics.specs.Flows.{function_of}
use Rattle.csub_semantics.specs.Trees.{NamedPlace, NamedExpr, NamedArg}
use Rattle.csub_scopes.specs.Scopes.{Scope, Declared, Meaning, global_object, local_object, enum_constant, a_function, untyped, find as find_name}
use Rattle.csub_rules.specs.Library.{LibraryName, getchar, putchar, printf, exit, eof, library_name}
use Rattle.csub_rules.specs.Sorts.{Sort, a_place, a_value, a_void, no_sort, has_elements, is_type}
use Rattle.csub_rules.specs.Callees.{Callee, no_function, user_function, getchar_function, putchar_function, printf_function, exit_function}
use Rattle.csub_rules.specs.Callees.{callee_of, callee_by, callee_of_meaning, fixed_params, takes}
use Rattle.csub_rules.specs.ExprSorts.{sort_of}
use Rattle.csub_rules.specs.Fine.{Fine, FineArgs, FineNumbers, FinePrint, FineCall}
use Rattle.csub_resolution.specs.Values.{Defined, params_in, count, count_all, own_call, calls_in, calls_in_all, place, value, argument, arguments}
use Rattle.csub_resolution.specs.Programs.{some_count}
use Rattle.csub_limits.specs.Prints.{prints, prints_all, printed}
use Rattle.csub_validity.specs.Valid as valid
use Rattle.csub_validity.specs.Valid.{IsExpr, IsPlace, IsArg, AreArgs, IsCall, IsDefinedAs, IsEarlier, RefersTo, place_type, temp_of}
use Rattle.program_validity.specs.Written.{WrittenExpr, WrittenExprs}
use Rattle.program_validity.proofs.Counted.{call_temps, Stand, stand_left, stand_right, calls_length, calls_length_all, silent, temps_append, full, full_call, fit_or_print, number_given, place_given, array_given, taken_given}
use Rattle.program_validity.proofs.Agreeing.{Agrees}
use Rattle.program_validity.proofs.Printing.{Few, few_left, few_right}
use Rattle.program_validity.proofs.Expressions.{IsMadeOf, numeric, made, Given, given_left, given_right}

-- a function that can be called is defined with the types that its calls see
pub record IsCallable (P : ProgramTree) (defined : List Defined) (x : Name) (ts : List TypeTree) (r : Option IntKind) : Type 0 where
  pub function : FunctionTree
  pub found : function_of P x ≡ Some function
  pub params : function.params ≡ params_in defined x
  pub types : map (λ (m : MemberTree). m.ctype) function.params ≡ ts
  pub result : function.result ≡ r

abbrev pub IsCalled : ProgramTree → List Defined → Name → Meaning → Type 0
IsCalled P defined x (global_object t) = Unit {0}
IsCalled P defined x (local_object n t) = Unit {0}
IsCalled P defined x (enum_constant v) = Unit {0}
IsCalled P defined x (a_function types result) = IsCallable P defined x types result
IsCalled P defined x untyped = Unit {0}

abbrev pub IsCalledAs : ProgramTree → List Defined → Name → Option Declared → Type 0
IsCalledAs P defined x None = Unit {0}
IsCalledAs P defined x (Some d) = IsCalled P defined x d.means

-- each function of a scope can be called
pub record CanCall (P : ProgramTree) (defined : List Defined) (scope : Scope) : Type 0 where
  pub known : (x : Name) → IsCalledAs P defined x (find_name x scope.names)

callable : (P : ProgramTree) (defined : List Defined) (x : Name) (l : Option LibraryName) (d : Option Declared) (types : List TypeTree)
    (result : Option IntKind) → IsCalledAs P defined x d → callee_by l d ≡ user_function types result → IsCallable P defined x types result
callable P defined x None None types result h e = absurd (cc)
callable P defined x None (Some d) types result h e = by d.means h e
  where
    by : (m : Meaning) → IsCalled P defined x m → callee_of_meaning m ≡ user_function types result → IsCallable P defined x types result
    by (global_object t) h e = absurd (cc)
    by (local_object n t) h e = absurd (cc)
    by (enum_constant v) h e = absurd (cc)
    by (a_function ts r) h e =
        let p : ts ≡ types = cc in
        let q : r ≡ result = cc in
        subst (λ us. IsCallable P defined x us result) p (subst (λ o. IsCallable P defined x ts o) q h)
    by untyped h e = absurd (cc)
callable P defined x (Some getchar) d types result h e = absurd (cc)
callable P defined x (Some putchar) d types result h e = absurd (cc)
callable P defined x (Some printf) d types result h e = absurd (cc)
callable P defined x (Some exit) d types result h e = absurd (cc)
callable P defined x (Some eof) d types result h e = absurd (cc)

-- an array that a parameter takes
elements : (sc : valid.Scope) (number : ℕ) (t : TypeTree) (s : Sort) (p : NamedPlace) (v : NamedExpr) → IsTrue (has_elements t s)
    → IsMadeOf sc number s p v → RefersTo (loose_type t) (place_type p) × IsPlace sc number p
elements sc number t (a_place u) p v h m =
    (subst (RefersTo (loose_type t)) (sym m.0) (by (element_type u) h), m.2)
  where
    by : (o : Option TypeTree) → IsTrue (is_type t o) → o ≡ Some t
    by None h = absurd (cc)
    by (Some w) h = ap Some (sym ((type_eq-Decides t w).0 h))
elements sc number t (a_value k) p v h m = absurd (cc)
elements sc number t a_void p v h m = absurd (cc)
elements sc number t no_sort p v h m = absurd (cc)

module _ (P : ProgramTree) (f : FunctionTree) (sc : valid.Scope) where
  -- the calls of a part from the k-th on
  abbrev pub AreCallsFrom : ℕ → List CallAt → Type 0
  AreCallsFrom k [] = Unit {0}
  AreCallsFrom k (s ∷ rest) = IsEarlier P f sc (k + 1) s.label × AreCallsFrom (k + 1) rest

  pub join_calls : (k n : ℕ) (ss ts : List CallAt) → length ss ≡ n → AreCallsFrom k ss → AreCallsFrom (k + n) ts → AreCallsFrom k (ss ++ ts)
  join_calls k n [] ts e h g = let none : k + n ≡ k = omega arith in subst (λ i. AreCallsFrom i ts) none g
  join_calls k n (s ∷ ss) ts e h g =
      let next : k + n ≡ (k + 1) + length ss = omega arith in
      (h.0, join_calls (k + 1) (length ss) ss ts refl h.1 (subst (λ i. AreCallsFrom i ts) next g))

  -- what is known of calls, before which their part makes k
  pub record Room (k : ℕ) (ps : List ℕ) (ss : List CallAt) : Type 0 where
    pub few : Few ps
    pub stand : Stand sc.results k ss
    pub room : k + call_temps ss ≤ f.temps

  pub room_left : (k : ℕ) (ps qs : List ℕ) (ss ts : List CallAt) → Room k (ps ++ qs) (ss ++ ts) → Room k ps ss
  room_left k ps qs ss ts g =
      let e = temps_append ss ts in
      let r : k + call_temps (ss ++ ts) ≤ f.temps = g.room in
      record { few = few_left ps qs g.few; stand = stand_left sc.results k ss ts g.stand; room = omega arith }

  pub room_right : (k n : ℕ) (ps qs : List ℕ) (ss ts : List CallAt) → length ss ≡ n → call_temps ss ≡ n → Room k (ps ++ qs) (ss ++ ts)
      → Room (k + n) qs ts
  room_right k n ps qs ss ts l t g =
      let e = temps_append ss ts in
      let r : k + call_temps (ss ++ ts) ≤ f.temps = g.room in
      record { few = few_right ps qs g.few; stand = stand_right sc.results k n ss ts l g.stand; room = omega arith }

  module _ (defined : List Defined) (scope : Scope) (agrees : Agrees sc.globals sc.objects scope) (can : CanCall P defined scope) where
    abbrev pub RoomFor : ℕ → Expr → Type 0
    RoomFor k e = Room k (prints e) (calls_in defined scope k e)

    abbrev pub RoomAll : ℕ → Exprs → Type 0
    RoomAll k es = Room k (prints_all es) (calls_in_all defined scope k es)

    arg_made : (number k : ℕ) (p : MemberTree) (e : Expr) → IsTrue (takes p.ctype (sort_of scope e))
        → IsMadeOf sc number (sort_of scope e) (place scope k e) (value scope k e) → IsArg sc number p (argument scope k p.ctype e)
    arg_made number k p e h m = by p.ctype h
      where
        by : (t : TypeTree) → IsTrue (takes t (sort_of scope e))
            → IsArg sc number (record { name = p.name; ctype = t }) (argument scope k t e)
        by (number_type kind) h = (tt, (numeric sc number (sort_of scope e) (place scope k e) (value scope k e) h m).valid)
        by (array_type t n) h = absurd (cc)
        by (struct_type tag ms) h = absurd (cc)
        by (loose_type t) h = elements sc number t (sort_of scope e) (place scope k e) (value scope k e) h m

    args_made : (number k : ℕ) (ps : List MemberTree) (args : Exprs) → FineArgs scope (map (λ (m : MemberTree). m.ctype) ps) args → WrittenExprs args
        → Given sc number k (count_all scope args) (prints_all args) (calls_in_all defined scope k args)
        → AreArgs sc number ps (arguments scope k (map (λ (m : MemberTree). m.ctype) ps) args)
    args_made number k [] NoExprs h x g = tt
    args_made number k [] (MoreExprs e rest) h x g = absurd h
    args_made number k (p ∷ ps) NoExprs h x g = absurd h
    args_made number k (p ∷ ps) (MoreExprs e rest) h x g = (
      arg_made number k p e h.1
          (made defined scope sc agrees number false k e h.0 x.0 (given_left sc number k (count scope e) (count_all scope rest) (prints e) (prints_all rest) (calls_in defined scope k e) (calls_in_all defined scope (k + count scope e) rest) g)),
      args_made number (k + count scope e) ps rest h.2 x.1
          (given_right sc number k (count scope e) (count_all scope rest) (prints e) (prints_all rest) (calls_in defined scope k e) (calls_in_all defined scope (k + count scope e) rest)
          (calls_length defined scope k e) g),
    )

    defined_as : (x : Name) (types : List TypeTree) (result : Option IntKind) (c : IsCallable P defined x types result)
        → (o : Option FunctionTree) → o ≡ Some c.function → (args : List NamedArg) (temp : Option ℕ)
        → IsDefinedAs o (record { callee = x; params = params_in defined x; result = result; args = args; temp = temp })
    defined_as x types result c None e args temp = absurd (cc)
    defined_as x types result c (Some g) e args temp =
        let same : c.function ≡ g = cc in
        (subst (λ (h : FunctionTree). h.params ≡ params_in defined x) same c.params, subst (λ (h : FunctionTree). h.result ≡ result) same c.result)

    few_temps : (result : Option IntKind) (n : ℕ) → n + some_count result ≤ f.temps + 1 → IfSome (temp_of result n) (λ t. t ≤ f.temps)
    few_temps None n h = tt
    few_temps (Some kind) n h = omega arith

    own_made : (w : Bool) (k : ℕ) (g : NameAt) (args : Exprs) (c : Callee) → callee_of scope g.text ≡ c
        → FineCall w c (FineArgs scope (fixed_params c) args) (FinePrint scope args) → WrittenExprs args
        → Room k (printed g.text args ++ prints_all args)
        (calls_in_all defined scope k args ++ own_call defined scope g args k (k + count_all scope args + 1) c)
        → AreCallsFrom (k + count_all scope args) (own_call defined scope g args k (k + count_all scope args + 1) c)
    own_made w k g args no_function e h x r = tt
    own_made w k g args (user_function types result) e h x r =
        let c = callable P defined g.text (library_name g.text) (find_name g.text scope.names) types result (can.known g.text) e in
        let n : ℕ = k + count_all scope args + 1 in
        let stand = stand_left sc.results k (calls_in_all defined scope k args)
        (own_call defined scope g args k (k + count_all scope args + 1) (user_function types result)) r.stand in
        let fine : FineArgs scope (map (λ (m : MemberTree). m.ctype) c.function.params) args = subst (λ ts. FineArgs scope ts args) (sym c.types) h in
        let given : Given sc n k (count_all scope args) (prints_all args) (calls_in_all defined scope k args) =
        record { few = few_right (printed g.text args) (prints_all args) r.few; stand = stand; before = omega arith } in
        let args_are = args_made n k c.function.params args fine x given in
        let args_is : AreArgs sc n (params_in defined g.text) (arguments scope k types args) =
        subst (λ ps. AreArgs sc n ps (arguments scope k types args)) c.params
        (subst (λ ts. AreArgs sc n c.function.params (arguments scope k ts args)) c.types args_are) in
        let counted = full_call defined scope w k (user_function types result) args h in
        let joined = temps_append (calls_in_all defined scope k args) (own_call defined scope g args k n (user_function types result)) in
        let room : k + call_temps (calls_in_all defined scope k args ++ own_call defined scope g args k n (user_function types result)) ≤ f.temps = r.room in (
          record {
            defined = defined_as g.text types result c (function_of P g.text) c.found (arguments scope k types args) (temp_of result n);
            args = args_is;
            temp = refl;
            few = few_temps result n (omega arith);
          },
          tt,
        )
    own_made w k g args getchar_function e h x r = tt
    own_made w k g args putchar_function e h x r = tt
    own_made w k g args printf_function e h x r = tt
    own_made w k g args exit_function e h x r = tt

    calls_pair : (k : ℕ) (a b : Expr) → call_temps (calls_in defined scope k a) ≡ count scope a
        → (RoomFor k a → AreCallsFrom k (calls_in defined scope k a))
        → (RoomFor (k + count scope a) b → AreCallsFrom (k + count scope a) (calls_in defined scope (k + count scope a) b))
        → Room k (prints a ++ prints b) (calls_in defined scope k a ++ calls_in defined scope (k + count scope a) b)
        → AreCallsFrom k (calls_in defined scope k a ++ calls_in defined scope (k + count scope a) b)
    calls_pair k a b full_a ca cb r =
        join_calls k (count scope a) (calls_in defined scope k a) (calls_in defined scope (k + count scope a) b) (calls_length defined scope k a)
        (ca (room_left k (prints a) (prints b) (calls_in defined scope k a) (calls_in defined scope (k + count scope a) b) r))
        (cb (room_right k (count scope a) (prints a) (prints b) (calls_in defined scope k a) (calls_in defined scope (k + count scope a) b)
        (calls_length defined scope k a) full_a r))

    args_room : (k : ℕ) (g : NameAt) (args : Exprs) (own : List CallAt)
        → Room k (printed g.text args ++ prints_all args) (calls_in_all defined scope k args ++ own) → RoomAll k args
    args_room k g args own r =
        let e = temps_append (calls_in_all defined scope k args) own in
        let room : k + call_temps (calls_in_all defined scope k args ++ own) ≤ f.temps = r.room in
        record {
          few = few_right (printed g.text args) (prints_all args) r.few;
          stand = stand_left sc.results k (calls_in_all defined scope k args) own r.stand;
          room = omega arith;
        }

    mutual
      pub calls_made : (w : Bool) (k : ℕ) (e : Expr) → Fine scope w e → WrittenExpr e → RoomFor k e → AreCallsFrom k (calls_in defined scope k e)
      calls_made w k (Node (Number n u) s) h x r = tt
      calls_made w k (Node (Char b) s) h x r = tt
      calls_made w k (Node (Text t) s) h x r = tt
      calls_made w k (Node (Named y) s) h x r = tt
      calls_made w k (Node (Paren e) s) h x r = calls_made w k e h x r
      calls_made w k (Node (Unary o e) s) h x r = calls_made false k e h.0 x r
      calls_made w k (Node (Cast t e) s) h x r = calls_made false k e h.0 x r
      calls_made w k (Node (Step o e) s) h x r = calls_made false k e h.0 x r
      calls_made w k (Node (Binary o a b) s) h x r = calls_pair k a b (full defined scope false k a h.0 (number_given (sort_of scope a) h.2))
          (λ q. calls_made false k a h.0 x.0 q) (λ q. calls_made false (k + count scope a) b h.1 x.1 q) r
      calls_made w k (Node (And a b) s) h x r = calls_pair k a b (full defined scope false k a h.0 (number_given (sort_of scope a) h.2))
          (λ q. calls_made false k a h.0 x.0 q) (λ q. calls_made false (k + count scope a) b h.1 x.1 q) r
      calls_made w k (Node (Or a b) s) h x r = calls_pair k a b (full defined scope false k a h.0 (number_given (sort_of scope a) h.2))
          (λ q. calls_made false k a h.0 x.0 q) (λ q. calls_made false (k + count scope a) b h.1 x.1 q) r
      calls_made w k (Node (Choose c a b) s) h x r =
          let full_c = full defined scope false k c h.0 (number_given (sort_of scope c) h.3) in
          let full_a = full defined scope false (k + count scope c) a h.1 (number_given (sort_of scope a) h.4) in
          join_calls k (count scope c) (calls_in defined scope k c) (calls_in defined scope (k + count scope c) a ++ calls_in defined scope (k + count scope c + count scope a) b)
          (calls_length defined scope k c) (calls_made false k c h.0 x.0 (room_left k (prints c) (prints a ++ prints b) (calls_in defined scope k c) (calls_in defined scope (k + count scope c) a ++ calls_in defined scope (k + count scope c + count scope a) b) r))
          (calls_pair (k + count scope c) a b full_a (λ q. calls_made false (k + count scope c) a h.1 x.1 q)
          (λ q. calls_made false (k + count scope c + count scope a) b h.2 x.2 q)
          (room_right k (count scope c) (prints c) (prints a ++ prints b) (calls_in defined scope k c) (calls_in defined scope (k + count scope c) a ++ calls_in defined scope (k + count scope c + count scope a) b)
          (calls_length defined scope k c) full_c r))
      calls_made w k (Node (Assign o a b) s) h x r = calls_pair k a b (full defined scope false k a h.0 (place_given (sort_of scope a) h.2))
          (λ q. calls_made false k a h.0 x.0 q) (λ q. calls_made false (k + count scope a) b h.1 x.1 q) r
      calls_made w k (Node (Call g args) s) h x r =
          join_calls k (count_all scope args) (calls_in_all defined scope k args)
          (own_call defined scope g args k (k + count_all scope args + 1) (callee_of scope g.text)) (calls_length_all defined scope k args)
          (fit_or_print defined scope (AreCallsFrom k (calls_in_all defined scope k args)) w (callee_of scope g.text) args h
          (λ types q. calls_fit k types args q x (args_room k g args (own_call defined scope g args k (k + count_all scope args + 1) (callee_of scope g.text)) r)) (λ q. calls_print k args q x (args_room k g args (own_call defined scope g args k (k + count_all scope args + 1) (callee_of scope g.text)) r)))
          (own_made w k g args (callee_of scope g.text) refl h x r)
      calls_made w k (Node (Index a i) s) h x r = calls_pair k a i (full defined scope false k a h.0 (array_given (sort_of scope a) h.2))
          (λ q. calls_made false k a h.0 x.0 q) (λ q. calls_made false (k + count scope a) i h.1 x.1 q) r
      calls_made w k (Node (Member a m) s) h x r = calls_made false k a h.0 x r

      calls_fit : (k : ℕ) (types : List TypeTree) (args : Exprs) → FineArgs scope types args → WrittenExprs args → RoomAll k args
          → AreCallsFrom k (calls_in_all defined scope k args)
      calls_fit k types NoExprs h x r = tt
      calls_fit k [] (MoreExprs e rest) h x r = absurd h
      calls_fit k (t ∷ types) (MoreExprs e rest) h x r =
          let full_e = full defined scope false k e h.0 (taken_given t (sort_of scope e) h.1) in
          join_calls k (count scope e) (calls_in defined scope k e) (calls_in_all defined scope (k + count scope e) rest) (calls_length defined scope k e) (calls_made false k e h.0 x.0 (room_left k (prints e) (prints_all rest) (calls_in defined scope k e) (calls_in_all defined scope (k + count scope e) rest) r))
          (calls_fit (k + count scope e) types rest h.2 x.1 (room_right k (count scope e) (prints e) (prints_all rest) (calls_in defined scope k e) (calls_in_all defined scope (k + count scope e) rest)
          (calls_length defined scope k e) full_e r))

      calls_numbers : (k : ℕ) (args : Exprs) → FineNumbers scope args → WrittenExprs args → RoomAll k args
          → AreCallsFrom k (calls_in_all defined scope k args)
      calls_numbers k NoExprs h x r = tt
      calls_numbers k (MoreExprs e rest) h x r =
          let full_e = full defined scope false k e h.0 (number_given (sort_of scope e) h.1) in
          join_calls k (count scope e) (calls_in defined scope k e) (calls_in_all defined scope (k + count scope e) rest) (calls_length defined scope k e) (calls_made false k e h.0 x.0 (room_left k (prints e) (prints_all rest) (calls_in defined scope k e) (calls_in_all defined scope (k + count scope e) rest) r))
          (calls_numbers (k + count scope e) rest h.2 x.1 (room_right k (count scope e) (prints e) (prints_all rest) (calls_in defined scope k e) (calls_in_all defined scope (k + count scope e) rest)
          (calls_length defined scope k e) full_e r))

      calls_print : (k : ℕ) (args : Exprs) → FinePrint scope args → WrittenExprs args → RoomAll k args
          → AreCallsFrom k (calls_in_all defined scope k args)
      calls_print k NoExprs h x r = absurd h
      calls_print k (MoreExprs e rest) h x r =
          let q = silent defined scope e rest h.0 in
          let full_e : call_temps (calls_in defined scope k e) ≡ count scope e = ap call_temps (q.none k) ∙ sym q.counted in
          join_calls k (count scope e) (calls_in defined scope k e) (calls_in_all defined scope (k + count scope e) rest) (calls_length defined scope k e) (subst (λ ss. AreCallsFrom k ss) (sym (q.none k)) tt)
          (calls_numbers (k + count scope e) rest h.1 x.1 (room_right k (count scope e) (prints e) (prints_all rest) (calls_in defined scope k e) (calls_in_all defined scope (k + count scope e) rest)
          (calls_length defined scope k e) full_e r))
