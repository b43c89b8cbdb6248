-- The values and the places of expressions that break no rule are those of valid programs.
use Rattle.std.proofs.Common.{◌≡◌, ◌∙◌, refl, sym, ap, subst, arith, ℕ, ◌+◌, ◌≤◌, ◌<◌, pos, List, [], ◌∷◌, ◌++◌, length}
use Rattle.std.proofs.Common.{Option, Some, None, Bool, true, false, IsTrue, nat_lt, ◌&&◌, ◌||◌, if◌then◌else◌}
use Rattle.std.specs.Option.{option_and_then}
use Rattle.std.proofs.lemmas.Bool.Decides.{nat_tests}
use Rattle.std.proofs.lemmas.Int.{ints}
use Rattle.csub_text.specs.declared.operator.BinOp.{BinOp}
use Rattle.csub_types.specs.declared.kind.IntKind.{IntKind}
use Rattle.csub_types.specs.declared.kind.IntKind.TheVariants.{Int, Unsigned}
use Rattle.csub_types.specs.Kinds.{IsOf, promote, common}
use Rattle.csub_types.specs.Arithmetic.{unary_kind, binary_kind, operation_kind}
use Rattle.csub_tree.specs.declared.name.Name.{Name as NameAt}
use Rattle.csub_tree.specs.Expressions.{Expr, Exprs, Node, Number, Char, Text, Named, Paren, Unary, Cast, Step, Binary, And, Or}
use Rattle.csub_tree.specs.Expressions.{Choose, Assign, Call, Index, Member, NoExprs, MoreExprs}
use Rattle.csub_objects.specs.Types.{Name, TypeTree, number_type, array_type, struct_type, loose_type, element_type, member_type}
use Rattle.csub_semantics.specs.Trees.{NamedPlace, NamedExpr, element_place, member_place}
use Rattle.csub_semantics.specs.Trees.{reading, unary_operation, conversion, stepping, operation, conjunction, disjunction, choice}
use Rattle.csub_semantics.specs.Trees.{formatted}
use Rattle.csub_semantics.specs.Syntax.{CallAt}
use Rattle.csub_scopes.specs.Scopes.{Scope, Declared, Meaning, global_object, local_object, enum_constant, a_function, untyped, find}
use Rattle.csub_rules.specs.Library.{LibraryName, getchar, putchar, printf, exit, eof, library_name}
use Rattle.csub_rules.specs.Sorts.{Sort, a_place, a_value, a_void, no_sort, is_number, is_number_place, the_kind, sort_if, value_if, element_of, member_of, place_of}
use Rattle.csub_rules.specs.Callees.{Callee, no_function, user_function, getchar_function, putchar_function, printf_function, exit_function}
use Rattle.csub_rules.specs.Callees.{callee_of, fixed_params, result_sort}
use Rattle.csub_rules.specs.ExprSorts as sorts
use Rattle.csub_rules.specs.ExprSorts.{sort_of, sorts_of, sort_by, number_literal_kind, named_kind, suits, given_by, call_sort}
use Rattle.csub_rules.specs.Fine.{Fine, FineArgs, FineNumbers, FinePrint, FineCall}
use Rattle.csub_resolution.specs.Printed.{format_of}
use Rattle.csub_resolution.specs.Values.{Defined, count, count_all, own_count, own_call, calls_in, calls_in_all, place, value, values, place_by, value_by}
use Rattle.csub_resolution.specs.Values.{called_value, first_value, later_values, result_value, no_place, assigned, place_of_meaning, value_of_meaning}
use Rattle.csub_limits.specs.Prints.{prints, prints_all, printed}
use Rattle.csub_validity.specs.Valid as valid
use Rattle.csub_validity.specs.Valid.{IsPlace, IsExpr, AreExprs, IsModifiable, IsNumberAt, place_type, place_kind, kind_at, kind_of, in_object, most_values, IsFormat}
use Rattle.program_validity.specs.Written.{WrittenExpr, WrittenExprs}
use Rattle.program_validity.proofs.Counted.{Stand, stand_left, stand_right, calls_length, calls_length_all}
use Rattle.program_validity.proofs.Agreeing.{Agrees, IsKnown, IsMeant}
use Rattle.program_validity.proofs.Printing.{Few, few_left, few_right, format_counts, is_printed}

-- ---- kinds

below : (m n : ℕ) → nat_lt m n ≡ false → n ≤ m
below m n h = grind (arith, nat_tests)

literal : (n : ℕ) (s : Bool) → n ≤ 4294967295 → IsOf (number_literal_kind n s) (pos n)
literal n s h = by s (nat_lt 2147483647 n) refl
  where
    by : (s b : Bool) → nat_lt 2147483647 n ≡ b → IsOf (if s || b then Unsigned else Int) (pos n)
    by true b e = (omega (arith, ints), omega (arith, ints))
    by false true e = (omega (arith, ints), omega (arith, ints))
    by false false e = let small : n ≤ 2147483647 = below 2147483647 n e in (omega (arith, ints), omega (arith, ints))

record Pair (A B : Type 0) : Type 0 where
  left : A
  right : B

-- ---- what is made of an expression of a sort, at the stage of a number

module _ (sc : valid.Scope) (number : ℕ) where
  abbrev pub IsMadeOf : Sort → NamedPlace → NamedExpr → Type 0
  IsMadeOf (a_place t) p v = (place_type p ≡ Some t) × IsTrue (in_object p) × IsPlace sc number p × (v ≡ reading p)
  IsMadeOf (a_value k) p v = (kind_of v ≡ k) × IsExpr sc number v
  IsMadeOf a_void p v = Unit {0}
  IsMadeOf no_sort p v = Unit {0}

  pub record IsNumeric (s : Sort) (v : NamedExpr) : Type 0 where
    pub kind : kind_of v ≡ the_kind s
    pub valid : IsExpr sc number v

  pub numeric : (s : Sort) (p : NamedPlace) (v : NamedExpr) → IsTrue (is_number s) → IsMadeOf s p v → IsNumeric s v
  numeric (a_place (number_type k)) p v h m =
      record {
        kind = ap kind_of m.3 ∙ ap kind_at m.0;
        valid = subst (IsExpr sc number) (sym m.3) (subst IsNumberAt (sym m.0) tt, m.2);
      }
  numeric (a_place (array_type t n)) p v h m = absurd (cc)
  numeric (a_place (struct_type tag ms)) p v h m = absurd (cc)
  numeric (a_place (loose_type t)) p v h m = absurd (cc)
  numeric (a_value k) p v h m = record { kind = m.0; valid = m.1 }
  numeric a_void p v h m = absurd (cc)
  numeric no_sort p v h m = absurd (cc)

  pub record IsTarget (s : Sort) (p : NamedPlace) : Type 0 where
    pub kind : place_kind p ≡ the_kind s
    pub modifiable : IsModifiable p
    pub valid : IsPlace sc number p

  pub target : (s : Sort) (p : NamedPlace) (v : NamedExpr) → IsTrue (is_number_place s) → IsMadeOf s p v → IsTarget s p
  target (a_place (number_type k)) p v h m =
      record { kind = ap kind_at m.0; modifiable = (m.1, subst IsNumberAt (sym m.0) tt); valid = m.2 }
  target (a_place (array_type t n)) p v h m = absurd (cc)
  target (a_place (struct_type tag ms)) p v h m = absurd (cc)
  target (a_place (loose_type t)) p v h m = absurd (cc)
  target (a_value k) p v h m = absurd (cc)
  target a_void p v h m = absurd (cc)
  target no_sort p v h m = absurd (cc)

  if_value : (b : Bool) (k : IntKind) (p : NamedPlace) (v : NamedExpr) → kind_of v ≡ k → IsExpr sc number v → IsMadeOf (value_if b k) p v
  if_value true k p v e h = (e, h)
  if_value false k p v e h = tt

  if_sort : (b : Bool) (s : Sort) (p : NamedPlace) (v : NamedExpr) → IsMadeOf s p v → IsMadeOf (sort_if b s) p v
  if_sort true s p v h = h
  if_sort false s p v h = tt

  named : (x : Name) (l : Option LibraryName) (d : Option Declared) → IsKnown sc.globals sc.objects x d
      → IsMadeOf (sort_by l d) (place_by x l d) (value_by x l d)
  named x None None h = tt
  named x None (Some d) h = by d.means h
    where
      by : (m : Meaning) → IsMeant sc.globals sc.objects x m
          → IsMadeOf (sorts.sort_of_meaning m) (place_of_meaning x m) (value_of_meaning x m)
      by (global_object t) h = (refl, refl, h, refl)
      by (local_object n t) h = (refl, refl, h, refl)
      by (enum_constant v) h = (refl, h)
      by (a_function params result) h = tt
      by untyped h = tt
  named x (Some getchar) d h = tt
  named x (Some putchar) d h = tt
  named x (Some printf) d h = tt
  named x (Some exit) d h = tt
  named x (Some eof) d h = (refl, (omega (arith, ints), omega (arith, ints)))

  -- an element and a member
  element : (s : Sort) (p : NamedPlace) (v i : NamedExpr) → IsMadeOf s p v → IsExpr sc number i
      → IsMadeOf (element_of s) (element_place tt p i) (reading (element_place tt p i))
  element (a_place t) p v i m h = by (element_type t) (ap (λ o. option_and_then element_type o) m.0)
    where
      by : (o : Option TypeTree) → place_type (element_place tt p i) ≡ o
          → IsMadeOf (place_of o) (element_place tt p i) (reading (element_place tt p i))
      by None e = tt
      by (Some u) e = (e, m.1, (m.2, h), refl)
  element (a_value k) p v i m h = tt
  element a_void p v i m h = tt
  element no_sort p v i m h = tt

  inner : (a : Name) (s : Sort) (p : NamedPlace) (v : NamedExpr) → IsMadeOf s p v
      → IsMadeOf (member_of a s) (member_place a p) (reading (member_place a p))
  inner a (a_place t) p v m = by (member_type a t) (ap (λ o. option_and_then (member_type a) o) m.0)
    where
      by : (o : Option TypeTree) → place_type (member_place a p) ≡ o → IsMadeOf (place_of o) (member_place a p) (reading (member_place a p))
      by None e = tt
      by (Some u) e = (e, m.1, m.2, refl)
  inner a (a_value k) p v m = tt
  inner a a_void p v m = tt
  inner a no_sort p v m = tt

  -- assignments
  record IsAssigned (k : IntKind) (v : NamedExpr) : Type 0 where
    kind : kind_of v ≡ k
    valid : IsExpr sc number v

  assigning : (o : Option BinOp) (s t : Sort) (p : NamedPlace) (v : NamedExpr) → IsTarget s p → IsNumeric t v
      → IsAssigned (the_kind s) (assigned o (the_kind s) (the_kind t) p v)
  assigning None s t p v a b = record { kind = a.kind; valid = (a.modifiable, a.valid, b.valid) }
  assigning (Some op) s t p v a b =
      record {
        kind = a.kind;
        valid = (
          ap (λ k. operation_kind op k (the_kind t)) (sym a.kind) ∙ ap (λ k. operation_kind op (place_kind p) k) (sym b.kind),
          a.modifiable,
          a.valid,
          b.valid,
        );
      }

-- ---- what is known of an expression, before which k calls are made: its strings are short, its calls stand in the part
-- with their results, and have been made before the stage

pub record Given (sc : valid.Scope) (number k n : ℕ) (ps : List ℕ) (ss : List CallAt) : Type 0 where
  pub few : Few ps
  pub stand : Stand sc.results k ss
  pub before : k + n < number

pub given_left : (sc : valid.Scope) (number k m n : ℕ) (ps qs : List ℕ) (ss ts : List CallAt) → Given sc number k (m + n) (ps ++ qs) (ss ++ ts)
    → Given sc number k m ps ss
given_left sc number k m n ps qs ss ts g =
    record { few = few_left ps qs g.few; stand = stand_left sc.results k ss ts g.stand; before = let b : k + (m + n) < number = g.before in omega arith }

pub given_right : (sc : valid.Scope) (number k m n : ℕ) (ps qs : List ℕ) (ss ts : List CallAt) → length ss ≡ m
    → Given sc number k (m + n) (ps ++ qs) (ss ++ ts) → Given sc number (k + m) n qs ts
given_right sc number k m n ps qs ss ts e g =
    record {
      few = few_right ps qs g.few;
      stand = stand_right sc.results k m ss ts e g.stand;
      before = let b : k + (m + n) < number = g.before in omega arith;
    }

module _ (defined : List Defined) (scope : Scope) (sc : valid.Scope) (agrees : Agrees sc.globals sc.objects scope) (number : ℕ) where
  abbrev pub GivenExpr : ℕ → Expr → Type 0
  GivenExpr k e = Given sc number k (count scope e) (prints e) (calls_in defined scope k e)

  abbrev pub GivenAll : ℕ → Exprs → Type 0
  GivenAll k es = Given sc number k (count_all scope es) (prints_all es) (calls_in_all defined scope k es)

  abbrev pub Made : ℕ → Expr → Type 0
  Made k e = IsMadeOf sc number (sort_of scope e) (place scope k e) (value scope k e)

  number_made : (k : ℕ) (e : Expr) → IsTrue (is_number (sort_of scope e)) → Made k e → IsNumeric sc number (sort_of scope e) (value scope k e)
  number_made k e h m = numeric sc number (sort_of scope e) (place scope k e) (value scope k e) h m

  target_made : (k : ℕ) (e : Expr) → IsTrue (is_number_place (sort_of scope e)) → Made k e → IsTarget sc number (sort_of scope e) (place scope k e)
  target_made k e h m = target sc number (sort_of scope e) (place scope k e) (value scope k e) h m

  -- ---- calls

  result_made : (result : Option IntKind) (n : ℕ) (p : NamedPlace) → n < number → valid.result_of sc.results n ≡ result
      → IsMadeOf sc number (result_sort result) p (result_value result n)
  result_made None n p h e = tt
  result_made (Some kind) n p h e = (refl, (tt, (h, e)))

  -- two operands
  pair : (k : ℕ) (a b : Expr) → (GivenExpr k a → Made k a) → (GivenExpr (k + count scope a) b → Made (k + count scope a) b)
      → Given sc number k (count scope a + count scope b) (prints a ++ prints b)
      (calls_in defined scope k a ++ calls_in defined scope (k + count scope a) b)
      → Pair (Made k a) (Made (k + count scope a) b)
  pair k a b ma mb g =
      record {
        left = ma (given_left sc number k (count scope a) (count scope b) (prints a) (prints b) (calls_in defined scope k a) (calls_in defined scope (k + count scope a) b) g);
        right = mb (given_right sc number k (count scope a) (count scope b) (prints a) (prints b) (calls_in defined scope k a) (calls_in defined scope (k + count scope a) b) (calls_length defined scope k a) g);
      }

  -- the arguments of a call
  given_args : (k : ℕ) (f : NameAt) (args : Exprs) (n : ℕ) (own : List CallAt)
      → Given sc number k (count_all scope args + n) (printed f.text args ++ prints_all args) (calls_in_all defined scope k args ++ own) → GivenAll k args
  given_args k f args n own g =
      record {
        few = few_right (printed f.text args) (prints_all args) g.few;
        stand = stand_left sc.results k (calls_in_all defined scope k args) own g.stand;
        before = let b : k + (count_all scope args + n) < number = g.before in omega arith;
      }

  made_call : (w : Bool) (k : ℕ) (f : NameAt) (args : Exprs) (c : Callee) → callee_of scope f.text ≡ c
      → FineCall w c (FineArgs scope (fixed_params c) args) (FinePrint scope args)
      → Given sc number k (count_all scope args + own_count c) (printed f.text args ++ prints_all args)
      (calls_in_all defined scope k args ++ own_call defined scope f args k (k + count_all scope args + 1) c)
      → (FineArgs scope (number_type Int ∷ []) args → GivenAll k args → IsExpr sc number (first_value (values scope k args)))
      → (callee_of scope f.text ≡ printf_function → FinePrint scope args → GivenAll k args → Few (printed f.text args)
      → IsExpr sc number (formatted (format_of args) (later_values (values scope k args))))
      → IsMadeOf sc number (given_by c) no_place (called_value c (k + count_all scope args + 1) args (values scope k args))
  made_call w k f args no_function e h g first print = absurd h
  made_call w k f args (user_function types result) e h g first print =
      let own = stand_right sc.results k (count_all scope args) (calls_in_all defined scope k args)
      (own_call defined scope f args k (k + count_all scope args + 1) (user_function types result)) (calls_length_all defined scope k args) g.stand in
      let before : k + (count_all scope args + 1) < number = g.before in
      result_made result (k + count_all scope args + 1) no_place (omega arith) own.0
  made_call w k f args getchar_function e h g first print = (refl, tt)
  made_call w k f args putchar_function e h g first print = (refl, first h (given_args k f args 0 _ g))
  made_call w k f args printf_function e h g first print =
      (refl, print e h (given_args k f args 0 _ g) (few_left (printed f.text args) (prints_all args) g.few))
  made_call w k f args exit_function e h g first print = tt

  mutual
    pub made : (w : Bool) (k : ℕ) (e : Expr) → Fine scope w e → WrittenExpr e → GivenExpr k e → Made k e
    made w k (Node (Number n u) s) f x g = (refl, literal n u x)
    made w k (Node (Char b) s) f x g = (refl, (omega (arith, ints), omega (arith, ints)))
    made w k (Node (Text t) s) f x g = tt
    made w k (Node (Named y) s) f x g = named sc number y.text (library_name y.text) (find y.text scope.names) (agrees.known y.text)
    made w k (Node (Paren e) s) f x g = made w k e f x g
    made w k (Node (Unary o a) s) f x g =
        let m = number_made k a f.1 (made false k a f.0 x g) in
        if_value sc number (is_number (sort_of scope a)) (unary_kind o (promote (the_kind (sort_of scope a)))) no_place
        (unary_operation o (promote (the_kind (sort_of scope a))) (value scope k a)) refl (ap promote (sym m.kind), m.valid)
    made w k (Node (Cast t a) s) f x g =
        let m = number_made k a f.1 (made false k a f.0 x g) in
        if_value sc number (is_number (sort_of scope a)) (named_kind t) no_place (conversion (named_kind t) (value scope k a)) refl m.valid
    made w k (Node (Step o a) s) f x g =
        let m = target_made k a f.1 (made false k a f.0 x g) in
        if_value sc number (is_number_place (sort_of scope a)) (the_kind (sort_of scope a)) no_place (stepping o (place scope k a)) m.kind (m.modifiable, m.valid)
    made w k (Node (Binary o a b) s) f x g =
        let h = pair k a b (λ h. made false k a f.0 x.0 h) (λ h. made false (k + count scope a) b f.1 x.1 h) g in
        let m = number_made k a f.2 h.left in
        let n = number_made (k + count scope a) b f.3 h.right in
        if_value sc number (is_number (sort_of scope a) && is_number (sort_of scope b)) (binary_kind o (operation_kind o (the_kind (sort_of scope a)) (the_kind (sort_of scope b)))) no_place
        (operation o (operation_kind o (the_kind (sort_of scope a)) (the_kind (sort_of scope b))) (value scope k a) (value scope (k + count scope a) b)) refl (
          ap (λ j. operation_kind o j (the_kind (sort_of scope b))) (sym m.kind)
              ∙ ap (λ j. operation_kind o (kind_of (value scope k a)) j) (sym n.kind),
          m.valid,
          n.valid,
        )
    made w k (Node (And a b) s) f x g =
        let h = pair k a b (λ h. made false k a f.0 x.0 h) (λ h. made false (k + count scope a) b f.1 x.1 h) g in
        let m = number_made k a f.2 h.left in
        let n = number_made (k + count scope a) b f.3 h.right in
        if_value sc number (is_number (sort_of scope a) && is_number (sort_of scope b)) Int no_place (conjunction (value scope k a) (value scope (k + count scope a) b)) refl (m.valid, n.valid)
    made w k (Node (Or a b) s) f x g =
        let h = pair k a b (λ h. made false k a f.0 x.0 h) (λ h. made false (k + count scope a) b f.1 x.1 h) g in
        let m = number_made k a f.2 h.left in
        let n = number_made (k + count scope a) b f.3 h.right in
        if_value sc number (is_number (sort_of scope a) && is_number (sort_of scope b)) Int no_place (disjunction (value scope k a) (value scope (k + count scope a) b)) refl (m.valid, n.valid)
    made w k (Node (Choose c a b) s) f x g =
        let gc = given_left sc number k (count scope c) (count scope a + count scope b) (prints c) (prints a ++ prints b) (calls_in defined scope k c)
        (calls_in defined scope (k + count scope c) a ++ calls_in defined scope (k + count scope c + count scope a) b) g in
        let gab = given_right sc number k (count scope c) (count scope a + count scope b) (prints c) (prints a ++ prints b) (calls_in defined scope k c)
        (calls_in defined scope (k + count scope c) a ++ calls_in defined scope (k + count scope c + count scope a) b) (calls_length defined scope k c) g in
        let l = number_made k c f.3 (made false k c f.0 x.0 gc) in
        let h = pair (k + count scope c) a b (λ h. made false (k + count scope c) a f.1 x.1 h)
        (λ h. made false (k + count scope c + count scope a) b f.2 x.2 h) gab in
        let m = number_made (k + count scope c) a f.4 h.left in
        let n = number_made (k + count scope c + count scope a) b f.5 h.right in
        if_value sc number (is_number (sort_of scope c) && (is_number (sort_of scope a) && is_number (sort_of scope b))) (common (the_kind (sort_of scope a)) (the_kind (sort_of scope b))) no_place
        (choice (common (the_kind (sort_of scope a)) (the_kind (sort_of scope b))) (value scope k c) (value scope (k + count scope c) a) (value scope (k + count scope c + count scope a) b)) refl (
          ap (λ j. common j (the_kind (sort_of scope b))) (sym m.kind)
              ∙ ap (λ j. common (kind_of (value scope (k + count scope c) a)) j) (sym n.kind),
          l.valid,
          m.valid,
          n.valid,
        )
    made w k (Node (Assign o a b) s) f x g =
        let h = pair k a b (λ h. made false k a f.0 x.0 h) (λ h. made false (k + count scope a) b f.1 x.1 h) g in
        let m = target_made k a f.2 h.left in
        let n = number_made (k + count scope a) b f.3 h.right in
        let r = assigning sc number o (sort_of scope a) (sort_of scope b) (place scope k a) (value scope (k + count scope a) b) m n in
        if_value sc number (is_number_place (sort_of scope a) && is_number (sort_of scope b)) (the_kind (sort_of scope a)) no_place
        (assigned o (the_kind (sort_of scope a)) (the_kind (sort_of scope b)) (place scope k a) (value scope (k + count scope a) b)) r.kind r.valid
    made w k (Node (Call f args) s) h x g =
        if_sort sc number (suits (callee_of scope f.text) args (sorts_of scope args)) _ _ _
        (made_call w k f args (callee_of scope f.text) refl h g (λ p q. first_made k args p x q) (λ e p q few. printed_made k f args e p x q few))
    made w k (Node (Index a i) s) f x g =
        let h = pair k a i (λ h. made false k a f.0 x.0 h) (λ h. made false (k + count scope a) i f.1 x.1 h) g in
        let n = number_made (k + count scope a) i f.3 h.right in
        if_sort sc number (is_number (sort_of scope i)) _ _ _ (element sc number (sort_of scope a) (place scope k a) (value scope k a) (value scope (k + count scope a) i) h.left n.valid)
    made w k (Node (Member a m) s) f x g = inner sc number m.text (sort_of scope a) (place scope k a) (value scope k a) (made false k a f.0 x g)

    -- the only argument of `putchar`
    first_made : (k : ℕ) (args : Exprs) → FineArgs scope (number_type Int ∷ []) args → WrittenExprs args → GivenAll k args
        → IsExpr sc number (first_value (values scope k args))
    first_made k NoExprs h x g = absurd h
    first_made k (MoreExprs e rest) h x g =
        (number_made k e h.1 (made false k e h.0 x.0 (given_left sc number k (count scope e) (count_all scope rest) (prints e) (prints_all rest) (calls_in defined scope k e) (calls_in_all defined scope (k + count scope e) rest) g))).valid

    numbers_made : (k : ℕ) (args : Exprs) → FineNumbers scope args → WrittenExprs args → GivenAll k args
        → AreExprs sc number (values scope k args)
    numbers_made k NoExprs h x g = tt
    numbers_made k (MoreExprs e rest) h x g = (
      (number_made k e h.1 (made false k e h.0 x.0 (given_left sc number k (count scope e) (count_all scope rest) (prints e) (prints_all rest) (calls_in defined scope k e) (calls_in_all defined scope (k + count scope e) rest) g))).valid,
      numbers_made (k + count scope e) rest h.2 x.1
          (given_right sc number k (count scope e) (count_all scope rest) (prints e) (prints_all rest) (calls_in defined scope k e) (calls_in_all defined scope (k + count scope e) rest)
          (calls_length defined scope k e) g),
    )

    printed_made : (k : ℕ) (f : NameAt) (args : Exprs) → callee_of scope f.text ≡ printf_function → FinePrint scope args → WrittenExprs args
        → GivenAll k args → Few (printed f.text args) → IsExpr sc number (formatted (format_of args) (later_values (values scope k args)))
    printed_made k f NoExprs e h x g few = absurd h
    printed_made k f (MoreExprs a rest) e h x g few = (
      format_counts scope (k + count scope a) f.text a rest h.0 (is_printed scope f.text e) few,
      numbers_made (k + count scope a) rest h.1 x.1
          (given_right sc number k (count scope a) (count_all scope rest) (prints a) (prints_all rest) (calls_in defined scope k a) (calls_in_all defined scope (k + count scope a) rest)
          (calls_length defined scope k a) g),
    )
