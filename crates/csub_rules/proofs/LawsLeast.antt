-- No rule is broken before the fault of an expression.
use Rattle.std.proofs.Common.{◌≡◌, ℕ, Bool, true, false, List, [], ◌∷◌, Option, Some, None, refl, sym, subst, IsTrue, not, if◌then◌else◌}
use Rattle.csub_text.specs.declared.span.Span.{Span}
use Rattle.csub_tree.specs.Expressions.{Expr, Exprs, Node, Text, Paren, Unary, Cast, Step, Binary, And, Or}
use Rattle.csub_tree.specs.Expressions.{Choose, Assign, Call, Index, Member, NoExprs, MoreExprs, span_of}
use Rattle.csub_types.specs.declared.kind.IntKind.TheVariants.{Int}
use Rattle.csub_objects.specs.Types.{TypeTree, number_type}
use Rattle.csub_scopes.specs.Scopes.{Scope}
use Rattle.csub_rules.specs.declared.fault.Fault.{Fault}
use Rattle.csub_rules.specs.Faults.{Covers, IsFirst}
use Rattle.csub_rules.specs.Sorts.{Sort, no_sort}
use Rattle.csub_rules.specs.Callees.{Callee, no_function, user_function, getchar_function, putchar_function, printf_function, exit_function}
use Rattle.csub_rules.specs.Callees.{callee_of, params_of, misfits}
use Rattle.csub_rules.specs.Formats.{Literal, is_literal, asks_for}
use Rattle.csub_rules.specs.ExprSorts.{sort_of, sorts_of}
use Rattle.csub_rules.specs.ExprFaults.{Standing, later_operand, below, is_unknown, lacks_number, lacks_place}
use Rattle.csub_rules.specs.ExprFaults.{fault, args_fault, numbers_fault, printf_fault, call_fault, literal_fault}
use Rattle.csub_rules.specs.Within.{Within, itself, in_paren, in_unary, in_cast, in_step, in_left, in_right, in_and_left, in_and_right}
use Rattle.csub_rules.specs.Within.{in_or_left, in_or_right, in_test, in_then, in_else, in_target, in_source, in_array, in_index, in_struct}
use Rattle.csub_rules.specs.Within.{in_args, in_first, in_printed, Among, this, next, IsArg, this_arg, next_arg}
use Rattle.csub_rules.specs.Within.{NumberAsked, of_unary, of_cast, of_left, of_right, of_and_left, of_and_right, of_or_left, of_or_right}
use Rattle.csub_rules.specs.Within.{of_test, of_then, of_else, of_stepped, of_assigned, of_source, of_printed, PlaceAsked, of_step, of_target}
use Rattle.csub_rules.specs.Broken.{CallBreaks, m12, m13, m14, m20_exit, m20_nothing, m20_no_string, m20_format}
use Rattle.csub_rules.specs.Broken.{Breaks, m1, m5, m6_array, m6_index, m7, m8, by_call, m20_string, Broken}
use Rattle.csub_rules.proofs.LawsEarlier.{on_left, on_right, tested}

-- what the one that is chosen covers
on_true : (t : Bool) (a b : Option Fault) (g : Fault) → IsTrue t → Covers a g → Covers (if t then a else b) g
on_true true a b g p c = c
on_true false a b g p c = absurd (cc)

on_false : (t : Bool) (a b : Option Fault) (g : Fault) → IsTrue (not t) → Covers b g → Covers (if t then a else b) g
on_false true a b g p c = absurd (cc)
on_false false a b g p c = c

-- calls by themselves
other_params : (ps qs : List TypeTree) (ss : List Sort) → Some qs ≡ Some ps → IsTrue (misfits ps ss) → IsTrue (misfits qs ss)
other_params ps qs ss e p = let same : ps ≡ qs = cc in subst (λ (x : List TypeTree). IsTrue (misfits x ss)) same p

misfit : (h : Standing) (at : Span) (c : Callee) (args : Exprs) (ss : List Sort) (ps : List TypeTree) → params_of c ≡ Some ps
    → IsTrue (misfits ps ss) → Covers (call_fault h at c args ss) (record { rule = 13; span = at })
misfit h at no_function args ss ps e p = absurd (cc)
misfit h at (user_function qs r) args ss ps e p = let q = other_params ps qs ss e p in search (on_left, on_right, tested)
misfit h at getchar_function args ss ps e p = let q = other_params ps [] ss e p in search tested
misfit h at putchar_function args ss ps e p = let q = other_params ps (number_type Int ∷ []) ss e p in search tested
misfit h at printf_function args ss ps e p = absurd (cc)
misfit h at exit_function args ss ps e p =
    let q = other_params ps (number_type Int ∷ []) ss e p in search (on_left, on_right, tested)

-- a string has no sort
string_unsorted : (scope : Scope) (e : Expr) → IsTrue (is_literal e) → sort_of scope e ≡ no_sort
string_unsorted scope (Node (Text t) s) p = refl
string_unsorted scope (Node (Paren a) s) p = string_unsorted scope a p
string_unsorted scope (Node k s) p = absurd (cc)

no_string : (scope : Scope) (e : Expr) → IsTrue (lacks_number (sort_of scope e)) → IsTrue (not (is_literal e))
no_string scope e p = by (is_literal e) refl
  where
    by : (t : Bool) → is_literal e ≡ t → IsTrue (not t)
    by true q = let n : IsTrue (lacks_number no_sort) = subst (λ (x : Sort). IsTrue (lacks_number x)) (string_unsorted scope e q) p in absurd (cc)
    by false q = refl

call_covered : (h : Standing) (at : Span) (c : Callee) (args : Exprs) (ss : List Sort) (r : ℕ) (s : Span) → CallBreaks h at c args ss r s
    → Covers (call_fault h at c args ss) (record { rule = r; span = s })
call_covered h at c args ss r s (m12 h' at' args' ss') = tested true 12 at refl
call_covered h at c args ss r s (m13 h' at' c' args' ss' ps e p) = misfit h at c args ss ps e p
call_covered h at c args ss r s (m14 at' ps result args' ss') = let p : IsTrue true = refl in search (on_left, on_right, tested)
call_covered h at c args ss r s (m20_exit h' at' args' ss' p) = search (on_left, on_right, tested)
call_covered h at c args ss r s (m20_nothing h' at' ss') = tested true 20 at refl
call_covered h at c args ss r s (m20_no_string h' at' e rest ss' p) =
    subst (λ (o : Option Literal). Covers (literal_fault at o rest) (record { rule = 20; span = at })) (sym p) (tested true 20 at refl)
call_covered h at c args ss r s (m20_format h' at' e rest ss' l p q) =
    subst (λ (o : Option Literal). Covers (literal_fault at o rest) (record { rule = 20; span = l.span })) (sym p)
    (tested (not (asks_for l rest)) 20 l.span q)

module _ (scope : Scope) where
  asked_printed : (h : Standing) (rest : Exprs) (x : Expr) → IsArg x rest → IsTrue (lacks_number (sort_of scope x))
      → Covers (numbers_fault scope h rest) (record { rule = 7; span = span_of x })
  asked_printed h NoExprs x i p = elim i [ ]
  asked_printed h (MoreExprs e rest) x (this_arg r) p = search (on_left, on_right, tested)
  asked_printed h (MoreExprs e rest) x (next_arg z i) p = search (on_left, on_right, asked_printed h rest x i p)

  -- a string has no sort, so that no number is missed of it
  asked_first : (h : Standing) (args : Exprs) (x : Expr) → IsArg x args → IsTrue (lacks_number (sort_of scope x))
      → Covers (printf_fault scope h args) (record { rule = 7; span = span_of x })
  asked_first h NoExprs x i p = elim i [ ]
  asked_first h (MoreExprs e rest) x (this_arg r) p = search (on_left, on_false, on_right, tested, no_string scope x p)
  asked_first h (MoreExprs e rest) x (next_arg z i) p = search (on_right, asked_printed h rest x i p)

  asked : (h : Standing) (x e : Expr) → NumberAsked scope x e → IsTrue (lacks_number (sort_of scope x))
      → Covers (fault scope h e) (record { rule = 7; span = span_of x })
  asked h x e (of_unary o a s) p = search (on_left, on_right, tested)
  asked h x e (of_cast t a s) p = search (on_left, on_right, tested)
  asked h x e (of_left o a b s) p = search (on_left, on_right, tested)
  asked h x e (of_right o a b s) p = search (on_left, on_right, tested)
  asked h x e (of_and_left a b s) p = search (on_left, on_right, tested)
  asked h x e (of_and_right a b s) p = search (on_left, on_right, tested)
  asked h x e (of_or_left a b s) p = search (on_left, on_right, tested)
  asked h x e (of_or_right a b s) p = search (on_left, on_right, tested)
  asked h x e (of_test c a b s) p = search (on_left, on_right, tested)
  asked h x e (of_then c a b s) p = search (on_left, on_right, tested)
  asked h x e (of_else c a b s) p = search (on_left, on_right, tested)
  asked h x e (of_stepped o a s) p = search (on_left, on_right, tested)
  asked h x e (of_assigned o a b s) p = search (on_left, on_right, tested)
  asked h x e (of_source o a b s) p = search (on_left, on_right, tested)
  asked h x e (of_printed f args s y i) p = search (on_right, on_true, asked_first (below h) args x i p)

  asked_place : (h : Standing) (x e : Expr) → PlaceAsked x e → IsTrue (lacks_place (sort_of scope x))
      → Covers (fault scope h e) (record { rule = 8; span = span_of x })
  asked_place h x e (of_step o a s) p = search (on_left, on_right, tested)
  asked_place h x e (of_target o a b s) p = search (on_left, on_right, tested)

  own : (h : Standing) (e : Expr) (r : ℕ) (s : Span) → Breaks scope h e r s → Covers (fault scope h e) (record { rule = r; span = s })
  own h e r s (m1 h' x t p) = tested (is_unknown scope x.text) 1 x.span p
  own h e r s (m5 h' a n t p) = search (on_left, on_right, tested)
  own h e r s (m6_array h' a i t p) = search (on_left, on_right, tested)
  own h e r s (m6_index h' a i t p) = search (on_left, on_right, tested)
  own h e r s (m7 h' x e' i p) = asked h x e i p
  own h e r s (m8 h' x e' i p) = asked_place h x e i p
  own h e r s (by_call h' f args t r' u b) = search (on_left, call_covered h f.span (callee_of scope f.text) args (sorts_of scope args) r s b)
  own h e r s (m20_string h' t u) = tested true 20 u refl

  mutual
    deep : (h m : Standing) (e x : Expr) (r : ℕ) (s : Span) → Within scope h e m x → Breaks scope m x r s
        → Covers (fault scope h e) (record { rule = r; span = s })
    deep h m e x r s itself b = own h e r s b
    deep h m (Node (Paren a) t) x r s (in_paren t' w) b = deep h m a x r s w b
    deep h m (Node (Unary o a) t) x r s (in_unary o' t' w) b = search (on_left, deep (below h) m a x r s w b)
    deep h m (Node (Cast n a) t) x r s (in_cast n' t' w) b = search (on_left, deep (below h) m a x r s w b)
    deep h m (Node (Step o a) t) x r s (in_step o' t' w) b = search (on_left, deep (below h) m a x r s w b)
    deep h m (Node (Binary o a c) t) x r s (in_left o' c' t' w) b = search (on_left, on_right, deep (below h) m a x r s w b)
    deep h m (Node (Binary o a c) t) x r s (in_right o' a' t' w) b = search (on_left, on_right, deep (below h) m c x r s w b)
    deep h m (Node (And a c) t) x r s (in_and_left c' t' w) b = search (on_left, on_right, deep (below h) m a x r s w b)
    deep h m (Node (And a c) t) x r s (in_and_right a' t' w) b = search (on_left, on_right, deep later_operand m c x r s w b)
    deep h m (Node (Or a c) t) x r s (in_or_left c' t' w) b = search (on_left, on_right, deep (below h) m a x r s w b)
    deep h m (Node (Or a c) t) x r s (in_or_right a' t' w) b = search (on_left, on_right, deep later_operand m c x r s w b)
    deep h m (Node (Choose d a c) t) x r s (in_test a' c' t' w) b = search (on_left, on_right, deep (below h) m d x r s w b)
    deep h m (Node (Choose d a c) t) x r s (in_then d' c' t' w) b = search (on_left, on_right, deep later_operand m a x r s w b)
    deep h m (Node (Choose d a c) t) x r s (in_else d' a' t' w) b = search (on_left, on_right, deep later_operand m c x r s w b)
    deep h m (Node (Assign o a c) t) x r s (in_target o' c' t' w) b = search (on_left, on_right, deep (below h) m a x r s w b)
    deep h m (Node (Assign o a c) t) x r s (in_source o' a' t' w) b = search (on_left, on_right, deep (below h) m c x r s w b)
    deep h m (Node (Index a c) t) x r s (in_array c' t' w) b = search (on_left, on_right, deep (below h) m a x r s w b)
    deep h m (Node (Index a c) t) x r s (in_index a' t' w) b = search (on_left, on_right, deep (below h) m c x r s w b)
    deep h m (Node (Member a n) t) x r s (in_struct n' t' w) b = search (on_left, deep (below h) m a x r s w b)
    deep h m (Node (Call f args) t) x r s (in_args f' t' y w) b = search (on_right, on_false, among (below h) m args x r s w b)
    deep h m (Node (Call f (MoreExprs e rest)) t) x r s (in_first f' rest' t' y l w) b =
        search (on_right, on_true, on_left, on_false, deep (below h) m e x r s w b)
    deep h m (Node (Call f (MoreExprs e rest)) t) x r s (in_printed f' e' t' y w) b =
        search (on_right, on_true, among_numbers (below h) m rest x r s w b)

    among : (h m : Standing) (args : Exprs) (x : Expr) (r : ℕ) (s : Span) → Among scope h args m x → Breaks scope m x r s
        → Covers (args_fault scope h args) (record { rule = r; span = s })
    among h m NoExprs x r s w b = elim w [ ]
    among h m (MoreExprs e rest) x r s (this rest' w) b = search (on_left, deep h m e x r s w b)
    among h m (MoreExprs e rest) x r s (next e' w) b = search (on_left, on_right, among h m rest x r s w b)

    among_numbers : (h m : Standing) (args : Exprs) (x : Expr) (r : ℕ) (s : Span) → Among scope h args m x → Breaks scope m x r s
        → Covers (numbers_fault scope h args) (record { rule = r; span = s })
    among_numbers h m NoExprs x r s w b = elim w [ ]
    among_numbers h m (MoreExprs e rest) x r s (this rest' w) b = search (on_left, on_right, deep h m e x r s w b)
    among_numbers h m (MoreExprs e rest) x r s (next e' w) b = search (on_left, on_right, among_numbers h m rest x r s w b)

  -- a broken rule is no earlier than the fault
  pub covered : (h : Standing) (e : Expr) (g : Fault) → Broken scope h e g → Covers (fault scope h e) g
  covered h e g b = deep h b.standing e b.node g.rule g.span b.stands b.breaks

  pub least : (h : Standing) (e : Expr) (f g : Fault) → fault scope h e ≡ Some f → Broken scope h e g → IsFirst f g
  least h e f g p b = let c : Covers (fault scope h e) g = covered h e g b in rw p at c

  pub complete : (h : Standing) (e : Expr) (g : Fault) → fault scope h e ≡ None → Broken scope h e g → ⊥
  complete h e g p b = let c : Covers (fault scope h e) g = covered h e g b in rw p at c
