-- The fault of an expression is a rule that it breaks.
use Rattle.std.proofs.Common.{◌≡◌, ℕ, Bool, true, false, List, [], ◌∷◌, Option}
use Rattle.std.proofs.Common.{Some, None, refl, sym, subst, IsTrue, not, inl, inr, if◌then◌else◌}
use Rattle.csub_text.specs.declared.span.Span.{Span}
use Rattle.csub_types.specs.declared.kind.IntKind.TheVariants.{Int}
use Rattle.csub_tree.specs.declared.name.Name.{Name}
use Rattle.csub_tree.specs.Expressions.{Expr, Exprs, Node, Number, Char, Text, Named, Paren, Unary, Cast, Step, Binary, And, Or}
use Rattle.csub_tree.specs.Expressions.{Choose, Assign, Call, Index, Member, NoExprs, MoreExprs}
use Rattle.csub_objects.specs.Types.{number_type}
use Rattle.csub_scopes.specs.Scopes.{Scope}
use Rattle.csub_rules.specs.declared.fault.Fault.{Fault}
use Rattle.csub_rules.specs.Faults.{fault_if, ◌or_earlier◌}
use Rattle.csub_rules.specs.Sorts.{Sort}
use Rattle.csub_rules.specs.Callees.{Callee, no_function, user_function, getchar_function, putchar_function, printf_function, exit_function}
use Rattle.csub_rules.specs.Callees.{callee_of, is_printf}
use Rattle.csub_rules.specs.Formats.{Literal, literal_of, is_literal}
use Rattle.csub_rules.specs.ExprSorts.{sorts_of}
use Rattle.csub_rules.specs.ExprFaults.{Standing, whole_statement, operand, later_operand, below, is_later}
use Rattle.csub_rules.specs.ExprFaults.{fault, args_fault, numbers_fault, printf_fault, call_fault, literal_fault}
use Rattle.csub_rules.specs.Within.{Within, itself, in_paren, in_unary, in_cast, in_step, in_left, in_right, in_and_left, in_and_right}
use Rattle.csub_rules.specs.Within.{in_or_left, in_or_right, in_test, in_then, in_else, in_target, in_source, in_array, in_index, in_struct}
use Rattle.csub_rules.specs.Within.{in_args, in_first, in_printed, Among, this, next, IsArg, this_arg, next_arg}
use Rattle.csub_rules.specs.Within.{of_unary, of_cast, of_left, of_right, of_and_left, of_and_right, of_or_left, of_or_right}
use Rattle.csub_rules.specs.Within.{of_test, of_then, of_else, of_stepped, of_assigned, of_source, of_printed, of_step, of_target}
use Rattle.csub_rules.specs.Broken.{CallBreaks, m12, m13, m14, m20_exit, m20_nothing, m20_no_string, m20_format}
use Rattle.csub_rules.specs.Broken.{Breaks, m1, m5, m6_array, m6_index, m7, m8, by_call, m20_string, Broken}
use Rattle.csub_rules.proofs.LawsEarlier.{either, is_test}

-- what holds of a fault, if there is one
pub record Gives (o : Option Fault) (P : Fault → Type 0) : Type 0 where
  pub holds : (f : Fault) → o ≡ Some f → P f

pub nothing : {P : Fault → Type 0} → Gives None P
nothing = record { holds = λ f h. absurd (cc) }

pub join : {a b : Option Fault} {P : Fault → Type 0} → Gives a P → Gives b P → Gives (a or_earlier b) P
join {a = a} {b = b} p q = record { holds = λ f h. elim (either a b f h) [ inl h ↦ p.holds f h | inr h ↦ q.holds f h ] }

pub choose : {a b : Option Fault} {P : Fault → Type 0} (t : Bool) → (IsTrue t → Gives a P) → (IsTrue (not t) → Gives b P)
    → Gives (if t then a else b) P
choose true p q = p refl
choose false p q = q refl

-- what a test gives
pub tells : {P : Fault → Type 0} (t : Bool) (r : ℕ) (s : Span) → (IsTrue t → P (record { rule = r; span = s })) → Gives (fault_if t r s) P
tells {P = P} t r s p = record {
  holds = λ f h.
      let q = is_test t r s f h in
      subst (λ (g : Fault). P g) q.1 (p q.0);
}

-- calls by themselves
late : (h : Standing) → IsTrue (is_later h) → h ≡ later_operand
late whole_statement p = absurd (cc)
late operand p = absurd (cc)
late later_operand p = refl

-- a fault as one that a call breaks by itself
abbrev ByCall : Standing → Span → Callee → Exprs → List Sort → Fault → Type 0
ByCall h at c args ss f = CallBreaks h at c args ss f.rule f.span

literal_breaks : (h : Standing) (at : Span) (e : Expr) (rest : Exprs) (ss : List Sort) (o : Option Literal) → literal_of e ≡ o
    → Gives (literal_fault at o rest) (ByCall h at printf_function (MoreExprs e rest) ss)
literal_breaks h at e rest ss None p = tells true 20 at (λ q. m20_no_string h at e rest ss p)
literal_breaks h at e rest ss (Some l) p = tells _ 20 l.span (λ q. m20_format h at e rest ss l p q)

call_breaks : (h : Standing) (at : Span) (c : Callee) (args : Exprs) (ss : List Sort) → Gives (call_fault h at c args ss) (ByCall h at c args ss)
call_breaks h at no_function args ss = tells true 12 at (λ q. m12 h at args ss)
call_breaks h at (user_function params result) args ss =
    join (tells _ 13 at (λ q. m13 h at (user_function params result) args ss params refl q))
    (tells _ 14 at (λ q.
    subst (λ (x : Standing). CallBreaks x at (user_function params result) args ss 14 at) (sym (late h q)) (m14 at params result args ss)))
call_breaks h at getchar_function args ss = tells _ 13 at (λ q. m13 h at getchar_function args ss [] refl q)
call_breaks h at putchar_function args ss = tells _ 13 at (λ q. m13 h at putchar_function args ss (number_type Int ∷ []) refl q)
call_breaks h at printf_function NoExprs ss = tells true 20 at (λ q. m20_nothing h at ss)
call_breaks h at printf_function (MoreExprs e rest) ss = literal_breaks h at e rest ss (literal_of e) refl
call_breaks h at exit_function args ss =
    join (tells _ 13 at (λ q. m13 h at exit_function args ss (number_type Int ∷ []) refl q)) (tells _ 20 at (λ q. m20_exit h at args ss q))

module _ (scope : Scope) where
  -- what a part gives, the whole gives
  part : {h k : Standing} {e a : Expr} → Gives (fault scope k a) (Broken scope k a)
      → ((m : Standing) (x : Expr) → Within scope k a m x → Within scope h e m x) → Gives (fault scope k a) (Broken scope h e)
  part p step = record {
    holds = λ f h.
        let b = p.holds f h in
        record { standing = b.standing; node = b.node; stands = step b.standing b.node b.stands; breaks = b.breaks };
  }

  -- a test of the node gives a broken rule
  test : {h : Standing} {e : Expr} {t : Bool} {r : ℕ} {s : Span} → (IsTrue t → Breaks scope h e r s) → Gives (fault_if t r s) (Broken scope h e)
  test {h = h} {e = e} {t = t} {r = r} {s = s} p =
      tells {P = Broken scope h e} t r s (λ q. record { standing = h; node = e; stands = itself; breaks = p q })

  -- and so does a call by itself
  call_part : (h : Standing) (f : Name) (args : Exprs) (s : Span)
      → Gives (call_fault h f.span (callee_of scope f.text) args (sorts_of scope args)) (Broken scope h (Node (Call f args) s))
  call_part h f args s = record {
    holds = λ g p.
        let b = (call_breaks h f.span (callee_of scope f.text) args (sorts_of scope args)).holds g p in
        record { standing = h; node = Node (Call f args) s; stands = itself; breaks = by_call h f args s g.rule g.span b };
  }

  mutual
    pub sound : (h : Standing) (e : Expr) → Gives (fault scope h e) (Broken scope h e)
    sound h (Node (Number n u) s) = nothing
    sound h (Node (Char b) s) = nothing
    sound h (Node (Text t) s) = test {t = true} (λ p. m20_string h t s)
    sound h (Node (Named x) s) = test (λ p. m1 h x s p)
    sound h (Node (Paren a) s) = part (sound h a) (λ m x w. in_paren s w)
    sound h (Node (Unary o a) s) =
        join (part (sound (below h) a) (λ m x w. in_unary o s w)) (test (λ p. m7 h a (Node (Unary o a) s) (of_unary o a s) p))
    sound h (Node (Cast t a) s) =
        join (part (sound (below h) a) (λ m x w. in_cast t s w)) (test (λ p. m7 h a (Node (Cast t a) s) (of_cast t a s) p))
    sound h (Node (Step o a) s) =
        join (join (part (sound (below h) a) (λ m x w. in_step o s w)) (test (λ p. m7 h a (Node (Step o a) s) (of_stepped o a s) p)))
        (test (λ p. m8 h a (Node (Step o a) s) (of_step o a s) p))
    sound h (Node (Binary o a b) s) =
        join (join (join (part (sound (below h) a) (λ m x w. in_left o b s w)) (part (sound (below h) b) (λ m x w. in_right o a s w)))
        (test (λ p. m7 h a (Node (Binary o a b) s) (of_left o a b s) p))) (test (λ p. m7 h b (Node (Binary o a b) s) (of_right o a b s) p))
    sound h (Node (And a b) s) =
        join (join (join (part (sound (below h) a) (λ m x w. in_and_left b s w)) (part (sound later_operand b) (λ m x w. in_and_right a s w)))
        (test (λ p. m7 h a (Node (And a b) s) (of_and_left a b s) p))) (test (λ p. m7 h b (Node (And a b) s) (of_and_right a b s) p))
    sound h (Node (Or a b) s) =
        join (join (join (part (sound (below h) a) (λ m x w. in_or_left b s w)) (part (sound later_operand b) (λ m x w. in_or_right a s w)))
        (test (λ p. m7 h a (Node (Or a b) s) (of_or_left a b s) p))) (test (λ p. m7 h b (Node (Or a b) s) (of_or_right a b s) p))
    sound h (Node (Choose c a b) s) =
        join (join (join (join (join (part (sound (below h) c) (λ m x w. in_test a b s w)) (part (sound later_operand a) (λ m x w. in_then c b s w)))
        (part (sound later_operand b) (λ m x w. in_else c a s w))) (test (λ p. m7 h c (Node (Choose c a b) s) (of_test c a b s) p)))
        (test (λ p. m7 h a (Node (Choose c a b) s) (of_then c a b s) p))) (test (λ p. m7 h b (Node (Choose c a b) s) (of_else c a b s) p))
    sound h (Node (Assign o a b) s) =
        join (join (join (join (part (sound (below h) a) (λ m x w. in_target o b s w)) (part (sound (below h) b) (λ m x w. in_source o a s w)))
        (test (λ p. m7 h a (Node (Assign o a b) s) (of_assigned o a b s) p))) (test (λ p. m8 h a (Node (Assign o a b) s) (of_target o a b s) p)))
        (test (λ p. m7 h b (Node (Assign o a b) s) (of_source o a b s) p))
    sound h (Node (Index a i) s) =
        join (join (join (part (sound (below h) a) (λ m x w. in_array i s w)) (part (sound (below h) i) (λ m x w. in_index a s w)))
        (test (λ p. m6_array h a i s p))) (test (λ p. m6_index h a i s p))
    sound h (Node (Member a n) s) = join (part (sound (below h) a) (λ m x w. in_struct n s w)) (test (λ p. m5 h a n s p))
    sound h (Node (Call f args) s) =
        join (call_part h f args s)
        (choose (is_printf (callee_of scope f.text)) (λ y. sound_print h f args s y)
        (λ y. sound_args h (below h) (Node (Call f args) s) args (λ m x w. in_args f s y w)))

    sound_args : (h k : Standing) (e : Expr) (rest : Exprs) → ((m : Standing) (x : Expr) → Among scope k rest m x → Within scope h e m x)
        → Gives (args_fault scope k rest) (Broken scope h e)
    sound_args h k e NoExprs step = nothing
    sound_args h k e (MoreExprs a rest) step =
        join (part (sound k a) (λ m x w. step m x (this rest w))) (sound_args h k e rest (λ m x w. step m x (next a w)))

    sound_numbers : (h k : Standing) (f : Name) (args : Exprs) (s : Span) (rest : Exprs) → IsTrue (is_printf (callee_of scope f.text))
        → ((x : Expr) → IsArg x rest → IsArg x args)
        → ((m : Standing) (x : Expr) → Among scope k rest m x → Within scope h (Node (Call f args) s) m x)
        → Gives (numbers_fault scope k rest) (Broken scope h (Node (Call f args) s))
    sound_numbers h k f args s NoExprs y is_arg step = nothing
    sound_numbers h k f args s (MoreExprs a rest) y is_arg step =
        join (join (part (sound k a) (λ m x w. step m x (this rest w)))
        (test (λ p. m7 h a (Node (Call f args) s) (of_printed f args s y (is_arg a (this_arg rest))) p)))
        (sound_numbers h k f args s rest y (λ x i. is_arg x (next_arg a i)) (λ m x w. step m x (next a w)))

    sound_print : (h : Standing) (f : Name) (args : Exprs) (s : Span) → IsTrue (is_printf (callee_of scope f.text))
        → Gives (printf_fault scope (below h) args) (Broken scope h (Node (Call f args) s))
    sound_print h f NoExprs s y = nothing
    sound_print h f (MoreExprs a rest) s y =
        join (choose (is_literal a) (λ l. nothing) (λ l.
        join (part (sound (below h) a) (λ m x w. in_first f rest s y l w))
        (test (λ p. m7 h a (Node (Call f (MoreExprs a rest)) s) (of_printed f (MoreExprs a rest) s y (this_arg rest)) p))))
        (sound_numbers h (below h) f (MoreExprs a rest) s rest y (λ x i. next_arg a i) (λ m x w. in_printed f a s y w))
