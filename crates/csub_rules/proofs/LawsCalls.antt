-- What is known of an expression without a fault, and of a call, once it is known of the arguments.
use Rattle.std.proofs.Common.{◌≡◌, Bool, true, false, List, [], ◌∷◌, Option, Some, None, refl, sym, subst, IsTrue, not, ◌&&◌}
use Rattle.csub_text.specs.declared.span.Span.{Span}
use Rattle.csub_types.specs.declared.kind.IntKind.TheVariants.{Int}
use Rattle.csub_tree.specs.Expressions.{Expr, Exprs}
use Rattle.csub_tree.specs.Expressions.{NoExprs, MoreExprs, span_of}
use Rattle.csub_objects.specs.Types.{TypeTree, number_type}
use Rattle.csub_scopes.specs.Scopes.{Scope}
use Rattle.csub_rules.specs.Faults.{fault_if}
use Rattle.csub_rules.specs.Sorts.{is_sorted, lacks, is_number, is_number_place}
use Rattle.csub_rules.specs.Callees.{Callee, no_function, user_function, getchar_function, putchar_function, printf_function, exit_function}
use Rattle.csub_rules.specs.Callees.{fixed_params, is_printf, takes, take_all, misfits, are_numbers, result_sort}
use Rattle.csub_rules.specs.Formats.{Literal, literal_of, is_format, asks_for}
use Rattle.csub_rules.specs.ExprSorts.{sort_of, sorts_of, call_sort, given_by}
use Rattle.csub_rules.specs.ExprFaults.{Standing, whole_statement, operand, later_operand, below, is_whole, is_later}
use Rattle.csub_rules.specs.ExprFaults.{number_fault, place_fault}
use Rattle.csub_rules.specs.ExprFaults.{call_fault, literal_fault}
use Rattle.csub_rules.specs.Fine.{FineCall, Fine, FineArgs, FineNumbers, FinePrint}
use Rattle.csub_rules.proofs.LawsEarlier.{neither, no_test}
use Rattle.csub_rules.proofs.LawsServed.{both, neither_holds, served, has, holds, sorted, sorted_result}

module _ (scope : Scope) where
  -- what is known of an expression without a fault, which is a whole statement or not
  pub record Found (w : Bool) (e : Expr) : Type 0 where
    pub fine : Fine scope w e
    pub has_sort : IsTrue (not w) → IsTrue (is_sorted (sort_of scope e))

  abbrev pub AllFound : Exprs → Type 0
  AllFound NoExprs = Unit {0}
  AllFound (MoreExprs e rest) = Found false e × AllFound rest

  pub record NumbersFound (args : Exprs) : Type 0 where
    pub fine : FineNumbers scope args
    pub numbers : IsTrue (are_numbers (sorts_of scope args))

  -- the arguments behind a format
  abbrev pub RestFound : Exprs → Type 0
  RestFound NoExprs = Unit {0}
  RestFound (MoreExprs e rest) = NumbersFound rest

  pub is_part : (h : Standing) (e : Expr) → Found (is_whole (below h)) e → Found false e
  is_part whole_statement e x = x
  is_part operand e x = x
  is_part later_operand e x = x

  pub number : (e : Expr) → Found false e → number_fault scope e ≡ None → IsTrue (is_number (sort_of scope e))
  number e x h = has (sort_of scope e) (is_number (sort_of scope e)) 7 (span_of e) (x.has_sort refl) h

  pub place : (e : Expr) → Found false e → place_fault scope e ≡ None → IsTrue (is_number_place (sort_of scope e))
  place e x h = has (sort_of scope e) (is_number_place (sort_of scope e)) 8 (span_of e) (x.has_sort refl) h

  -- arguments that are fine and don't misfit are taken
  record Fit (ps : List TypeTree) (args : Exprs) : Type 0 where
    fine : FineArgs scope ps args
    taken : IsTrue (take_all ps (sorts_of scope args))

  fits : (ps : List TypeTree) (args : Exprs) → AllFound args → misfits ps (sorts_of scope args) ≡ false → Fit ps args
  fits [] NoExprs x h = record { fine = tt; taken = refl }
  fits [] (MoreExprs e rest) x h = absurd (cc)
  fits (p ∷ ps) NoExprs x h = absurd (cc)
  fits (p ∷ ps) (MoreExprs e rest) x h =
      let q = neither_holds (lacks (sort_of scope e) (takes p (sort_of scope e))) (misfits ps (sorts_of scope rest)) h in
      let t = served (sort_of scope e) (takes p (sort_of scope e)) (x.0.has_sort refl) q.0 in
      let y = fits ps rest x.1 q.1 in
      record { fine = (x.0.fine, t, y.fine); taken = both (takes p (sort_of scope e)) (take_all ps (sorts_of scope rest)) t y.taken }

  fits_params : (at : Span) (ps : List TypeTree) (args : Exprs) → AllFound args → fault_if (misfits ps (sorts_of scope args)) 13 at ≡ None → Fit ps args
  fits_params at ps args x h = fits ps args x (no_test (misfits ps (sorts_of scope args)) 13 at h)

  -- a call without a fault
  pub record CallFound (w : Bool) (c : Callee) (args : Exprs) : Type 0 where
    pub fine : FineCall w c (FineArgs scope (fixed_params c) args) (FinePrint scope args)
    pub has_sort : IsTrue (not w) → IsTrue (is_sorted (call_sort c args (sorts_of scope args)))

  print_found : (w : Bool) (at : Span) (e : Expr) (rest : Exprs) (o : Option Literal) → literal_of e ≡ o → NumbersFound rest
      → literal_fault at o rest ≡ None → CallFound w printf_function (MoreExprs e rest)
  print_found w at e rest None q x h = absurd (cc)
  print_found w at e rest (Some l) q x h =
      let p : IsTrue (is_format (Some l) rest) = holds (asks_for l rest) 20 l.span h in
      let f : IsTrue (is_format (literal_of e) rest) = subst (λ (o : Option Literal). IsTrue (is_format o rest)) (sym q) p in
      let b = both (is_format (literal_of e) rest) (are_numbers (sorts_of scope rest)) f x.numbers in
      record {
        fine = (f, x.fine);
        has_sort = λ n. sorted (is_format (literal_of e) rest && are_numbers (sorts_of scope rest)) (given_by printf_function) b refl;
      }

  pub call_found : (h : Standing) (at : Span) (c : Callee) (args : Exprs) → (IsTrue (not (is_printf c)) → AllFound args)
      → (IsTrue (is_printf c) → RestFound args) → call_fault h at c args (sorts_of scope args) ≡ None → CallFound (is_whole h) c args
  call_found h at no_function args x y p = absurd (cc)
  call_found h at (user_function ps r) args x y p =
      let q = neither (fault_if (misfits ps (sorts_of scope args)) 13 at) (fault_if (is_later h) 14 at) p in
      let f = fits_params at ps args (x refl) q.0 in
      record { fine = f.fine; has_sort = λ n. sorted (take_all ps (sorts_of scope args)) (result_sort r) f.taken (sorted_result r) }
  call_found h at getchar_function args x y p =
      let f = fits_params at [] args (x refl) p in
      record { fine = f.fine; has_sort = λ n. sorted (take_all [] (sorts_of scope args)) (given_by getchar_function) f.taken refl }
  call_found h at putchar_function args x y p =
      let f = fits_params at (number_type Int ∷ []) args (x refl) p in
      record {
        fine = f.fine;
        has_sort = λ n. sorted (take_all (number_type Int ∷ []) (sorts_of scope args)) (given_by putchar_function) f.taken refl;
      }
  call_found h at printf_function NoExprs x y p = absurd (cc)
  call_found h at printf_function (MoreExprs e rest) x y p = print_found (is_whole h) at e rest (literal_of e) refl (y refl) p
  call_found h at exit_function args x y p =
      let q = neither (fault_if (misfits (number_type Int ∷ []) (sorts_of scope args)) 13 at) (fault_if (not (is_whole h)) 20 at) p in
      let f = fits_params at (number_type Int ∷ []) args (x refl) q.0 in
      let w = holds (is_whole h) 20 at q.1 in
      record { fine = (w, f.fine); has_sort = λ n. absurd (apart (is_whole h) w n) }
    where
      apart : (b : Bool) → IsTrue b → IsTrue (not b) → ⊥
      apart true p q = cc
      apart false p q = cc
