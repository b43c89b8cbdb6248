-- The first fault of an expression lies where the expression lies.
use Rattle.std.proofs.Common.{ℕ, ℤ, List, Option, Some, None, true}
use Rattle.csub_text.specs.declared.span.Span.{Span}
use Rattle.csub_tree.specs.Expressions.{Expr, Exprs, Node, Number, Char, Text, Named, Paren, Unary, Cast, Step, Binary, And, Or}
use Rattle.csub_tree.specs.Expressions.{Choose, Assign, Call, Index, Member, NoExprs, MoreExprs, span_of}
use Rattle.csub_scopes.specs.Scopes.{Scope}
use Rattle.csub_rules.specs.Sorts.{Sort}
use Rattle.csub_rules.specs.Callees.{Callee, no_function, user_function, getchar_function, putchar_function, printf_function, exit_function}
use Rattle.csub_rules.specs.Callees.{callee_of, is_printf}
use Rattle.csub_rules.specs.Formats.{Literal, literal_of, is_literal}
use Rattle.csub_rules.specs.ExprFaults.{Standing, later_operand, below, number_fault, place_fault, literal_fault, format_fault, call_fault}
use Rattle.csub_rules.specs.ExprFaults.{fault, args_fault, numbers_fault, printf_fault}
use Rattle.csub_rules.specs.Uses.{Use, standing_of, use_fault, enum_fault, as_number}
use Rattle.csub_rules.proofs.LawsSound.{nothing, join, choose}
use Rattle.fault_places.specs.Within.{IsWithin, WithinMaybe, WithinExpr, WithinExprs}
use Rattle.fault_places.proofs.Told.{Told, told_if}

module _ (n : ℕ) where
  pub span_within : (e : Expr) → WithinExpr n e → IsWithin n (span_of e)
  span_within (Node k s) w = w.1

  -- ---- calls by themselves

  literal_within : (e : Expr) → WithinExpr n e → WithinMaybe (λ (l : Literal). IsWithin n l.span) (literal_of e)
  literal_within (Node (Text t) s) w = w.1
  literal_within (Node (Paren e) s) w = literal_within e w.0
  literal_within (Node k s) w = tt

  literal_told : (at : Span) (o : Option Literal) (rest : Exprs) → IsWithin n at → WithinMaybe (λ (l : Literal). IsWithin n l.span) o
      → Told n (literal_fault at o rest)
  literal_told at None rest w v = told_if true 20 w
  literal_told at (Some l) rest w v = told_if _ 20 v

  format_told : (at : Span) (args : Exprs) → IsWithin n at → WithinExprs n args → Told n (format_fault at args)
  format_told at NoExprs w v = told_if true 20 w
  format_told at (MoreExprs e rest) w v = literal_told at (literal_of e) rest w (literal_within e v.0)

  call_told : (h : Standing) (at : Span) (c : Callee) (args : Exprs) (ss : List Sort) → IsWithin n at → WithinExprs n args
      → Told n (call_fault h at c args ss)
  call_told h at no_function args ss w v = told_if true 12 w
  call_told h at (user_function params result) args ss w v = join (told_if _ 13 w) (told_if _ 14 w)
  call_told h at getchar_function args ss w v = told_if _ 13 w
  call_told h at putchar_function args ss w v = told_if _ 13 w
  call_told h at printf_function args ss w v = format_told at args w v
  call_told h at exit_function args ss w v = join (told_if _ 13 w) (told_if _ 20 w)

  module _ (scope : Scope) where
    number_told : (e : Expr) → WithinExpr n e → Told n (number_fault scope e)
    number_told e w = told_if _ 7 (span_within e w)

    place_told : (e : Expr) → WithinExpr n e → Told n (place_fault scope e)
    place_told e w = told_if _ 8 (span_within e w)

    -- ---- expressions

    mutual
      expr_told : (h : Standing) (e : Expr) → WithinExpr n e → Told n (fault scope h e)
      expr_told h (Node (Number v u) s) w = nothing
      expr_told h (Node (Char b) s) w = nothing
      expr_told h (Node (Text t) s) w = told_if true 20 w.1
      expr_told h (Node (Named x) s) w = told_if _ 1 w.0
      expr_told h (Node (Paren a) s) w = expr_told h a w.0
      expr_told h (Node (Unary o a) s) w = join (expr_told (below h) a w.0) (number_told a w.0)
      expr_told h (Node (Cast t a) s) w = join (expr_told (below h) a w.0.1) (number_told a w.0.1)
      expr_told h (Node (Step o a) s) w = join (join (expr_told (below h) a w.0) (number_told a w.0)) (place_told a w.0)
      expr_told h (Node (Binary o a b) s) w =
          join (join (join (expr_told (below h) a w.0.0) (expr_told (below h) b w.0.1)) (number_told a w.0.0)) (number_told b w.0.1)
      expr_told h (Node (And a b) s) w =
          join (join (join (expr_told (below h) a w.0.0) (expr_told later_operand b w.0.1)) (number_told a w.0.0)) (number_told b w.0.1)
      expr_told h (Node (Or a b) s) w =
          join (join (join (expr_told (below h) a w.0.0) (expr_told later_operand b w.0.1)) (number_told a w.0.0)) (number_told b w.0.1)
      expr_told h (Node (Choose c a b) s) w =
          join (join (join (join (join (expr_told (below h) c w.0.0) (expr_told later_operand a w.0.1)) (expr_told later_operand b w.0.2))
          (number_told c w.0.0)) (number_told a w.0.1)) (number_told b w.0.2)
      expr_told h (Node (Assign o a b) s) w =
          join (join (join (join (expr_told (below h) a w.0.0) (expr_told (below h) b w.0.1)) (number_told a w.0.0)) (place_told a w.0.0))
          (number_told b w.0.1)
      expr_told h (Node (Call f args) s) w =
          join (call_told h f.span (callee_of scope f.text) args _ w.0.0 w.0.1)
          (choose (is_printf (callee_of scope f.text)) (λ y. printf_told (below h) args w.0.1) (λ y. args_told (below h) args w.0.1))
      expr_told h (Node (Index a i) s) w =
          join (join (join (expr_told (below h) a w.0.0) (expr_told (below h) i w.0.1)) (told_if _ 6 w.1)) (told_if _ 6 w.1)
      expr_told h (Node (Member a m) s) w = join (expr_told (below h) a w.0.0) (told_if _ 5 w.0.1)

      args_told : (h : Standing) (args : Exprs) → WithinExprs n args → Told n (args_fault scope h args)
      args_told h NoExprs w = nothing
      args_told h (MoreExprs e rest) w = join (expr_told h e w.0) (args_told h rest w.1)

      numbers_told : (h : Standing) (args : Exprs) → WithinExprs n args → Told n (numbers_fault scope h args)
      numbers_told h NoExprs w = nothing
      numbers_told h (MoreExprs e rest) w = join (join (expr_told h e w.0) (number_told e w.0)) (numbers_told h rest w.1)

      printf_told : (h : Standing) (args : Exprs) → WithinExprs n args → Told n (printf_fault scope h args)
      printf_told h NoExprs w = nothing
      printf_told h (MoreExprs e rest) w =
          join (choose (is_literal e) (λ y. nothing) (λ y. join (expr_told h e w.0) (number_told e w.0))) (numbers_told h rest w.1)

    -- where they stand by themselves
    pub use_told : (u : Use) (e : Expr) → WithinExpr n e → Told n (use_fault scope u e)
    use_told u e w = join (join (expr_told (standing_of u) e w) (told_if _ 7 (span_within e w))) (told_if _ 9 (span_within e w))

    pub enum_told : (next : ℤ) (at : Span) (o : Option Expr) → IsWithin n at → WithinMaybe (WithinExpr n) o → Told n (enum_fault scope next at o)
    enum_told next at None w v = told_if _ 9 w
    enum_told next at (Some e) w v = join (use_told as_number e v) (told_if _ 9 (span_within e v))
