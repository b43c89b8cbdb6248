-- The first token of an expression, which its point is named by.
use Rattle.csub_text.specs.declared.span.Span.{Span}
use Rattle.csub_text.specs.declared.operator.StepOp.{StepOp}
use Rattle.csub_text.specs.declared.operator.StepOp.TheVariants.{PreUp, PreDown, PostUp, PostDown}
use Rattle.csub_tree.specs.Expressions.{Expr, Kind, Node, Number, Char, Text, Named, Paren, Unary, Cast, Step, Binary, And, Or}
use Rattle.csub_tree.specs.Expressions.{Choose, Assign, Call, Index, Member}
use Rattle.csub_rules.specs.Words.{first_bytes}

-- `++` or `--` stands before its operand or behind it (C11 6.5.3.1 and 6.5.2.4)
abbrev pub first_of_step : StepOp → Span → Span → Span
first_of_step PreUp s operand = first_bytes 2 s
first_of_step PreDown s operand = first_bytes 2 s
first_of_step PostUp s operand = operand
first_of_step PostDown s operand = operand

-- the first token of an expression: a parenthesis belongs to it, and so does an operator before its operand
abbrev mutual
  pub first_token : Expr → Span
  first_token (Node k s) = first_of k s

  pub first_of : Kind → Span → Span
  first_of (Number n u) s = s
  first_of (Char b) s = s
  first_of (Text t) s = s
  first_of (Named x) s = x.span
  first_of (Paren e) s = first_bytes 1 s
  first_of (Unary o e) s = first_bytes 1 s
  first_of (Cast t e) s = first_bytes 1 s
  first_of (Step o e) s = first_of_step o s (first_token e)
  first_of (Binary o a b) s = first_token a
  first_of (And a b) s = first_token a
  first_of (Or a b) s = first_token a
  first_of (Choose c a b) s = first_token c
  first_of (Assign o a b) s = first_token a
  first_of (Call f args) s = f.span
  first_of (Index a i) s = first_token a
  first_of (Member a m) s = first_token a
