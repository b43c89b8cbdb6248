-- What follows an expression and continues it or not, and what it means that an expression is read whole.
use Rattle.std.proofs.Common.{◌≡◌, ℕ, zero, suc, ◌+◌, ◌<◌, ◌≤◌, List, ◌∷◌, ◌++◌, length, Option, Some, None, Ok, Err, false, cond, refl, ap}
use Rattle.std.specs.Prelude.{nat_le}
use Rattle.csub_text.specs.declared.span.Span.{Span}
use Rattle.csub_text.specs.declared.operator.BinOp.{BinOp}
use Rattle.csub_text.specs.declared.operator.StepOp.{StepOp}
use Rattle.csub_lex.specs.declared.token.Mark.{Mark}
use Rattle.csub_lex.specs.declared.token.Mark.TheVariants as marks
use Rattle.csub_lex.specs.declared.token.Token.{Token}
use Rattle.csub_tree.specs.Expressions.{Expr}
use Rattle.csub_tree.specs.Depth.{expr_depth}
use Rattle.csub_tree.specs.Tokens.{mark}
use Rattle.csub_tree.specs.SpellsExpressions.{Rank, assignment, conditional, binary, postfix, primary, Operator, operator_of, assignment_of, postfix_of}
use Rattle.csub_expr.specs.declared.operator.Tail.{Tail}
use Rattle.csub_expr.specs.declared.operator.Tail.TheVariants as tails
use Rattle.csub_expr.specs.Looks.{begins, rest, head_span, same_mark, op_at, of_level, assignment_at, tail_at, tail_of}
use Rattle.csub_expr.specs.Laws.{Ends}
use Rattle.csub_expr.specs.Answers.{Answer, ◌>>=◌}
use Rattle.csub_expr.specs.ExprDescent.{read, paren_at, word_at, behind_by, behind, more_by, more}

rest_of : (t : Token) (ts : List Token) → rest (t ∷ ts) ≡ ts
unfolding rest
rest_of t ts = refl

-- marks that end every expression
pub record Closing (m : Mark) : Type 0 where
  pub no_operator : operator_of m ≡ None
  pub no_tail : tail_of m ≡ None
  pub no_assignment : assignment_of m ≡ None
  pub no_open : same_mark m marks.OpenParen ≡ false
  pub no_question : same_mark m marks.Question ≡ false

pub ends_at : (m : Mark) → Closing m → (a : Span) (r : List Token) → Ends assignment (mark m a ∷ r)
unfolding tail_at begins op_at assignment_at
ends_at m c a r = ((c.no_tail, c.no_open), (λ j lt. ap (of_level j) c.no_operator), c.no_question, c.no_assignment)

-- what ends an assignment ends what is in it
pub ends_conditional : (r : List Token) → Ends assignment r → Ends conditional r
ends_conditional r e = (e.0, e.1, e.2)

-- what an operator between operands is not
pub op_continues : (m : Mark) (o : Operator) → operator_of m ≡ Some o → (tail_of m ≡ None) × (same_mark m marks.OpenParen ≡ false)
op_continues marks.Star o e = (refl, refl)
op_continues marks.Slash o e = (refl, refl)
op_continues marks.Percent o e = (refl, refl)
op_continues marks.Plus o e = (refl, refl)
op_continues marks.Minus o e = (refl, refl)
op_continues marks.ShiftLeft o e = (refl, refl)
op_continues marks.ShiftRight o e = (refl, refl)
op_continues marks.Less o e = (refl, refl)
op_continues marks.Greater o e = (refl, refl)
op_continues marks.LessEqual o e = (refl, refl)
op_continues marks.GreaterEqual o e = (refl, refl)
op_continues marks.EqualEqual o e = (refl, refl)
op_continues marks.BangEqual o e = (refl, refl)
op_continues marks.Ampersand o e = (refl, refl)
op_continues marks.Caret o e = (refl, refl)
op_continues marks.Bar o e = (refl, refl)
op_continues marks.AndAnd o e = (refl, refl)
op_continues marks.BarBar o e = (refl, refl)
op_continues _ o e = absurd cc

-- what an assignment operator is not
pub assign_continues : (m : Mark) (o : Option BinOp) → assignment_of m ≡ Some o → (operator_of m ≡ None) × (tail_of m ≡ None) × (same_mark m marks.OpenParen ≡ false) × (same_mark m marks.Question ≡ false)
assign_continues marks.Equal o e = (refl, refl, refl, refl)
assign_continues marks.PlusEqual o e = (refl, refl, refl, refl)
assign_continues marks.MinusEqual o e = (refl, refl, refl, refl)
assign_continues marks.StarEqual o e = (refl, refl, refl, refl)
assign_continues marks.SlashEqual o e = (refl, refl, refl, refl)
assign_continues marks.PercentEqual o e = (refl, refl, refl, refl)
assign_continues marks.AmpersandEqual o e = (refl, refl, refl, refl)
assign_continues marks.BarEqual o e = (refl, refl, refl, refl)
assign_continues marks.CaretEqual o e = (refl, refl, refl, refl)
assign_continues marks.ShiftLeftEqual o e = (refl, refl, refl, refl)
assign_continues marks.ShiftRightEqual o e = (refl, refl, refl, refl)
assign_continues _ o e = absurd cc

-- a step behind an operand
pub step_continues : (m : Mark) (o : StepOp) → postfix_of m ≡ Some o → (tail_of m ≡ Some (tails.Step o)) × (same_mark m marks.OpenParen ≡ false)
step_continues marks.PlusPlus o e = (ap (λ (p : Option StepOp). step_tail p) e, refl)
  where
    step_tail : Option StepOp → Option Tail
    step_tail None = None
    step_tail (Some o) = Some (tails.Step o)
step_continues marks.MinusMinus o e = (ap (λ (p : Option StepOp). step_tail p) e, refl)
  where
    step_tail : Option StepOp → Option Tail
    step_tail None = None
    step_tail (Some o) = Some (tails.Step o)
step_continues _ o e = absurd cc

-- the whole node is read where what follows doesn't continue it
abbrev pub Reads : Rank → Expr → List Token → Type 0
Reads rank e s = (d : ℕ) → expr_depth e ≤ d → (r : List Token) → Ends rank r → read d rank (s ++ r) ≡ Ok (e, r)

-- a primary expression, as the loop of tails begins with it
unfoldable pub head_at : (Rank → List Token → Answer Expr) → ℕ → List Token → Answer Expr
head_at below d ts = cond (begins marks.OpenParen ts) (cond (nat_le 1 d) (paren_at below d (head_span ts).start (rest ts)) (Err (length ts))) (word_at below d ts)

abbrev pub Heads : Expr → List Token → Type 0
Heads e s = (d : ℕ) → expr_depth e ≤ suc d → (r : List Token) → begins marks.OpenParen r ≡ false → head_at (read d) d (s ++ r) ≡ Ok (e, r)

-- a postfix expression is read up to here, and its loop goes on from there
abbrev pub Tails : Expr → List Token → Type 0
Tails e s = (d : ℕ) → expr_depth e ≤ suc d → (r : List Token) → begins marks.OpenParen r ≡ false
    → (m : ℕ) × (m < expr_depth e) × ((f : ℕ) → (head_at (read d) d (s ++ r) >>= λ l. behind (read d) d (m + f) l.0 l.1) ≡ behind (read d) d f e r)

-- a chain is read up to here, and its loop goes on from there
abbrev pub Spine : ℕ → Expr → List Token → Type 0
Spine k e s = (d : ℕ) → expr_depth e ≤ suc d → (r : List Token) → Ends (binary k) r
    → (m : ℕ) × (m < expr_depth e) × ((f : ℕ) → (read (suc d) (binary k) (s ++ r) >>= λ l. more (read d) d k (m + f) l.0 l.1) ≡ more (read d) d k f e r)

abbrev pub Claim : Rank → Expr → List Token → Type 0
Claim assignment e s = Reads assignment e s
Claim conditional e s = Reads conditional e s
Claim (binary zero) e s = Reads (binary zero) e s
Claim (binary (suc k)) e s = Spine k e s
Claim postfix e s = Tails e s
Claim primary e s = Heads e s

-- the loops stop where nothing comes for them
pub more_none : (below : Rank → List Token → Answer Expr) (d k f : ℕ) (left : Expr) (ts : List Token) → op_at k ts ≡ None → more below d k f left ts ≡ Ok (left, ts)
unfolding more more_by
more_none below d k zero left ts op = refl
more_none below d k (suc f) left ts op = rw (more, op) refl

pub behind_none : (below : Rank → List Token → Answer Expr) (d f : ℕ) (e : Expr) (ts : List Token) → tail_at ts ≡ None → behind below d f e ts ≡ Ok (e, ts)
unfolding behind behind_by
behind_none below d zero e ts none = refl
behind_none below d (suc f) e ts none = rw (behind, none) refl
