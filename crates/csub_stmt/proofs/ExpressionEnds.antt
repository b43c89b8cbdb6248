-- What stands behind expressions and initialisers.
use Rattle.std.proofs.Common.{◌≡◌, ℕ, ◌≤◌, List, ◌∷◌, ◌++◌, Ok, refl}
use Rattle.csub_text.specs.declared.span.Span.{Span}
use Rattle.csub_lex.specs.declared.token.Mark.TheVariants as marks
use Rattle.csub_lex.specs.declared.token.Token.{Token}
use Rattle.csub_tree.specs.Expressions.{Expr}
use Rattle.csub_tree.specs.Declarations.{Init}
use Rattle.csub_tree.specs.Depth.{expr_depth, init_depth}
use Rattle.csub_tree.specs.Tokens.{mark}
use Rattle.csub_tree.specs.SpellsExpressions.{SpellsExpr, assignment, conditional}
use Rattle.csub_tree.specs.SpellsDeclarations.{SpellsInit}
use Rattle.csub_expr.specs.Looks.{begins, op_at, assignment_at, tail_at}
use Rattle.csub_expr.specs.Laws.{Ends}
use Rattle.csub_expr.specs.ExprDescent.{read}
use Rattle.csub_expr.specs.InitDescent.{read_init}
use Rattle.csub_expr.proofs.LawsExpressions.{complete, complete_conditional, complete_init}

-- what comes continues no conditional expression, and no assignment
abbrev pub EndsConditional : List Token → Type 0
EndsConditional r = Ends conditional r

abbrev pub EndsAssignment : List Token → Type 0
EndsAssignment r = Ends assignment r

-- what is spelled so is read
pub assignment_reads : {e : Expr} {s : List Token} → SpellsExpr assignment e s → (d : ℕ) → expr_depth e ≤ d → (r : List Token) → EndsAssignment r → read d assignment (s ++ r) ≡ Ok (e, r)
assignment_reads h d fits r ends = complete _ _ h d fits r ends

pub conditional_reads : {e : Expr} {s : List Token} → SpellsExpr conditional e s → (d : ℕ) → expr_depth e ≤ d → (r : List Token) → EndsConditional r → read d conditional (s ++ r) ≡ Ok (e, r)
conditional_reads h d fits r ends = complete_conditional _ _ h d fits r ends

pub init_reads : {i : Init} {s : List Token} → SpellsInit i s → (d : ℕ) → init_depth i ≤ d → (r : List Token) → EndsAssignment r → read_init d (s ++ r) ≡ Ok (i, r)
init_reads h d fits r ends = complete_init _ _ h d fits r ends

-- the marks that stand behind expressions
pub ends_comma : (a : Span) (r : List Token) → EndsAssignment (mark marks.Comma a ∷ r)
unfolding begins op_at assignment_at tail_at
ends_comma a r = ((refl, refl), (λ j lt. refl), refl, refl)

pub ends_semicolon : (a : Span) (r : List Token) → EndsAssignment (mark marks.Semicolon a ∷ r)
unfolding begins op_at assignment_at tail_at
ends_semicolon a r = ((refl, refl), (λ j lt. refl), refl, refl)

pub ends_paren : (a : Span) (r : List Token) → EndsAssignment (mark marks.CloseParen a ∷ r)
unfolding begins op_at assignment_at tail_at
ends_paren a r = ((refl, refl), (λ j lt. refl), refl, refl)

pub ends_colon : (a : Span) (r : List Token) → EndsAssignment (mark marks.Colon a ∷ r)
unfolding begins op_at assignment_at tail_at
ends_colon a r = ((refl, refl), (λ j lt. refl), refl, refl)

pub stops_bracket : (a : Span) (r : List Token) → EndsConditional (mark marks.CloseBracket a ∷ r)
unfolding begins op_at tail_at
stops_bracket a r = ((refl, refl), (λ j lt. refl), refl)

pub stops_colon : (a : Span) (r : List Token) → EndsConditional (mark marks.Colon a ∷ r)
unfolding begins op_at tail_at
stops_colon a r = ((refl, refl), (λ j lt. refl), refl)
