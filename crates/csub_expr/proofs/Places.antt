-- The place of a node, from the places of its parts.
use Rattle.std.proofs.Common.{◌≡◌, ℕ, ◌<◌, List, ◌++◌, length, refl, sym, ap, ◌∙◌}
use Rattle.csub_text.specs.declared.span.Span.{Span}
use Rattle.csub_lex.specs.declared.token.Token.{Token}
use Rattle.csub_tree.specs.Expressions.{Kind, Node}
use Rattle.csub_tree.specs.Tokens.{first, last, runs}
use Rattle.csub_expr.specs.ExprDescent.{joins}
use Rattle.csub_expr.proofs.LawsTokens.{first_append}

-- a node from the first token of a list to its last
pub joins_runs : (k : Kind) (i j : ℕ) (ts : List Token) → i ≡ first ts → j ≡ last ts → joins k i j ≡ Node k (runs ts)
joins_runs k i j ts hi hj = rw (hi, hj) refl

-- where a place of some tokens begins and ends
pub starts : (x : Span) (a b : List Token) → x ≡ runs a → 0 < length a → x.start ≡ first (a ++ b)
starts x a b e h = ap (λ (y : Span). y.start) e ∙ sym (first_append a b h)

pub ends : (x : Span) (a : List Token) → x ≡ runs a → x.end ≡ last a
ends x a e = ap (λ (y : Span). y.end) e
