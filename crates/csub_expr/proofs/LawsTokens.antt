-- Lists of tokens: their places, and what an answered question says of the first.
use Rattle.std.proofs.Common.{◌≡◌, ◌<◌, ◌≤◌, Ok, true, List, [], ◌∷◌, ◌++◌, length, refl, ap, ◌∙◌, arith, length-append}
use Rattle.csub_text.specs.declared.span.Span.{Span}
use Rattle.csub_lex.specs.declared.token.Token.{Token}
use Rattle.csub_tree.specs.Tokens.{first, last, mark, key, id}
use Rattle.csub_lex.specs.declared.token.Key.{Key}
use Rattle.csub_lex.specs.declared.token.Mark.{Mark}
use Rattle.csub_tree.specs.declared.name.Name.{Name}
use Rattle.csub_expr.specs.Looks.{begins, begins_key, rest, head_span}
use Rattle.csub_expr.specs.Answers.{expect, expect_name}
use Rattle.csub_expr.proofs.Taken as taken

-- the last place of a token and others is that of the others
pub last_cons : (t : Token) (ts : List Token) → 0 < length ts → last (t ∷ ts) ≡ last ts
last_cons t [] h = elim h [ ]
last_cons t (u ∷ ts) h = refl

-- a list with a token in it is not empty
pub nonempty_append : (a : List Token) (t : Token) (b : List Token) → 0 < length (a ++ t ∷ b)
nonempty_append [] t b = omega arith
nonempty_append (u ∷ a) t b = omega arith

-- the last place of two lists is that of the second
pub last_append : (a b : List Token) → 0 < length b → last (a ++ b) ≡ last b
last_append [] b h = refl
last_append (t ∷ a) b h = last_cons t (a ++ b) (omega (arith, length-append a b)) ∙ last_append a b h

-- the first place of two lists is that of the first
pub first_append : (a b : List Token) → 0 < length a → first (a ++ b) ≡ first a
first_append [] b h = elim h [ ]
first_append (t ∷ a) b h = refl

-- the last place of two lists with a token between is that of the second
pub last_behind : (a : List Token) (t : Token) (b : List Token) → 0 < length b → last (a ++ t ∷ b) ≡ last b
last_behind a t b h = last_append a (t ∷ b) (omega arith) ∙ last_cons t b h

-- the last place of a list that ends with a token is where that ends
pub last_token : (a : List Token) (t : Token) → last (a ++ t ∷ []) ≡ t.span.end
last_token a t = last_append a (t ∷ []) (omega arith)

-- behind the first token are no more than with it
pub rest_shorter : (ts : List Token) → length (rest ts) ≤ length ts
unfolding rest
rest_shorter [] = omega arith
rest_shorter (t ∷ ts) = omega arith

-- nothing behind a list
pub append_nil : (s : List Token) → s ++ [] ≡ s
append_nil [] = refl
append_nil (t ∷ s) = ap (λ (u : List Token). t ∷ u) (append_nil s)

-- what begins with a mark is it and the rest
pub begins_is : (m : Mark) (ts : List Token) → begins m ts ≡ true → ts ≡ mark m (head_span ts) ∷ rest ts
begins_is m ts e = taken.begins_is m ts e

-- what begins with a keyword is it and the rest
pub begins_key_is : (k : Key) (ts : List Token) → begins_key k ts ≡ true → ts ≡ key k (head_span ts) ∷ rest ts
begins_key_is k ts e = taken.begins_key_is k ts e

-- where a mark had to come and came, the tokens are it and the rest
pub expect_is : (m : Mark) (ts : List Token) (sp : Span) (r : List Token) → expect m ts ≡ Ok (sp, r) → ts ≡ mark m sp ∷ r
expect_is m ts sp r e = taken.expect_is m ts sp r e

-- where a name had to come and came, the tokens are it and the rest
pub expect_name_is : (ts : List Token) (n : Name) (r : List Token) → expect_name ts ≡ Ok (n, r) → ts ≡ id n ∷ r
expect_name_is ts n r e = taken.expect_name_is ts n r e
