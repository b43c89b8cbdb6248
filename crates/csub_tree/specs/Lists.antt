-- Which tokens spell lists and what may be missing, by which tokens spell one piece.
use Rattle.std.specs.Prelude.{List, [], ◌∷◌, ◌++◌, Option, Some, None}
use Rattle.csub_text.specs.declared.span.Span.{Span}
use Rattle.csub_lex.specs.declared.token.Mark.TheVariants as marks
use Rattle.csub_lex.specs.declared.token.Token.{Token}
use Rattle.csub_tree.specs.Tokens.{mark}

-- x*
pub data Each (A : Type 0) (R : A → List Token → Type 0) : List A → List Token → Type 0 where
  no_more : Each A R [] []
  one_more : {x : A} {xs : List A} {s t : List Token} → R x s → Each A R xs t → Each A R (x ∷ xs) (s ++ t)

-- x ("," x)*
pub data Separated (A : Type 0) (R : A → List Token → Type 0) : List A → List Token → Type 0 where
  last_one : {x : A} {s : List Token} → R x s → Separated A R (x ∷ []) s
  before : {x : A} {xs : List A} {s t : List Token} (a : Span) → R x s → Separated A R xs t → Separated A R (x ∷ xs) (s ++ mark marks.Comma a ∷ t)

-- [x]
pub data Optional (A : Type 0) (R : A → List Token → Type 0) : Option A → List Token → Type 0 where
  missing : Optional A R None []
  present : {x : A} {s : List Token} → R x s → Optional A R (Some x) s

-- [","], which means nothing
pub data Trailing : List Token → Type 0 where
  no_comma : Trailing []
  comma : (a : Span) → Trailing (mark marks.Comma a ∷ [])
