-- Tokens as the grammar's productions name them, and the place of some tokens.
use Rattle.std.specs.Prelude.{ℕ, List, [], ◌∷◌}
use Rattle.csub_text.specs.declared.span.Span.{Span}
use Rattle.csub_lex.specs.declared.token.Key.{Key}
use Rattle.csub_lex.specs.declared.token.Mark.{Mark}
use Rattle.csub_lex.specs.declared.token.Token.{Token}
use Rattle.csub_lex.specs.declared.token.TokenKind.TheVariants as kinds
use Rattle.csub_tree.specs.declared.name.Name.{Name}

-- a mark at a place
abbrev pub mark : Mark → Span → Token
mark m s = record { kind = kinds.Mark m; span = s }

-- a keyword at a place
abbrev pub key : Key → Span → Token
key k s = record { kind = kinds.Key k; span = s }

-- ID: the token of a name
abbrev pub id : Name → Token
id n = record { kind = kinds.Name n.text; span = n.span }

abbrev pub first : List Token → ℕ
first [] = 0
first (t ∷ ts) = t.span.start

abbrev pub last : List Token → ℕ
last [] = 0
last (t ∷ []) = t.span.end
last (t ∷ u ∷ ts) = last (u ∷ ts)

-- the place of some tokens: from the first to the last
abbrev pub runs : List Token → Span
runs ts = record { start = first ts; end = last ts }
