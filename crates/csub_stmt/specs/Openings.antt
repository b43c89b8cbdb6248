-- What the reader of declarations and statements sees of the first token.
use Rattle.std.specs.Prelude.{List, [], ◌∷◌, Bool, true, false, ◌||◌}
use Rattle.csub_lex.specs.declared.token.Key.{Key}
use Rattle.csub_lex.specs.declared.token.Key.TheVariants as keys
use Rattle.csub_lex.specs.declared.token.Mark.{Mark}
use Rattle.csub_lex.specs.declared.token.Mark.TheVariants as marks
use Rattle.csub_lex.specs.declared.token.TokenKind.{TokenKind}
use Rattle.csub_lex.specs.declared.token.TokenKind.TheVariants as kinds
use Rattle.csub_lex.specs.declared.token.Token.{Token}
use Rattle.csub_stmt.specs.declared.opening.Opening.{Opening}
use Rattle.csub_stmt.specs.declared.opening.Opening.TheVariants as openings
use Rattle.csub_expr.specs.Looks.{begins_key, begins_number}

abbrev pub opening_of_mark : Mark → Opening
opening_of_mark marks.OpenBrace = openings.Brace
opening_of_mark marks.Semicolon = openings.Semicolon
opening_of_mark _ = openings.Plain

abbrev pub opening_of_key : Key → Opening
opening_of_key keys.If = openings.If
opening_of_key keys.While = openings.While
opening_of_key keys.Do = openings.Do
opening_of_key keys.For = openings.For
opening_of_key keys.Switch = openings.Switch
opening_of_key keys.Break = openings.Break
opening_of_key keys.Continue = openings.Continue
opening_of_key keys.Goto = openings.Goto
opening_of_key keys.Return = openings.Return
opening_of_key _ = openings.Plain

abbrev pub opening_of : TokenKind → Opening
opening_of (kinds.Mark m) = opening_of_mark m
opening_of (kinds.Key k) = opening_of_key k
opening_of (kinds.Name t) = openings.Plain
opening_of (kinds.Number n u) = openings.Plain
opening_of (kinds.Char b) = openings.Plain
opening_of (kinds.Text t) = openings.Plain

-- what a statement that begins so is (6.8)
unfoldable pub opening_at : List Token → Opening
opening_at [] = openings.Plain
opening_at (t ∷ ts) = opening_of t.kind

abbrev pub is_name : TokenKind → Bool
is_name (kinds.Mark m) = false
is_name (kinds.Key k) = false
is_name (kinds.Name t) = true
is_name (kinds.Number n u) = false
is_name (kinds.Char b) = false
is_name (kinds.Text t) = false

-- the first token is a name
unfoldable pub begins_name : List Token → Bool
begins_name [] = false
begins_name (t ∷ ts) = is_name t.kind

-- a declaration begins (6.7.2)
unfoldable pub begins_base : List Token → Bool
begins_base ts = begins_key keys.Struct ts || begins_number ts
