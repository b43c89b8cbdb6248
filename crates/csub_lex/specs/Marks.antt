-- Marks, the punctuators of C11 6.4.6.
use Rattle.std.specs.Prelude.{ℕ, ◌≡◌, ◌≤◌, List, ◌∷◌, ◌++◌, length, codes}
use Rattle.csub_lex.specs.declared.token.Mark.{Mark}
use Rattle.csub_lex.specs.declared.token.Mark.TheVariants as marks

abbrev pub mark_text : Mark → List ℕ
mark_text marks.OpenBrace = codes "{"
mark_text marks.CloseBrace = codes "}"
mark_text marks.OpenParen = codes "("
mark_text marks.CloseParen = codes ")"
mark_text marks.OpenBracket = codes "["
mark_text marks.CloseBracket = codes "]"
mark_text marks.Semicolon = codes ";"
mark_text marks.Comma = codes ","
mark_text marks.Colon = codes ":"
mark_text marks.Question = codes "?"
mark_text marks.Dot = codes "."
mark_text marks.Tilde = codes "~"
mark_text marks.Plus = codes "+"
mark_text marks.Minus = codes "-"
mark_text marks.Star = codes "*"
mark_text marks.Slash = codes "/"
mark_text marks.Percent = codes "%"
mark_text marks.Ampersand = codes "&"
mark_text marks.Bar = codes "|"
mark_text marks.Caret = codes "^"
mark_text marks.Bang = codes "!"
mark_text marks.Less = codes "<"
mark_text marks.Greater = codes ">"
mark_text marks.Equal = codes "="
mark_text marks.PlusPlus = codes "++"
mark_text marks.MinusMinus = codes "--"
mark_text marks.ShiftLeft = codes "<<"
mark_text marks.ShiftRight = codes ">>"
mark_text marks.LessEqual = codes "<="
mark_text marks.GreaterEqual = codes ">="
mark_text marks.EqualEqual = codes "=="
mark_text marks.BangEqual = codes "!="
mark_text marks.AndAnd = codes "&&"
mark_text marks.BarBar = codes "||"
mark_text marks.PlusEqual = codes "+="
mark_text marks.MinusEqual = codes "-="
mark_text marks.StarEqual = codes "*="
mark_text marks.SlashEqual = codes "/="
mark_text marks.PercentEqual = codes "%="
mark_text marks.AmpersandEqual = codes "&="
mark_text marks.BarEqual = codes "|="
mark_text marks.CaretEqual = codes "^="
mark_text marks.ShiftLeftEqual = codes "<<="
mark_text marks.ShiftRightEqual = codes ">>="

-- no longer mark begins the bytes (C11 6.4p4)
abbrev pub IsLongest : Mark → List ℕ → Type 0
IsLongest mark bytes = (other : Mark) (after : List ℕ) → bytes ≡ mark_text other ++ after → length (mark_text other) ≤ length (mark_text mark)

-- no comment is opened by the first two bytes: neither `/*` nor `//` (C11 6.4.9)
abbrev pub NoComment : List ℕ → Type 0
NoComment bytes = (after : List ℕ) → (bytes ≡ 47 ∷ 42 ∷ after → ⊥) × (bytes ≡ 47 ∷ 47 ∷ after → ⊥)
