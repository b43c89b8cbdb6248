-- Marks and keywords that the comparison takes for one are one.
use Rattle.std.proofs.Common.{◌≡◌, List, [], ◌∷◌, get_or, true, refl, sym, ap, ◌∙◌}
use Rattle.std.proofs.lemmas.Bool.{eqb-true}
use Rattle.csub_lex.specs.declared.token.Key.{Key}
use Rattle.csub_lex.specs.declared.token.Key.TheVariants as keys
use Rattle.csub_lex.specs.declared.token.Mark.{Mark}
use Rattle.csub_lex.specs.declared.token.Mark.TheVariants as marks
use Rattle.csub_expr.specs.Looks.{same_mark, same_key, mark_code, key_code}

-- all marks, each at the place of its number
all_marks : List Mark
all_marks =
    marks.OpenBrace ∷ marks.CloseBrace ∷ marks.OpenParen ∷ marks.CloseParen ∷ marks.OpenBracket ∷ marks.CloseBracket ∷
    marks.Semicolon ∷ marks.Comma ∷ marks.Colon ∷ marks.Question ∷ marks.Dot ∷ marks.Tilde ∷ marks.Plus ∷ marks.Minus ∷
    marks.Star ∷ marks.Slash ∷ marks.Percent ∷ marks.Ampersand ∷ marks.Bar ∷ marks.Caret ∷ marks.Bang ∷ marks.Less ∷
    marks.Greater ∷ marks.Equal ∷ marks.PlusPlus ∷ marks.MinusMinus ∷ marks.ShiftLeft ∷ marks.ShiftRight ∷
    marks.LessEqual ∷ marks.GreaterEqual ∷ marks.EqualEqual ∷ marks.BangEqual ∷ marks.AndAnd ∷ marks.BarBar ∷
    marks.PlusEqual ∷ marks.MinusEqual ∷ marks.StarEqual ∷ marks.SlashEqual ∷ marks.PercentEqual ∷ marks.AmpersandEqual ∷
    marks.BarEqual ∷ marks.CaretEqual ∷ marks.ShiftLeftEqual ∷ marks.ShiftRightEqual ∷ []

mark_again : (m : Mark) → get_or all_marks (mark_code m) marks.OpenBrace ≡ m
unfolding all_marks
mark_again marks.OpenBrace = refl
mark_again marks.CloseBrace = refl
mark_again marks.OpenParen = refl
mark_again marks.CloseParen = refl
mark_again marks.OpenBracket = refl
mark_again marks.CloseBracket = refl
mark_again marks.Semicolon = refl
mark_again marks.Comma = refl
mark_again marks.Colon = refl
mark_again marks.Question = refl
mark_again marks.Dot = refl
mark_again marks.Tilde = refl
mark_again marks.Plus = refl
mark_again marks.Minus = refl
mark_again marks.Star = refl
mark_again marks.Slash = refl
mark_again marks.Percent = refl
mark_again marks.Ampersand = refl
mark_again marks.Bar = refl
mark_again marks.Caret = refl
mark_again marks.Bang = refl
mark_again marks.Less = refl
mark_again marks.Greater = refl
mark_again marks.Equal = refl
mark_again marks.PlusPlus = refl
mark_again marks.MinusMinus = refl
mark_again marks.ShiftLeft = refl
mark_again marks.ShiftRight = refl
mark_again marks.LessEqual = refl
mark_again marks.GreaterEqual = refl
mark_again marks.EqualEqual = refl
mark_again marks.BangEqual = refl
mark_again marks.AndAnd = refl
mark_again marks.BarBar = refl
mark_again marks.PlusEqual = refl
mark_again marks.MinusEqual = refl
mark_again marks.StarEqual = refl
mark_again marks.SlashEqual = refl
mark_again marks.PercentEqual = refl
mark_again marks.AmpersandEqual = refl
mark_again marks.BarEqual = refl
mark_again marks.CaretEqual = refl
mark_again marks.ShiftLeftEqual = refl
mark_again marks.ShiftRightEqual = refl

pub same_mark_is : (a b : Mark) → same_mark a b ≡ true → a ≡ b
same_mark_is a b e = sym (mark_again a) ∙ ap (λ n. get_or all_marks n marks.OpenBrace) (eqb-true (mark_code a) (mark_code b) e) ∙ mark_again b

-- all keywords, each at the place of its number
all_keys : List Key
all_keys =
    keys.Auto ∷ keys.Break ∷ keys.Case ∷ keys.Char ∷ keys.Const ∷ keys.Continue ∷ keys.Default ∷ keys.Do ∷ keys.Double ∷
    keys.Else ∷ keys.Enum ∷ keys.Extern ∷ keys.Float ∷ keys.For ∷ keys.Goto ∷ keys.If ∷ keys.Inline ∷ keys.Int ∷
    keys.Long ∷ keys.Register ∷ keys.Restrict ∷ keys.Return ∷ keys.Short ∷ keys.Signed ∷ keys.Sizeof ∷ keys.Static ∷
    keys.Struct ∷ keys.Switch ∷ keys.Typedef ∷ keys.Union ∷ keys.Unsigned ∷ keys.Void ∷ keys.Volatile ∷ keys.While ∷
    keys.Alignas ∷ keys.Alignof ∷ keys.Atomic ∷ keys.Bool ∷ keys.Complex ∷ keys.Generic ∷ keys.Imaginary ∷ keys.Noreturn ∷
    keys.StaticAssert ∷ keys.ThreadLocal ∷ []

key_again : (m : Key) → get_or all_keys (key_code m) keys.Auto ≡ m
unfolding all_keys
key_again keys.Auto = refl
key_again keys.Break = refl
key_again keys.Case = refl
key_again keys.Char = refl
key_again keys.Const = refl
key_again keys.Continue = refl
key_again keys.Default = refl
key_again keys.Do = refl
key_again keys.Double = refl
key_again keys.Else = refl
key_again keys.Enum = refl
key_again keys.Extern = refl
key_again keys.Float = refl
key_again keys.For = refl
key_again keys.Goto = refl
key_again keys.If = refl
key_again keys.Inline = refl
key_again keys.Int = refl
key_again keys.Long = refl
key_again keys.Register = refl
key_again keys.Restrict = refl
key_again keys.Return = refl
key_again keys.Short = refl
key_again keys.Signed = refl
key_again keys.Sizeof = refl
key_again keys.Static = refl
key_again keys.Struct = refl
key_again keys.Switch = refl
key_again keys.Typedef = refl
key_again keys.Union = refl
key_again keys.Unsigned = refl
key_again keys.Void = refl
key_again keys.Volatile = refl
key_again keys.While = refl
key_again keys.Alignas = refl
key_again keys.Alignof = refl
key_again keys.Atomic = refl
key_again keys.Bool = refl
key_again keys.Complex = refl
key_again keys.Generic = refl
key_again keys.Imaginary = refl
key_again keys.Noreturn = refl
key_again keys.StaticAssert = refl
key_again keys.ThreadLocal = refl

pub same_key_is : (a b : Key) → same_key a b ≡ true → a ≡ b
same_key_is a b e = sym (key_again a) ∙ ap (λ n. get_or all_keys n keys.Auto) (eqb-true (key_code a) (key_code b) e) ∙ key_again b
