use Rattle.std.proofs.Common.{◌≡◌, refl}
use denote.Enum.Declared.{tag_of}
use Rattle.csub_lex.specs.declared.token.Mark.{Mark}
use Rattle.csub_lex.specs.declared.token.Mark.TheVariants as marks
use Rattle.csub_lex.specs.contracts.token.Mark.{the_type}
use Rattle.csub_expr.specs.Looks.{mark_code}
use Rattle.csub_expr.proofs.look.same_mark.Goals as goal

-- `==` compares the places that the forms have in the type
numbered : (m : Mark) → tag_of the_type m ≡ mark_code m
numbered marks.OpenBrace = refl
numbered marks.CloseBrace = refl
numbered marks.OpenParen = refl
numbered marks.CloseParen = refl
numbered marks.OpenBracket = refl
numbered marks.CloseBracket = refl
numbered marks.Semicolon = refl
numbered marks.Comma = refl
numbered marks.Colon = refl
numbered marks.Question = refl
numbered marks.Dot = refl
numbered marks.Tilde = refl
numbered marks.Plus = refl
numbered marks.Minus = refl
numbered marks.Star = refl
numbered marks.Slash = refl
numbered marks.Percent = refl
numbered marks.Ampersand = refl
numbered marks.Bar = refl
numbered marks.Caret = refl
numbered marks.Bang = refl
numbered marks.Less = refl
numbered marks.Greater = refl
numbered marks.Equal = refl
numbered marks.PlusPlus = refl
numbered marks.MinusMinus = refl
numbered marks.ShiftLeft = refl
numbered marks.ShiftRight = refl
numbered marks.LessEqual = refl
numbered marks.GreaterEqual = refl
numbered marks.EqualEqual = refl
numbered marks.BangEqual = refl
numbered marks.AndAnd = refl
numbered marks.BarBar = refl
numbered marks.PlusEqual = refl
numbered marks.MinusEqual = refl
numbered marks.StarEqual = refl
numbered marks.SlashEqual = refl
numbered marks.PercentEqual = refl
numbered marks.AmpersandEqual = refl
numbered marks.BarEqual = refl
numbered marks.CaretEqual = refl
numbered marks.ShiftLeftEqual = refl
numbered marks.ShiftRightEqual = refl

pub returns : goal.returns
returns c = rw (← numbered c.args.a, ← numbered c.args.b) c.eq.ensures
