-- What the reader sees of the first token.
use Rattle.std.specs.Prelude.{ℕ, List, [], ◌∷◌, Bool, true, false, Option, Some, None, ◌==◌, if◌then◌else◌}
use Rattle.csub_text.specs.declared.span.Span.{Span}
use Rattle.csub_text.specs.declared.operator.BinOp.{BinOp}
use Rattle.csub_text.specs.declared.operator.StepOp.TheVariants as steps
use Rattle.csub_lex.specs.declared.token.Key.{Key}
use Rattle.csub_lex.specs.declared.token.Key.TheVariants as keys
use Rattle.csub_lex.specs.declared.token.Mark.{Mark}
use Rattle.csub_lex.specs.declared.token.Mark.TheVariants as marks
use Rattle.csub_lex.specs.declared.token.TokenKind.{TokenKind}
use Rattle.csub_lex.specs.declared.token.TokenKind.TheVariants as kinds
use Rattle.csub_lex.specs.declared.token.Token.{Token}
use Rattle.csub_expr.specs.declared.operator.Joint.{Joint}
use Rattle.csub_expr.specs.declared.operator.Joint.TheVariants as joints
use Rattle.csub_expr.specs.declared.operator.Sign.{Sign}
use Rattle.csub_expr.specs.declared.operator.Sign.TheVariants as signs
use Rattle.csub_expr.specs.declared.operator.Tail.{Tail}
use Rattle.csub_expr.specs.declared.operator.Tail.TheVariants as tails
use Rattle.csub_tree.specs.SpellsExpressions.{Operator, Plain, Both, Either, Prefix, Signed, Counted, operator_of, level_of, assignment_of, prefix_of}

-- marks and keywords by number, so that a test of two computes
abbrev pub mark_code : Mark → ℕ
mark_code marks.OpenBrace = 0
mark_code marks.CloseBrace = 1
mark_code marks.OpenParen = 2
mark_code marks.CloseParen = 3
mark_code marks.OpenBracket = 4
mark_code marks.CloseBracket = 5
mark_code marks.Semicolon = 6
mark_code marks.Comma = 7
mark_code marks.Colon = 8
mark_code marks.Question = 9
mark_code marks.Dot = 10
mark_code marks.Tilde = 11
mark_code marks.Plus = 12
mark_code marks.Minus = 13
mark_code marks.Star = 14
mark_code marks.Slash = 15
mark_code marks.Percent = 16
mark_code marks.Ampersand = 17
mark_code marks.Bar = 18
mark_code marks.Caret = 19
mark_code marks.Bang = 20
mark_code marks.Less = 21
mark_code marks.Greater = 22
mark_code marks.Equal = 23
mark_code marks.PlusPlus = 24
mark_code marks.MinusMinus = 25
mark_code marks.ShiftLeft = 26
mark_code marks.ShiftRight = 27
mark_code marks.LessEqual = 28
mark_code marks.GreaterEqual = 29
mark_code marks.EqualEqual = 30
mark_code marks.BangEqual = 31
mark_code marks.AndAnd = 32
mark_code marks.BarBar = 33
mark_code marks.PlusEqual = 34
mark_code marks.MinusEqual = 35
mark_code marks.StarEqual = 36
mark_code marks.SlashEqual = 37
mark_code marks.PercentEqual = 38
mark_code marks.AmpersandEqual = 39
mark_code marks.BarEqual = 40
mark_code marks.CaretEqual = 41
mark_code marks.ShiftLeftEqual = 42
mark_code marks.ShiftRightEqual = 43

abbrev pub key_code : Key → ℕ
key_code keys.Auto = 0
key_code keys.Break = 1
key_code keys.Case = 2
key_code keys.Char = 3
key_code keys.Const = 4
key_code keys.Continue = 5
key_code keys.Default = 6
key_code keys.Do = 7
key_code keys.Double = 8
key_code keys.Else = 9
key_code keys.Enum = 10
key_code keys.Extern = 11
key_code keys.Float = 12
key_code keys.For = 13
key_code keys.Goto = 14
key_code keys.If = 15
key_code keys.Inline = 16
key_code keys.Int = 17
key_code keys.Long = 18
key_code keys.Register = 19
key_code keys.Restrict = 20
key_code keys.Return = 21
key_code keys.Short = 22
key_code keys.Signed = 23
key_code keys.Sizeof = 24
key_code keys.Static = 25
key_code keys.Struct = 26
key_code keys.Switch = 27
key_code keys.Typedef = 28
key_code keys.Union = 29
key_code keys.Unsigned = 30
key_code keys.Void = 31
key_code keys.Volatile = 32
key_code keys.While = 33
key_code keys.Alignas = 34
key_code keys.Alignof = 35
key_code keys.Atomic = 36
key_code keys.Bool = 37
key_code keys.Complex = 38
key_code keys.Generic = 39
key_code keys.Imaginary = 40
key_code keys.Noreturn = 41
key_code keys.StaticAssert = 42
key_code keys.ThreadLocal = 43

abbrev pub same_mark : Mark → Mark → Bool
same_mark a b = mark_code a == mark_code b

abbrev pub same_key : Key → Key → Bool
same_key a b = key_code a == key_code b

-- what a token is to a question about marks, and to one about keywords
abbrev pub of_mark : {A : Type 0} → A → (Mark → A) → TokenKind → A
of_mark other f (kinds.Mark m) = f m
of_mark other f (kinds.Key k) = other
of_mark other f (kinds.Name t) = other
of_mark other f (kinds.Number n u) = other
of_mark other f (kinds.Char b) = other
of_mark other f (kinds.Text t) = other

abbrev pub of_key : {A : Type 0} → A → (Key → A) → TokenKind → A
of_key other f (kinds.Mark m) = other
of_key other f (kinds.Key k) = f k
of_key other f (kinds.Name t) = other
of_key other f (kinds.Number n u) = other
of_key other f (kinds.Char b) = other
of_key other f (kinds.Text t) = other

-- the first token is the mark
unfoldable pub begins : Mark → List Token → Bool
begins m [] = false
begins m (t ∷ ts) = of_mark false (λ n. same_mark n m) t.kind

-- the first token is the keyword
unfoldable pub begins_key : Key → List Token → Bool
begins_key k [] = false
begins_key k (t ∷ ts) = of_key false (λ l. same_key l k) t.kind

unfoldable pub rest : List Token → List Token
rest [] = []
rest (t ∷ ts) = ts

unfoldable pub head_span : List Token → Span
head_span [] = record { start = 0; end = 0 }
head_span (t ∷ ts) = t.span

abbrev pub of_level : ℕ → Option Operator → Option Operator
of_level k None = None
of_level k (Some o) = if level_of o == k then Some o else None

-- the operator of a level that the first token is
unfoldable pub op_at : ℕ → List Token → Option Operator
op_at k [] = None
op_at k (t ∷ ts) = of_level k (of_mark None operator_of t.kind)

-- the assignment operator that it is
unfoldable pub assignment_at : List Token → Option (Option BinOp)
assignment_at [] = None
assignment_at (t ∷ ts) = of_mark None assignment_of t.kind

-- the operator before an operand that it is
unfoldable pub prefix_at : List Token → Option Prefix
prefix_at [] = None
prefix_at (t ∷ ts) = of_mark None prefix_of t.kind

abbrev pub tail_of : Mark → Option Tail
tail_of marks.OpenBracket = Some tails.Index
tail_of marks.Dot = Some tails.Member
tail_of marks.PlusPlus = Some (tails.Step steps.PostUp)
tail_of marks.MinusMinus = Some (tails.Step steps.PostDown)
tail_of _ = None

-- what it makes of a postfix expression before it
unfoldable pub tail_at : List Token → Option Tail
tail_at [] = None
tail_at (t ∷ ts) = of_mark None tail_of t.kind

-- a number type begins
abbrev pub is_number_key : Key → Bool
is_number_key keys.Char = true
is_number_key keys.Int = true
is_number_key keys.Unsigned = true
is_number_key _ = false

unfoldable pub begins_number : List Token → Bool
begins_number [] = false
begins_number (t ∷ ts) = of_key false is_number_key t.kind

-- the code's operators
abbrev pub operator_view : Joint → Operator
operator_view (joints.Binary o) = Plain o
operator_view joints.And = Both
operator_view joints.Or = Either

abbrev pub prefix_view : Sign → Prefix
prefix_view (signs.Unary o) = Signed o
prefix_view (signs.Step o) = Counted o
