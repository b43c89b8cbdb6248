-- Strings, and what `printf` asks of its first argument (C11 7.21.6.1).
use Rattle.std.specs.Prelude.{ℕ, suc, List, [], ◌∷◌, Bool, false, Option}
use Rattle.std.specs.Prelude.{Some, None, option_map, is_some, ◌||◌, ◌==◌, nat_eq, if◌then◌else◌}
use Rattle.csub_text.specs.declared.span.Span.{Span}
use Rattle.csub_tree.specs.Expressions.{Expr, Kind, Exprs, Node, Text, Paren, NoExprs, MoreExprs}

-- a string with its place
pub record Literal : Type 0 where
  pub bytes : List ℕ
  pub span : Span

-- the string that an expression is, in parentheses or not
abbrev mutual
  pub literal_of : Expr → Option Literal
  literal_of (Node k s) = kind_literal k s

  pub kind_literal : Kind → Span → Option Literal
  kind_literal (Text t) s = Some (record { bytes = t; span = s })
  kind_literal (Paren e) s = literal_of e
  kind_literal k s = None

abbrev pub is_literal : Expr → Bool
is_literal e = is_some (literal_of e)

-- `d`, `u` or `c`
abbrev pub is_conversion : ℕ → Bool
is_conversion b = b == 100 || b == 117 || b == 99

-- How many arguments a format asks for: one for each `%d`, `%u` and `%c`, and none for `%%`. It ends before its first byte 0
-- (C11 7.1.1p1). None where it has another conversion, which a `%` at its end is too.
abbrev mutual
  pub conversions : List ℕ → Option ℕ
  conversions [] = Some 0
  conversions (b ∷ rest) = if b == 0 then Some 0 else (if b == 37 then conversion rest else conversions rest)

  pub conversion : List ℕ → Option ℕ
  conversion [] = None
  conversion (b ∷ rest) = if is_conversion b then option_map suc (conversions rest) else (if b == 37 then conversions rest else None)

abbrev pub count : Exprs → ℕ
count NoExprs = 0
count (MoreExprs e rest) = suc (count rest)

abbrev pub is_count : ℕ → Option ℕ → Bool
is_count n None = false
is_count n (Some m) = nat_eq m n

-- a string is a format that asks for the arguments behind it
abbrev pub asks_for : Literal → Exprs → Bool
asks_for l rest = is_count (count rest) (conversions l.bytes)

abbrev pub is_format : Option Literal → Exprs → Bool
is_format None rest = false
is_format (Some l) rest = asks_for l rest
