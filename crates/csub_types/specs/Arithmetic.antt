-- What the operators of C11 6.5.3.3 and 6.5.5 to 6.5.12 give: the exact whole number, which is then kept, wrapped or
-- trapped, or what a comparison says. The operands have been converted to the kind, by `promote`, `common` and `convert`.
use Rattle.std.specs.Prelude.{ℕ, ℤ, pos, negsuc, ◌+ℤ◌, ◌-ℤ◌, ◌*ℤ◌, neg_ℤ, not, Result, Ok, bit_and, bit_or, bit_xor}
use Rattle.std.specs.Int.RustNames.{int_lt, int_le}
use Rattle.std.specs.Ordering.{int_eq}
use Rattle.csub_text.specs.declared.operator.UnaryOp.{UnaryOp}
use Rattle.csub_text.specs.declared.operator.UnaryOp.TheVariants.{Plus, Minus, Not, Flip}
use Rattle.csub_text.specs.declared.operator.BinOp.{BinOp}
use Rattle.csub_text.specs.declared.operator.BinOp.TheVariants.{Mul, Div, Rem, Add, Sub, Shl, Shr, Lt, Gt, Le, Ge, Eq, Ne, BitAnd, BitXor, BitOr}
use Rattle.csub_types.specs.declared.kind.IntKind.{IntKind}
use Rattle.csub_types.specs.declared.kind.IntKind.TheVariants.{Int}
use Rattle.csub_types.specs.declared.trap.Trap.{Trap}
use Rattle.csub_types.specs.Kinds.{IsOf, promote, common, convert, low_bits}
use Rattle.csub_types.specs.Settled.{settled, truth}
use Rattle.csub_types.specs.Division.{quotient, remainder}
use Rattle.csub_types.specs.Shifts.{shifted_left, shifted_right}

-- `+`, `-`, `!` and `~` (6.5.3.3). In two's complement the number with all bits turned is -1 - a.
abbrev pub unary : UnaryOp → IntKind → ℤ → Result ℤ Trap
unary Plus k a = Ok a
unary Minus k a = settled k (neg_ℤ a)
unary Not k a = Ok (truth (int_eq a (pos 0)))
unary Flip k a = Ok (convert k (negsuc 0 -ℤ a))

-- An operation on each of the low 32 bits (6.5.10 to 6.5.12).
-- 6.5p4 leaves the bits of negative numbers to the implementation: here they are those of the two's complement.
abbrev pub bitwise : (ℕ → ℕ → ℕ) → IntKind → ℤ → ℤ → Result ℤ Trap
bitwise f k a b = Ok (convert k (pos (f (low_bits Int a) (low_bits Int b))))

-- 6.5.5 to 6.5.12, from the tightest level to the loosest.
abbrev pub binary : BinOp → IntKind → ℤ → ℤ → Result ℤ Trap
binary Mul k a b = settled k (a *ℤ b)
binary Div k a b = quotient k a b
binary Rem k a b = remainder k a b
binary Add k a b = settled k (a +ℤ b)
binary Sub k a b = settled k (a -ℤ b)
binary Shl k a b = shifted_left k a b
binary Shr k a b = shifted_right a b
binary Lt k a b = Ok (truth (int_lt a b))
binary Gt k a b = Ok (truth (int_lt b a))
binary Le k a b = Ok (truth (int_le a b))
binary Ge k a b = Ok (truth (int_le b a))
binary Eq k a b = Ok (truth (int_eq a b))
binary Ne k a b = Ok (truth (not (int_eq a b)))
binary BitAnd k a b = bitwise bit_and k a b
binary BitXor k a b = bitwise bit_xor k a b
binary BitOr k a b = bitwise bit_or k a b

-- A right operand: a number of the kind, and for a shift any number, since its count is tested.
abbrev pub IsRightOperand : BinOp → IntKind → ℤ → Type 0
IsRightOperand Shl k b = Unit {0}
IsRightOperand Shr k b = Unit {0}
IsRightOperand op k b = IsOf k b

-- The kind in which an operation is computed: shifts promote the left operand alone (6.5.7p3), the others convert both to
-- their common kind (6.3.1.8p1).
abbrev pub operation_kind : BinOp → IntKind → IntKind → IntKind
operation_kind Shl j k = promote j
operation_kind Shr j k = promote j
operation_kind op j k = common j k

-- A right operand in that kind; the count of a shift keeps its own.
abbrev pub right_operand : BinOp → IntKind → ℤ → ℤ
right_operand Shl k b = b
right_operand Shr k b = b
right_operand op k b = convert k b

-- The kind of a result: that of the operands, but `int` for a comparison (6.5.8p6 and 6.5.9p3) and for `!` (6.5.3.3p5).
abbrev pub binary_kind : BinOp → IntKind → IntKind
binary_kind Lt k = Int
binary_kind Gt k = Int
binary_kind Le k = Int
binary_kind Ge k = Int
binary_kind Eq k = Int
binary_kind Ne k = Int
binary_kind op k = k

abbrev pub unary_kind : UnaryOp → IntKind → IntKind
unary_kind Not k = Int
unary_kind op k = k
