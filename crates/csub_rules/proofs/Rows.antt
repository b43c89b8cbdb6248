-- Closed facts of kinds, constants and formats.
use Rattle.std.specs.Prelude.{◌≡◌, pos, negsuc, [], ◌∷◌, Some, None, codes, refl}
use Rattle.csub_text.specs.declared.operator.UnaryOp.TheVariants.{Not, Flip}
use Rattle.csub_text.specs.declared.operator.BinOp.TheVariants.{Mul, Div, Rem, Add, Sub, Shl, Shr, Lt, BitOr}
use Rattle.csub_types.specs.declared.kind.IntKind.TheVariants as kinds
use Rattle.csub_tree.specs.declared.name.TypeName.TheVariants as names
use Rattle.csub_tree.specs.Expressions.{Unary, Cast, Binary, And, Or}
use Rattle.csub_tree.specs.Expressions.{Choose, Call, Index, NoExprs, MoreExprs}
use Rattle.csub_objects.specs.Types.{number_type}
use Rattle.csub_rules.specs.Sorts.{a_place, a_value, a_void}
use Rattle.csub_rules.specs.Formats.{conversions}
use Rattle.csub_rules.specs.ExprSorts.{sort_of}
use Rattle.csub_rules.specs.Constants.{constant}
use Rattle.csub_rules.proofs.RowTerms.{named, e, num, unsigned, less, name, here}

-- kinds of results
char_char : sort_of here (e (Binary Add (e (Cast names.Char (num 1))) (e (Cast names.Char (num 1))))) ≡ a_value kinds.Int
char_char = refl

int_unsigned : sort_of here (e (Binary Mul (num 1) (unsigned 1))) ≡ a_value kinds.Unsigned
int_unsigned = refl

unsigned_char : sort_of here (e (Binary BitOr (unsigned 1) (e (Cast names.Char (num 1))))) ≡ a_value kinds.Unsigned
unsigned_char = refl

shift_of_int : sort_of here (e (Binary Shl (num 1) (unsigned 1))) ≡ a_value kinds.Int
shift_of_int = refl

comparison : sort_of here (e (Binary Lt (num 1) (unsigned 1))) ≡ a_value kinds.Int
comparison = refl

large : sort_of here (num 2147483648) ≡ a_value kinds.Unsigned
large = refl

flipped_char : sort_of here (e (Unary Flip (e (Cast names.Char (num 1))))) ≡ a_value kinds.Int
flipped_char = refl

not_unsigned : sort_of here (e (Unary Not (unsigned 1))) ≡ a_value kinds.Int
not_unsigned = refl

chosen : sort_of here (e (Choose (num 1) (num 2) (unsigned 3))) ≡ a_value kinds.Unsigned
chosen = refl

element : sort_of here (e (Index (name (codes "c")) (num 1))) ≡ a_place (number_type kinds.Char)
element = refl

called : sort_of here (e (Call (named (codes "f") 0) (MoreExprs (num 1) NoExprs))) ≡ a_value kinds.Int
called = refl

called_void : sort_of here (e (Call (named (codes "g") 0) NoExprs)) ≡ a_void
called_void = refl

-- constants
quotient : constant here (e (Binary Div (less 7) (num 2))) ≡ Some (negsuc 2)
quotient = refl

remainder : constant here (e (Binary Rem (less 7) (num 2))) ≡ Some (negsuc 0)
remainder = refl

wrapped : constant here (e (Binary Sub (unsigned 1) (unsigned 2))) ≡ Some (pos 4294967295)
wrapped = refl

compared : constant here (e (Binary Lt (less 1) (unsigned 1))) ≡ Some (pos 0)
compared = refl

cast : constant here (e (Cast names.Char (num 200))) ≡ Some (negsuc 55)
cast = refl

shifted : constant here (e (Binary Shr (less 1) (num 1))) ≡ Some (negsuc 0)
shifted = refl

shifted_out : constant here (e (Binary Shl (num 1) (num 31))) ≡ None
shifted_out = refl

shifted_unsigned : constant here (e (Binary Shl (unsigned 1) (num 31))) ≡ Some (pos 2147483648)
shifted_unsigned = refl

overflow : constant here (e (Binary Div (e (Binary Sub (less 2147483647) (num 1))) (less 1))) ≡ None
overflow = refl

by_zero : constant here (e (Binary Div (num 7) (num 0))) ≡ None
by_zero = refl

not_needed : constant here (e (And (num 0) (e (Binary Div (num 1) (num 0))))) ≡ Some (pos 0)
not_needed = refl

needed : constant here (e (And (num 1) (e (Binary Div (num 1) (num 0))))) ≡ None
needed = refl

an_object : constant here (e (Or (num 1) (name (codes "x")))) ≡ None
an_object = refl

enumerated : constant here (e (Binary Add (name (codes "A")) (name (codes "EOF")))) ≡ Some (pos 4)
enumerated = refl

-- formats
asks_two : conversions (codes "%d%% %u") ≡ Some 2
asks_two = refl

cut : conversions (37 ∷ 99 ∷ 0 ∷ 37 ∷ []) ≡ Some 1
cut = refl

at_the_end : conversions (codes "a%") ≡ None
at_the_end = refl

other : conversions (codes "%x") ≡ None
other = refl
