-- What a run holds, and what a memory offers to evaluation.
use Rattle.std.specs.Prelude.{ℕ, ◌++◌, ◌∷◌, ℤ, pos, negsuc, List, [], length, Option, Some, None, Result, Ok, Err, nat_lt}
use Rattle.std.specs.Prelude.{unsigned_abs, if◌then◌else◌}
use Rattle.std.specs.Int.{int_rem_euclid}
use Rattle.csub_types.specs.declared.kind.IntKind.{IntKind}
use Rattle.csub_types.specs.declared.trap.Trap.{Trap}
use Rattle.csub_types.specs.declared.trap.Trap.TheVariants.{Unset, Flood}

-- the input that is left, what was written, and the cells
pub record State (C : Type 0) : Type 0 where
  pub input : List ℕ
  pub output : List ℕ
  pub cells : C

-- a value or a trap, with the state that is left: what was written and stored before a trap stays
pub data Answer (X S : Type 0) : Type 0 where
  value : X → S → Answer X S
  trapped : Trap → S → Answer X S

-- goes on with a value; a trap ends the act where it arises
abbrev pub then_do : {X Y S : Type 0} → Answer X S → (X → S → Answer Y S) → Answer Y S
then_do (value v s) go = go v s
then_do (trapped t s) go = trapped t s

-- an operator's result
abbrev pub given : {S : Type 0} → Result ℤ Trap → S → Answer ℤ S
given (Ok v) s = value v s
given (Err t) s = trapped t s

-- what is found, or the trap `unset`
abbrev pub found : {X S : Type 0} → Option X → S → Answer X S
found (Some v) s = value v s
found None s = trapped Unset s

-- a memory, with variables V, index nodes I, member nodes M, locations L and cells C: where a variable stands, an
-- element and a member of a location, the length there, the kind of number there, and reading and writing
pub record Memory (V I M L C : Type 0) : Type 0 where
  pub stand : V → C → Option L
  pub element : I → L → ℕ → L
  pub member : M → L → L
  pub bound : L → ℕ
  pub kind : L → IntKind
  pub read : L → C → Option ℤ
  pub write : L → ℤ → C → C

-- `getchar()` gives the next byte of the input, or -1 at its end (C11 7.21.7.6)
abbrev pub get_byte : {C : Type 0} → State C → List ℕ → Answer ℤ (State C)
get_byte s [] = value (negsuc 0) s
get_byte s (b ∷ rest) = value (pos b) (record s { input = rest })

-- how many bytes a run may write
abbrev pub most_output : ℕ
most_output = 16384

-- one more byte of output, or the trap `flood`
abbrev pub put_byte : {C : Type 0} → ℕ → State C → Answer (Unit {0}) (State C)
put_byte b s =
    if nat_lt (length s.output) most_output then value tt (record s { output = s.output ++ b ∷ [] }) else trapped Flood s

-- bytes of output, one after the other
abbrev pub put_bytes : {C : Type 0} → List ℕ → State C → Answer (Unit {0}) (State C)
put_bytes [] s = value tt s
put_bytes (b ∷ bs) s = then_do (put_byte b s) (λ x t. put_bytes bs t)

-- the low 8 bits of a number, as an unsigned byte
abbrev pub low_byte : ℤ → ℕ
low_byte v = unsigned_abs (int_rem_euclid v (pos 256))
