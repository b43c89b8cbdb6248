-- Results with a trap as its number.
use Rattle.std.specs.Prelude.{ℕ, zero, suc, Result, Ok, Err}
use Rattle.csub_types.specs.declared.trap.Trap.{Trap}
use Rattle.csub_types.specs.declared.trap.Trap.TheVariants.{Overflow, Divide, Shift, Bounds, Unset, Flood, Depth, Missing}

-- the trap with a number
abbrev pub trap_numbered : ℕ → Trap
trap_numbered zero = Overflow
trap_numbered (suc zero) = Divide
trap_numbered (suc (suc zero)) = Shift
trap_numbered (suc (suc (suc zero))) = Bounds
trap_numbered (suc (suc (suc (suc zero)))) = Unset
trap_numbered (suc (suc (suc (suc (suc zero))))) = Flood
trap_numbered (suc (suc (suc (suc (suc (suc zero)))))) = Depth
trap_numbered (suc (suc (suc (suc (suc (suc (suc n))))))) = Missing

-- the result that one stands for
abbrev pub narrowed : {X : Type 0} → Result X ℕ → Result X Trap
narrowed (Ok v) = Ok v
narrowed (Err n) = Err (trap_numbered n)
