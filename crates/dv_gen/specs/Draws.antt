-- The generator of numbers: a state below 65,537 that begins as the seed.
use Rattle.std.specs.Prelude.{ℕ, zero, suc, ◌+◌, ◌*◌, ◌%◌}

-- the next state of the generator
abbrev pub next_state : ℕ → ℕ
next_state x = (75 * x + 74) % 65537

-- the state after so many draws
abbrev pub state_after : ℕ → ℕ → ℕ
state_after seed zero = seed
state_after seed (suc draws) = next_state (state_after seed draws)

-- what draw i, counted from 0, gives of m
abbrev pub drawn : ℕ → ℕ → ℕ → ℕ
drawn seed i m = state_after seed (i + 1) % m
