-- Equality that is decided.
use Rattle.std.specs.Prelude.{◌≡◌, ◌≢◌, ◌⊎◌}

-- two values are equal or not
abbrev pub Decided : {X : Type 0} → X → X → Type 0
Decided a b = (a ≡ b) ⊎ (a ≢ b)
