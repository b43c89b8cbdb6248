-- The pairs of a walk.
use Rattle.std.specs.Prelude.{◌↔◌, ℕ, List}
use Rattle.dual_walk.specs.declared.fact.Fact.{Fact}
use Rattle.dual_walk.specs.Held as held
use Rattle.cert_text.specs.declared.pair.Pair.{Pair}
use Rattle.cert_text.specs.Certificates.{Rise}
use Rattle.walk_cert.specs.Pairs.{HasPair}

-- both numbers of a fact
abbrev pub tuple_of : Fact → ℕ × ℕ
tuple_of c = (c.old, c.new)

-- the pairs of the facts, each once, in rising order
pub record IsOfWalk (facts : List Fact) (pairs : List Pair) : Type 0 where
  pub rise : Rise pairs
  pub each : (n n' : ℕ) → HasPair pairs n n' ↔ held.HasPair facts n n'
