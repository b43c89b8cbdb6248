-- Pairs of numbers in a list.
use Rattle.std.specs.Prelude.{◌≡◌, ℕ, List, Some, slice_get}
use Rattle.cert_text.specs.declared.pair.Pair.{Pair}

-- the pair of numbers stands in the list
pub record HasPair (pairs : List Pair) (old new : ℕ) : Type 0 where
  pub place : ℕ
  pub pair : Pair
  pub stands : slice_get pairs place ≡ Some pair
  pub old_is : pair.old ≡ old
  pub new_is : pair.new ≡ new
