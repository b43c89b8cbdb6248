use Rattle.test_order.proofs.DeterminedLemmas.{determined}
use Rattle.test_order.proofs.laws.order_is_determined.Goals as goal

pub returns : goal.returns
returns c = determined
