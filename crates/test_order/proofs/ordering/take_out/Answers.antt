use Rattle.std.proofs.Common.{◌==◌, not, rules}
use Rattle.std.proofs.lemmas.Fn.{filter_same}
use Rattle.test_order.proofs.ordering.take_out.Goals as goal

pub returns : goal.returns
returns c = filter_same _ (λ one. not (one == c.args.test)) _ (λ one b after k. search rules) _ _ c.retain.ensures.filtered
