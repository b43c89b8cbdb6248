use Rattle.std.proofs.Common.{◌<◌, rules}
use Rattle.test_order.specs.Counts.{counted}
use Rattle.test_order.proofs.FirstLemmas.{first_of_test_chunks}
use Rattle.test_order.proofs.counting.next_place.Goals as goal

pub returns : goal.returns
returns g c =
    let some : 0 < c.div_ceil-size.result = search rules in
    first_of_test_chunks (counted c.args.entries.now c.args.covered.now) c.args.waiting.now c.div_ceil-size.result _ c.in_ok-parts.parts.items c.deref.result.now c.first_of_places.result
    some c.deref.ensures.value c.deref.ensures.len c.in_ok-parts.ensures.len
    (λ n d below. let part = (c.in_ok-parts.ensures.each n d below).1 in (part.argument.now, part.argument_is.value, part.call))
    c.first_of_places.ensures
