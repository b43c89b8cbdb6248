use Rattle.std.proofs.Common.{◌<◌, length, ap, refl, rules, arith}
use Rattle.test_history.proofs.WholeLemmas.{no_end, more_after}
use Rattle.test_history.proofs.reader.read_end.Goals as goal

pub returns-in_default-clause-fault : goal.returns-in_default-clause-fault
returns-in_default-clause-fault c = λ version text tests says read. no_end version text c.args.text.now tests _ says refl read c.in_default.ensures

pub returns-else-is_empty-clause-fault : goal.returns-else-is_empty-clause-fault
returns-else-is_empty-clause-fault c = λ version text tests says read.
    let some : 0 < length c.in-Some.end.rest.now = search rules in
    more_after version text c.args.text.now c.in-Some.end.rest.now c.in-Some.end.digest tests _ says refl read c.in-Some.ensures.1 c.in-Some.ensures.0 (λ none. omega (arith, some, ap length none))
