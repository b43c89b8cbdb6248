use Rattle.std.proofs.Common.{◌<◌, length, ap, rules, arith}
use Rattle.cert_text.proofs.WholeLemmas.{no_end, more_after}
use Rattle.cert_text.proofs.reader.read_end.Goals as goal

pub returns-in_default-clause-refusal : goal.returns-in_default-clause-refusal
returns-in_default-clause-refusal c = λ text edges pairs says at read. no_end c.args.bounds text c.args.text.now edges pairs c.args.lines says at read c.in_default.ensures

pub returns-else-is_empty-clause-refusal : goal.returns-else-is_empty-clause-refusal
returns-else-is_empty-clause-refusal c = λ text edges pairs says at read.
    let some : 0 < length c.in-Some.end.rest.now = search rules in
    more_after c.args.bounds text c.args.text.now c.in-Some.end.rest.now c.in-Some.end.digest edges pairs c.args.lines c.requires.edges says at read c.in-Some.ensures.1 c.in-Some.ensures.0 (λ none. omega (arith, some, ap length none))
