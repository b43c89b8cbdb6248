use Rattle.std.proofs.Common.{◌≡◌, map, take}
use Rattle.walk_cert.specs.Made.{tuple_of}
use Rattle.walk_cert.proofs.make.list_numbers.Given as goal

abbrev pub invariant-loop-fact : goal.invariant-loop-fact
invariant-loop-fact l = l.numbers.items ≡ map tuple_of (take l.fact-index l.facts)
