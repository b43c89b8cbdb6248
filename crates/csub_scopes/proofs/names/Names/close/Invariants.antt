use Rattle.std.proofs.Common.{◌≡◌, ◌-◌, length, drop}
use Rattle.csub_scopes.proofs.names.Names.close.Given as goal

abbrev pub invariant-loop-self : goal.invariant-loop-self
invariant-loop-self l = drop (length l.self - l.mark) l.self ≡ drop (length l.fn.self - l.mark) l.fn.self

abbrev pub decreases-loop-self : goal.decreases-loop-self
decreases-loop-self l = length l.self
