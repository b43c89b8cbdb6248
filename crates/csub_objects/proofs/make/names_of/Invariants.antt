use Rattle.std.proofs.Common.{◌≡◌, ◌≢◌, AllPairs, map, take}
use Rattle.csub_objects.specs.Types.{Name}
use Rattle.csub_objects.proofs.make.names_of.Given as goal

abbrev pub invariant-loop-member : goal.invariant-loop-member
invariant-loop-member l =
    (l.names ≡ map (λ m. m.name) (take l.member-index l.members)) × AllPairs (λ (a b : Name). a ≢ b) l.names
