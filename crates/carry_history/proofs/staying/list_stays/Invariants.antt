use Rattle.std.proofs.Common.{◌↔◌, IsTrue, take}
use Rattle.std.specs.List.{AllZip, zip}
use Rattle.carry_history.specs.Carried.{Stays}
use Rattle.carry_history.proofs.staying.list_stays.Given as goal

abbrev pub invariant-loop-place : goal.invariant-loop-place
invariant-loop-place l = AllZip (λ both stay. IsTrue stay ↔ Stays l.images both.0 both.1) (take l.place (zip l.entries l.choices)) l.flags.items
