use Rattle.std.proofs.Common.{take}
use Rattle.std.specs.List.{AllZip}
use Rattle.test_select.specs.Selection.{Chooses}
use Rattle.test_select.proofs.choosing.choose_each.Given as goal

abbrev pub invariant-loop-entry : goal.invariant-loop-entry
invariant-loop-entry l = AllZip (λ entry choice. Chooses entry.crossed l.danger choice) (take l.entry-index l.entries) l.choices.items
