use Rattle.std.proofs.Common.{IsTrue, ◌↔◌, sym, subst}
use Rattle.std.specs.Prelude.{IfSome, IfNone}
use Rattle.edge_trace.specs.Rows.{IsLeastCommon, NoneCommon}
use Rattle.carry_history.specs.Carried.{Stays}
use Rattle.carry_history.proofs.StayLemmas.{meets_none}
use Rattle.carry_history.proofs.staying.stays.Goals as goal

pub returns-in-Left : goal.returns-in-Left
returns-in-Left c images unsettled =
    let row = c.args.unsettled.now in
    let some = subst (λ crossed. IfSome c.meets.result (IsLeastCommon crossed row)) c.crossed.ensures c.meets.ensures.some in
    let none = subst (λ crossed. IfNone c.meets.result (NoneCommon crossed row)) c.crossed.ensures c.meets.ensures.none in
    subst (λ choice. IsTrue c.is_none.result ↔ Stays images c.args.entry.now choice) (sym c.in-Left.is)
    (meets_none images row unsettled c.args.entry.now c.requires c.meets.result c.is_none.result some none c.is_none.ensures)
