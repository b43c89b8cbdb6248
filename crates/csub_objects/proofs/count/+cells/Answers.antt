use Rattle.std.proofs.Common.{◌*◌, subst}
use Rattle.csub_objects.specs.Types.{cells, IsCapped}
use Rattle.csub_objects.proofs.Capped.{capped-times}
use Rattle.csub_objects.proofs.count.+cells.Goals as goal

pub returns-in-Array : goal.returns-in-Array
returns-in-Array t c =
    rw c.in-Array.is (capped-times c.cells.result (cells c.in-Array.element) c.in-Array.length c.cap.result
    (subst (λ x. IsCapped c.cells.result (cells x)) c.ctype.ensures c.cells.ensures)
    (subst (λ x. IsCapped c.cap.result (c.cells.result * x)) c.from.ensures c.cap.ensures))
