-- Labels of points.
use Rattle.csub_semantics.specs.Labels.{PointLabel}
use Rattle.program_laws.specs.Decided.{Decided}
use Rattle.program_laws.proofs.Decided.{labels}

-- two labels are equal or not
pub labels_decided : (a b : PointLabel) → Decided a b
labels_decided a b = labels a b
