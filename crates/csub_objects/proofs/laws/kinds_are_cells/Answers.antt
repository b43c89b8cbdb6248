use Rattle.csub_objects.proofs.LawsTypes.{length-kinds}
use Rattle.csub_objects.proofs.laws.kinds_are_cells.Goals as goal

pub returns : goal.returns
returns c = length-kinds
