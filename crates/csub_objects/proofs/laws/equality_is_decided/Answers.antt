use Rattle.csub_objects.proofs.LawsTypes.{type_eq-Decides}
use Rattle.csub_objects.proofs.laws.equality_is_decided.Goals as goal

pub returns : goal.returns
returns c = type_eq-Decides
