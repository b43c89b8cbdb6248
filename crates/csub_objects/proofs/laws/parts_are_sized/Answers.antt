use Rattle.csub_objects.proofs.LawsParts.{parts_sized}
use Rattle.csub_objects.proofs.laws.parts_are_sized.Goals as goal

pub returns : goal.returns
returns c = parts_sized
