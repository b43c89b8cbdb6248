use Rattle.csub_rules.proofs.LawsSizes.{is_sized-Decides}
use Rattle.csub_rules.proofs.laws.sizes.Goals as goal

pub returns : goal.returns
returns c = is_sized-Decides
