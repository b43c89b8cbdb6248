use Rattle.csub_objects.specs.Meaning.{type_tree}
use Rattle.csub_declare.proofs.Truths.{is_limits}
use Rattle.csub_declare.proofs.slot.fits.Goals as goal

pub returns : goal.returns
returns c = is_limits c.is_sized.result (type_tree c.args.ctype.now) c.is_sized.ensures
