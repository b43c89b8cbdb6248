use Rattle.csub_objects.specs.Meaning.{type_tree}
use Rattle.csub_units.proofs.TypesAgree.{is_type_eq}
use Rattle.csub_units.proofs.heads.is_same.Goals as goal

pub returns : goal.returns
returns c = is_type_eq c.same_type.result (type_tree c.args.a.now) (type_tree c.args.b.now) c.same_type.ensures.equal
