use Rattle.csub_objects.proofs.LawsParts.{members_lie, elements_lie}
use Rattle.csub_objects.proofs.laws.parts_lie_inside.Goals as goal

pub returns-clause-members : goal.returns-clause-members
returns-clause-members c = members_lie

pub returns-clause-elements : goal.returns-clause-elements
returns-clause-elements c = elements_lie
