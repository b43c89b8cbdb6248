use Rattle.std.proofs.Common.{[], option_map, subst}
use Rattle.csub_objects.specs.Meaning.{type_tree}
use Rattle.csub_objects.specs.Types.{kinds}
use Rattle.csub_decisions.specs.Checks.{AreBehind}
use Rattle.csub_decisions.proofs.ValidContents.{none_left, BeginWith-all}
use Rattle.csub_decisions.proofs.contents.are_contents.Goals as goal

pub returns-in-Some : goal.returns-in-Some
returns-in-Some c =
    let some = subst (λ o. AreBehind (kinds (type_tree c.args.ctype.now)) c.args.numbers.now (option_map (λ r. r.now) o)) c.in-Some.is c.behind_object.ensures in
    none_left (kinds (type_tree c.args.ctype.now)) c.args.numbers.now c.in-Some.rest.now c.is_empty.result c.is_empty.ensures some

pub returns-in-None : goal.returns-in-None
returns-in-None c =
    let none = subst (λ o. AreBehind (kinds (type_tree c.args.ctype.now)) c.args.numbers.now (option_map (λ r. r.now) o)) c.in-None.is c.behind_object.ensures in
    (λ h. cc, λ h. absurd (none [] ((BeginWith-all (kinds (type_tree c.args.ctype.now)) c.args.numbers.now).1 h)))
