use Rattle.std.proofs.Common.{map, arith, ap, sym, subst, option_map}
use Rattle.std.specs.List.{repeat}
use Rattle.csub_objects.specs.Codes.{type_size}
use Rattle.csub_objects.specs.Meaning.{type_tree, member_tree}
use Rattle.csub_objects.specs.Types.{kinds, member_kinds, members_of}
use Rattle.csub_objects.proofs.LawsMembers.{member_falls}
use Rattle.csub_decisions.specs.Checks.{AreBehind}
use Rattle.csub_decisions.proofs.ValidContents.{next_element, no_element, next_member, no_member_there}
use Rattle.csub_decisions.proofs.contents.+contents.Goals as goal

pub behind_elements-returns-in_err-rest : goal.behind_elements-returns-in_err-rest
behind_elements-returns-in_err-rest t c =
    let all = repeat c.args.length (kinds (type_tree c.args.element.now)) in
    subst (λ o. AreBehind all c.args.numbers.now (option_map (λ r. r.now) o)) (sym c.from_residual.ensures)
    (no_element c.args.length c.loop.counter (kinds (type_tree c.args.element.now)) all
    c.args.numbers.now c.loop.rest.now c.loop-test.true c.in_err-rest.ensures c.loop.invariant)

pub behind_elements-loop-preserved : goal.behind_elements-loop-preserved
behind_elements-loop-preserved t c =
    next_element c.args.length c.loop.counter (kinds (type_tree c.args.element.now)) (repeat c.args.length (kinds (type_tree c.args.element.now)))
    c.args.numbers.now c.loop.rest.now c.in_ok-rest.rest.now c.loop-test.true c.in_ok-rest.ensures c.loop.invariant

pub behind_members-behind_object-requires : goal.behind_members-behind_object-requires
behind_members-behind_object-requires t c =
    let falls = member_falls c.args.members.now c.loop-member.member-index c.member-item.result c.loop-member-test.true in
    let same = ap (λ m. type_size (type_tree m.ctype)) c.member-item.is in
    (omega arith, tt)

pub behind_members-returns-in_err-rest : goal.behind_members-returns-in_err-rest
behind_members-returns-in_err-rest t c =
    let all = member_kinds (members_of (map member_tree c.args.members.now)) in
    subst (λ o. AreBehind all c.args.numbers.now (option_map (λ r. r.now) o)) (sym c.from_residual.ensures)
    (no_member_there c.args.members.now c.loop-member.member-index c.member-item.result all
    c.args.numbers.now c.loop-member.rest.now c.loop-member-test.true c.member-item.is c.in_err-rest.ensures c.loop-member.invariant)

pub behind_members-loop-member-preserved : goal.behind_members-loop-member-preserved
behind_members-loop-member-preserved t c =
    next_member c.args.members.now c.loop-member.member-index c.member-item.result (member_kinds (members_of (map member_tree c.args.members.now)))
    c.args.numbers.now c.loop-member.rest.now c.in_ok-rest.rest.now c.loop-member-test.true c.member-item.is c.in_ok-rest.ensures c.loop-member.invariant
