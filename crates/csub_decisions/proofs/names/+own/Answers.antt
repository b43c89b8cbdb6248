use Rattle.std.proofs.Common.{◌∙◌, ap, sym, subst, arith}
use Rattle.csub_objects.specs.Codes.{type_size, members_size}
use Rattle.csub_objects.specs.Meaning.{type_tree}
use Rattle.csub_objects.specs.Types.{struct_type, members_of, HaveDifferentNames}
use Rattle.csub_objects.proofs.LawsMembers.{member_falls}
use Rattle.csub_decisions.proofs.ValidNames.{struct_own}
use Rattle.csub_decisions.proofs.names.+own.Goals as goal

pub members_are_own-type_is_own-requires : goal.members_are_own-type_is_own-requires
members_are_own-type_is_own-requires t c =
    let falls = member_falls c.args.members.now c.loop-member.member-index c.member-item.result c.loop-member-test.true in
    let same = ap (λ m. type_size (type_tree m.ctype)) c.member-item.is in
    (omega arith, tt)

pub type_is_own-members_are_own-requires : goal.type_is_own-members_are_own-requires
type_is_own-members_are_own-requires t c =
    let same = ap (λ ms. members_size (members_of ms)) c.items.ensures.items in
    let is = ap (λ x. type_size (type_tree x)) c.in-Struct.is in
    (omega arith, tt)

pub type_is_own-returns-in-Struct : goal.type_is_own-returns-in-Struct
type_is_own-returns-in-Struct t c =
    let is = ap type_tree c.in-Struct.is ∙ ap (λ ms. struct_type c.in-Struct.field-0 (members_of ms)) (sym c.items.ensures.items) in
    let different = subst HaveDifferentNames (sym c.items.ensures.items) c.items.ensures.names in
    struct_own (type_tree c.args.ctype.now) c.in-Struct.field-0 c.items.result.now is different c.members_are_own.ensures
