use Rattle.std.proofs.Common.{◌∙◌, ap, sym, arith}
use Rattle.csub_objects.specs.Codes.{type_size, members_size}
use Rattle.csub_objects.specs.Meaning.{type_tree}
use Rattle.csub_objects.specs.Types.{struct_type, members_of}
use Rattle.csub_objects.proofs.LawsMembers.{member_falls}
use Rattle.csub_validity.specs.Valid.{AgreeOn}
use Rattle.csub_decisions.specs.Checks.{struct_tree}
use Rattle.csub_decisions.proofs.ValidTags.{InType-struct}
use Rattle.csub_decisions.proofs.tags.+agreeing.Goals as goal

pub agrees_among-agrees_in-requires : goal.agrees_among-agrees_in-requires
agrees_among-agrees_in-requires t c =
    let falls = member_falls c.args.items.now c.loop-item.item-index c.item-item.result c.loop-item-test.true in
    let same = ap (λ m. type_size (type_tree m.ctype)) c.item-item.is in
    (omega arith, tt)

pub agrees_in-agrees_among-requires : goal.agrees_in-agrees_among-requires
agrees_in-agrees_among-requires t c =
    let same = ap (λ ms. members_size (members_of ms)) c.items-others.ensures.items in
    let is = ap (λ x. type_size (type_tree x)) c.in-Struct.is in
    (omega arith, tt)

pub agrees_in-returns-then-agree : goal.agrees_in-returns-then-agree
agrees_in-returns-then-agree t c =
    let a = struct_tree c.args.tag.now c.args.members.now in
    let is = ap type_tree c.in-Struct.is ∙ ap (λ ms. struct_type c.in-Struct.name (members_of ms)) (sym c.items-others.ensures.items) in
    let split = InType-struct (AgreeOn a) (type_tree c.args.ctype.now) c.in-Struct.name c.items-others.result.now is in
    (λ h. split.1 (c.agree.ensures.0 c.if-agree.true, c.agrees_among.ensures.0 h), λ h. c.agrees_among.ensures.1 (split.0 h).1)

pub agrees_in-returns-else-agree : goal.agrees_in-returns-else-agree
agrees_in-returns-else-agree t c =
    let a = struct_tree c.args.tag.now c.args.members.now in
    let is = ap type_tree c.in-Struct.is ∙ ap (λ ms. struct_type c.in-Struct.name (members_of ms)) (sym c.items-others.ensures.items) in
    let split = InType-struct (AgreeOn a) (type_tree c.args.ctype.now) c.in-Struct.name c.items-others.result.now is in
    (λ h. cc, λ h. c.agree.ensures.1 (split.0 h).0)
