use Rattle.std.proofs.Common.{◌∙◌, ◌↔◌, IsTrue, refl, ap, sym, subst, arith}
use Rattle.csub_objects.specs.Codes.{type_size, members_size}
use Rattle.csub_objects.specs.Meaning.{type_tree}
use Rattle.csub_objects.specs.Types.{struct_type, members_of}
use Rattle.csub_objects.proofs.LawsMembers.{member_falls}
use Rattle.csub_decisions.specs.Checks.{tree_of, declared_structs, AllAgree}
use Rattle.csub_decisions.proofs.ValidTags.{AllAgree-number, AllAgree-element, AllAgree-struct}
use Rattle.csub_decisions.proofs.tags.+tags.Goals as goal

pub members_agree-type_agrees-requires : goal.members_agree-type_agrees-requires
members_agree-type_agrees-requires t c =
    let falls = member_falls c.args.members.now c.loop-member.member-index c.member-item.result c.loop-member-test.true in
    let same = ap (λ m. type_size (type_tree m.ctype)) c.member-item.is in
    (omega arith, tt)

pub type_agrees-members_agree-requires : goal.type_agrees-members_agree-requires
type_agrees-members_agree-requires t c =
    let same = ap (λ ms. members_size (members_of ms)) c.items-members.ensures.items in
    let is = ap (λ x. type_size (type_tree x)) c.in-Struct.is in
    (omega arith, tt)

pub type_agrees-returns-then-agrees_throughout : goal.type_agrees-returns-then-agrees_throughout
type_agrees-returns-then-agrees_throughout t c =
    let structs = declared_structs (tree_of c.args.program) in
    let is = ap type_tree c.in-Struct.is ∙ ap (λ ms. struct_type c.in-Struct.tag (members_of ms)) (sym c.items-members.ensures.items) in
    let split = AllAgree-struct structs (type_tree c.args.ctype.now) c.in-Struct.tag c.items-members.result.now is in
    (λ h. split.1 (c.agrees_throughout.ensures.0 c.if-agrees_throughout.true, c.members_agree.ensures.0 h), λ h. c.members_agree.ensures.1 (split.0 h).1)

pub type_agrees-returns-else-agrees_throughout : goal.type_agrees-returns-else-agrees_throughout
type_agrees-returns-else-agrees_throughout t c =
    let structs = declared_structs (tree_of c.args.program) in
    let is = ap type_tree c.in-Struct.is ∙ ap (λ ms. struct_type c.in-Struct.tag (members_of ms)) (sym c.items-members.ensures.items) in
    let split = AllAgree-struct structs (type_tree c.args.ctype.now) c.in-Struct.tag c.items-members.result.now is in
    (λ h. cc, λ h. c.agrees_throughout.ensures.1 (split.0 h).0)

pub type_agrees-returns-in-Num : goal.type_agrees-returns-in-Num
type_agrees-returns-in-Num t c =
    let structs = declared_structs (tree_of c.args.program) in
    (λ h. subst (AllAgree structs) (sym (ap type_tree c.in-Num.is)) (AllAgree-number structs c.in-Num.field-0), λ h. refl)

pub type_agrees-returns-in-Array : goal.type_agrees-returns-in-Array
type_agrees-returns-in-Array t c =
    let structs = declared_structs (tree_of c.args.program) in
    let same = AllAgree-element structs c.args.ctype.now c.in-Array.element c.in-Array.is in
    let inner = subst (λ x. IsTrue c.type_agrees.result ↔ AllAgree structs x) c.ctype.ensures c.type_agrees.ensures in
    (λ h. same.0 (inner.0 h), λ h. inner.1 (same.1 h))
