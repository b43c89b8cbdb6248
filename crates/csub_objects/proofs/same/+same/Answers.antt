use Rattle.std.proofs.Common.{arith, ◌<◌, ◌≡◌, ◌↔◌, ◌∙◌, length, map, IsTrue, ap, sym, subst}
use Rattle.std.proofs.lemmas.Slice.Eq.{bytes_eq-Decides}
use Rattle.csub_objects.specs.Codes.{type_size}
use Rattle.csub_objects.specs.Meaning.{type_tree, member_tree}
use Rattle.csub_objects.specs.Types.{struct_type, members_of}
use Rattle.csub_objects.proofs.LawsMembers.{member_falls, members_of-same}
use Rattle.csub_objects.proofs.ListLemmas.{map_at}
use Rattle.csub_objects.proofs.same.+same.Goals as goal

pub same_members-same_member-requires : goal.same_members-same_member-requires
same_members-same_member-requires t c =
    let falls = member_falls c.args.a.now c.loop-i.i c.index-a-i.result c.loop-i-test.true in
    let same = ap (λ m. type_size (type_tree m.ctype)) c.index-a-i.is in
    (omega arith, tt)

pub same_members-returns-then-not-same_member : goal.same_members-returns-then-not-same_member
same_members-returns-then-not-same_member t c =
    let below : c.loop-i.i < length c.args.b.now = omega arith in
    (λ h. absurd (cc), λ h. c.if-not-same_member.ensures.1 (map_at member_tree _ _ _ _ _ c.loop-i-test.true below h c.index-a-i.is c.index-b-i.is))

pub same_type-returns-then-eq : goal.same_type-returns-then-eq
same_type-returns-then-eq t c =
    let a : type_tree c.args.a.now ≡ struct_type c.in-Struct-Struct.tag (members_of c.in-Struct-Struct.members) = ap type_tree c.in-Struct-Struct.is-0 in
    let b : type_tree c.args.b.now ≡ struct_type c.in-Struct-Struct.name (members_of c.in-Struct-Struct.others) = ap type_tree c.in-Struct-Struct.is-1 in
    let tags : c.in-Struct-Struct.tag ≡ c.in-Struct-Struct.name =
    (bytes_eq-Decides c.in-Struct-Struct.tag c.in-Struct-Struct.name).0 (sym c.eq-in-Struct-Struct.ensures ∙ c.if-eq.true) in
    let lists : IsTrue c.same_members.result ↔ (c.in-Struct-Struct.members ≡ c.in-Struct-Struct.others) =
    subst (λ xs. IsTrue c.same_members.result ↔ (xs ≡ c.in-Struct-Struct.others)) c.items.ensures.items
    (subst (λ ys. IsTrue c.same_members.result ↔ (map member_tree c.items.result.now ≡ ys)) c.items-then-eq.ensures.items c.same_members.ensures) in
    record {
      equal = (
        λ h. a ∙ ap (λ x. struct_type x (members_of c.in-Struct-Struct.members)) tags ∙ ap (λ ms. struct_type c.in-Struct-Struct.name (members_of ms)) (lists.0 h) ∙ sym b,
        λ h. lists.1 (members_of-same c.in-Struct-Struct.members c.in-Struct-Struct.others (let k = sym a ∙ h ∙ b in cc)),
      );
    }
