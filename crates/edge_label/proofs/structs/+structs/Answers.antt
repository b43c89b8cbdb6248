use Rattle.std.proofs.Common.{◌≡◌, ◌∙◌, IsTrue, map, drop, refl, sym, ap, ap₂, subst, arith}
use Rattle.std.proofs.lemmas.List.{drop_all}
use Rattle.std.proofs.lemmas.Result.{IfOk-weaker, on_ok_weaker}
use Rattle.csub_objects.specs.Codes.{type_size}
use Rattle.csub_objects.specs.Meaning.{type_tree, member_tree}
use Rattle.csub_objects.specs.Types.{array_type, struct_type, loose_type, members_of}
use Rattle.csub_objects.proofs.LawsMembers.{member_falls}
use Rattle.edge_label.specs.Uses.{IsTagged}
use Rattle.edge_label.proofs.StructLemmas.{first_none, number_appended, array_appended, loose_appended, struct_appended, struct_numbered, structs_numbered, structs_same, known_struct, tag_put, first_more, first_all, left_more, tagged_at}
use Rattle.edge_label.proofs.TableLemmas.{Extends-refl, Extends-added, Extends-trans}
use Rattle.edge_label.proofs.structs.+structs.Goals as goal

pub push_short-returns-in-Num-clause-short : goal.push_short-returns-in-Num-clause-short
push_short-returns-in-Num-clause-short t c =
    on_ok_weaker c.push_number.result
    (λ last by_tag tagged structs. number_appended c.args.structs.now (type_tree c.args.ctype.now) c.args.out.now.items c.args.out.now.items c.push_number.new.out.items c.in-Num.kind
    (ap type_tree c.in-Num.is) last)
    c.push_number.ensures

pub push_short-returns-in_ok-begin_array-in-Array-clause-short : goal.push_short-returns-in_ok-begin_array-in-Array-clause-short
push_short-returns-in_ok-begin_array-in-Array-clause-short t c =
    let n = c.in-Array.length in
    let e = type_tree c.ctype.result.now in
    let is : type_tree c.args.ctype.now ≡ array_type e n = ap type_tree c.in-Array.is ∙ ap (λ x. array_type x n) (sym c.ctype.ensures) in
    on_ok_weaker c.push_short.result
    (λ short by_tag tagged structs. array_appended c.push_short.new.structs (type_tree c.args.ctype.now) c.args.out.now.items c.begin_array.new.out.items c.push_short.new.out.items e n is
    c.in_ok-begin_array-in-Array.ensures (short by_tag (λ trusted. subst (IsTagged by_tag) is (tagged trusted)) structs))
    c.push_short.ensures.short

pub push_short-returns-in_ok-number-in-Struct-clause-short : goal.push_short-returns-in_ok-number-in-Struct-clause-short
push_short-returns-in_ok-number-in-Struct-clause-short t c =
    let tag = c.bytes.result.now in
    let members = members_of (map member_tree c.items.result.now) in
    let is : type_tree c.args.ctype.now ≡ struct_type tag members =
    ap type_tree c.in-Struct.is ∙ ap₂ (λ a ms. struct_type a (members_of ms)) (sym c.bytes.ensures) (sym c.items.ensures.items) in
    let old = c.args.out.now.items in
    on_ok_weaker c.push_numbered.result
    (λ last by_tag tagged structs. struct_appended c.find_struct.new.structs (type_tree c.args.ctype.now) old old c.push_numbered.new.out.items tag members c.in_ok-number-in-Struct.number is
    (c.in_ok-number-in-Struct.ensures.number by_tag (λ trusted. subst (IsTagged by_tag) is (tagged trusted)) structs) last)
    c.push_numbered.ensures

pub push_short-returns-in_ok-push-in-Loose-clause-short : goal.push_short-returns-in_ok-push-in-Loose-clause-short
push_short-returns-in_ok-push-in-Loose-clause-short t c =
    let e = type_tree c.ctype-in-Loose.result.now in
    let is : type_tree c.args.ctype.now ≡ loose_type e = ap type_tree c.in-Loose.is ∙ ap loose_type (sym c.ctype-in-Loose.ensures) in
    on_ok_weaker c.push_short-in-Loose.result
    (λ short by_tag tagged structs. loose_appended c.push_short-in-Loose.new.structs (type_tree c.args.ctype.now) c.args.out.now.items c.push.new.self.items c.push_short-in-Loose.new.out.items e is
    c.in_ok-push-in-Loose.ensures.items (short by_tag (λ trusted. subst (IsTagged by_tag) is (tagged trusted)) structs))
    c.push_short-in-Loose.ensures.short

pub push_short_members-push_short-requires : goal.push_short_members-push_short-requires
push_short_members-push_short-requires t c =
    let falls = member_falls c.args.members.now c.loop-member.member-index c.member-item.result c.loop-member-test.true in
    let same = ap (λ m. type_size (type_tree m.ctype)) c.member-item.is in
    (omega arith, tt)

pub push_short_members-returns-in_err-push_short-clause-structs : goal.push_short_members-returns-in_err-push_short-clause-structs
push_short_members-returns-in_err-push_short-clause-structs t c = λ by_tag tagged structs.
    c.in_err-push_short.ensures.structs by_tag
    (λ trusted. tagged_at by_tag c.args.members.now c.loop-member.member-index c.member-item.result c.loop-member-test.true c.member-item.is (tagged (subst IsTrue c.loop-member.invariant.trusted trusted)))
    (c.loop-member.invariant.structs by_tag tagged structs)

pub push_short_members-loop-member-preserved : goal.push_short_members-loop-member-preserved
push_short_members-loop-member-preserved t c =
    let i = c.loop-member.member-index in
    let member = c.member-item.result in
    let all = members_of (map member_tree c.args.members.now) in
    record {
      short = λ by_tag tagged structs.
          let its : IsTrue c.loop-member.tags.trusted → IsTagged by_tag (type_tree member.ctype) = λ trusted. tagged_at by_tag c.args.members.now i member c.loop-member-test.true c.member-item.is (tagged (subst IsTrue c.loop-member.invariant.trusted trusted)) in
          let h = c.in_ok-push_short.ensures.short by_tag its (c.loop-member.invariant.structs by_tag tagged structs) in
          first_more c.loop-member.structs c.push_short.new.structs all _ _ member.name c.bytes.result.now (type_tree member.ctype) c.args.out.now.items c.loop-member.out.items
          c.begin_member.new.out.items c.push_short.new.out.items (left_more c.args.members.now i member c.loop-member-test.true c.member-item.is) (c.loop-member.invariant.short by_tag tagged structs)
          c.in_ok-push_short.ensures.grows c.in_ok-begin_member.ensures c.bytes.ensures h;
      structs = λ by_tag tagged structs.
          let its : IsTrue c.loop-member.tags.trusted → IsTagged by_tag (type_tree member.ctype) = λ trusted. tagged_at by_tag c.args.members.now i member c.loop-member-test.true c.member-item.is (tagged (subst IsTrue c.loop-member.invariant.trusted trusted)) in
          c.in_ok-push_short.ensures.structs by_tag its (c.loop-member.invariant.structs by_tag tagged structs);
      grows = Extends-trans c.args.structs.now c.loop-member.structs c.push_short.new.structs c.loop-member.invariant.grows c.in_ok-push_short.ensures.grows;
      trusted = c.in_ok-push_short.ensures.trusted ∙ c.loop-member.invariant.trusted;
    }

pub push_short_members-returns-clause-short : goal.push_short_members-returns-clause-short
push_short_members-returns-clause-short t c = λ by_tag tagged structs.
    let left = ap (λ ms. members_of (map member_tree ms)) (drop_all c.loop-member.member-index c.args.members.now c.loop-member-test.false) in
    first_all c.loop-member.structs (members_of (map member_tree c.args.members.now)) (members_of (map member_tree (drop c.loop-member.member-index c.args.members.now)))
    c.args.out.now.items c.loop-member.out.items c.push.new.self.items left (c.loop-member.invariant.short by_tag tagged structs) c.in_ok-push.ensures.items

pub find_struct-returns-in-Some-clause-number : goal.find_struct-returns-in-Some-clause-number
find_struct-returns-in-Some-clause-number t c = λ by_tag tagged structs.
    known_struct c.args.structs.now by_tag c.args.tags.now c.args.tag.now (members_of (map member_tree c.args.members.now)) c.in-Some.number structs tagged c.in-Some.ensures

pub find_struct-returns-clause-structs : goal.find_struct-returns-clause-structs
find_struct-returns-clause-structs t c = λ by_tag tagged structs.
    let before = c.in_ok-number.ensures.structs by_tag (λ trusted. (tagged trusted).1) structs in
    let has = c.in_ok-number.ensures.number by_tag (λ trusted. (tagged trusted).1) structs in
    let trust = c.keep_number.ensures.trusted in
    tag_put c.number_struct.new.structs by_tag c.number_struct.new.tags c.keep_number.new.tags c.args.tag.now (members_of (map member_tree c.args.members.now)) c.in_ok-number.number before
    (λ trusted. (tagged (subst IsTrue (trust ∙ c.in_ok-number.ensures.trusted) trusted)).0) has trust c.in_ok-keep_number.ensures.kept

pub find_struct-returns-in_err-keep_number-clause-structs : goal.find_struct-returns-in_err-keep_number-clause-structs
find_struct-returns-in_err-keep_number-clause-structs t c = λ by_tag tagged structs.
    structs_same c.number_struct.new.structs by_tag c.number_struct.new.tags c.keep_number.new.tags
    (c.in_ok-number.ensures.structs by_tag (λ trusted. (tagged trusted).1) structs) c.in_err-keep_number.ensures.same c.keep_number.ensures.trusted

pub number_struct-returns-clause-number : goal.number_struct-returns-clause-number
number_struct-returns-clause-number t c =
    IfOk-weaker c.number.result _ _
    (λ n at by_tag tagged structs. struct_numbered c.push_short_members.new.structs c.number.new.self c.args.tag.now (members_of (map member_tree c.args.members.now)) c.in_ok-code.code.items
    c.push_short_members.new.out.items c.in_ok-code.ensures (c.in_ok-push_short_members.ensures.short by_tag tagged structs) c.number.ensures.adds n at)
    c.number.ensures.number

pub number_struct-returns-clause-structs : goal.number_struct-returns-clause-structs
number_struct-returns-clause-structs t c = λ by_tag tagged structs.
    structs_numbered c.push_short_members.new.structs c.number.new.self c.args.tag.now (members_of (map member_tree c.args.members.now)) c.in_ok-code.code.items
    c.push_short_members.new.out.items c.in_ok-code.ensures (c.in_ok-push_short_members.ensures.short by_tag tagged structs) c.number.ensures.adds by_tag c.push_short_members.new.tags
    (c.in_ok-push_short_members.ensures.structs by_tag tagged structs) c.number.ensures.once

pub push_short-returns-in_err-begin_array-in-Array-clause-grows : goal.push_short-returns-in_err-begin_array-in-Array-clause-grows
push_short-returns-in_err-begin_array-in-Array-clause-grows t c = Extends-refl c.args.structs.now

pub push_short-returns-in_err-push-in-Loose-clause-grows : goal.push_short-returns-in_err-push-in-Loose-clause-grows
push_short-returns-in_err-push-in-Loose-clause-grows t c = Extends-refl c.args.structs.now

pub push_short-returns-in-Num-clause-grows : goal.push_short-returns-in-Num-clause-grows
push_short-returns-in-Num-clause-grows t c = Extends-refl c.args.structs.now

pub find_struct-returns-in-Some-clause-grows : goal.find_struct-returns-in-Some-clause-grows
find_struct-returns-in-Some-clause-grows t c = Extends-refl c.args.structs.now

pub number_struct-returns-in_err-code-clause-grows : goal.number_struct-returns-in_err-code-clause-grows
number_struct-returns-in_err-code-clause-grows t c = Extends-refl c.args.structs.now

pub push_short_members-returns-in_err-begin_member-clause-grows : goal.push_short_members-returns-in_err-begin_member-clause-grows
push_short_members-returns-in_err-begin_member-clause-grows t c = c.loop-member.invariant.grows

pub push_short_members-returns-in_err-push-clause-grows : goal.push_short_members-returns-in_err-push-clause-grows
push_short_members-returns-in_err-push-clause-grows t c = c.loop-member.invariant.grows

pub push_short_members-returns-clause-grows : goal.push_short_members-returns-clause-grows
push_short_members-returns-clause-grows t c = c.loop-member.invariant.grows

pub push_short_members-returns-in_err-push_short-clause-grows : goal.push_short_members-returns-in_err-push_short-clause-grows
push_short_members-returns-in_err-push_short-clause-grows t c =
    Extends-trans c.args.structs.now c.loop-member.structs c.push_short.new.structs c.loop-member.invariant.grows c.in_err-push_short.ensures.grows

pub number_struct-returns-clause-grows : goal.number_struct-returns-clause-grows
number_struct-returns-clause-grows t c =
    let new = c.push_short_members.new.structs in
    Extends-trans c.args.structs.now new c.number.new.self c.in_ok-push_short_members.ensures.grows (Extends-added new c.number.new.self c.push_short_members.new.out.items c.number.ensures.adds)

pub push_short-push_short-requires : goal.push_short-push_short-requires
push_short-push_short-requires t c =
    let e = type_tree c.ctype.result.now in
    let is : type_tree c.args.ctype.now ≡ array_type e c.in-Array.length = ap type_tree c.in-Array.is ∙ ap (λ x. array_type x c.in-Array.length) (sym c.ctype.ensures) in
    let size = ap type_size is in
    (omega arith, tt)

pub push_short-push_short-requires-in-Loose : goal.push_short-push_short-requires-in-Loose
push_short-push_short-requires-in-Loose t c =
    let is : type_tree c.args.ctype.now ≡ loose_type (type_tree c.ctype-in-Loose.result.now) = ap type_tree c.in-Loose.is ∙ ap loose_type (sym c.ctype-in-Loose.ensures) in
    let size = ap type_size is in
    (omega arith, tt)

pub push_short-find_struct-requires : goal.push_short-find_struct-requires
push_short-find_struct-requires t c =
    let members = members_of (map member_tree c.items.result.now) in
    let is : type_tree c.args.ctype.now ≡ struct_type c.bytes.result.now members =
    ap type_tree c.in-Struct.is ∙ ap₂ (λ a ms. struct_type a (members_of ms)) (sym c.bytes.ensures) (sym c.items.ensures.items) in
    let size = ap type_size is in
    (omega arith, tt)

pub push_short_members-loop-member-init : goal.push_short_members-loop-member-init
push_short_members-loop-member-init t c = record {
  short = λ by_tag tagged structs. first_none c.args.structs.now (members_of (map member_tree c.args.members.now)) c.args.out.now.items;
  structs = λ by_tag tagged structs. structs;
  grows = Extends-refl c.args.structs.now;
  trusted = refl;
}
