use Rattle.std.proofs.Common.{◌≡◌, ◌∙◌, [], IsTrue, map, sym, ap, subst}
use Rattle.std.proofs.lemmas.Result.{on_ok_weaker}
use Rattle.csub_objects.specs.Types.{struct_type, members_of}
use Rattle.csub_objects.specs.Meaning.{member_tree}
use Rattle.edge_label.specs.Uses.{TypeUse, AreTagged, HasTags, use_tree}
use Rattle.edge_label.proofs.StructLemmas.{struct_appended}
use Rattle.edge_label.proofs.types.push_use.Goals as goal

pub returns-in_ok-number-in-Callee-clause-short : goal.returns-in_ok-number-in-Callee-clause-short
returns-in_ok-number-in-Callee-clause-short c =
    let members = members_of (map member_tree c.deref.result.now) in
    let same = ap (λ ms. members_of (map member_tree ms)) (sym c.deref.ensures.value) in
    let is : (use_tree c.args.used).ctype ≡ struct_type [] members = ap (λ u. (use_tree u).ctype) c.in-Callee.is ∙ ap (struct_type []) same in
    let old = c.args.out.now.items in
    on_ok_weaker c.push_numbered.result
    (λ last by_tag tagged structs.
    let its : IsTrue c.args.tags.now.trusted → AreTagged by_tag members =
    λ trusted. subst (AreTagged by_tag) same (subst (λ (u : TypeUse). HasTags by_tag u.named u.ctype) (ap use_tree c.in-Callee.is) (tagged trusted)) in
    struct_appended c.number_struct.new.structs (use_tree c.args.used).ctype old old c.push_numbered.new.out.items [] members c.in_ok-number-in-Callee.number is
    (c.in_ok-number-in-Callee.ensures.number by_tag its structs) last)
    c.push_numbered.ensures
