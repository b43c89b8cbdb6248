use Rattle.std.proofs.Common.{◌≡◌, ◌∙◌, List, None, Some, get_or, map, option_map, ap, sym, subst}
use Rattle.csub_objects.specs.Meaning.{type_tree, member_tree}
use Rattle.csub_objects.specs.Names.{IsNew, StandsAt}
use Rattle.csub_objects.specs.Types.{Name, MemberTree, find_member, members_of}
use Rattle.csub_objects.proofs.ListLemmas.{names_in, member_found, member_missing}
use Rattle.csub_objects.proofs.types.Members.find.Goals as goal

pub returns-in_err-place : goal.returns-in_err-place
returns-in_err-place c =
    let ms : List MemberTree = map member_tree c.self.inside.shared.value.items.items in
    let names : c.deref.result.now.names ≡ names_in ms = ap (λ l. l.names) c.deref.ensures ∙ c.self.invariant.named in
    let new = subst (λ (xs : List Name). IsNew c.args.name.now xs) names c.in_err-place.ensures.none in
    ap (λ o. option_map (λ m. type_tree m.now.ctype) o) c.from_residual.ensures
    ∙ sym (subst (λ (v : List MemberTree). find_member c.args.name.now (members_of v) ≡ None) c.self.view_is (member_missing ms c.args.name.now new))

pub returns : goal.returns
returns c =
    let ms : List MemberTree = map member_tree c.self.inside.shared.value.items.items in
    let names : c.deref.result.now.names ≡ names_in ms = ap (λ l. l.names) c.deref.ensures ∙ c.self.invariant.named in
    let stands = subst (λ (xs : List Name). StandsAt xs c.args.name.now c.in_ok-place.place) names c.in_ok-place.ensures.some in
    let at = c.index.ensures ∙ ap (λ l. get_or l.items.items c.in_ok-place.place c.index.result.now) c.deref-2.ensures in
    sym (subst (λ (v : List MemberTree). find_member c.args.name.now (members_of v) ≡ Some (type_tree c.index.result.now.ctype)) c.self.view_is
    (member_found c.self.inside.shared.value.items.items c.args.name.now c.in_ok-place.place c.index.result.now stands at))
