use Rattle.std.proofs.Common.{◌≡◌, ◌∙◌, List, None, IsSome, get_or, map, ap, sym, subst, refl}
use Rattle.csub_objects.specs.Meaning.{member_tree}
use Rattle.csub_objects.specs.Names.{IsNew, StandsAt}
use Rattle.csub_objects.specs.Types.{Name, MemberTree, IsCappedSome, find_cell, members_of}
use Rattle.csub_objects.proofs.ListLemmas.{names_in, cell_found, cell_known, cell_missing}
use Rattle.csub_objects.proofs.types.Members.first_cell.Goals as goal

pub returns-in_err-place-clause-exact : goal.returns-in_err-place-clause-exact
returns-in_err-place-clause-exact c =
    let ms : List MemberTree = map member_tree c.self.inside.shared.value.items.items in
    let names : c.deref.result.now.names ≡ names_in ms = ap (λ l. l.names) c.deref.ensures ∙ c.self.invariant.named in
    let new = subst (λ (xs : List Name). IsNew c.args.name.now xs) names c.in_err-place.ensures.none in
    let missing = subst (λ (v : List MemberTree). find_cell c.args.name.now (members_of v) ≡ None) c.self.view_is (cell_missing ms c.args.name.now new) in
    (λ h. subst (λ o. IsSome o) (sym missing) (subst (λ o. IsSome o) c.from_residual.ensures h), λ h. subst (λ o. IsSome o) (sym c.from_residual.ensures) (subst (λ o. IsSome o) missing h))

pub returns-clause-some : goal.returns-clause-some
returns-clause-some c =
    let ms : List MemberTree = map member_tree c.self.inside.shared.value.items.items in
    let names : c.deref.result.now.names ≡ names_in ms = ap (λ l. l.names) c.deref.ensures ∙ c.self.invariant.named in
    let stands = subst (λ (xs : List Name). StandsAt xs c.args.name.now c.in_ok-place.place) names c.in_ok-place.ensures.some in
    let at = c.index.ensures ∙ ap (λ l. get_or l.firsts.items c.in_ok-place.place c.index.result.now) c.deref-2.ensures in
    subst (λ (v : List MemberTree). IsCappedSome c.index.result.now (find_cell c.args.name.now (members_of v))) c.self.view_is
    (cell_found ms c.self.inside.shared.value.firsts.items c.args.name.now c.in_ok-place.place c.index.result.now c.self.invariant.places stands at)

pub returns-clause-exact : goal.returns-clause-exact
returns-clause-exact c =
    let ms : List MemberTree = map member_tree c.self.inside.shared.value.items.items in
    let names : c.deref.result.now.names ≡ names_in ms = ap (λ l. l.names) c.deref.ensures ∙ c.self.invariant.named in
    let stands = subst (λ (xs : List Name). StandsAt xs c.args.name.now c.in_ok-place.place) names c.in_ok-place.ensures.some in
    (λ _. subst (λ (v : List MemberTree). IsSome (find_cell c.args.name.now (members_of v))) c.self.view_is (cell_known ms c.args.name.now c.in_ok-place.place stands), λ _. refl)
