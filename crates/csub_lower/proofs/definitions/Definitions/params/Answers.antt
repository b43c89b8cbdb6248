use Rattle.std.proofs.Common.{◌≡◌, ◌∙◌, ◌<◌, sym, ap, arith, [], Some, map, length}
use Rattle.std.proofs.lemmas.List.{length-map}
use Rattle.csub_objects.specs.Meaning.{member_tree}
use Rattle.csub_resolution.specs.Values.{params_in}
use Rattle.csub_lower.specs.Definitions.{defined_of, place}
use Rattle.csub_lower.proofs.Places.{shown, params_found, params_none}
use Rattle.csub_lower.proofs.definitions.Definitions.params.Goals as goal

pub index-requires : goal.index-requires
index-requires c =
    let at : place c.args.name.now (map defined_of c.self.inside.held.items) ≡ Some c.in-Some.place =
    sym (c.self.invariant c.args.name.now) ∙ sym c.in-Some.ensures in
    let shows = shown c.args.name.now (map defined_of c.self.inside.held.items) c.in-Some.place (record { name = []; params = [] }) at in
    let below : c.in-Some.place < length (map defined_of c.self.inside.held.items) = shows.below in
    omega (arith, length-map c.self.inside.held.items defined_of)

pub returns-in-Some : goal.returns-in-Some
returns-in-Some c =
    ap (map member_tree) c.as_slice.ensures.value
    ∙ params_found c.args.name.now c.self.inside.held.items c.in-Some.place c.index.result.now
    (sym (c.self.invariant c.args.name.now) ∙ sym c.in-Some.ensures) c.index.ensures
    ∙ ap (λ ds. params_in ds c.args.name.now) c.self.view_is

pub returns-in-None : goal.returns-in-None
returns-in-None c =
    params_none c.args.name.now (map defined_of c.self.inside.held.items) (sym (c.self.invariant c.args.name.now) ∙ sym c.in-None.ensures)
    ∙ ap (λ ds. params_in ds c.args.name.now) c.self.view_is
