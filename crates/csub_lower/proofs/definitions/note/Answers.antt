use Rattle.std.proofs.Common.{◌≡◌, ◌∙◌, sym, ap, None}
use Rattle.csub_lower.specs.Definitions.{placed}
use Rattle.csub_lower.proofs.Places.{noted_new, not_some}
use Rattle.csub_lower.proofs.definitions.note.Goals as goal

pub returns-clause-ok : goal.returns-clause-ok
returns-clause-ok c =
    let named : c.as_slice.result.now ≡ c.args.name.items = c.as_slice.ensures.value in
    let none : placed c.args.places.now c.args.name.items ≡ None =
    ap (placed c.args.places.now) (sym named) ∙ sym c.place_of.ensures ∙ not_some c.place_of.result (sym c.is_some.ensures ∙ c.if-is_some.false) in
    noted_new c.args.places.now c.insert.new.self c.args.name.items c.args.place none c.in_ok-insert.ensures.updates
