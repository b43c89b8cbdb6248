use Rattle.std.proofs.Common.{◌≡◌, ◌∙◌, ap, sym, arith, [], ◌∷◌, ◌++◌, length}
use Rattle.csub_lower.specs.declared.definitions.Definition.{Definition}
use Rattle.csub_lower.proofs.Places.{places_more}
use Rattle.csub_lower.proofs.definitions.Definitions.push.Goals as goal

pub invariant_of-self-2 : goal.invariant_of-self-2
invariant_of-self-2 c =
    let key : c.in_ok-key.key.items ≡ c.in_ok-name.name =
    c.in_ok-key.ensures.items_if_clones_equal (λ x y same. same) ∙ c.bytes.ensures ∙ sym c.in_ok-name.ensures in
    let at : c.len-place.result ≡ length c.self.inside.held.items = omega (arith, ap length c.reserve.ensures.items) in
    let d : Definition = record { name = c.in_ok-name.name; params = c.args.params } in
    let more : c.push.new.self.items ≡ c.self.inside.held.items ++ d ∷ [] =
    c.in_ok-push.ensures.items ∙ ap (λ ds. ds ++ d ∷ []) c.reserve.ensures.items in
    places_more c.self.inside.places c.note.new.places c.self.inside.held.items c.push.new.self.items d c.in_ok-key.key.items
    c.len-place.result c.self.invariant key at more (c.in_ok-note.ensures.ok)
