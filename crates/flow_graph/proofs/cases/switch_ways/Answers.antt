use Rattle.std.proofs.Common.{◌∙◌, ◌++◌, ◌∷◌, [], ap, map, reverse}
use Rattle.std.proofs.lemmas.List.{map-append}
use Rattle.csub_semantics.specs.Points.{on_default}
use Rattle.csub_semantics.specs.Successors.{way}
use Rattle.flow_graph.specs.Numbers.{numbered_way}
use Rattle.flow_graph.proofs.Listed.{map-reverse}
use Rattle.flow_graph.proofs.cases.switch_ways.Goals as goal

pub returns : goal.returns
returns c =
    ap (map numbered_way) c.in_ok-push.ensures.items
    ∙ map-append numbered_way c.reverse.new.self.items _
    ∙ ap (λ l. map numbered_way l ++ way (on_default c.in_ok-values.values.items) c.args.cases.other ∷ []) c.reverse.ensures.items
    ∙ ap (λ l. l ++ way (on_default c.in_ok-values.values.items) c.args.cases.other ∷ []) (map-reverse numbered_way c.args.cases.ways.items)
    ∙ ap (λ vs. reverse (map numbered_way c.args.cases.ways.items) ++ way (on_default vs) c.args.cases.other ∷ []) c.in_ok-values.ensures
