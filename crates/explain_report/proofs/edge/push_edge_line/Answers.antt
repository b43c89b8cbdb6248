use Rattle.std.proofs.Common.{◌≡◌, ◌++◌, ◌∷◌, [], sym, ap, subst, ◌∙◌}
use Rattle.std.specs.Prelude.{OnOk}
use Rattle.std.proofs.lemmas.Option.{same_Some}
use Rattle.csub_semantics.specs.Points.{exit_tree}
use Rattle.csub_semantics.specs.Numbers.{site}
use Rattle.source_place.specs.Places.{place_of}
use Rattle.explain_report.specs.WalkTexts.{span_of}
use Rattle.explain_report.proofs.EdgeLemmas.{placed, line_told}
use Rattle.explain_report.proofs.edge.push_edge_line.Goals as goal

pub returns : goal.returns
returns c P source e ok table numbered =
    let at = c.edge_at-ends.ensures.from P e ok numbered in
    let from = placed P c.edge_at-ends.result.from (site e.function e.from) ok.valid at in
    let name : c.bytes.result.now ≡ e.function =
    c.bytes.ensures ∙ same_Some _ _ (sym (c.name_of-function.ensures P ok) ∙ c.function_at.ensures.function P (site e.function e.from) ok at) in
    let place : c.place_of-place.result ≡ place_of source (span_of P e) =
    c.place_of-place.ensures source table ∙ ap (place_of source) (c.span_at.ensures P from.point ok from.there ∙ from.span) in
    subst (λ line. OnOk c.push_parts.result (c.push_parts.new.text.items ≡ c.args.text.now.items ++ line ++ 10 ∷ []))
    (line_told P source c.args.edge e c.bytes.result.now c.place_of-place.result (exit_tree c.edge_at-ends.result.exit.now) name place (c.edge_at-ends.ensures.exit P e ok numbered))
    c.push_parts.ensures
