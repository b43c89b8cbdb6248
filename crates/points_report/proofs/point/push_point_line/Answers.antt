use Rattle.std.proofs.Common.{◌≡◌, ◌++◌, ◌∷◌, [], Some, sym, ap, subst, ◌∙◌}
use Rattle.std.specs.Prelude.{OnOk}
use Rattle.std.specs.Option.{option_map}
use Rattle.std.proofs.lemmas.Option.{same_Some}
use Rattle.csub_semantics.specs.Numbers.{site_of, site_at}
use Rattle.source_place.specs.Places.{place_of}
use Rattle.points_report.specs.PointTexts.{source_text}
use Rattle.points_report.proofs.Told.{point_parts}
use Rattle.points_report.proofs.point.push_point_line.Goals as goal

pub returns : goal.returns
returns c P n ok table stands =
    let source = c.args.source.now in
    let at : site_at P c.args.point ≡ Some (site_of n) = ap (option_map site_of) stands in
    let span = c.span_at-span.ensures P n ok stands in
    let name : c.bytes.result.now ≡ n.function =
    c.bytes.ensures ∙ same_Some _ _ (sym (c.name_of-function.ensures P ok) ∙ c.function_at.ensures.function P (site_of n) ok at) in
    let place : c.place_of.result ≡ place_of source n.node.span = c.place_of.ensures source table ∙ ap (place_of source) span in
    let told : c.source_text.result.now ≡ source_text source n.node.span = c.source_text.ensures ∙ ap (source_text source) span in
    subst (λ line. OnOk c.push_point_parts.result (c.push_point_parts.new.text.items ≡ c.args.text.now.items ++ line ++ 10 ∷ []))
    (point_parts P source c.args.point n c.bytes.result.now c.place_of.result c.source_text.result.now name place told)
    c.push_point_parts.ensures
