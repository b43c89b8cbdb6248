use Rattle.std.proofs.Common.{◌≡◌, ◌++◌, Some, sym, ap, ◌∙◌}
use Rattle.std.proofs.lemmas.Option.{same_Some}
use Rattle.std.proofs.lemmas.Result.{on_ok_weaker}
use Rattle.line_text.specs.Lines.{text_of_lines}
use Rattle.csub_semantics.specs.Numbers.{site, site_at}
use Rattle.dual_walk.specs.declared.fact.Fact.{Fact}
use Rattle.explain_report.specs.WalkTexts.{edge_line}
use Rattle.explain_report.specs.Explanations.{fact_lines, parting_line}
use Rattle.dual_walk.proofs.LawsLists.{read_at}
use Rattle.explain_report.proofs.ToldLemmas.{lines_told}
use Rattle.explain_report.proofs.ExplainLemmas.{told_lines, explains}
use Rattle.explain_report.proofs.explain.push_explanation.Goals as goal

pub returns : goal.returns
returns c P P' source source' edge ok ok' table table' numbered argues =
    let facts = c.args.book.now.facts.items in
    let shown = c.args.book.now.shown in
    let other = argues.shows.0 in
    let one : c.index-fact.result.now ≡ argues.shows.1.fact = same_Some _ _ (sym (read_at facts shown.place c.index-fact.result.now c.requires.place c.index-fact.ensures) ∙ argues.shows.1.stands) in
    let at : site_at P' c.index-fact.result.now.new ≡ Some (site edge.function other) = ap (λ (d : Fact). site_at P' d.new) one ∙ argues.shows.1.new in
    let lines = c.in_ok-push_fact_lines.ensures P ok ∙ ap (λ l. c.push_edge_line.new.text.items ++ text_of_lines (fact_lines P 0 l)) c.deref.ensures.value in
    on_ok_weaker c.push_parting_line.result
    (λ h. (
      told_lines source source' P P' c.args.edge edge facts shown argues,
      explains source source' P P' c.args.edge edge facts shown argues numbered,
      lines_told (edge_line P source c.args.edge edge) (fact_lines P 0 facts) (parting_line P' source' edge shown.place shown.back other) c.args.text.now.items c.push_edge_line.new.text.items
          c.push_fact_lines.new.text.items c.push_parting_line.new.text.items (c.in_ok-push_edge_line.ensures P source edge ok table numbered) lines h,
    ))
    (c.push_parting_line.ensures P' source' edge other ok' table' (c.edge_at.ensures.exit P edge ok numbered) at)
