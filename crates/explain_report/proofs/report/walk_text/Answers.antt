use Rattle.std.proofs.Common.{◌≡◌, ◌∙◌, length, rules}
use Rattle.flow_graph.proofs.LawsPlaces.{edges_counted}
use Rattle.explain_report.proofs.EdgeLemmas.{text_made}
use Rattle.explain_report.proofs.WalkLemmas.{walk_told}
use Rattle.explain_report.proofs.report.walk_text.Goals as goal

pub returns-clause-text : goal.returns-clause-text
returns-clause-text c P ok =
    let pairs : c.len.result ≡ length c.args.walked.now.facts.items = search rules in
    text_made P c.args.old_source.now c.args.walked.now.danger c.len.result (length c.args.walked.now.facts.items)
    c.new-text.result.items c.push_edge_lines.new.text.items c.push_danger_line.new.text.items c.push_pairs_line.new.text.items
    c.new-text.ensures.items (c.in_ok-push_edge_lines.ensures P c.args.old_source.now ok c.in_ok-lines.ensures) c.in_ok-push_danger_line.ensures c.in_ok-push_pairs_line.ensures
    (c.requires.row ∙ edges_counted c.args.old.now P ok) pairs

pub returns-clause-meant : goal.returns-clause-meant
returns-clause-meant c P P' ok valid walk =
    walk_told P P' c.args.walked.now walk ok.valid valid c.args.old_source.now c.push_pairs_line.new.text.items (returns-clause-text c P ok)
