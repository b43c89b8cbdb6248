use Rattle.std.specs.Fmt.{decimal}
use Rattle.std.specs.Prelude.{codes}
use Rattle.csub_semantics.specs.Points.{exit_tree}
use Rattle.source_place.specs.Places.{place_text}
use Rattle.explain_report.specs.WalkTexts.{exit_text}
use Rattle.explain_report.proofs.ToldLemmas.{parts_told}
use Rattle.explain_report.proofs.edge.push_parts.Goals as goal

pub returns : goal.returns
returns c =
    parts_told c.args.text.now.items (codes "edge") (decimal c.args.edge) c.args.function.now (place_text c.args.place) (exit_text (exit_tree c.args.exit.now)) c.push_named_edge.new.text.items
    c.push.new.self.items c.push_place.new.text.items c.push-2.new.self.items c.push_exit.new.text.items c.push-3.new.self.items c.in_ok-push_named_edge.ensures c.in_ok-push.ensures.items
    c.in_ok-push_place.ensures c.in_ok-push-2.ensures.items c.in_ok-push_exit.ensures c.in_ok-push-3.ensures.items
