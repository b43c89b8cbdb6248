use Rattle.std.proofs.Common.{◌≡◌, ◌++◌, ap, subst}
use Rattle.csub_semantics.specs.Points.{exit_tree}
use Rattle.csub_semantics.specs.Flows.{flow_of}
use Rattle.explain_report.specs.WalkTexts.{exit_text}
use Rattle.explain_report.specs.Explanations.{new_place}
use Rattle.explain_report.proofs.ToldLemmas.{parting_told}
use Rattle.explain_report.proofs.told.push_parting_line.Goals as goal

pub returns : goal.returns
returns c P' source edge other ok table exit at =
    let there = subst (λ x. c.push_new_place.new.text.items ≡ c.push-2.new.self.items ++ new_place P' source edge.function ((flow_of P').succ edge.function other x)) exit
    (c.in_ok-push_new_place.ensures P' source edge.function other ok table at) in
    parting_told P' source edge c.args.shown.place c.args.shown.back other (exit_text (exit_tree c.args.exit.now)) c.args.text.now.items c.push_shown.new.text.items c.push.new.self.items
    c.push_exit.new.text.items c.push-2.new.self.items c.push_new_place.new.text.items c.push-3.new.self.items
    c.in_ok-push_shown.ensures c.in_ok-push.ensures.items c.in_ok-push_exit.ensures (ap exit_text exit) c.in_ok-push-2.ensures.items there c.in_ok-push-3.ensures.items
