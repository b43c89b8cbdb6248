use Rattle.std.proofs.Common.{◌≡◌, ◌++◌, ◌∷◌, [], ◌+◌, ◌<◌, sym, ap, ◌∙◌, subst}
use Rattle.std.specs.Prelude.{OnOk, codes}
use Rattle.std.specs.Fmt.{decimal}
use Rattle.line_text.specs.Words.{line_of_words}
use Rattle.csub_semantics.specs.Points.{exit_tree}
use Rattle.flow_graph.specs.Graph.{edge_count}
use Rattle.explain_report.specs.WalkTexts.{exit_text}
use Rattle.explain_report.specs.Explanations.{reason_words}
use Rattle.explain_report.specs.Dangers.{IsEdgeWithin}
use Rattle.explain_report.proofs.FollowLemmas.{exit_there}
use Rattle.explain_report.proofs.told.push_reason.Goals as goal

pub returns-in-Step : goal.returns-in-Step
returns-in-Step c P ok =
    let within : c.in-Step.edge < edge_count c.args.old.now = subst (IsEdgeWithin c.args.old.now) c.in-Step.is c.requires in
    let exit = exit_there c.args.old.now P ok c.in-Step.edge (exit_tree c.edge_at.result.exit.now) within (λ edge numbered. c.edge_at.ensures.exit P edge ok numbered) in
    let told = ap (λ x. line_of_words (codes "step" ∷ decimal (c.in-Step.from + 1) ∷ exit_text x ∷ [])) exit ∙ sym (ap (λ why. line_of_words (reason_words P why)) c.in-Step.is) in
    subst (λ line. OnOk c.push_step.result (c.push_step.new.text.items ≡ c.args.text.now.items ++ line)) told c.push_step.ensures
