use Rattle.std.proofs.Common.{◌≡◌, ◌∙◌, List, ℕ, length, Some, IfOk, sym, subst, subst₂}
use Rattle.std.specs.Prelude.{slice_get}
use Rattle.csub_semantics.specs.Syntax.{program_tree}
use Rattle.flow_graph.proofs.LawsPlaces.{edges_counted}
use Rattle.test_select.specs.declared.choice.Choice.{Choice}
use Rattle.explain_report.specs.Explanations.{IsExplainText}
use Rattle.command_runs.proofs.ExplainLemmas.{explained}
use Rattle.command_runs.proofs.explain.explain_at.Goals as goal

pub explain_text-requires-clause-choices : goal.explain_text-requires-clause-choices
explain_text-requires-clause-choices c =
    subst (λ (choices : List Choice). length choices ≡ length c.args.history.now.entries) (sym c.deref.ensures.value)
    c.in_ok-chosen.ensures.walked.many

pub explain_text-requires-clause-row : goal.explain_text-requires-clause-row
explain_text-requires-clause-row c =
    c.in_ok-chosen.ensures.walked.walk.edges ∙ sym (edges_counted c.args.graphs.now.old (program_tree c.args.versions.now.old) c.requires.graphs.old)

pub returns : goal.returns
returns c = λ bytes test only at.
    let P = program_tree c.args.versions.now.old in
    let P' = program_tree c.args.versions.now.new in
    explained P P' c.args.versions.now.source.items c.args.versions.now.new_source.items bytes test c.args.history.now c.in_ok-chosen.chosen.choices.items c.args.place
    c.explain_text.result (c.in_ok-chosen.ensures.chosen bytes only) at
    (λ choice made.
    subst₂ (λ (source source' : List ℕ). IfOk c.explain_text.result (λ text. IsExplainText source source' P P' at.entry choice text.items)) c.deref-2.ensures.value c.deref-3.ensures.value
    (c.explain_text.ensures P P' at.entry choice c.requires.graphs.old c.requires.graphs.new c.in_ok-chosen.ensures.walked.walk at.stands
    (subst (λ (choices : List Choice). slice_get choices c.args.place ≡ Some choice) (sym c.deref.ensures.value) made)))
