use Rattle.std.proofs.Common.{◌≡◌, ◌<◌, IsTrue, length, Some, sym, ap, ◌∙◌, arith}
use Rattle.std.specs.Prelude.{slice_get}
use Rattle.edge_trace.specs.Rows.{has}
use Rattle.flow_graph.specs.Graph.{edge_count}
use Rattle.test_select.specs.declared.choice.Choice.TheVariants.{Selected}
use Rattle.dual_walk.proofs.LawsLists.{read_at}
use Rattle.explain_report.proofs.FollowLemmas.{edge_there}
use Rattle.explain_report.proofs.ExplainLemmas.{choice_read, selected_danger, selected_within, left_told, selected_told}
use Rattle.explain_report.proofs.explain.explain_text.Goals as goal
use Rattle.explain_report.proofs.explain.explain_text.Goals.{In-Selected, In_ok-push_choice_line}

-- the entry that was read
entry_at : (c : In_ok-push_choice_line) → slice_get c.args.history.now.entries c.args.at ≡ Some c.index-entries-at.result
entry_at c =
    let within : c.args.at < length c.entries.result.now = omega (arith, c.requires.at, ap length c.entries.ensures.value) in
    ap (λ l. slice_get l c.args.at) (sym c.entries.ensures.value) ∙ read_at c.entries.result.now c.args.at c.index-entries-at.result within c.index-entries-at.is

-- the edge for which a test is selected
dangerous : (c : In-Selected) → IsTrue (has c.args.walked.now.danger c.in-Selected.edge)
dangerous c =
    selected_danger c.args.walked.now.danger c.args.history.now.entries c.args.choices.now c.args.at c.in-Selected.edge c.requires.chosen
    (choice_read c.args.choices.now c.args.at (length c.args.history.now.entries) (Selected 0) c.requires.at c.requires.choices ∙ ap Some c.in-Selected.is)

pub explain-requires-clause-danger : goal.explain-requires-clause-danger
explain-requires-clause-danger c = dangerous c

pub explain-requires-clause-edge : goal.explain-requires-clause-edge
explain-requires-clause-edge c = selected_within c.args.walked.now.danger (edge_count c.args.old.now) c.in-Selected.edge c.requires.row (dangerous c)

pub push_explanation-requires-clause-edge : goal.push_explanation-requires-clause-edge
push_explanation-requires-clause-edge c =
    selected_within c.args.walked.now.danger (edge_count c.args.old.now) c.in-Selected.edge c.requires.row (dangerous (goal.at.push_explanation-requires-clause-edge c).In-Selected)

pub returns-in-Left : goal.returns-in-Left
returns-in-Left c P P' entry choice ok ok' walk entry_is choice_is =
    let made_is = choice_read c.args.choices.now c.args.at (length c.args.history.now.entries) _ c.requires.at c.requires.choices in
    left_told c.args.old_source.now c.args.new_source.now P P' c.args.history.now.entries c.args.choices.now c.args.at entry c.index-entries-at.result choice _ c.new-text.result.items c.push_choice_line.new.text.items
    entry_is (entry_at (goal.at.returns-in-Left c).In_ok-push_choice_line) choice_is made_is c.new-text.ensures.items c.in_ok-push_choice_line.ensures c.in-Left.is

pub returns-in_ok-push_explanation-in-Selected : goal.returns-in_ok-push_explanation-in-Selected
returns-in_ok-push_explanation-in-Selected c P P' entry choice ok ok' walk entry_is choice_is =
    let at = goal.at.returns-in_ok-push_explanation-in-Selected c in
    let made_is = choice_read c.args.choices.now c.args.at (length c.args.history.now.entries) _ c.requires.at c.requires.choices in
    let edge = c.in-Selected.edge in
    let source = c.args.old_source.now in
    let source' = c.args.new_source.now in
    let there = edge_there c.args.old.now P ok edge (selected_within c.args.walked.now.danger (edge_count c.args.old.now) edge c.requires.row (dangerous at.In-Selected)) in
    let argues = c.in_ok-book-in-Selected.ensures.argues P P' there.0 ok ok' walk there.1 in
    selected_told source source' P P' c.args.history.now.entries c.args.choices.now c.args.at entry c.index-entries-at.result choice _ c.new-text.result.items c.push_choice_line.new.text.items
    entry_is (entry_at at.In_ok-push_choice_line) choice_is made_is c.new-text.ensures.items c.in_ok-push_choice_line.ensures edge c.push_explanation.new.text.items c.in-Selected.is
    (c.in_ok-push_explanation-in-Selected.ensures P P' source source' there.0 ok ok' c.in_ok-lines-in-Selected.ensures c.in_ok-new_lines-in-Selected.ensures there.1 argues)
