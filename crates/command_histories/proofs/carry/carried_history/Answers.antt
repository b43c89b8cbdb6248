use Rattle.std.proofs.Common.{◌∙◌, ℕ, List, length, IfOk, sym, ap, subst}
use Rattle.csub_semantics.specs.Syntax.{program_tree}
use Rattle.csub_semantics.specs.Flows.{flow_of}
use Rattle.flow_graph.proofs.LawsPlaces.{edges_counted}
use Rattle.test_select.specs.declared.choice.Choice.{Choice}
use Rattle.edge_images.specs.declared.image.Image.{Image}
use Rattle.carry_history.specs.Carried.{IsCarried}
use Rattle.command_histories.proofs.Carrying.{has_carried, is_readable}
use Rattle.command_histories.proofs.carry.carried_history.Goals as goal

pub carry-requires-clause-images : goal.carry-requires-clause-images
carry-requires-clause-images g c = λ κs lives.
    let P = program_tree c.args.versions.now.old in
    let selected = c.requires.selection.1 in
    ap length c.deref-2.ensures.value ∙ c.in_ok-images.ensures.edges
    ∙ edges_counted c.args.selection.now.graphs.old P selected.graphs.old ∙ sym selected.reads.file.edges

pub returns-clause-carried : goal.returns-clause-carried
returns-clause-carried g c =
    let P = program_tree c.args.versions.now.old in
    let P' = program_tree c.args.versions.now.new in
    let selected = c.requires.selection.1 in
    let history = c.args.selection.now.history in
    let carried =
    subst (λ (new : List ℕ). IfOk c.carry.result (IsCarried P' new c.in_ok-images.images.items c.args.selection.now.chosen.choices.items history)) c.deref-3.ensures.value
    (subst (λ (images : List Image). IfOk c.carry.result (IsCarried P' c.deref-3.result.now images c.args.selection.now.chosen.choices.items history)) c.deref-2.ensures.value
    (subst (λ (choices : List Choice). IfOk c.carry.result (IsCarried P' c.deref-3.result.now c.deref-2.result.now choices history)) c.deref.ensures.value c.carry.ensures)) in
    has_carried P P' c.args.versions.now.new_source.items c.in_ok-images.images.items c.args.selection.now.chosen.choices.items history
    (c.in_ok-images.ensures.images P P' selected.graphs.old selected.graphs.new) c.carry.result carried

pub returns-clause-readable : goal.returns-clause-readable
returns-clause-readable g c =
    let P = program_tree c.args.versions.now.old in
    let P' = program_tree c.args.versions.now.new in
    let selected = c.requires.selection.1 in
    let history = c.args.selection.now.history in
    is_readable P P' c.deref-3.result.now c.deref-2.result.now c.args.selection.now.chosen.choices.items history
    selected.graphs.new.valid (c.bounds.ensures (flow_of P')) selected.walked.many selected.reads.file.readable c.carry.result
    (subst (λ (choices : List Choice). IfOk c.carry.result (IsCarried P' c.deref-3.result.now c.deref-2.result.now choices history)) c.deref.ensures.value c.carry.ensures)
