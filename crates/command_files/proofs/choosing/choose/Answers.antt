use Rattle.std.proofs.Common.{◌∙◌, sym}
use Rattle.csub_semantics.specs.Syntax.{program_tree}
use Rattle.csub_semantics.specs.Flows.{flow_of}
use Rattle.test_history.specs.Histories.{EntryParts}
use Rattle.test_select.specs.declared.choice.Choice.{Choice}
use Rattle.test_select.specs.Selection.{Chooses}
use Rattle.command_files.proofs.LawsChoices.{choices_are, many_choices}
use Rattle.command_files.proofs.Safety.{has_chosen}
use Rattle.command_files.proofs.choosing.choose.Goals as goal

pub select-requires : goal.select-requires
select-requires c =
    let walk = c.in_ok-walked.ensures (program_tree c.args.versions.now.old) (program_tree c.args.versions.now.new) c.requires.graphs.old c.requires.graphs.new in
    walk.edges ∙ sym c.requires.edges

pub returns-clause-walked : goal.returns-clause-walked
returns-clause-walked c = record {
  walk = c.in_ok-walked.ensures (program_tree c.args.versions.now.old) (program_tree c.args.versions.now.new) c.requires.graphs.old c.requires.graphs.new;
  chooses = c.in_ok-choices.ensures;
  many =
      many_choices (λ (entry : EntryParts) (choice : Choice). Chooses entry.crossed c.in_ok-walked.walked.danger choice) c.args.history.now.entries c.in_ok-choices.choices.items c.in_ok-choices.ensures;
}

pub returns-clause-chosen : goal.returns-clause-chosen
returns-clause-chosen c bytes only =
    let P = program_tree c.args.versions.now.old in
    let P' = program_tree c.args.versions.now.new in
    let walk = c.in_ok-walked.ensures P P' c.requires.graphs.old c.requires.graphs.new in
    has_chosen P P' c.args.versions.now.source.items bytes c.args.history.now (c.bounds.ensures (flow_of P)) c.requires.graphs.old.valid c.requires.alone only
    c.in_ok-choices.choices.items (c.lockstep.ensures.runs P P' c.requires.graphs.old.valid c.functions-valid.ensures.valid) (c.edges.ensures P)
    (choices_are P P' c.in_ok-walked.walked walk c.args.history.now.entries c.in_ok-choices.choices.items c.in_ok-choices.ensures)
