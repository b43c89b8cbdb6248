use Rattle.std.proofs.Common.{◌≡◌, List, length, nat_lt, refl, sym, subst}
use Rattle.csub_semantics.specs.Syntax.{program_tree}
use Rattle.test_select.specs.declared.choice.Choice.{Choice}
use Rattle.command_runs.specs.Steps.{HasReran}
use Rattle.command_runs.proofs.LawsReruns.{rerun_is}
use Rattle.dejavu_cli.proofs.rerun.rerun_answer.Goals as goal

pub rerun_selected-requires-clause-choices : goal.rerun_selected-requires-clause-choices
rerun_selected-requires-clause-choices g c = λ κs lives.
    subst (λ (choices : List Choice). length choices ≡ length c.in_ok-selection.selection.history.entries) (sym c.deref.ensures.value) c.in_ok-selection.ensures.walked.many

pub rerun_selected-requires-clause-within : goal.rerun_selected-requires-clause-within
rerun_selected-requires-clause-within g c = λ κs lives. c.in_ok-selection.ensures.reads.file.readable.within.entries

pub returns : goal.returns
returns g c =
    let P = program_tree c.args.versions.now.old in
    let P' = program_tree c.args.versions.now.new in
    let history = c.in_ok-selection.selection.history in
    let choices = c.in_ok-selection.selection.chosen.choices.items in
    let told = c.in_ok-told.told in (
      nat_lt 0 told.differs,
      c.rerun_end.ensures,
      rerun_is P P' c.args.versions.now.source.items c.args.bytes.now history choices told (nat_lt 0 told.differs) told.bytes.items c.in_ok-selection.ensures.chosen
          (subst (λ (each : List Choice). HasReran P' history.entries each told) c.deref.ensures.value c.in_ok-told.ensures) refl refl,
    )
