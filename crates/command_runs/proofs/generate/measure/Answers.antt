use Rattle.std.proofs.Common.{◌≡◌, ◌∙◌, ◌-◌, List, ℕ, length, refl, sym, ap, subst}
use Rattle.std.specs.List.{count_by}
use Rattle.std.proofs.lemmas.List.{length-map}
use Rattle.csub_semantics.specs.Syntax.{program_tree, function_tree}
use Rattle.test_select.specs.declared.choice.Choice.{Choice}
use Rattle.test_select.specs.Selection.{is_selected}
use Rattle.command_runs.specs.Steps.{HasReran}
use Rattle.command_files.proofs.LawsChoices.{choices_are}
use Rattle.command_runs.proofs.generate.measure.Goals as goal

pub rerun_selected-requires-clause-choices : goal.rerun_selected-requires-clause-choices
rerun_selected-requires-clause-choices g c = λ κs lives.
    subst (λ (choices : List Choice). length choices ≡ length c.in_ok-history.history.entries) (sym c.deref-2.ensures.value)
    c.in_ok-chosen.ensures.walked.many

pub returns : goal.returns
returns g c =
    let P = program_tree c.args.versions.now.old in
    let P' = program_tree c.args.versions.now.new in
    let entries = c.in_ok-history.history.entries in
    let choices = c.in_ok-chosen.chosen.choices.items in
    let walk = c.in_ok-chosen.ensures.walked.walk in
    let again = subst (λ (each : List Choice). HasReran P' entries each c.in_ok-reruns.reruns) c.deref-2.ensures.value c.in_ok-reruns.ensures in
    record {
      functions = c.saturating_sub.ensures ∙ ap (λ (n : ℕ). n - 1) (ap length c.functions.ensures.value ∙ sym (length-map c.args.versions.now.old.functions function_tree));
      points = c.points.ensures.listed P c.in_ok-graphs.ensures.old;
      edges = c.edges.ensures.listed P c.in_ok-graphs.ensures.old;
      tests = refl;
      row = c.in_ok-chosen.chosen.walked.danger;
      danger = record { edges = walk.edges; danger = walk.danger };
      dangerous = c.count.ensures;
      entries = entries;
      recorded = c.in_ok-history.ensures.history.entries;
      choices = choices;
      chosen = choices_are P P' c.in_ok-chosen.chosen.walked walk entries choices c.in_ok-chosen.ensures.walked.chooses;
      selected = c.count_selected.ensures ∙ ap (count_by is_selected) c.deref-3.ensures.value;
      results = again.results;
      ran = again.ran;
      differ = again.count;
    }
