use Rattle.std.proofs.Common.{◌≡◌, ◌∙◌, List, length, sym, subst, ap}
use Rattle.test_select.specs.declared.choice.Choice.{Choice}
use Rattle.test_select.specs.SelectTexts.{select_text}
use Rattle.command_runs.proofs.select.selection_text.Goals as goal

pub select_text-requires : goal.select_text-requires
select_text-requires c =
    subst (λ (choices : List Choice). length choices ≡ length c.in_ok-selection.selection.history.entries) (sym c.deref.ensures.value) c.in_ok-selection.ensures.walked.many

pub returns : goal.returns
returns c = record {
  history = c.in_ok-selection.selection.history;
  choices = c.in_ok-selection.selection.chosen.choices.items;
  chosen = c.in_ok-selection.ensures.chosen.chosen;
  is = c.in_ok-select_text.ensures ∙ ap (select_text c.in_ok-selection.selection.history.entries) c.deref.ensures.value;
}
