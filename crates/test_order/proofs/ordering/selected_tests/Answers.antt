use Rattle.std.proofs.Common.{◌≡◌, ap, sym, ◌∙◌}
use Rattle.std.proofs.lemmas.List.{get_or_default}
use Rattle.test_select.specs.declared.choice.Choice.TheVariants.{Left}
use Rattle.test_select.specs.Selection.{is_selected}
use Rattle.test_order.specs.Orders.{is_selected_at}
use Rattle.test_order.proofs.WaitingLemmas.{selected_none, selected_more, selected_less, selected_all}
use Rattle.test_order.proofs.ordering.selected_tests.Goals as goal
use Rattle.test_order.proofs.ordering.selected_tests.Goals.{then-is_selected+in_ok-push, else-is_selected}

pub loop-place-init : goal.loop-place-init
loop-place-init c = rw c.new-tests.ensures.items (selected_none c.args.choices.now)

pub loop-place-preserved : goal.loop-place-preserved
loop-place-preserved c =
    let choices = c.args.choices.now in
    let chosen : is_selected_at choices c.loop-place.place ≡ c.is_selected.result = ap is_selected (get_or_default choices c.loop-place.place Left _ c.loop-place-test.true) ∙ sym c.is_selected.ensures in
    elim c.if-is_selected.branch [
      | then-is_selected+in_ok-push w ↦ rw (w.tests-is, w.in_ok-push.ensures.items) (selected_more choices _ _ c.loop-place.invariant (chosen ∙ w.if-is_selected.true))
      | else-is_selected w ↦ rw w.tests-is (selected_less choices _ _ c.loop-place.invariant (chosen ∙ w.if-is_selected.false))
    ]

pub returns : goal.returns
returns c = selected_all c.args.choices.now c.loop-place.place c.loop-place.tests.items c.loop-place.invariant c.loop-place-test.false
