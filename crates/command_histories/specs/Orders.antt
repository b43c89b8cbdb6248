-- What `order` writes: the selected tests in the order of additional edge coverage.
use Rattle.std.specs.Prelude.{ℕ, ◌≡◌, List}
use Rattle.csub_semantics.specs.Syntax.{ProgramTree}
use Rattle.test_history.specs.Histories.{HistoryParts}
use Rattle.test_select.specs.declared.choice.Choice.{Choice}
use Rattle.test_order.specs.declared.placed.Placed.{Placed}
use Rattle.test_order.specs.Orders.{IsOrder}
use Rattle.test_order.specs.OrderTexts.{order_text}
use Rattle.command_files.specs.Choices.{IsChosen}

-- the text of `order` for the old source's program, the new program and the bytes of a history file
pub record IsOrdering (old bytes : List ℕ) (P P' : ProgramTree) (text : List ℕ) : Type 0 where
  pub history : HistoryParts
  pub choices : List Choice
  pub chosen : IsChosen old bytes P P' history choices
  pub placed : List Placed
  pub order : IsOrder history.entries choices placed
  pub is : text ≡ order_text history.entries placed
