-- What `select` writes: for each test of a history of the old source, whether it has to run again on the new one.
use Rattle.std.specs.Prelude.{ℕ, ◌≡◌, List}
use Rattle.csub_semantics.specs.Syntax.{ProgramTree}
use Rattle.test_history.specs.Histories.{HistoryParts}
use Rattle.test_select.specs.declared.choice.Choice.{Choice}
use Rattle.test_select.specs.SelectTexts.{select_text}
use Rattle.command_files.specs.Choices.{IsChosen}

-- the text of `select` for the old source's program, the new program and the bytes of a history file
pub record IsSelection (old bytes : List ℕ) (P P' : ProgramTree) (text : List ℕ) : Type 0 where
  pub history : HistoryParts
  pub choices : List Choice
  pub chosen : IsChosen old bytes P P' history choices
  pub is : text ≡ select_text history.entries choices
