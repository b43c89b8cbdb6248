-- A history that is carried from a recorded one is what recording on the new program gives.
use Rattle.std.specs.Prelude.{ℕ, List, map, All}
use Rattle.std.specs.List.{AllZip}
use Rattle.csub_semantics.specs.Syntax.{ProgramTree}
use Rattle.call_walk.specs.declared.answer.WalkResult.{WalkResult}
use Rattle.call_walk.specs.Walks.{IsWalk}
use Rattle.test_history.specs.Histories.{HistoryParts}
use Rattle.test_select.specs.declared.choice.Choice.{Choice}
use Rattle.test_select.specs.Selection.{Chooses}
use Rattle.edge_images.specs.declared.image.Image.{Image}
use Rattle.edge_images.specs.Images.{AreImages}
use Rattle.test_history.specs.Entries.{IsEntry}
use Rattle.carry_history.specs.Carried.{IsCarried}

-- where each entry of a history is its test with what its run on P gave, and the choices and images are those of a walk of P
-- and P', each entry of the carried history is the test at its place with what its run on P' gives
abbrev pub CarriesRecords : ProgramTree → ProgramTree → Type 0
CarriesRecords P P' =
    (walked : WalkResult) (images : List Image) (choices : List Choice) (source : List ℕ) (history after : HistoryParts) →
    All (λ entry. IsEntry P entry.test entry) history.entries → IsWalk P P' walked → AreImages P P' images →
    AllZip (λ entry choice. Chooses entry.crossed walked.danger choice) history.entries choices →
    IsCarried P' source images choices history after →
    AllZip (IsEntry P') (map (λ entry. entry.test) history.entries) after.entries
