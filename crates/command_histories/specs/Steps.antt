-- What the steps of `order` and `carry` answer once the tests are chosen.
use Rattle.std.specs.Prelude.{ℕ, ◌≡◌, List}
use Rattle.csub_semantics.specs.Syntax.{ProgramTree}
use Rattle.test_history.specs.Histories.{EntryParts, HistoryParts}
use Rattle.test_select.specs.declared.choice.Choice.{Choice}
use Rattle.test_order.specs.declared.placed.Placed.{Placed}
use Rattle.test_order.specs.Orders.{IsOrder}
use Rattle.test_order.specs.OrderTexts.{order_text}
use Rattle.edge_images.specs.declared.image.Image.{Image}
use Rattle.edge_images.specs.Images.{AreImages}
use Rattle.carry_history.specs.Carried.{IsCarried}

-- the text of the order of the tests with these choices
pub record HasOrder (entries : List EntryParts) (choices : List Choice) (text : List ℕ) : Type 0 where
  pub placed : List Placed
  pub order : IsOrder entries choices placed
  pub is : text ≡ order_text entries placed

-- the history of the new source that is carried by the images of the old edges
pub record HasCarried (P P' : ProgramTree) (new : List ℕ) (choices : List Choice) (history after : HistoryParts) : Type 0 where
  pub images : List Image
  pub are : AreImages P P' images
  pub carried : IsCarried P' new images choices history after
