-- Which tests are selected, and for which edge.
use Rattle.std.specs.Prelude.{Bool, true, false, List}
use Rattle.edge_trace.specs.Rows.{IsLeastCommon, NoneCommon}
use Rattle.test_select.specs.declared.choice.Choice.{Choice}
use Rattle.test_select.specs.declared.choice.Choice.TheVariants.{Selected, Left}

-- the choice for a test that crossed these edges: it is selected for the least dangerous edge among them, and left where
-- none of them is dangerous
abbrev pub Chooses : List Bool → List Bool → Choice → Type 0
Chooses crossed danger (Selected edge) = IsLeastCommon crossed danger edge
Chooses crossed danger Left = NoneCommon crossed danger

-- whether the test is selected
abbrev pub is_selected : Choice → Bool
is_selected (Selected edge) = true
is_selected Left = false
