-- The slots at the beginning of a run.
use Rattle.std.specs.Prelude.{List, [], ◌∷◌, ◌++◌, map}
use Rattle.csub_semantics.specs.Types.{GlobalTree}
use Rattle.csub_slots.specs.Layout.{Slot, holding}

-- the slots of globals, with their initial contents: a number for each of their cells (C11 6.7.9p10)
abbrev pub opening_slots : List GlobalTree → List Slot
opening_slots [] = []
opening_slots (g ∷ rest) = map holding g.initial ++ opening_slots rest
