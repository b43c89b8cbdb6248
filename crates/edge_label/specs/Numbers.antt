-- Books of labels. A book is seen as the list of its labels, in the order of their numbers.
use Rattle.std.specs.Prelude.{◌≡◌, ◌⊎◌, ℕ, List, [], ◌∷◌, ◌++◌, Some, map, slice_get}
use Rattle.csub_semantics.specs.Types.{GlobalTree}
use Rattle.csub_semantics.specs.Labels.{LabelTree, PointLabel}
use Rattle.csub_semantics.specs.Globals.{named_globals}

-- the book has this number for this label
abbrev pub HasNumber : List PointLabel → ℕ → PointLabel → Type 0
HasNumber book n label = slice_get book n ≡ Some label

-- the book has these numbers for these labels
abbrev pub HaveNumbers : List PointLabel → List ℕ → List PointLabel → Type 0
HaveNumbers book numbers labels = map (slice_get book) numbers ≡ map Some labels

-- no number changes its label
abbrev pub KeepsNumbers : List PointLabel → List PointLabel → Type 0
KeepsNumbers old new = (n : ℕ) (label : PointLabel) → HasNumber old n label → HasNumber new n label

-- the book is as it was, or has this label behind the others
abbrev pub AddsOnly : List PointLabel → List PointLabel → PointLabel → Type 0
AddsOnly old new label = (new ≡ old) ⊎ (new ≡ old ++ label ∷ [])

-- a whole label: a tree, and each of some globals that the tree names
abbrev pub whole : List GlobalTree → LabelTree → PointLabel
whole globals tree = record { tree = tree; globals = named_globals globals tree }

-- nothing stands twice in a list, so that each value there has one number
abbrev pub HasEachOnce : {A : Type 0} → List A → Type 0
HasEachOnce {A} values = (i j : ℕ) (value : A) → slice_get values i ≡ Some value → slice_get values j ≡ Some value → i ≡ j
