-- Which entries stay, as flags, and results laid beside the others: what the functions inside say of themselves.
use Rattle.std.specs.Prelude.{ℕ, ◌≡◌, ◌↔◌, Bool, true, false, not, List, [], ◌∷◌, length, slice_get, Some, IsTrue}
use Rattle.std.specs.List.{AllZip, zip}
use Rattle.edge_trace.specs.Rows.{has}
use Rattle.test_suite.specs.Tests.{TestParts}
use Rattle.test_history.specs.Histories.{EntryParts}
use Rattle.test_select.specs.declared.choice.Choice.{Choice}
use Rattle.edge_images.specs.declared.image.Image.{Image}
use Rattle.edge_images.specs.declared.image.Image.TheVariants.{Absent, One, Many}
use Rattle.carry_history.specs.Carried.{Stays, IsMoved}

-- whether an edge has one image
abbrev pub is_one : Image → Bool
is_one Absent = false
is_one (One i) = true
is_one Many = false

-- a row of the edges that have not one image
pub record AreUnsettled (images : List Image) (row : List Bool) : Type 0 where
  pub edges : length row ≡ length images
  pub each : (e : ℕ) (image : Image) → slice_get images e ≡ Some image → has row e ≡ not (is_one image)

-- the flag of each entry with its choice says whether it stays
abbrev pub AreStays : List Image → List EntryParts → List Choice → List Bool → Type 0
AreStays images entries choices stays = AllZip (λ both stay. IsTrue stay ↔ Stays images both.0 both.1) (zip entries choices) stays

-- the tests of the entries that don't stay, in order
abbrev pub tests_again : List EntryParts → List Bool → List TestParts
tests_again (entry ∷ entries) (true ∷ stays) = tests_again entries stays
tests_again (entry ∷ entries) (false ∷ stays) = entry.test ∷ tests_again entries stays
tests_again entries stays = []

-- entries that stay, moved, and results in the place of the others, in order
abbrev pub AreLaid : ℕ → List Image → List EntryParts → List Bool → List EntryParts → List EntryParts → Type 0
AreLaid edges images (entry ∷ entries) (true ∷ stays) results (after ∷ afters) =
    IsMoved edges images entry after × AreLaid edges images entries stays results afters
AreLaid edges images (entry ∷ entries) (false ∷ stays) (result ∷ results) (after ∷ afters) =
    (after ≡ result) × AreLaid edges images entries stays results afters
AreLaid edges images entries stays results afters = (entries ≡ []) × (stays ≡ []) × (results ≡ []) × (afters ≡ [])
