-- What becomes of a history when its source has changed: which entries are carried, and which tests run again.
use Rattle.std.specs.Prelude.{ℕ, ◌≡◌, ◌↔◌, ◌⊎◌, Bool, List, length, slice_get, Some, IsTrue}
use Rattle.std.specs.List.{AllZip, zip}
use Rattle.sha2.specs.Sha256.{sha256}
use Rattle.csub_semantics.specs.Syntax.{ProgramTree}
use Rattle.csub_semantics.specs.Flows.{edge_list}
use Rattle.edge_trace.specs.Rows.{has}
use Rattle.test_history.specs.Histories.{EntryParts, HistoryParts}
use Rattle.test_select.specs.declared.choice.Choice.{Choice}
use Rattle.test_select.specs.declared.choice.Choice.TheVariants.{Left}
use Rattle.edge_images.specs.declared.image.Image.{Image}
use Rattle.edge_images.specs.declared.image.Image.TheVariants.{One}
use Rattle.test_history.specs.Entries.{IsEntry}

-- an entry is carried where its test was left and each edge that it crosses has one image
pub record Stays (images : List Image) (entry : EntryParts) (choice : Choice) : Type 0 where
  pub left : choice ≡ Left
  pub one : (e : ℕ) → IsTrue (has entry.crossed e) → (i : ℕ) × (slice_get images e ≡ Some (One i))

-- a row of so many edges has the images of those of another, and no others
pub record AreImagesOf (count : ℕ) (images : List Image) (crossed row : List Bool) : Type 0 where
  pub edges : length row ≡ count
  pub each : (i : ℕ) → IsTrue (has row i) ↔ ((e : ℕ) × IsTrue (has crossed e) × (slice_get images e ≡ Some (One i)))

-- the same test with the same results, and images in the place of its edges
pub record IsMoved (edges : ℕ) (images : List Image) (entry after : EntryParts) : Type 0 where
  pub test : after.test ≡ entry.test
  pub status : after.status ≡ entry.status
  pub turns : after.turns ≡ entry.turns
  pub output : after.output ≡ entry.output
  pub crossed : AreImagesOf edges images entry.crossed after.crossed

-- what an entry with its choice becomes: it is carried, or else its test has run on the new program
abbrev pub Becomes : ProgramTree → List Image → EntryParts × Choice → EntryParts → Type 0
Becomes P images (entry, choice) after =
    (Stays images entry choice × IsMoved (length (edge_list P)) images entry after)
    ⊎ ((Stays images entry choice → ⊥) × IsEntry P entry.test after)

-- the history of the new source and its program: each entry is what the one at its place becomes
pub record IsCarried (P : ProgramTree) (source : List ℕ) (images : List Image) (choices : List Choice) (history after : HistoryParts) : Type 0 where
  pub digest : after.digest ≡ sha256 source
  pub edges : after.edges ≡ length (edge_list P)
  pub entries : AllZip (Becomes P images) (zip history.entries choices) after.entries
