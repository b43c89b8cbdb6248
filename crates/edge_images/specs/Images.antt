-- Images of old edges by their numbers, and how many of them an old edge has.
use Rattle.std.specs.Prelude.{ℕ, ◌≡◌, ◌≢◌, ◌<◌, ◌↔◌, List, length, slice_get, Some}
use Rattle.csub_semantics.specs.Syntax.{ProgramTree}
use Rattle.csub_semantics.specs.Flows.{Edge, edge_list, flow_of}
use Rattle.csub_semantics.specs.Numbers.{edge_at}
use Rattle.csub_semantics.specs.Books.{Reached, IsImage}
use Rattle.edge_images.specs.declared.image.Image.{Image}
use Rattle.edge_images.specs.declared.image.Image.TheVariants.{Absent, One, Many}

-- the new edge with the number i is an image of the old one with the number e: the same way out of a point that is reached
-- together with the old edge's
pub record IsImageAt (P P' : ProgramTree) (e i : ℕ) : Type 0 where
  pub old : Edge
  pub new : Edge
  pub numbered : edge_at P e ≡ Some old
  pub numbered' : edge_at P' i ≡ Some new
  pub image : IsImage (Reached (flow_of P) (flow_of P')) old new

-- what an answer says of a set of numbers: it is empty, it has this number alone, or it has several
abbrev pub Says : (ℕ → Type 0) → Image → Type 0
Says S Absent = (i : ℕ) → S i → ⊥
Says S (One i) = S i × ((j : ℕ) → S j → j ≡ i)
Says S Many = (i j : ℕ) × S i × S j × (i ≢ j)

-- a list that has for each old edge, at the place of its number, the one answer that says which images it has
pub record AreImages (P P' : ProgramTree) (images : List Image) : Type 0 where
  pub edges : length images ≡ length (edge_list P)
  pub each : (e : ℕ) (image : Image) → e < length (edge_list P) → (slice_get images e ≡ Some image) ↔ Says (IsImageAt P P' e) image

-- the new edge that an answer names has a number below n
abbrev pub IsBelow : ℕ → Image → Type 0
IsBelow n Absent = Unit {0}
IsBelow n (One i) = i < n
IsBelow n Many = Unit {0}
