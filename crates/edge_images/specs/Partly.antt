-- Answers on images when some of a walk's facts have been asked: what the functions inside say of themselves.
use Rattle.std.specs.Prelude.{ℕ, ◌≡◌, ◌<◌, ◌⊎◌, List, slice_get, slice_set, slice_index_or, Some, nat_eq, if◌then◌else◌}
use Rattle.csub_semantics.specs.Syntax.{ProgramTree}
use Rattle.csub_semantics.specs.Flows.{Edge}
use Rattle.csub_semantics.specs.Numbers.{site, site_at, edge_at}
use Rattle.dual_walk.specs.declared.fact.Fact.{Fact}
use Rattle.edge_images.specs.declared.image.Image.{Image}
use Rattle.edge_images.specs.declared.image.Image.TheVariants.{Absent, One, Many}
use Rattle.edge_images.specs.Images.{Says}

-- the old edge with the number e leaves the fact's old point, and the new one with the number i its new point, by one way out
pub record IsImageBy (P P' : ProgramTree) (c : Fact) (e i : ℕ) : Type 0 where
  pub old : Edge
  pub new : Edge
  pub numbered : edge_at P e ≡ Some old
  pub numbered' : edge_at P' i ≡ Some new
  pub function : old.function ≡ new.function
  pub exit : old.exit ≡ new.exit
  pub from : site_at P c.old ≡ Some (site old.function old.from)
  pub from' : site_at P' c.new ≡ Some (site new.function new.from)

-- by one of the first n facts
pub record IsImageBefore (P P' : ProgramTree) (facts : List Fact) (n e i : ℕ) : Type 0 where
  pub place : ℕ
  pub fact : Fact
  pub before : place < n
  pub stands : slice_get facts place ≡ Some fact
  pub by : IsImageBy P P' fact e i

-- by one of these, or by the next fact where the edge has a number below m
abbrev pub IsImageUpto : ProgramTree → ProgramTree → List Fact → ℕ → Fact → ℕ → ℕ → ℕ → Type 0
IsImageUpto P P' facts n c m e i = IsImageBefore P P' facts n e i ⊎ ((e < m) × IsImageBy P P' c e i)

-- each answer of a list says what stands of it in a table of old and new edges
abbrev pub Answers : List Image → (ℕ → ℕ → Type 0) → Type 0
Answers images S = (e : ℕ) (image : Image) → slice_get images e ≡ Some image → Says (S e) image

-- an answer with one more image
abbrev pub with_edge : Image → ℕ → Image
with_edge Absent i = One i
with_edge (One k) i = if nat_eq k i then One k else Many
with_edge Many i = Many

-- the answers with the image that an edge has by a fact, if it has one
abbrev pub Notes : ProgramTree → ProgramTree → Fact → ℕ → List Image → List Image → Type 0
Notes P P' c e before after =
    ((i : ℕ) × IsImageBy P P' c e i × (after ≡ slice_set before e (with_edge (slice_index_or before e Absent) i)))
    ⊎ (((i : ℕ) → IsImageBy P P' c e i → ⊥) × (after ≡ before))
