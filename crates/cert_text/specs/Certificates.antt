-- What a certificate is made of, and the limits of its parts.
use Rattle.std.specs.Prelude.{◌≡◌, ◌≤◌, ◌<◌, ◌⊎◌, ⊤, ℕ, Bool, List, [], ◌∷◌, length, All, Option, Some, None}
use Rattle.cert_text.specs.declared.bounds.Bounds.{Bounds}
use Rattle.cert_text.specs.declared.pair.Pair.{Pair}
use Rattle.line_text.specs.Values.{IsDigest}

-- a certificate as contracts see it: the SHA-256 digests of the old and the new source, the row of the old program's edges
-- at which the versions may part, and the pairs of points that are claimed
pub record CertificateParts : Type 0 where
  pub old : List ℕ
  pub new : List ℕ
  pub danger : List Bool
  pub pairs : List Pair

-- the greatest number of pairs
abbrev pub most_pairs : ℕ
most_pairs = 100000000

-- a pair stands before another: by its old point, and then by its new one
abbrev pub IsBefore : Pair → Pair → Type 0
IsBefore a b = (a.old < b.old) ⊎ ((a.old ≡ b.old) × (a.new < b.new))

-- something comes after the last of what stands before it, where anything does
abbrev pub IsAfter : {X : Type 0} → (X → X → Type 0) → Option X → X → Type 0
IsAfter before None x = ⊤
IsAfter before (Some last) x = before last x

-- each of a list comes after the one before it, and the first after the last of what stands before the list
abbrev pub RiseAfter : {X : Type 0} → (X → X → Type 0) → Option X → List X → Type 0
RiseAfter before last [] = ⊤
RiseAfter before last (x ∷ more) = IsAfter before last x × RiseAfter before (Some x) more

-- each pair stands before the next
abbrev pub Rise : List Pair → Type 0
Rise pairs = RiseAfter IsBefore None pairs

-- both points of a pair are numbers of points
abbrev pub IsBelow : Bounds → Pair → Type 0
IsBelow bounds pair = (pair.old < bounds.old_points) × (pair.new < bounds.new_points)

-- what every certificate keeps: its digests have 32 bytes
pub record IsKept (old new : List ℕ) : Type 0 where
  pub old_size : length old ≡ 32
  pub new_size : length new ≡ 32

-- a certificate that has a text: its pairs rise, and they are not too many
pub record IsWithin (certificate : CertificateParts) : Type 0 where
  pub rise : Rise certificate.pairs
  pub few : length certificate.pairs ≤ most_pairs

-- a certificate that can be read back from its text, of programs with so many edges and points
pub record IsReadable (bounds : Bounds) (certificate : CertificateParts) : Type 0 where
  pub old : IsDigest certificate.old
  pub new : IsDigest certificate.new
  pub edges : length certificate.danger ≡ bounds.edges
  pub below : All (IsBelow bounds) certificate.pairs
  pub within : IsWithin certificate
