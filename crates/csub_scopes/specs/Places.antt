-- How a table finds the latest declaration of a name. No definition of what names mean needs this file.
use Rattle.std.specs.Prelude.{ℕ, ◌≡◌, List, [], ◌∷◌, length, Option, Some, None, Vec, bytes_eq, count_by, if◌then◌else◌}
use Rattle.std.specs.declared.alloc.Global.{Global}
use Rattle.indexmap.specs.IndexMap.{IndexMap, get_by}
use Rattle.csub_objects.specs.Types.{Name}

-- the place of the latest declaration of a name among declared names, the latest first; places are counted from the first
-- declaration on, so that they stay when more is declared
abbrev pub place : Name → List Name → Option ℕ
place name [] = None
place name (x ∷ rest) = if bytes_eq x name then Some (length rest) else place name rest

abbrev pub flat : Option (Option ℕ) → Option ℕ
flat None = None
flat (Some place) = place

-- the place that a map has for a name
abbrev pub placed : {S : Type 0} → IndexMap (Vec ℕ Global) (Option ℕ) S → Name → Option ℕ
placed latest name = flat (get_by (λ key. bytes_eq name key.items) latest)

-- the map has the place of each name's latest declaration
abbrev pub ArePlaces : {S : Type 0} → IndexMap (Vec ℕ Global) (Option ℕ) S → List Name → Type 0
ArePlaces latest names = (name : Name) → placed latest name ≡ place name names

-- the same map as one of counts, where a name without an entry has none
abbrev pub counted : Option ℕ → ℕ
counted None = 0
counted (Some n) = n

abbrev pub AreCounts : {S : Type 0} → IndexMap (Vec ℕ Global) (Option ℕ) S → List Name → Type 0
AreCounts counts names = (name : Name) → counted (placed counts name) ≡ count_by (λ other. bytes_eq other name) names
