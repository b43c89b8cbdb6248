-- Names in the order in which they came, and what a struct keeps of its members.
use Rattle.std.specs.Prelude.{ℕ, zero, suc, ◌+◌, ◌<◌, ◌≡◌, ◌↔◌, List, [], ◌∷◌, length, get_or, map, Bool, IsTrue}
use Rattle.csub_objects.specs.Types.{Name, MemberTree, members_of, HaveDifferentNames}
use Rattle.csub_objects.specs.Types.{cells, member_cells, member_levels, HaveArrays, IsCapped}

-- no name of a list is this one
abbrev pub IsNew : Name → List Name → Type 0
IsNew name names = (k : ℕ) → k < length names → get_or names k [] ≡ name → ⊥

-- a name stands at place n of a list, and at none before
pub record StandsAt (names : List Name) (name : Name) (n : ℕ) : Type 0 where
  pub within : n < length names
  pub is : get_or names n [] ≡ name
  pub first : (k : ℕ) → k < n → get_or names k [] ≡ name → ⊥

-- the cells of the first k members
abbrev pub cells_before : ℕ → List MemberTree → ℕ
cells_before zero ms = 0
cells_before (suc k) [] = 0
cells_before (suc k) (m ∷ rest) = cells m.ctype + cells_before k rest

-- each member's first cell
pub record AreFirst (firsts : List ℕ) (ms : List MemberTree) : Type 0 where
  pub count : length firsts ≡ length ms
  pub each : (k : ℕ) → k < length firsts → IsCapped (get_or firsts k 0) (cells_before k ms)

-- what is kept beside a struct's members is right
pub record IsKept (ms : List MemberTree) (names : List Name) (firsts : List ℕ) (all high : ℕ) (fine : Bool) : Type 0 where
  pub named : names ≡ map (λ m. m.name) ms
  pub apart : HaveDifferentNames ms
  pub places : AreFirst firsts ms
  pub cells : IsCapped all (member_cells (members_of ms))
  pub levels : IsCapped high (member_levels (members_of ms))
  pub arrays : IsTrue fine ↔ HaveArrays (members_of ms)
