-- An index of globals by their names.
use Rattle.std.specs.Prelude.{ℕ, List, Option, Some, None}
use Rattle.std.specs.Borrow.{Bor}
use Rattle.std.specs.Str.{bytes_eq}
use Rattle.std.specs.Map.{lookup}
use Rattle.csub_objects.specs.Types.{Name}
use Rattle.csub_semantics.specs.Types.{GlobalTree}
use Rattle.csub_semantics.specs.Globals.{global_of}
use Rattle.edge_label.specs.Tables.{IsGlobalNumber}
use Rattle.edge_label.specs.declared.table.Tables.{Tables}

-- two look-ups agree: both find nothing, or what they find is related
abbrev pub Agree : {A B : Type 0} → (A → B → Type 0) → Option A → Option B → Type 0
Agree R None None = Unit {0}
Agree R None (Some b) = ⊥
Agree R (Some a) None = ⊥
Agree R (Some a) (Some b) = R a b

-- each name of a global has the number of the first global of that name, and no other name has one
abbrev pub IsIndex : Tables → List GlobalTree → List (Bor (List ℕ) × ℕ) → Type 0
IsIndex tables globals entries = (name : Name) → Agree (IsGlobalNumber tables) (lookup (λ key. bytes_eq name key.now) entries) (global_of globals name)
