-- Where a statement stands: what it sees, and the objects that are declared before it in its function.
use Rattle.std.specs.Prelude.{ℕ, ◌+◌, List, ◌∷◌, Bool, false, Option, Some, None, count_by, nat_eq, bytes_eq, is_some}
use Rattle.csub_objects.specs.Types.{Name, TypeTree}
use Rattle.csub_scopes.specs.Scopes.{Scope, Declared, Meaning, local_object, untyped, find}
use Rattle.csub_rules.specs.Library.{library_name}

-- the depth is the number of blocks that stand round, 1 for the parameters and the lines of a function's body (C11 6.2.1p4);
-- the objects of the function so far are told by their names, parameters too, the latest first
pub record Here : Type 0 where
  pub scope : Scope
  pub depth : ℕ
  pub before : List Name

-- inside one more block
abbrev pub entering : Here → Here
entering here = record here { depth = here.depth + 1 }

-- behind a block: what is declared inside is seen no more (C11 6.2.1p4)
abbrev pub leaving : Here → Here → Here
leaving here inner = record here { before = inner.before }

-- the number of an object among those of its name in its function, counted from 1
abbrev pub number_of : Name → List Name → ℕ
number_of x before = count_by (λ y. bytes_eq y x) before + 1

-- what a declared object of the function means, by its type
abbrev pub local_meaning : ℕ → Option TypeTree → Meaning
local_meaning n None = untyped
local_meaning n (Some t) = local_object n t

-- one more object is declared
abbrev pub declaring : Here → Name → Option TypeTree → Here
declaring here x t = record {
  scope =
      record here.scope { names = record { name = x; depth = here.depth; means = local_meaning (number_of x here.before) t } ∷ here.scope.names };
  depth = here.depth;
  before = x ∷ here.before;
}

-- M2: a name is declared in this block already (C11 6.7p3)
abbrev pub stands_at : ℕ → Option Declared → Bool
stands_at depth None = false
stands_at depth (Some d) = nat_eq d.depth depth

abbrev pub is_declared : Here → Name → Bool
is_declared here x = stands_at here.depth (find x here.scope.names)

-- M3: the name is one of the library's (C11 7.1.3)
abbrev pub is_reserved : Name → Bool
is_reserved x = is_some (library_name x)
