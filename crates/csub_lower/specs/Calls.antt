-- The arguments of calls, one after the other.
use Rattle.std.specs.Prelude.{ℕ, ◌+◌, List, [], ◌∷◌, false}
use Rattle.csub_tree.specs.Expressions.{Exprs, NoExprs, MoreExprs}
use Rattle.csub_scopes.specs.Scopes.{Scope}
use Rattle.csub_semantics.specs.Trees.{NamedExpr}
use Rattle.csub_rules.specs.Fine.{Fine}
use Rattle.csub_resolution.specs.Values.{count, value}

-- each of these can be resolved
abbrev pub FineEach : Scope → Exprs → Type 0
FineEach scope NoExprs = Unit {0}
FineEach scope (MoreExprs e rest) = Fine scope false e × FineEach scope rest

-- what these give, of whose calls k are made before
abbrev pub value_list : Scope → ℕ → Exprs → List NamedExpr
value_list scope k NoExprs = []
value_list scope k (MoreExprs e rest) = value scope k e ∷ value_list scope (k + count scope e) rest
