-- How lengths are looked at. No definition of what they mean needs this file.
use Rattle.std.specs.Prelude.{List, Bool}
use Rattle.std.specs.List.{list_any}
use Rattle.csub_tree.specs.Expressions.{Expr}
use Rattle.csub_scopes.specs.Scopes.{Scope}
use Rattle.csub_rules.specs.Constants.{constant}
use Rattle.csub_rules.specs.Declarators.{is_bad_length}

-- one of the lengths is a constant, and isn't 1 to 65,536
abbrev pub any_bad : Scope → List Expr → Bool
any_bad scope dims = list_any (λ d. is_bad_length (constant scope d)) dims
