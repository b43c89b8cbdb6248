-- Initialisers of objects of functions, whatever the types of the objects. No definition of what a source stands for needs
-- this file.
use Rattle.std.specs.Prelude.{ℕ, ◌+◌, false, List, [], ◌∷◌, ◌++◌, map, Option, Some, None, IsTrue}
use Rattle.csub_tree.specs.Declarations.{Init, Inits, One, Listed, NoInits, MoreInits}
use Rattle.csub_tree.specs.declared.name.Name.{Name as NameAt}
use Rattle.csub_objects.specs.Types.{TypeTree}
use Rattle.csub_semantics.specs.Trees.{local_owner}
use Rattle.csub_semantics.specs.Labels.{InitTree, initialises}
use Rattle.csub_semantics.specs.Syntax.{PartTree, in_part}
use Rattle.csub_scopes.specs.Scopes.{Scope}
use Rattle.csub_rules.specs.Sorts.{is_number}
use Rattle.csub_rules.specs.ExprSorts.{sort_of}
use Rattle.csub_rules.specs.Fine.{Fine}
use Rattle.csub_resolution.specs.Values.{Defined}
use Rattle.csub_resolution.specs.Contents.{init_count, init_value, init_calls}
use Rattle.csub_resolution.specs.Lines.{own}

-- each expression of an initialiser can be resolved, and is a number
abbrev mutual
  pub AreNumbers : Scope → Init → Type 0
  AreNumbers scope (One e) = Fine scope false e × IsTrue (is_number (sort_of scope e))
  AreNumbers scope (Listed xs s) = AllNumbers scope xs

  pub AllNumbers : Scope → Inits → Type 0
  AllNumbers scope NoInits = Unit {0}
  AllNumbers scope (MoreInits x rest) = AreNumbers scope x × AllNumbers scope rest

abbrev pub HasNumbers : Scope → Option Init → Type 0
HasNumbers scope None = Unit {0}
HasNumbers scope (Some x) = AreNumbers scope x

-- the entries of a list, one after the other
abbrev pub value_list : Scope → ℕ → Inits → List InitTree
value_list scope k NoInits = []
value_list scope k (MoreInits x rest) = init_value scope k x ∷ value_list scope (k + init_count scope x) rest

-- the part of a declared object, where it has an initialiser
abbrev pub part_of_object : List Defined → Scope → NameAt → ℕ → TypeTree → Init → PartTree
part_of_object defined scope x n t i =
    map (in_part x.span) (init_calls defined scope 0 i) ++ own (initialises (local_owner x.text n) t (init_value scope 0 i)) x.span

abbrev pub parts_of_object : List Defined → Scope → NameAt → ℕ → TypeTree → Option Init → List PartTree
parts_of_object defined scope x n t None = []
parts_of_object defined scope x n t (Some i) = part_of_object defined scope x n t i ∷ []
