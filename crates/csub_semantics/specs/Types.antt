-- Objects of file scope as values. Their types are those of csub_objects.
use Rattle.std.specs.Prelude.{ℤ, List}
use Rattle.csub_objects.specs.Types.{Name, TypeTree}
use Rattle.csub_objects.specs.Meaning.{type_tree}
use Rattle.csub_semantics.specs.declared.types.GlobalVar.{GlobalVar}

-- an object of file scope: its name, its declared type, and what its cells hold when a run begins
pub record GlobalTree : Type 0 where
  pub name : Name
  pub ctype : TypeTree
  pub initial : List ℤ

abbrev pub global_tree : GlobalVar → GlobalTree
global_tree g = record { name = g.name; ctype = type_tree g.ctype; initial = g.initial.items }
