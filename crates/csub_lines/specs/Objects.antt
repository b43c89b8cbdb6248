-- A declared object of a function by itself. No definition of what a source stands for needs this file.
use Rattle.std.specs.Prelude.{Option}
use Rattle.csub_tree.specs.Declarations.{Declarator}
use Rattle.csub_objects.specs.Types.{TypeTree}
use Rattle.csub_semantics.specs.Syntax.{LocalTree}
use Rattle.csub_rules.specs.Declarators.{object_type}
use Rattle.csub_rules.specs.Here.{Here, number_of}
use Rattle.csub_rules.specs.Heads.{sure_type}

abbrev pub local_of : Here → Option TypeTree → Declarator → LocalTree
local_of here base d =
    record { name = d.name.text; number = number_of d.name.text here.before; ctype = sure_type (object_type here.scope base d.dims) }
