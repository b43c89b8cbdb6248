-- How the table of a function's labels tells where a `goto` leads. No definition of what the graph is needs this file.
use Rattle.std.specs.Prelude.{ℕ, Option, None, Some, Vec, bytes_eq}
use Rattle.std.specs.declared.alloc.Global.{Global}
use Rattle.indexmap.specs.IndexMap.{IndexMap, get_by}
use Rattle.csub_objects.specs.Types.{Name}
use Rattle.flow_graph.specs.declared.jumps.Jumps.{Jumps}

-- what is entered by a name
abbrev pub entry_of : {S : Type 0} → IndexMap (Vec ℕ Global) ℕ S → Name → Option ℕ
entry_of table name = get_by (λ key. bytes_eq name key.items) table

abbrev pub to_or : Option ℕ → ℕ → ℕ
to_or None exit = exit
to_or (Some to) exit = to

abbrev pub jump_by : Jumps → Name → ℕ
jump_by jumps name = to_or (entry_of jumps.table name) jumps.exit
