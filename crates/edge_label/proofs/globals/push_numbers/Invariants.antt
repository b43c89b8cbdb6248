use Rattle.std.proofs.Common.{◌≡◌, ◌++◌, List, map}
use Rattle.csub_semantics.specs.Types.{GlobalTree}
use Rattle.csub_semantics.specs.Globals.{globals_of}
use Rattle.edge_label.specs.Indices.{IsIndex}
use Rattle.edge_label.specs.Tables.{AppendsGlobals}
use Rattle.edge_label.specs.declared.table.Tables.{Tables}
use Rattle.edge_label.proofs.globals.push_numbers.Given as goal

-- the numbers of the globals so far are there
abbrev pub invariant-loop-name : goal.invariant-loop-name
invariant-loop-name l = record {
  names : map (λ name. name.now.now) l.yielded ++ map (λ name. name.now) l.name-iterator ≡ l.names;
  numbers : (tables : Tables) (globals : List GlobalTree) → IsIndex tables globals l.numbers.by_name.entries
      → AppendsGlobals tables (globals_of globals (map (λ name. name.now.now) l.yielded)) l.fn.code.items l.code.items;
}
