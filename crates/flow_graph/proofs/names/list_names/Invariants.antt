use Rattle.std.proofs.Common.{◌≡◌, ◌<◌, length, drop, IfSome, bytes_eq}
use Rattle.std.specs.List.{slice_get, find}
use Rattle.std.specs.Option.{option_and_then}
use Rattle.csub_objects.specs.Types.{Name}
use Rattle.flow_graph.specs.Names.{number_of}
use Rattle.flow_graph.proofs.names.list_names.Given as goal

-- the functions from here on are entered
abbrev pub invariant-loop-i : goal.invariant-loop-i
invariant-loop-i l = record {
  found : (a : Name) → option_and_then (slice_get l.functions) (number_of l.names a) ≡ find (λ f. bytes_eq f.name a) (drop l.i l.functions);
  within : (a : Name) → IfSome (number_of l.names a) (λ n. n < length l.functions);
}
