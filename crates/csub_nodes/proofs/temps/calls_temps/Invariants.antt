use Rattle.std.proofs.Common.{◌≡◌, ◌+◌, map, drop}
use Rattle.csub_semantics.specs.Syntax.{call_stage}
use Rattle.csub_resolution.specs.Programs.{part_temps}
use Rattle.csub_nodes.proofs.temps.calls_temps.Given as goal

abbrev pub invariant-loop-call : goal.invariant-loop-call
invariant-loop-call l = l.count + part_temps (map (call_stage l.fn.span) (drop l.call-index l.calls)) ≡ part_temps (map (call_stage l.fn.span) l.calls)
