-- What the line of a verdict needs of the graph of the old program.
use Rattle.std.specs.Prelude.{◌<◌}
use Rattle.flow_graph.specs.Graph.{Tables, edge_count}
use Rattle.walk_cert.specs.declared.answer.Verdict.{Verdict}
use Rattle.walk_cert.specs.declared.answer.Verdict.TheVariants.{Exit}

-- the edge that a verdict names is one of the graph
abbrev pub HasEdgeWithin : Tables → Verdict → Type 0
HasEdgeWithin g (Exit pair e) = e < edge_count g
HasEdgeWithin g verdict = Unit {0}
