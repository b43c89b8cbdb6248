use denote.Param.Send.{sendable}
use Rattle.std.proofs.Crossing.{crosses}
use Rattle.csub_core.proofs.LawsThreads.{Program-sync}
use Rattle.flow_graph.proofs.LawsThreads.{Graph-sync}
use Rattle.csub_flat.proofs.LawsThreads.{FlatProgram-sync}
use Rattle.suite_run.proofs.parts.run_parts.Goals as goal

pub map_chunks-requires-sync-F : goal.map_chunks-requires-sync-F
map_chunks-requires-sync-F g c κs within = let gate = c.type_bounds.sync-G in search (Program-sync, Graph-sync, FlatProgram-sync, crosses, sendable) depth 60
