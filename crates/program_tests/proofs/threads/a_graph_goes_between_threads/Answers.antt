use denote.Param.Send.{sendable}
use Rattle.std.proofs.Crossing.{crosses}
use Rattle.flow_graph.proofs.LawsThreads.{Graph-send, Graph-sync}
use Rattle.program_tests.proofs.threads.a_graph_goes_between_threads.Goals as goal

-- src/threads.rt:53:16
pub map_chunks-requires-send-X : goal.map_chunks-requires-send-X
map_chunks-requires-send-X g c κs = search (Graph-send, crosses, sendable) depth 60

-- src/threads.rt:53:16
pub map_chunks-requires-sync-T : goal.map_chunks-requires-sync-T
map_chunks-requires-sync-T g c κs = search (Graph-sync, crosses, sendable) depth 60
