use denote.Param.Send.{sendable}
use Rattle.std.proofs.Crossing.{crosses}
use Rattle.csub_core.proofs.LawsThreads.{Program-send, Program-sync}
use Rattle.program_tests.proofs.threads.a_program_goes_between_threads.Goals as goal

-- src/threads.rt:34:16
pub map_chunks-requires-send-X : goal.map_chunks-requires-send-X
map_chunks-requires-send-X g c κs = search (Program-send, crosses, sendable) depth 60

-- src/threads.rt:34:16
pub map_chunks-requires-sync-T : goal.map_chunks-requires-sync-T
map_chunks-requires-sync-T g c κs = search (Program-sync, crosses, sendable) depth 60
