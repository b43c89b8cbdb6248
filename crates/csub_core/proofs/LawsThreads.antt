-- A program may cross threads.
use denote.Param.Send.{IsSend, IsSync, sendable}
use Rattle.std.proofs.Crossing.{crosses}
use Rattle.csub_semantics.proofs.LawsThreads.{Function-send, Function-sync, GlobalVar-send, GlobalVar-sync}
use Rattle.csub_core.specs.contracts.program.Program as Program

pub Program-send : IsSend Program.the_row
Program-send = search (Function-send, GlobalVar-send, crosses, sendable) depth 60

pub Program-sync : IsSync Program.the_row
Program-sync = search (Function-sync, GlobalVar-sync, crosses, sendable) depth 60
