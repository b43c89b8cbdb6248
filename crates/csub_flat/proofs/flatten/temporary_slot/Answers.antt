use Rattle.std.proofs.Common.{arith}
use Rattle.csub_flat.specs.Scopes.{function_at}
use Rattle.csub_flat.proofs.Slots.{slot_of_temporary}
use Rattle.csub_flat.proofs.flatten.temporary_slot.Goals as goal

pub overflow_add-result : goal.overflow_add-result
overflow_add-result c = let first = c.args.scope.placed.first in let few = c.args.scope.small in omega arith

pub returns : goal.returns
returns c = slot_of_temporary (function_at c.args.scope) c.args.number c.args.scope.frame.now.first (omega arith) (omega arith) c.args.scope.placed.first
