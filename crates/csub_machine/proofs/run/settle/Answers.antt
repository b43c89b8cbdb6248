use Rattle.std.proofs.Common.{refl}
use Rattle.csub_semantics.specs.Syntax.{program_tree}
use Rattle.csub_machine.proofs.Moves.{settled}
use Rattle.csub_machine.proofs.run.settle.Goals as goal

pub returns-clause-at : goal.returns-clause-at
returns-clause-at c = settled (program_tree c.args.program.now) c.args.run.now _ c.requires.at c.requires.ended c.requires.later refl refl refl refl refl
