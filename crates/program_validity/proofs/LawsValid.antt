-- The program of a source that breaks no rule and passes no limit is valid.
use Rattle.std.proofs.Common.{◌≡◌, None}
use Rattle.csub_tree.specs.Units.{Source}
use Rattle.csub_validity.specs.Valid.{IsValid}
use Rattle.csub_rules.specs.Units.{unit_fault}
use Rattle.csub_resolution.specs.Programs.{program_of}
use Rattle.csub_limits.specs.Limits.{limit_passed}
use Rattle.program_validity.specs.Names.{NoneIsStart}
use Rattle.program_validity.specs.Short.{AreShort}
use Rattle.program_validity.specs.Written.{IsWritten}
use Rattle.program_validity.proofs.LawsBodies.{bodies, labels, lists}
use Rattle.program_validity.proofs.LawsFields.{valid_with}

pub valid_program : (u : Source) → unit_fault u ≡ None → limit_passed u ≡ None → IsWritten u → NoneIsStart u → AreShort (program_of u) → IsValid (program_of u)
valid_program u fault limit written none short =
    valid_with u fault limit none (record {
      bodies = bodies u fault limit written none short;
      labels = labels u fault written;
      lists = lists u short;
    })
