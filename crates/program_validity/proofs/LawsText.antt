-- The program of what a text spells is valid, where it breaks no rule and passes no limit. Crates above cite this.
use Rattle.std.proofs.Common.{◌≡◌, None}
use Rattle.std.proofs.Math.Nat.{le_trans}
use Rattle.csub_tree.specs.Units.{Source}
use Rattle.csub_validity.specs.Valid.{IsValid}
use Rattle.csub_rules.specs.Units.{unit_fault}
use Rattle.csub_resolution.specs.Programs.{program_of}
use Rattle.csub_limits.specs.Limits.{limit_passed}
use Rattle.program_validity.specs.Texts.{HasText}
use Rattle.program_validity.proofs.Fitting.{fit, few}
use Rattle.program_validity.proofs.LawsShort.{short}
use Rattle.program_validity.proofs.LawsSpelled.{none_is_start}
use Rattle.program_validity.proofs.LawsValid.{valid_program}
use Rattle.program_validity.proofs.LawsWritten.{written}

pub valid_text : (u : Source) → HasText u → unit_fault u ≡ None → limit_passed u ≡ None → IsValid (program_of u)
valid_text u text fault limit =
    valid_program u fault limit
    (written u text.tokens text.spelled (fit text.bytes text.tokens text.cut))
    (none_is_start text.bytes text.tokens u text.cut text.spelled)
    (short u text.tokens text.spelled (le_trans (few text.bytes text.tokens text.cut) text.short))
