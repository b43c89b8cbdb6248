-- A source has a valid program where it is accepted.
use Rattle.std.proofs.Common.{◌≡◌, ℕ, List, None, refl, sym, subst}
use Rattle.csub_tree.specs.Units.{Source}
use Rattle.csub_rules.specs.Units.{unit_fault}
use Rattle.csub_limits.specs.Limits.{limit_passed}
use Rattle.csub_resolution.specs.Programs.{program_of}
use Rattle.csub_semantics.specs.Syntax.{ProgramTree}
use Rattle.csub_validity.specs.Valid.{IsValid}
use Rattle.csub_answers.specs.Accepted.{Reads, Accepted}
use Rattle.program_validity.specs.Texts.{HasText}
use Rattle.program_validity.proofs.LawsText.{valid_text}
use Rattle.source_laws.specs.Programs.{HasProgram}

has_text : (bytes : List ℕ) (u : Source) → Reads bytes u → HasText u
has_text bytes u reads = record { bytes = bytes; short = reads.short; tokens = reads.tokens; cut = reads.cut; spelled = reads.spelled.1 }

valid_of : (bytes : List ℕ) (u : Source) → Reads bytes u → unit_fault u ≡ None → limit_passed u ≡ None → IsValid (program_of u)
valid_of bytes u reads unbroken within = valid_text u (has_text bytes u reads) unbroken within

pub accepted_valid : (bytes : List ℕ) (P : ProgramTree) → Accepted bytes P → IsValid P
accepted_valid bytes P accepted =
    let resolved = accepted.resolved in
    subst IsValid (sym resolved.program) (valid_of bytes accepted.source accepted.reads resolved.unbroken resolved.within)

pub has_program : (bytes : List ℕ) (u : Source) → Reads bytes u → unit_fault u ≡ None → limit_passed u ≡ None → HasProgram bytes
has_program bytes u reads unbroken within = record {
  program = program_of u;
  accepted = record { source = u; reads = reads; resolved = record { unbroken = unbroken; within = within; program = refl } };
  valid = valid_of bytes u reads unbroken within;
}
