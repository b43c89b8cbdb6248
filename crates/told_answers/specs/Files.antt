-- The files that a command names, where they are told: what they hold, and why one can't be had.
use Rattle.std.specs.Prelude.{ℕ, ◌≡◌, ◌⊎◌, List, Option, Some}
use Rattle.dv_outside.specs.Outside.{Files, file_at, Rose}
use Rattle.csub_semantics.specs.Syntax.{ProgramTree}
use Rattle.csub_answers.specs.Accepted.{Accepted}
use Rattle.command_refusals.specs.declared.source.SourceCause.{SourceCause}
use Rattle.command_refusals.specs.declared.refusal.Role.{Role}
use Rattle.command_refusals.specs.declared.refusal.Role.TheVariants as role
use Rattle.command_files.specs.Causes.{NotAccepted}

-- what holds of the files, where they are told
abbrev pub WhereTold : Option Files → (Files → Type 0) → Type 0
WhereTold told Q = (files : Files) → told ≡ Some files → Q files

-- ---- what they hold

-- the file of this name is there, and an accepted source of the program
pub record HasSource (files : Files) (name : List ℕ) (P : ProgramTree) : Type 0 where
  pub bytes : List ℕ
  pub found : file_at files name ≡ Some bytes
  pub accepted : Accepted bytes P

-- the file of this name is there, and isn't accepted, of which this is told
pub record HasNoSource (files : Files) (name : List ℕ) (cause : SourceCause) : Type 0 where
  pub bytes : List ℕ
  pub found : file_at files name ≡ Some bytes
  pub is : NotAccepted bytes cause

-- both files are there, with these bytes, and are accepted sources, each of one program alone
pub record HasVersions (files : Files) (old_name new_name source source' : List ℕ) (P P' : ProgramTree) : Type 0 where
  pub found : file_at files old_name ≡ Some source
  pub accepted : Accepted source P
  pub new_found : file_at files new_name ≡ Some source'
  pub new_accepted : Accepted source' P'
  pub old_alone : (Q : ProgramTree) → Accepted source Q → Q ≡ P
  pub new_alone : (Q : ProgramTree) → Accepted source' Q → Q ≡ P'

-- ---- why one can't be had

-- the source isn't accepted
abbrev pub HasBadSource : List ℕ → SourceCause → Option Files → Type 0
HasBadSource name cause told = WhereTold told (λ files. HasNoSource files name cause)

-- the source of this name is accepted
abbrev pub HasGoodSource : List ℕ → Option Files → Type 0
HasGoodSource name told = WhereTold told (λ files. (P : ProgramTree) × HasSource files name P)

-- one of two sources isn't accepted, and the one before it is
abbrev pub HasBadOfTwo : List ℕ → List ℕ → Role → SourceCause → Option Files → Type 0
HasBadOfTwo old new role.Source cause told = ⊥
HasBadOfTwo old new role.Old cause told = HasBadSource old cause told
HasBadOfTwo old new role.New cause told = HasGoodSource old told × HasBadSource new cause told

-- the count of faults of a named file rose, and the sources before that file are accepted
abbrev pub HasFaultOfTwo : List ℕ → List ℕ → Option Files → (List ℕ → ℕ) → (List ℕ → ℕ) → Type 0
HasFaultOfTwo first second told before now =
    Rose (before first) (now first)
    ⊎ (HasGoodSource first told × Rose (before second) (now second))

abbrev pub HasFaultOfThree : List ℕ → List ℕ → List ℕ → Option Files → (List ℕ → ℕ) → (List ℕ → ℕ) → Type 0
HasFaultOfThree first second third told before now =
    HasFaultOfTwo first second told before now
    ⊎ (HasGoodSource first told × HasGoodSource second told × Rose (before third) (now third))
