-- The files that a command names: what came of them, and why one can't be had. `seen` is what one call added to the answers of
-- its shelf: what was asked for and what came, in order.
use Rattle.std.specs.Prelude.{ℕ, ◌≡◌, ◌⊎◌, List, [], ◌∷◌, ◌++◌, map, Ok, Err}
use Rattle.dv_outside.specs.Outside.{Answer, Answers}
use Rattle.dv_outside.specs.declared.shelf.FetchError.TheVariants as fetch
use Rattle.csub_semantics.specs.Syntax.{ProgramTree, program_tree}
use Rattle.csub_answers.specs.Accepted.{Accepted}
use Rattle.command_refusals.specs.declared.source.SourceCause.{SourceCause}
use Rattle.command_refusals.specs.declared.refusal.Role.{Role}
use Rattle.command_refusals.specs.declared.refusal.Role.TheVariants as role
use Rattle.command_refusals.specs.declared.refusal.Refusal.{Refusal}
use Rattle.command_refusals.specs.declared.refusal.Refusal.TheVariants as refusal
use Rattle.command_files.specs.Causes.{NotAccepted}
use Rattle.command_files.specs.declared.versions.Versions.{Versions}
use Rattle.command_files.specs.declared.opening.OpenedSource.{OpenedSource}
use Rattle.command_files.specs.declared.opening.OpenedVersions.{OpenedVersions}

-- ---- what a call asked for, and what came

-- one byte more than a source, a suite, and a history or a certificate may have: so a file that is too long shows
abbrev pub source_and_one : ℕ
source_and_one = 1048577

abbrev pub suite_and_one : ℕ
suite_and_one = 16777217

abbrev pub file_and_one : ℕ
file_and_one = 134217729

-- of the file with this name these bytes came, its first `most` or all
abbrev pub came : List ℕ → ℕ → List ℕ → Answer
came name most bytes = (name, most, Ok bytes)

-- the file with this name couldn't be read
abbrev pub missed : List ℕ → ℕ → Answer
missed name most = (name, most, Err fetch.Failed)

-- what the call added to the answers is so
abbrev pub Sees : List Answer → List Answer → (List Answer → Type 0) → Type 0
Sees before now Is = (seen : List Answer) × (now ≡ before ++ seen) × Is seen

-- as far as the call came it asked for these files, each once, in this order, and for no others
abbrev pub Asks : List (List ℕ × ℕ) → List Answer → Type 0
Asks files seen = (rest : List (List ℕ × ℕ)) × (files ≡ map (λ answer. (answer.0, answer.1)) seen ++ rest)

-- ---- sources

-- the bytes are an accepted source
abbrev pub IsSource : List ℕ → Type 0
IsSource bytes = (P : ProgramTree) × Accepted bytes P

-- both are accepted, each as the source of this program alone
pub record AreSources (source source' : List ℕ) (P P' : ProgramTree) : Type 0 where
  pub accepted : Accepted source P
  pub new_accepted : Accepted source' P'
  pub old_alone : (Q : ProgramTree) → Accepted source Q → Q ≡ P
  pub new_alone : (Q : ProgramTree) → Accepted source' Q → Q ≡ P'

-- ---- why a file can't be had

-- the first source isn't accepted
abbrev pub HasBadSource : List ℕ → SourceCause → List Answer → Type 0
HasBadSource name cause seen = (source : List ℕ) × (seen ≡ came name source_and_one source ∷ []) × NotAccepted source cause

-- one of two sources isn't accepted, and the one before it is
abbrev pub HasBadOfTwo : List ℕ → List ℕ → Role → SourceCause → List Answer → Type 0
HasBadOfTwo old new role.Source cause seen = ⊥
HasBadOfTwo old new role.Old cause seen = HasBadSource old cause seen
HasBadOfTwo old new role.New cause seen =
    (source : List ℕ) × (source' : List ℕ)
    × (seen ≡ came old source_and_one source ∷ came new source_and_one source' ∷ []) × IsSource source × NotAccepted source' cause

-- a source or the file behind it couldn't be read, and what came before it is accepted
abbrev pub HasFaultOfTwo : List ℕ → List ℕ → ℕ → List Answer → Type 0
HasFaultOfTwo first second most seen =
    (seen ≡ missed first source_and_one ∷ [])
    ⊎ ((source : List ℕ) × (seen ≡ came first source_and_one source ∷ missed second most ∷ []) × IsSource source)

abbrev pub HasFaultOfThree : List ℕ → List ℕ → List ℕ → ℕ → List Answer → Type 0
HasFaultOfThree first second third most seen =
    HasFaultOfTwo first second source_and_one seen
    ⊎ ((source : List ℕ) × (source' : List ℕ)
    × (seen ≡ came first source_and_one source ∷ came second source_and_one source' ∷ missed third most ∷ []) × IsSource source × IsSource source')

-- ---- what the steps of reading answer

-- a file isn't fetched for want of memory, or because it can't be read
abbrev pub IsFetchCause : List Answer → List Answer → List ℕ → ℕ → Refusal → Type 0
IsFetchCause before now name most refusal.Memory = Answers before now name most (Err fetch.Memory)
IsFetchCause before now name most refusal.ReadFault = Answers before now name most (Err fetch.Failed)
IsFetchCause before now name most r = ⊥

-- the source in a role isn't read for want of memory, or where it isn't accepted
abbrev pub IsSourceCause : Role → List ℕ → Refusal → Type 0
IsSourceCause which bytes refusal.Memory = Unit {0}
IsSourceCause which bytes (refusal.Source named cause) = (named ≡ which) × NotAccepted bytes cause
IsSourceCause which bytes r = ⊥

-- the two versions that a command names are read, the old one first: both sources and their programs
pub record AreRead (old_name new_name : List ℕ) (seen : List Answer) (v : Versions) : Type 0 where
  pub fetched : seen ≡ came old_name source_and_one v.source.items ∷ came new_name source_and_one v.new_source.items ∷ []
  pub sources : AreSources v.source.items v.new_source.items (program_tree v.old) (program_tree v.new)

-- they aren't read for want of memory, where one isn't accepted, or where one can't be read
abbrev pub IsVersionsCause : List ℕ → List ℕ → List Answer → Refusal → Type 0
IsVersionsCause old new seen refusal.Memory = Asks ((old, source_and_one) ∷ (new, source_and_one) ∷ []) seen
IsVersionsCause old new seen (refusal.Source which cause) = HasBadOfTwo old new which cause seen
IsVersionsCause old new seen refusal.ReadFault = HasFaultOfTwo old new source_and_one seen
IsVersionsCause old new seen r = ⊥

-- a source is read, which has this program alone, and then the first bytes of a second file
pub record IsOpened (name second_name : List ℕ) (most : ℕ) (seen : List Answer) (opened : OpenedSource) : Type 0 where
  pub fetched : seen ≡ came name source_and_one opened.source.items ∷ came second_name most opened.bytes.items ∷ []
  pub accepted : Accepted opened.source.items (program_tree opened.program)
  pub alone : (Q : ProgramTree) → Accepted opened.source.items Q → Q ≡ program_tree opened.program

-- it isn't read for want of memory, where it isn't accepted, or where one file can't be read
abbrev pub IsOpenCause : Role → List ℕ → List ℕ → ℕ → List Answer → Refusal → Type 0
IsOpenCause which name second most seen refusal.Memory = Asks ((name, source_and_one) ∷ (second, most) ∷ []) seen
IsOpenCause which name second most seen (refusal.Source named cause) = (named ≡ which) × HasBadSource name cause seen
IsOpenCause which name second most seen refusal.ReadFault = HasFaultOfTwo name second most seen
IsOpenCause which name second most seen r = ⊥

-- two versions are read, and then the first bytes of a third file
pub record AreOpened (old_name new_name third_name : List ℕ) (most : ℕ) (seen : List Answer) (opened : OpenedVersions) : Type 0 where
  pub fetched : seen ≡ came old_name source_and_one opened.versions.source.items
      ∷ came new_name source_and_one opened.versions.new_source.items ∷ came third_name most opened.bytes.items ∷ []
  pub sources : AreSources opened.versions.source.items opened.versions.new_source.items (program_tree opened.versions.old) (program_tree opened.versions.new)

-- they aren't read for want of memory, where a source isn't accepted, or where one file can't be read
abbrev pub AreOpenCause : List ℕ → List ℕ → List ℕ → ℕ → List Answer → Refusal → Type 0
AreOpenCause old new third most seen refusal.Memory = Asks ((old, source_and_one) ∷ (new, source_and_one) ∷ (third, most) ∷ []) seen
AreOpenCause old new third most seen (refusal.Source which cause) = HasBadOfTwo old new which cause seen
AreOpenCause old new third most seen refusal.ReadFault = HasFaultOfThree old new third most seen
AreOpenCause old new third most seen r = ⊥
