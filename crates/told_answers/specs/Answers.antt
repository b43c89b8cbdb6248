-- What is written, and when each answer comes, where files and written bytes are told.
use Rattle.std.specs.Prelude.{ℕ, ◌≡◌, ◌⊎◌, List, ◌++◌, Option, Some}
use Rattle.dv_outside.specs.Outside.{Files, Rose, Appends, AppendsPrefix}
use Rattle.command_words.specs.Words.{command_of}
use Rattle.command_refusals.specs.Refusals.{refusal_line}
use Rattle.command_refusals.specs.declared.refusal.Refusal.{Refusal}
use Rattle.told_answers.specs.Texts.{HasTextOf}
use Rattle.told_answers.specs.Causes.{HasCause}
use Rattle.dejavu_cli.specs.Statuses.{done_as, status_of}
use Rattle.dejavu_cli.specs.declared.answer.End.{End}
use Rattle.dejavu_cli.specs.declared.status.Status8.{Status8}
use Rattle.dejavu_cli.specs.declared.status.Status8.TheVariants as status

-- `Decides`: by the words, the files and the counts of faults the work comes to this status and this text
abbrev pub Decides : List (List ℕ) → Option Files → (List ℕ → ℕ) → (List ℕ → ℕ) → Status8 → List ℕ → Type 0
Decides words told before now s text =
    ((end : End) × (s ≡ done_as end) × HasTextOf (command_of words) told end text)
    ⊎ ((r : Refusal) × (s ≡ status_of r) × (text ≡ refusal_line r) × HasCause (command_of words) told before now r)

-- `Says`: the text was written whole and its status is the answer, or the write failed and a beginning of it is out
abbrev pub Says : Option (List ℕ) → Option (List ℕ) → ℕ → ℕ → Status8 → List ℕ → Status8 → Type 0
Says before now faults_before faults_now s text answer =
    ((answer ≡ s) × Appends before now text)
    ⊎ ((answer ≡ status.WriteFault) × Rose faults_before faults_now × AppendsPrefix before now text)

-- The headline: where the written bytes are told, the words are a command and its text was added to what was written
-- before. The files decide that text where they are told; for `gen` the words alone do. For `select` it names exactly the
-- tests whose recorded run crosses a dangerous edge, and each test that it leaves behaves the same on the new program
-- (`IsChosen` of `command_files`). For `rerun` the tests that are told to differ are those of a recorded suite that do, and
-- no left one does (`IsFaithful`, `IsFaithfulToEach`). What `carry` writes for a recorded history is the history that `record` writes on the new source
-- (`IsRecordedAnew` of `command_histories`). A run that crosses no edge of a claim that `check` finds closed behaves the same
-- on the new program (`IsChecked` of `command_claims`).
abbrev pub IsHeadline : List (List ℕ) → Option Files → Option (List ℕ) → Option (List ℕ) → End → Type 0
IsHeadline words told before now end =
    (written : List ℕ) → before ≡ Some written →
    (text : List ℕ) × HasTextOf (command_of words) told end text × (now ≡ Some (written ++ text))
