-- What is written, and when each answer comes.
use Rattle.std.specs.Prelude.{ℕ, ◌≡◌, ◌⊎◌, List}
use Rattle.dv_outside.specs.Outside.{Answer, Rose, Takes, TakesPrefix}
use Rattle.command_words.specs.Words.{command_of}
use Rattle.command_refusals.specs.Refusals.{refusal_line}
use Rattle.command_refusals.specs.declared.refusal.Refusal.{Refusal}
use Rattle.command_refusals.specs.declared.refusal.Refusal.TheVariants as refusal
use Rattle.command_files.specs.Files.{Sees}
use Rattle.dejavu_cli.specs.Texts.{HasTextOf}
use Rattle.dejavu_cli.specs.Causes.{HasCause}
use Rattle.dejavu_cli.specs.Statuses.{done_as, status_of}
use Rattle.dejavu_cli.specs.declared.answer.End.{End}
use Rattle.dejavu_cli.specs.declared.status.Status8.{Status8}
use Rattle.dejavu_cli.specs.declared.status.Status8.TheVariants as status

-- `Decides`: by the words and what came of the files the work comes to this status and this text
abbrev pub Decides : List (List ℕ) → List Answer → Status8 → List ℕ → Type 0
Decides words seen s text =
    ((end : End) × (s ≡ done_as end) × HasTextOf (command_of words) seen end text)
    ⊎ ((r : Refusal) × (s ≡ status_of r) × (text ≡ refusal_line r) × HasCause (command_of words) seen r)

-- `Says`: the output took the whole text and its status is the answer, or the write failed and it took a beginning of it
abbrev pub Says : List ℕ → List ℕ → ℕ → ℕ → Status8 → List ℕ → Status8 → Type 0
Says before now faults_before faults_now s text answer =
    ((answer ≡ s) × Takes before now text)
    ⊎ ((answer ≡ status.WriteFault) × Rose faults_before faults_now × TakesPrefix before now text)

-- The headline: the words are a command, the files that it names were read, each once and in their order, and the output took
-- the command's text for what came of them. For `select` it names exactly the
-- tests whose recorded run crosses a dangerous edge, and each test that it leaves behaves the same on the new program
-- (`IsChosen` of `command_files`). For `rerun` the tests that are told to differ are those of a recorded suite that do, and
-- no left one does (`IsFaithful`, `IsFaithfulToEach`). What `carry` writes for a recorded history is the history that `record` writes on the new source
-- (`IsRecordedAnew` of `command_histories`). A run that crosses no edge of a claim that `check` finds closed behaves the same
-- on the new program (`IsChecked` of `command_claims`).
abbrev pub IsHeadline : List (List ℕ) → List Answer → List Answer → List ℕ → List ℕ → End → Type 0
IsHeadline words asked_before asked_now before now end =
    Sees asked_before asked_now (λ seen. (text : List ℕ) × HasTextOf (command_of words) seen end text × Takes before now text)

-- the output took the refusal's line with its status, or that for want of memory
abbrev pub Refuses : List ℕ → List ℕ → ℕ → ℕ → Refusal → Status8 → Type 0
Refuses before now faults_before faults_now r answer =
    Says before now faults_before faults_now (status_of r) (refusal_line r) answer
    ⊎ Says before now faults_before faults_now status.Memory (refusal_line refusal.Memory) answer
