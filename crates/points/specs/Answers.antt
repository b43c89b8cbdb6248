-- What is written, and when each answer comes.
use Rattle.std.specs.Prelude.{ℕ, ◌≡◌, ◌⊎◌, List, [], ◌∷◌, Option, Some, None}
use Rattle.dv_outside.specs.Outside.{Answer, Rose, Takes, TakesPrefix}
use Rattle.csub_semantics.specs.Syntax.{ProgramTree}
use Rattle.csub_answers.specs.Accepted.{Accepted}
use Rattle.command_refusals.specs.Refusals.{refusal_line}
use Rattle.command_refusals.specs.declared.refusal.Role.TheVariants as role
use Rattle.command_refusals.specs.declared.refusal.Refusal.{Refusal}
use Rattle.command_refusals.specs.declared.refusal.Refusal.TheVariants as refusal
use Rattle.command_files.specs.Files.{source_and_one, came, missed, Asks, HasBadSource}
use Rattle.points_report.specs.PointTexts.{points_text}
use Rattle.points.specs.declared.status.Ended.{Ended}
use Rattle.points.specs.declared.status.Ended.TheVariants as ended

-- the text that lists the points and the edges of the source that came of this name, which has one program alone; `seen` is what
-- the call added to the answers of its shelf
pub record IsListing (name : List ℕ) (seen : List Answer) (text : List ℕ) : Type 0 where
  pub source : List ℕ
  pub program : ProgramTree
  pub fetched : seen ≡ came name source_and_one source ∷ []
  pub accepted : Accepted source program
  pub alone : (Q : ProgramTree) → Accepted source Q → Q ≡ program
  pub is : text ≡ points_text program source

-- why it isn't written: the source isn't accepted, it couldn't be read, or memory was wanted, which may come anywhere
abbrev pub HasCause : List ℕ → List Answer → Refusal → Type 0
HasCause name seen (refusal.Source which cause) = (which ≡ role.Source) × HasBadSource name cause seen
HasCause name seen refusal.ReadFault = seen ≡ missed name source_and_one ∷ []
HasCause name seen refusal.Memory = Asks ((name, source_and_one) ∷ []) seen
HasCause name seen r = ⊥

-- the number of an answer, which is the exit status: that of `dejavu` for the same answer
abbrev pub number_of : Ended → ℕ
number_of ended.Done = 0
number_of ended.Usage = 2
number_of ended.Source = 3
number_of ended.ReadFault = 6
number_of ended.WriteFault = 7
number_of ended.Memory = 8

-- how a refusal ends (`points` is refused in no other way)
abbrev pub ended_of : Refusal → Ended
ended_of (refusal.Source which cause) = ended.Source
ended_of refusal.ReadFault = ended.ReadFault
ended_of r = ended.Memory

-- `Decides`: by the name of a source, where the words are one, and by what came of it, the work comes to this answer and this text;
-- where they are none no file is asked for
abbrev pub Decides : Option (List ℕ) → List Answer → Ended → List ℕ → Type 0
Decides None seen answer text = (answer ≡ ended.Usage) × (text ≡ []) × (seen ≡ [])
Decides (Some name) seen answer text =
    ((answer ≡ ended.Done) × IsListing name seen text)
    ⊎ ((r : Refusal) × (answer ≡ ended_of r) × (text ≡ refusal_line r) × HasCause name seen r)

-- `Says`: the output took the whole text and its answer is given, or the write failed and it took a beginning of it
abbrev pub Says : List ℕ → List ℕ → ℕ → ℕ → Ended → List ℕ → Ended → Type 0
Says before now faults_before faults_now answer text given =
    ((given ≡ answer) × Takes before now text)
    ⊎ ((given ≡ ended.WriteFault) × Rose faults_before faults_now × TakesPrefix before now text)

-- the output took the line of the refusal with its answer, or that for want of memory
abbrev pub Refuses : List ℕ → List ℕ → ℕ → ℕ → Refusal → Ended → Type 0
Refuses before now faults_before faults_now r given =
    Says before now faults_before faults_now (ended_of r) (refusal_line r) given
    ⊎ Says before now faults_before faults_now ended.Memory (refusal_line refusal.Memory) given
