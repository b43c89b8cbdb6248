-- What the work comes to, and what the output takes of it.
use Rattle.std.proofs.Common.{◌≡◌, ℕ, inl, inr, List, [], ◌∷◌, ◌++◌, Option, Some, None, Ok, Err, map, refl, sym, ap, append-nil}
use Rattle.dv_outside.specs.Outside.{Answer, Answers}
use Rattle.dv_outside.specs.declared.shelf.FetchError.TheVariants as fetch
use Rattle.csub_semantics.specs.Syntax.{ProgramTree}
use Rattle.csub_answers.specs.Accepted.{Accepted}
use Rattle.command_refusals.specs.Refusals.{refusal_line}
use Rattle.command_refusals.specs.declared.refusal.Role.TheVariants as role
use Rattle.command_refusals.specs.declared.refusal.Refusal.{Refusal}
use Rattle.command_refusals.specs.declared.refusal.Refusal.TheVariants as refusal
use Rattle.command_files.specs.Files.{source_and_one, came, missed, Asks, Sees, IsFetchCause, IsSourceCause}
use Rattle.points_report.specs.PointTexts.{points_text}
use Rattle.points.specs.declared.status.Ended.{Ended}
use Rattle.points.specs.declared.status.Ended.TheVariants as ended
use Rattle.points.specs.Answers.{IsListing, HasCause, ended_of, Decides, Says, Refuses}

-- ---- what is read

module _ (name : List ℕ) (a b : List Answer) where
  -- a source that isn't read
  pub not_fetched : (r : Refusal) → IsFetchCause a b name source_and_one r → Sees a b (λ seen. HasCause name seen r)
  not_fetched refusal.ReadFault cause = (missed name source_and_one ∷ [], cause, refl)
  not_fetched refusal.Memory cause = ((name, source_and_one, Err fetch.Memory) ∷ [], cause, ([], refl))
  not_fetched r cause = absurd cause

  module _ (source : List ℕ) (fetched : Answers a b name source_and_one (Ok source)) where
    -- one that isn't accepted
    pub not_read : (r : Refusal) → IsSourceCause role.Source source r → Sees a b (λ seen. HasCause name seen r)
    not_read (refusal.Source which why) cause = (came name source_and_one source ∷ [], fetched, (cause.0, (source, refl, cause.1)))
    not_read refusal.Memory cause = (came name source_and_one source ∷ [], fetched, ([], refl))
    not_read r cause = absurd cause

    -- want of memory behind it
    pub no_memory : Sees a b (λ seen. HasCause name seen refusal.Memory)
    no_memory = (came name source_and_one source ∷ [], fetched, ([], refl))

    -- the text of one that is
    pub is_listing : (P : ProgramTree) (text : List ℕ) → Accepted source P → ((Q : ProgramTree) → Accepted source Q → Q ≡ P) → text ≡ points_text P source
        → Sees a b (λ seen. IsListing name seen text)
    is_listing P text accepted alone is = (
      came name source_and_one source ∷ [],
      fetched,
      record { source = source; program = P; fetched = refl; accepted = accepted; alone = alone; is = is },
    )

-- ---- what is taken

abbrev pub Gives : Option (List ℕ) → List Answer → List Answer → List ℕ → List ℕ → ℕ → ℕ → Ended → Type 0
Gives name asked_before asked_now before now faults_before faults_now given =
    Sees asked_before asked_now (λ seen. (e : Ended) × (text : List ℕ) × Decides name seen e text × Says before now faults_before faults_now e text given)

-- whatever the refusal, no other file was asked for
asked_one : (name source : List ℕ) (seen : List Answer) → seen ≡ came name source_and_one source ∷ [] → Asks ((name, source_and_one) ∷ []) seen
asked_one name source seen is = ([], ap (λ (l : List Answer). map (λ (answer : Answer). (answer.0, answer.1)) l ++ []) (sym is))

asked : (name : List ℕ) (seen : List Answer) (r : Refusal) → HasCause name seen r → HasCause name seen refusal.Memory
asked name seen (refusal.Source which why) cause = asked_one name cause.1.0 seen cause.1.1
asked name seen refusal.ReadFault cause = ([], ap (λ (l : List Answer). map (λ (answer : Answer). (answer.0, answer.1)) l ++ []) (sym cause))
asked name seen refusal.Memory cause = cause
asked name seen r cause = absurd cause

module _ (a b : List Answer) (before now : List ℕ) (faults_before faults_now : ℕ) (given : Ended) where
  -- a text that is made
  pub done : (name text : List ℕ) → Sees a b (λ seen. IsListing name seen text) → Says before now faults_before faults_now ended.Done text given
      → Gives (Some name) a b before now faults_before faults_now given
  done name text (seen, added, is) says = (seen, added, (ended.Done, text, inl (refl, is), says))

  -- one that isn't
  pub refused : (name : List ℕ) (r : Refusal) → Sees a b (λ seen. HasCause name seen r) → Refuses before now faults_before faults_now r given
      → Gives (Some name) a b before now faults_before faults_now given
  refused name r (seen, added, cause) (inl says) = (seen, added, (ended_of r, refusal_line r, inr (r, refl, refl, cause), says))
  refused name r (seen, added, cause) (inr says) =
      (seen, added, (ended.Memory, refusal_line refusal.Memory, inr (refusal.Memory, refl, refl, asked name seen r cause), says))

-- the words name no source
pub usage : (a : List Answer) (before : List ℕ) (faults : ℕ) (name : Option (List ℕ)) → name ≡ None → Gives name a a before before faults faults ended.Usage
usage a before faults None none = ([], sym (append-nil a), (ended.Usage, [], (refl, refl, refl), inl (refl, sym (append-nil before))))
usage a before faults (Some name) none = absurd (cc)
