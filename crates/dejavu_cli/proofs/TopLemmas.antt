-- What is read off the answer of the whole call.
use Rattle.std.proofs.Common.{◌≡◌, ℕ, List, Option, Some, None, refl, sym, ◌∙◌, subst, inl, inr}
use Rattle.dv_outside.specs.Outside.{Answer}
use Rattle.command_words.specs.Words.{Command, command_of}
use Rattle.command_refusals.specs.Refusals.{refusal_line}
use Rattle.command_refusals.specs.declared.refusal.Refusal.{Refusal}
use Rattle.command_refusals.specs.declared.refusal.Refusal.TheVariants as refusal
use Rattle.command_files.specs.Files.{Sees}
use Rattle.dejavu_cli.specs.Texts.{HasTextOf}
use Rattle.dejavu_cli.specs.Causes.{HasCause}
use Rattle.dejavu_cli.specs.Statuses.{done_as, status_of}
use Rattle.dejavu_cli.specs.Answers.{Says, Refuses, IsHeadline}
use Rattle.dejavu_cli.specs.declared.answer.End.{End}
use Rattle.dejavu_cli.specs.declared.answer.End.TheVariants.{Whole, Differs, Open}
use Rattle.dejavu_cli.specs.declared.status.Status8.{Status8}
use Rattle.dejavu_cli.specs.declared.status.Status8.TheVariants as status

-- each end has a status of its own
one_end : (a b : End) → done_as a ≡ done_as b → a ≡ b
one_end Whole Whole is = refl
one_end Differs Differs is = refl
one_end Open Open is = refl
one_end a b is = absurd (cc)

-- and it is no failed write, nor a fault of usage
no_fault : (end : End) → status.WriteFault ≡ done_as end → ⊥
no_fault Whole is = cc
no_fault end is = cc

no_usage_fault : (end : End) → done_as end ≡ status.Usage → ⊥
no_usage_fault Whole is = cc
no_usage_fault end is = cc

module _ (words : List (List ℕ)) (a z : List Answer) (b n : List ℕ) (fb fn : ℕ) (answer : Status8) where
  pub headline_is : (wanted end : End) (text : List ℕ) → Sees a z (λ seen. HasTextOf (command_of words) seen end text) → Says b n fb fn (done_as end) text answer
      → answer ≡ done_as wanted → IsHeadline words a z b n wanted
  headline_is wanted end text (seen, added, has) (inl h) done =
      let same : end ≡ wanted = one_end end wanted (sym h.0 ∙ done) in
      let here : HasTextOf (command_of words) seen wanted text = subst (λ (e : End). HasTextOf (command_of words) seen e text) same has in
      (seen, added, (text, here, h.1))
  headline_is wanted end text sees (inr h) done = absurd (no_fault wanted (sym h.0 ∙ done))

  -- a command that is done is no fault of usage
  pub no_usage : (end : End) (text : List ℕ) → Says b n fb fn (done_as end) text answer → answer ≡ status.Usage → command_of words ≡ None
  no_usage end text (inl h) is = absurd (no_usage_fault end (sym h.0 ∙ is))
  no_usage end text (inr h) is = let other : status.WriteFault ≡ status.Usage = sym h.0 ∙ is in absurd (cc)

  never : (s : Status8) (text : List ℕ) → (s ≡ status.Usage → ⊥) → Says b n fb fn s text answer → answer ≡ status.Usage → ⊥
  never s text other (inl h) is = other (sym h.0 ∙ is)
  never s text other (inr h) is = let failed : answer ≡ status.WriteFault = h.0 in cc

  memory_is_other : status.Memory ≡ status.Usage → ⊥
  memory_is_other h = cc

  refused_otherwise : (r : Refusal) → (status_of r ≡ status.Usage → ⊥) → Refuses b n fb fn r answer → answer ≡ status.Usage → ⊥
  refused_otherwise r other (inl h) is = never (status_of r) (refusal_line r) other h is
  refused_otherwise r other (inr h) is = never status.Memory (refusal_line refusal.Memory) memory_is_other h is

  no_other : (seen : List Answer) (c : Command) (r : Refusal) → HasCause (Some c) seen r → status_of r ≡ status.Usage → ⊥
  no_other seen c refusal.Usage cause is = cause
  no_other seen c r cause is = cc

  pub usage_is : (r : Refusal) (oc : Option Command) → command_of words ≡ oc → Sees a z (λ seen. HasCause oc seen r)
      → Refuses b n fb fn r answer → answer ≡ status.Usage → command_of words ≡ None
  usage_is r None is sees refuses usage = is
  usage_is r (Some c) is (seen, added, cause) refuses usage = absurd (refused_otherwise r (no_other seen c r cause) refuses usage)
