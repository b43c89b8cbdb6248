use Rattle.std.proofs.Common.{List, ℕ, refl, sym, subst}
use Rattle.csub_semantics.specs.Syntax.{program_tree}
use Rattle.csub_answers.specs.Accepted.{Accepted}
use Rattle.command_runs.proofs.generate.read_made.Goals as goal

pub returns : goal.returns
returns c = record {
  old_is = refl;
  new_is = refl;
  accepted = subst (λ (source : List ℕ). Accepted source (program_tree c.in_ok-old.old)) c.deref.ensures.value c.in_ok-old.ensures.accepted;
  new_accepted = subst (λ (source : List ℕ). Accepted source (program_tree c.in_ok-new.new)) c.deref-2.ensures.value c.in_ok-new.ensures.accepted;
  alone = λ Q accepted. c.in_ok-old.ensures.only Q (subst (λ (source : List ℕ). Accepted source Q) (sym c.deref.ensures.value) accepted);
}
