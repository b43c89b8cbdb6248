-- The facts of a walk hold just the reached pairs.
use Rattle.std.proofs.Common.{List, sym, ◌∙◌}
use Rattle.std.specs.Prelude.{slice_get}
use Rattle.std.proofs.lemmas.Option.{slice_get-map}
use Rattle.csub_objects.specs.Types.{Name}
use Rattle.csub_semantics.specs.Points.{PointTree}
use Rattle.csub_semantics.specs.Syntax.{ProgramTree}
use Rattle.csub_semantics.specs.Flows.{flow_of}
use Rattle.csub_semantics.specs.Books as books
use Rattle.csub_semantics.specs.Books.{Reached}
use Rattle.flow_graph.proofs.LawsLists.{made_of}
use Rattle.dual_walk.specs.declared.fact.Fact.{Fact}
use Rattle.dual_walk.specs.Books.{named_fact, named_facts}
use Rattle.dual_walk.specs.Held.{IsHeld}
use Rattle.dual_walk.proofs.LawsFacts as facts
use Rattle.dual_walk.proofs.LawsFacts.{fact_at, fact_held}
use Rattle.dual_walk.proofs.LawsLists.{contained}
use Rattle.call_walk.specs.declared.answer.WalkResult.{WalkResult}
use Rattle.call_walk.specs.Walks.{IsWalk}

module _ (P P' : ProgramTree) (walked : WalkResult) (walk : IsWalk P P' walked) where
  abbrev held : List Fact
  held = walked.facts.items

  -- a pair that is held is reached
  pub held_reached : (f : Name) (p p' : PointTree) → IsHeld P P' held f p p' → Reached (flow_of P) (flow_of P') f p p'
  held_reached = facts.held_reached P P' held (record { each = walk.reasons })

  -- a reached pair is held
  pub reached_held : (f : Name) (p p' : PointTree) → Reached (flow_of P) (flow_of P') f p p' → IsHeld P P' held f p p'
  reached_held f p p' r =
      let at = contained (named_facts P P' held) (books.fact f p p') (walk.all f p p' r) in
      let of = made_of (named_fact P P') (slice_get held at.0) (books.fact f p p') (sym (slice_get-map (named_fact P P') held at.0) ∙ at.1) in
      fact_held P P' held at.0 of.value f p p' of.is (fact_at P P' of.value f p p' (walk.reasons at.0 of.value of.is).named of.gives)
