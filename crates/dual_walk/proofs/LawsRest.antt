-- What is held by a walk at rest.
use Rattle.std.proofs.Common.{◌≡◌, ◌≤◌, ◌*◌, ℕ, Some, arith}
use Rattle.std.specs.Prelude.{slice_get}
use Rattle.csub_objects.specs.Types.{Name}
use Rattle.csub_semantics.specs.Points.{PointTree}
use Rattle.csub_semantics.specs.Syntax.{ProgramTree}
use Rattle.csub_semantics.specs.Flows.{flow_of}
use Rattle.csub_semantics.specs.Books.{SameLabel}
use Rattle.flow_graph.specs.Graph.{Tables, IsGraphOf, point_count, edge_count}
use Rattle.dual_walk.specs.declared.fact.Fact.{Fact}
use Rattle.dual_walk.specs.declared.walking.Walk.{Walk}
use Rattle.dual_walk.specs.Books.{IsNamed}
use Rattle.dual_walk.specs.Held.{AreAt, IsBookOf, IsClosedUnder}
use Rattle.dual_walk.specs.Rest.{facts_of, asked_of, IsAtRest}
use Rattle.dual_walk.proofs.Following.{moment_named, moment_same, done_closed}
use Rattle.dual_walk.proofs.Resting.{asked_few}

module _ (g g' : Tables) (walk : Walk) (ok : IsAtRest g g' walk) where
  pub rest_book : IsBookOf g g' (facts_of walk)
  rest_book = ok.under_way.moment.book

  -- it has asked no more than one question for each edge and point
  pub rest_few : asked_of walk ≤ edge_count g * point_count g'
  rest_few = asked_few g g' walk ok.under_way

  module _ (P P' : ProgramTree) (graph : IsGraphOf g P) (graph' : IsGraphOf g' P') where
    -- nothing more follows
    pub rest_closed : IsClosedUnder P P' (facts_of walk)
    rest_closed = let all = ok.all in done_closed P P' (facts_of walk) walk.waiting walk.next (omega (arith, all)) (ok.under_way.done.each P P' graph graph')

    -- each fact has names, and its points have equal labels
    pub rest_named : (i : ℕ) (c : Fact) → slice_get (facts_of walk) i ≡ Some c → IsNamed P P' c
    rest_named i c stands = moment_named g g' walk.pairs ok.under_way.moment P P' graph graph' i c stands

    pub rest_same : (i : ℕ) (c : Fact) → slice_get (facts_of walk) i ≡ Some c → (f : Name) (p p' : PointTree) → AreAt P P' c.old c.new f p p' → SameLabel (flow_of P) (flow_of P') f p p'
    rest_same i c stands f p p' at = moment_same g g' walk.pairs ok.under_way.moment P P' graph graph' i c stands f p p' at
