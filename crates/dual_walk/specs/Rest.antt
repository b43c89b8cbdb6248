-- A walk between two calls: what it shows, and when it is at rest.
use Rattle.std.specs.Prelude.{ℕ, ◌≡◌, ◌+◌, ◌*◌, ◌≤◌, ◌<◌, ◌^◌, List, length, take}
use Rattle.flow_graph.specs.Graph.{Tables, point_count, edge_count}
use Rattle.dual_walk.specs.Rows.{count_all}
use Rattle.dual_walk.specs.Moments.{IsMoment, AreWaiting, AreDone, allowed}
use Rattle.dual_walk.specs.declared.fact.Fact.{Fact}
use Rattle.dual_walk.specs.declared.walking.Walk.{Walk}

-- the facts of a walk, and how many questions it has asked
abbrev pub facts_of : Walk → List Fact
facts_of walk = walk.pairs.facts.items

abbrev pub asked_of : Walk → ℕ
asked_of walk = walk.asked

-- a walk of these graphs, of whose facts the first ones have been followed; what has been asked and what waits is allowed
-- by these
pub record IsUnderWay (g g' : Tables) (walk : Walk) : Type 0 where
  pub moment : IsMoment g g' walk.pairs
  pub few : edge_count g * point_count g' < 2 ^ 64
  pub waiting : AreWaiting g g' (facts_of walk) walk.waiting
  pub upto : walk.next ≤ length (facts_of walk)
  pub done : AreDone g g' (facts_of walk) walk.waiting walk.next
  pub paid : asked_of walk + count_all walk.waiting ≤ allowed g (take walk.next (facts_of walk))

-- a walk of these graphs to which everything that follows has been added
pub record IsAtRest (g g' : Tables) (walk : Walk) : Type 0 where
  pub under_way : IsUnderWay g g' walk
  pub all : walk.next ≡ length (facts_of walk)
