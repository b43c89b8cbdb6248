-- What a walk of two programs is: its facts by names are a book, and its row holds the dangerous edges.
use Rattle.std.specs.Prelude.{ℕ, ◌≡◌, ◌↔◌, length, take, slice_get, Some, Contains, IsTrue}
use Rattle.csub_objects.specs.Types.{Name}
use Rattle.csub_semantics.specs.Points.{PointTree}
use Rattle.csub_semantics.specs.Syntax.{ProgramTree}
use Rattle.csub_semantics.specs.Flows.{Edge, edge_list, flow_of}
use Rattle.csub_semantics.specs.Numbers.{edge_at}
use Rattle.csub_semantics.specs.Books as books
use Rattle.csub_semantics.specs.Books.{IsBook, Reached, Dangerous}
use Rattle.edge_trace.specs.Rows.{has}
use Rattle.dual_walk.specs.declared.fact.Fact.{Fact}
use Rattle.dual_walk.specs.Books.{named_facts, IsExplained}
use Rattle.call_walk.specs.declared.answer.WalkResult.{WalkResult}

-- what a walk of P and P' answers
pub record IsWalk (P P' : ProgramTree) (result : WalkResult) : Type 0 where
  pub book : IsBook (flow_of P) (flow_of P') (named_facts P P' result.facts.items)
  -- each fact's own reason is the one that justifies it
  pub reasons : (i : ℕ) (c : Fact) → slice_get result.facts.items i ≡ Some c → IsExplained P P' (take i result.facts.items) c
  -- no pair stands twice
  pub once : (i j : ℕ) (c d : Fact) → slice_get result.facts.items i ≡ Some c → slice_get result.facts.items j ≡ Some d
      → c.old ≡ d.old → c.new ≡ d.new → i ≡ j
  -- every reached pair is held
  pub all : (f : Name) (p p' : PointTree) → Reached (flow_of P) (flow_of P') f p p' → Contains (named_facts P P' result.facts.items) (books.fact f p p')
  -- a number for each edge, and just the dangerous ones are in the row
  pub edges : length result.danger ≡ length (edge_list P)
  pub danger : (e : ℕ) (edge : Edge) → edge_at P e ≡ Some edge
      → IsTrue (has result.danger e) ↔ Dangerous (flow_of P) (flow_of P') edge.function edge.from edge.exit
