use Rattle.std.proofs.Common.{◌≡◌, ◌<◌, ℕ, Some}
use Rattle.std.specs.Prelude.{slice_get}
use Rattle.csub_semantics.specs.Syntax.{ProgramTree}
use Rattle.flow_graph.specs.Graph.{IsGraphOf}
use Rattle.cert_text.specs.declared.pair.Pair.{Pair}
use Rattle.walk_cert.specs.Verdicts.{IsKept}
use Rattle.walk_cert.proofs.checking.verdict_of.Given as goal

abbrev pub invariant-loop-pair : goal.invariant-loop-pair
invariant-loop-pair g l =
    (P P' : ProgramTree) → IsGraphOf l.both.old.now P → IsGraphOf l.both.new.now P' → (k : ℕ) (other : Pair) → k < l.pair-index → slice_get l.pairs k ≡ Some other → IsKept P P' l.danger l.pairs other
