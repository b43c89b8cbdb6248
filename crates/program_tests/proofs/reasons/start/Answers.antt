use Rattle.csub_semantics.specs.Points.{entry}
use Rattle.csub_semantics.specs.Flows.{start_name}
use Rattle.csub_semantics.specs.Numbers.{site}
use Rattle.dual_walk.specs.Rest.{facts_of}
use Rattle.dual_walk.proofs.LawsNumbers.{first_site}
use Rattle.dual_walk.proofs.LawsFacts.{start_explained}
use Rattle.program_tests.proofs.reasons.start.Goals as goal

pub add-requires-clause-explained : goal.add-requires-clause-explained
add-requires-clause-explained g c P P' ok ok' =
    start_explained P P' (facts_of c.args.walk.now) c.function_at.result c.requires.none (c.function_at.ensures.function P (site start_name entry) ok (first_site P ok.valid)) (first_site P ok.valid) (first_site P' ok'.valid)
