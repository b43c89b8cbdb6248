use Rattle.std.proofs.lemmas.Result.{on_ok_weaker}
use Rattle.csub_semantics.specs.Points.{entry}
use Rattle.csub_semantics.specs.Flows.{start_name}
use Rattle.csub_semantics.specs.Numbers.{site}
use Rattle.dual_walk.specs.Rest.{facts_of}
use Rattle.dual_walk.proofs.LawsNumbers.{first_site}
use Rattle.dual_walk.proofs.LawsFacts.{pair_held, start_explained}
use Rattle.call_walk.proofs.walking.start.Goals as goal

pub add-requires-clause-explained : goal.add-requires-clause-explained
add-requires-clause-explained g c P P' ok ok' =
    start_explained P P' (facts_of c.args.walk.now) c.function_at.result c.requires.none (c.function_at.ensures.function P (site start_name entry) ok (first_site P ok.valid)) (first_site P ok.valid) (first_site P' ok'.valid)

pub returns-clause-held : goal.returns-clause-held
returns-clause-held g c =
    on_ok_weaker c.add.result (λ has P P' ok ok'. pair_held P P' (facts_of c.add.new.self) 0 0 start_name entry entry (record { old = first_site P ok.valid; new = first_site P' ok'.valid }) has) c.add.ensures.held
