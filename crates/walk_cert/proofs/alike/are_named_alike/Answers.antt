use Rattle.std.proofs.Common.{◌≡◌, ◌∙◌, Some, None, ap, arith}
use Rattle.std.specs.Prelude.{slice_get}
use Rattle.std.proofs.lemmas.Bool.{false≢true, eqb-true, eq-eqb}
use Rattle.std.proofs.lemmas.Option.{slice_get-get_or}
use Rattle.csub_semantics.specs.Points.{entry}
use Rattle.csub_semantics.specs.Numbers.{site, site_at}
use Rattle.flow_graph.proofs.LawsPlaces.{site_one}
use Rattle.dual_walk.proofs.LawsNumbers.{site_within}
use Rattle.walk_cert.proofs.ClaimLemmas.{named_alike, same_names}
use Rattle.walk_cert.proofs.EntryLemmas.{one_function}
use Rattle.walk_cert.proofs.alike.are_named_alike.Goals as goal

pub returns-in-Some : goal.returns-in-Some
returns-in-Some c P P' ok ok' =
    let s = site_within c.args.both.now.old.now P c.args.pair.old ok c.requires.old in
    let t = site_within c.args.both.now.new.now P' c.args.pair.new ok' c.requires.new in
    let stands : slice_get c.args.entries.now c.args.pair.old ≡ Some (Some c.in-Some.entry) =
    slice_get-get_or c.args.entries.now c.args.pair.old None (omega (arith, c.requires.entries.points, c.requires.old)) ∙ ap Some c.in-Some.is in
    let here : site_at P' c.in-Some.entry ≡ Some (site s.0.function entry) = c.requires.entries.each c.args.pair.old (Some c.in-Some.entry) stands P P' s.0 ok ok' s.1 in
    let there : site_at P' c.start_of.result ≡ Some (site t.0.function entry) = c.start_of.ensures.start P' t.0.function ok' (c.function_at.ensures.function P' t.0 ok' t.1) in (
      λ is. named_alike P P' c.args.pair s.0 t.0 s.1 t.1 (one_function P' c.in-Some.entry c.start_of.result s.0.function t.0.function (eqb-true c.in-Some.entry c.start_of.result is) here there),
      λ h. eq-eqb c.in-Some.entry c.start_of.result (site_one P' ok'.valid c.in-Some.entry c.start_of.result (site t.0.function entry) (here ∙ ap (λ f. Some (site f entry)) (same_names P P' c.args.pair s.0 t.0 s.1 t.1 h)) there),
    )

pub returns-in-None : goal.returns-in-None
returns-in-None c P P' ok ok' = (
  λ is. absurd (false≢true is),
  λ h.
      let stands : slice_get c.args.entries.now c.args.pair.old ≡ Some None =
      slice_get-get_or c.args.entries.now c.args.pair.old None (omega (arith, c.requires.entries.points, c.requires.old)) ∙ ap Some c.in-None.is in
      absurd (c.requires.entries.each c.args.pair.old None stands P P' (site h.function h.point) ok ok' h.at.old c.args.pair.new h.other h.at.new),
)
