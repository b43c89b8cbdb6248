use Rattle.std.proofs.Common.{◌≡◌, ◌<◌, ◌∙◌, Some, length, get_or, sym, subst, inl, inr, arith}
use Rattle.std.specs.Prelude.{slice_get}
use Rattle.std.proofs.lemmas.Bool.{false≢true, cases_lt}
use Rattle.std.proofs.lemmas.Option.{slice_get-get_or, slice_get_within, same_Some}
use Rattle.csub_semantics.specs.Points.{entry}
use Rattle.csub_semantics.specs.Flows.{start_name}
use Rattle.dual_walk.proofs.LawsNumbers.{first_site}
use Rattle.cert_text.specs.declared.pair.Pair.{Pair}
use Rattle.walk_cert.specs.Verdicts.{IsKept}
use Rattle.walk_cert.proofs.ClaimLemmas.{claimed_of, pair_of}
use Rattle.walk_cert.proofs.VerdictLemmas.{first_break, kept_closed}
use Rattle.walk_cert.proofs.checking.verdict_of.Goals as goal

abbrev none : Pair
none = record { old = 0; new = 0 }

pub returns-then-not-has_pair : goal.returns-then-not-has_pair
returns-then-not-has_pair g c P P' ok ok' = λ start.
    false≢true (sym c.if-not-has_pair.true ∙ c.has_pair.ensures.1 (pair_of P P' c.args.pairs.now 0 0 start_name entry entry ok.valid ok'.valid (record { old = first_site P ok.valid; new = first_site P' ok'.valid }) start))

pub returns-in-Some : goal.returns-in-Some
returns-in-Some g c P P' ok ok' =
    let pairs = c.args.pairs.now in
    let at = c.loop-pair.pair-index in
    let starts = claimed_of P P' pairs 0 0 start_name entry entry (record { old = first_site P ok.valid; new = first_site P' ok'.valid }) (c.has_pair.ensures.0 c.if-not-has_pair.false) in
    first_break P P' c.args.danger.now pairs at (get_or pairs at none) c.in-Some.found starts (slice_get-get_or pairs at none c.loop-pair-test.true) (c.loop-pair.invariant P P' ok ok') (c.in-Some.ensures P P' ok ok')

pub loop-pair-preserved : goal.loop-pair-preserved
loop-pair-preserved g c P P' ok ok' = λ k other less there. elim (cases_lt k c.loop-pair.pair-index) [
  | inl earlier ↦ c.loop-pair.invariant P P' ok ok' k other earlier there
  | inr last ↦
      let pairs = c.args.pairs.now in
      let same : k ≡ c.loop-pair.pair-index = omega arith in
      let one : get_or pairs c.loop-pair.pair-index none ≡ other = same_Some _ _ (sym (slice_get-get_or pairs c.loop-pair.pair-index none c.loop-pair-test.true) ∙ subst (λ n. slice_get pairs n ≡ Some other) same there) in
      subst (λ p. IsKept P P' c.args.danger.now pairs p) one (c.in_default.ensures P P' ok ok')
]

pub returns : goal.returns
returns g c P P' ok ok' =
    let pairs = c.args.pairs.now in
    let starts = claimed_of P P' pairs 0 0 start_name entry entry (record { old = first_site P ok.valid; new = first_site P' ok'.valid }) (c.has_pair.ensures.0 c.if-not-has_pair.false) in
    kept_closed P P' ok.valid ok'.valid c.args.danger.now pairs
    (λ k pair stands. c.loop-pair.invariant P P' ok ok' k pair (let within : k < length pairs = slice_get_within pairs k pair stands in omega (arith, within, c.loop-pair-test.false)) stands) starts
