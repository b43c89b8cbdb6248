use Rattle.std.proofs.Common.{◌≡◌, ◌≢◌, ◌∙◌, ℕ, ℤ, Option, sym, ap, subst₂, arith}
use Rattle.std.proofs.lemmas.Option.{slice_get_within}
use Rattle.flow_graph.specs.declared.node.GraphPoint.{GraphPoint}
use Rattle.flow_graph.specs.Cases.{place_in, ArePlaces}
use Rattle.flow_graph.proofs.CasePlaces.{entered_more, fresh_more}
use Rattle.flow_graph.proofs.case_table.list_cases.Goals as goal

pub loop-i-preserved : goal.loop-i-preserved
loop-i-preserved c = record {
  entered = entered_more c.args.points.now c.loop-i.i c.index-points-i.result c.loop-i-test.true c.index-points-i.is before after own others c.loop-i.invariant.entered;
  fresh = fresh_more c.args.points.now c.loop-i.i c.index-points-i.result c.loop-i-test.true c.index-points-i.is before after own others c.loop-i.invariant.fresh;
}
  where
    before : ℕ → ℤ → Option ℕ
    before = place_in c.loop-i.cases

    after : ℕ → ℤ → Option ℕ
    after = place_in c.enter_ways.new.cases

    own : ArePlaces c.index-points-i.result.node.ways.items (after c.loop-i.i)
    own =
        let ways = c.as_slice.ensures.value ∙ ap (λ (p : GraphPoint). p.node.ways.items) (sym c.index-points-i.is) in
        subst₂ (λ ways (n : ℕ). ArePlaces ways (after n)) ways c.in_ok-point.ensures c.in_ok-enter_ways.ensures.own

    others : (n : ℕ) (v : ℤ) → n ≢ c.loop-i.i → after n v ≡ before n v
    others n v other = c.in_ok-enter_ways.ensures.others n v (λ e. other (e ∙ c.in_ok-point.ensures))

pub returns : goal.returns
returns c = λ n p there.
    let within = slice_get_within c.args.points.now n p there in
    let end = c.loop-i-test.false in
    c.loop-i.invariant.entered n p (omega (arith, within, end)) there
