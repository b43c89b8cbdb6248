use Rattle.std.proofs.Common.{◌∙◌, refl, sym}
use Rattle.std.proofs.lemmas.Bool.{false≢true}
use Rattle.walk_cert.proofs.ClaimLemmas.{enters_at, entered, back_at, came_back, enters_none, back_none}
use Rattle.walk_cert.proofs.checking.break_at.Goals as goal

pub returns-then-not-are_alike : goal.returns-then-not-are_alike
returns-then-not-are_alike g c P P' ok ok' = (refl, λ a. false≢true (sym c.if-not-are_alike.true ∙ (c.are_alike.ensures P P' ok ok').1 a))

pub first_way_out-requires-clause-alike : goal.first_way_out-requires-clause-alike
first_way_out-requires-clause-alike g c P P' ok ok' = (c.are_alike.ensures P P' ok ok').0 c.if-not-are_alike.false

pub returns-in_err-edge : goal.returns-in_err-edge
returns-in_err-edge g c P P' ok ok' =
    let a = (c.are_alike.ensures P P' ok ok').0 c.if-not-are_alike.false in
    let n = a.named in
    let plain = c.in_default.ensures.callee P P' n.function n.point n.other ok ok' a.same n.at.old in
    rw c.from_residual.ensures (record {
      alike = a;
      enters = enters_none P P' ok.valid ok'.valid c.args.pairs.now c.args.pair n.function n.point n.other n.at plain;
      stays = λ back. c.in_err-edge.ensures P P' ok ok';
    })

pub returns-in_default : goal.returns-in_default
returns-in_default g c P P' ok ok' =
    let a = (c.are_alike.ensures P P' ok ok').0 c.if-not-are_alike.false in
    let n = a.named in
    let plain = c.in_default.ensures.callee P P' n.function n.point n.other ok ok' a.same n.at.old in (
      refl,
      a,
      enters_none P P' ok.valid ok'.valid c.args.pairs.now c.args.pair n.function n.point n.other n.at plain,
      back_none P P' ok.valid ok'.valid c.args.pairs.now c.args.pair n.function n.point n.other n.at plain,
      c.in_ok-edge.ensures P P' ok ok',
    )

pub returns-then-not-has_pair : goal.returns-then-not-has_pair
returns-then-not-has_pair g c P P' ok ok' =
    let a = (c.are_alike.ensures P P' ok ok').0 c.if-not-are_alike.false in
    let n = a.named in
    let callee = c.in-Some.ensures.callee P P' n.function n.point n.other ok ok' a.same n.at.old in
    (refl, a, λ enters. false≢true (sym c.if-not-has_pair.true ∙ c.has_pair.ensures.1 (entered P P' ok.valid ok'.valid c.args.pairs.now c.args.pair n.function n.point n.other n.at c.in-Some.callee callee enters)))

pub returns-then-not-has_pair-2 : goal.returns-then-not-has_pair-2
returns-then-not-has_pair-2 g c P P' ok ok' =
    let a = (c.are_alike.ensures P P' ok ok').0 c.if-not-are_alike.false in
    let n = a.named in
    let callee = c.in-Some.ensures.callee P P' n.function n.point n.other ok ok' a.same n.at.old in
    record {
      alike = a;
      enters = enters_at P P' ok.valid ok'.valid c.args.pairs.now c.args.pair n.function n.point n.other n.at c.in-Some.callee callee (c.has_pair.ensures.0 c.if-not-has_pair.false);
      stays = λ back.
          absurd (false≢true (sym c.if-not-has_pair-2.true ∙ c.has_pair-2.ensures.1 (came_back P P' ok.valid ok'.valid c.args.pairs.now c.args.pair n.function n.point n.other n.at c.in-Some.callee callee back)));
    }

pub returns-in_err-edge-2 : goal.returns-in_err-edge-2
returns-in_err-edge-2 g c P P' ok ok' =
    let a = (c.are_alike.ensures P P' ok ok').0 c.if-not-are_alike.false in
    let n = a.named in
    let callee = c.in-Some.ensures.callee P P' n.function n.point n.other ok ok' a.same n.at.old in
    rw c.from_residual-in_err-edge-2.ensures (record {
      alike = a;
      enters = enters_at P P' ok.valid ok'.valid c.args.pairs.now c.args.pair n.function n.point n.other n.at c.in-Some.callee callee (c.has_pair.ensures.0 c.if-not-has_pair.false);
      stays = λ back. c.in_err-edge-2.ensures P P' ok ok';
    })

pub returns : goal.returns
returns g c P P' ok ok' =
    let a = (c.are_alike.ensures P P' ok ok').0 c.if-not-are_alike.false in
    let n = a.named in
    let callee = c.in-Some.ensures.callee P P' n.function n.point n.other ok ok' a.same n.at.old in (
      refl,
      a,
      enters_at P P' ok.valid ok'.valid c.args.pairs.now c.args.pair n.function n.point n.other n.at c.in-Some.callee callee (c.has_pair.ensures.0 c.if-not-has_pair.false),
      back_at P P' ok.valid ok'.valid c.args.pairs.now c.args.pair n.function n.point n.other n.at c.in-Some.callee callee (c.has_pair-2.ensures.0 c.if-not-has_pair-2.false),
      c.in_ok-edge-2.ensures P P' ok ok',
    )
