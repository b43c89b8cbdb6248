use Rattle.std.proofs.Common.{arith, sym, ap, ◌∙◌, ◌≡◌, ◌<◌, ◌-◌, length, map, true}
use Rattle.std.proofs.lemmas.Result.{err_from_is_err_and}
use Rattle.std.proofs.lemmas.List.{map_push}
use Rattle.csub_expr.specs.Looks.{rest, begins}
use Rattle.csub_expr.proofs.LawsTokens.{rest_shorter}
use Rattle.csub_expr.proofs.LawsLists.{front_fails, front_goes, front_ends, front_trailing}
use Rattle.csub_parse.specs.UnitDescent.{constant_at}
use Rattle.csub_tree.specs.Units.{constant_tree}
use Rattle.csub_parse.proofs.UnitSound.{constant_shorter}
use Rattle.csub_lex.specs.declared.token.Mark.TheVariants.{CloseBrace}
use Rattle.csub_parse.proofs.item.constants.Goals as goal

pub returns-in_err-one : goal.returns-in_err-one
returns-in_err-one c =
    let p = err_from_is_err_and c.from_residual.result c.from_residual.ensures.1 in
    let i = c.each.invariant in
    rw (p.1, p.2, i.2) (front_fails (constant_at c.args.budget) (begins CloseBrace) c.in_err-one.field-0.0 i.0 c.each.rest.now (map constant_tree c.each.all.items) i.1 c.in_err-one.ensures)

pub returns-then-not-begins : goal.returns-then-not-begins
returns-then-not-begins c =
    let i = c.each.invariant in
    rw (c.in_ok-push.ensures.items, map_push constant_tree c.each.all.items c.in_ok-one.one)
    (i.2 ∙ front_ends (constant_at c.args.budget) (begins CloseBrace) i.0 c.each.rest.now c.in_ok-one.after.now (map constant_tree c.each.all.items) (constant_tree c.in_ok-one.one) i.1 c.in_ok-one.ensures (sym c.if-not-begins.ensures))

pub returns-then-begins : goal.returns-then-begins
returns-then-begins c =
    let i = c.each.invariant in
    let stops : (begins CloseBrace) (rest c.in_ok-one.after.now) ≡ true = ap ((begins CloseBrace)) (sym c.skip-rest.ensures) ∙ sym c.if-begins.ensures in
    rw (c.in_ok-push.ensures.items, map_push constant_tree c.each.all.items c.in_ok-one.one, c.skip-rest.ensures)
    (i.2 ∙ front_trailing (constant_at c.args.budget) (begins CloseBrace) i.0 c.each.rest.now c.in_ok-one.after.now (map constant_tree c.each.all.items) (constant_tree c.in_ok-one.one) i.1 c.in_ok-one.ensures (sym c.if-not-begins.ensures) stops)

pub each-smaller : goal.each-smaller
each-smaller c =
    let less = constant_shorter c.args.budget c.each.rest.now (constant_tree c.in_ok-one.one) c.in_ok-one.after.now c.in_ok-one.ensures in
    let cut = rest_shorter c.in_ok-one.after.now in
    let same : length c.skip-rest.result.now ≡ length (rest c.in_ok-one.after.now) = ap length c.skip-rest.ensures in
    let falls : length c.skip-rest.result.now < length c.each.rest.now = omega (arith, less, cut, same) in
    falls

pub each-preserved : goal.each-preserved
each-preserved c =
    let i = c.each.invariant in
    let less = constant_shorter c.args.budget c.each.rest.now (constant_tree c.in_ok-one.one) c.in_ok-one.after.now c.in_ok-one.ensures in
    let cut = rest_shorter c.in_ok-one.after.now in
    let same : length c.skip-rest.result.now ≡ length (rest c.in_ok-one.after.now) = ap length c.skip-rest.ensures in
    let goes = front_goes (constant_at c.args.budget) (begins CloseBrace) i.0 c.each.rest.now c.in_ok-one.after.now (map constant_tree c.each.all.items) (constant_tree c.in_ok-one.one) i.1 c.in_ok-one.ensures (sym c.if-not-begins.ensures) (ap ((begins CloseBrace)) (sym c.skip-rest.ensures) ∙ sym c.if-begins.ensures) in
    (i.0 - 1, omega (arith, i.1, less, cut, same), rw (c.in_ok-push.ensures.items, map_push constant_tree c.each.all.items c.in_ok-one.one, c.skip-rest.ensures) (i.2 ∙ goes))
