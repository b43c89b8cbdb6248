use Rattle.std.proofs.Common.{arith, refl, sym, ap, ◌∙◌, ◌≡◌, ◌<◌, ◌-◌, length, map}
use Rattle.std.proofs.lemmas.Result.{err_from_is_err_and}
use Rattle.std.proofs.lemmas.List.{map_push}
use Rattle.csub_expr.specs.Looks.{rest}
use Rattle.csub_expr.specs.ListDescent.{never}
use Rattle.csub_expr.proofs.LawsTokens.{rest_shorter}
use Rattle.csub_expr.proofs.LawsLists.{front_fails, front_goes, front_ends}
use Rattle.csub_stmt.specs.DeclarationDescent.{slot_at}
use Rattle.csub_tree.specs.Declarations.{declarator_tree}
use Rattle.csub_stmt.proofs.DeclarationSound.{slot_shorter}
use Rattle.csub_stmt.proofs.declaration.slots.Goals as goal

pub returns-in_err-one : goal.returns-in_err-one
returns-in_err-one c =
    let p = err_from_is_err_and c.from_residual.result c.from_residual.ensures.1 in
    let i = c.each.invariant in
    rw (p.1, p.2, i.2) (front_fails (slot_at c.args.budget) never c.in_err-one.field-0.0 i.0 c.each.rest.now (map declarator_tree c.each.all.items) i.1 c.in_err-one.ensures)

pub returns-then-not-begins : goal.returns-then-not-begins
returns-then-not-begins c =
    let i = c.each.invariant in
    rw (c.in_ok-push.ensures.items, map_push declarator_tree c.each.all.items c.in_ok-one.one)
    (i.2 ∙ front_ends (slot_at c.args.budget) never i.0 c.each.rest.now c.in_ok-one.after.now (map declarator_tree c.each.all.items) (declarator_tree c.in_ok-one.one) i.1 c.in_ok-one.ensures (sym c.if-not-begins.ensures))

pub each-smaller : goal.each-smaller
each-smaller c =
    let less = slot_shorter c.args.budget c.each.rest.now (declarator_tree c.in_ok-one.one) c.in_ok-one.after.now c.in_ok-one.ensures in
    let cut = rest_shorter c.in_ok-one.after.now in
    let same : length c.skip-rest.result.now ≡ length (rest c.in_ok-one.after.now) = ap length c.skip-rest.ensures in
    let falls : length c.skip-rest.result.now < length c.each.rest.now = omega (arith, less, cut, same) in
    falls

pub each-preserved : goal.each-preserved
each-preserved c =
    let i = c.each.invariant in
    let less = slot_shorter c.args.budget c.each.rest.now (declarator_tree c.in_ok-one.one) c.in_ok-one.after.now c.in_ok-one.ensures in
    let cut = rest_shorter c.in_ok-one.after.now in
    let same : length c.skip-rest.result.now ≡ length (rest c.in_ok-one.after.now) = ap length c.skip-rest.ensures in
    let goes = front_goes (slot_at c.args.budget) never i.0 c.each.rest.now c.in_ok-one.after.now (map declarator_tree c.each.all.items) (declarator_tree c.in_ok-one.one) i.1 c.in_ok-one.ensures (sym c.if-not-begins.ensures) refl in
    (i.0 - 1, omega (arith, i.1, less, cut, same), rw (c.in_ok-push.ensures.items, map_push declarator_tree c.each.all.items c.in_ok-one.one, c.skip-rest.ensures) (i.2 ∙ goes))
