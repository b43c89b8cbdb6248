use Rattle.std.proofs.Common.{arith, sym, ap, true, false, ◌∙◌, ◌≡◌, ◌<◌, ◌-◌, length, map}
use Rattle.std.proofs.lemmas.Result.{err_from_is_err_and}
use Rattle.std.proofs.lemmas.List.{map_push}
use Rattle.csub_lex.specs.declared.token.Mark.TheVariants.{CloseBrace}
use Rattle.csub_tree.specs.Declarations.{init_tree}
use Rattle.csub_expr.specs.Looks.{begins, rest}
use Rattle.csub_expr.specs.InitDescent.{read_init}
use Rattle.csub_expr.proofs.LawsTokens.{rest_shorter}
use Rattle.csub_expr.proofs.InitLaws.{shorter_init}
use Rattle.csub_expr.proofs.LawsLists.{front_fails, front_goes, front_ends, front_trailing}
use Rattle.csub_expr.proofs.initialiser.+init.Goals as goal

pub inits-returns-in_err-one : goal.inits-returns-in_err-one
inits-returns-in_err-one t c =
    let p = err_from_is_err_and c.from_residual.result c.from_residual.ensures.1 in
    let i = c.each.invariant in
    rw (p.1, p.2, i.2) (front_fails (read_init c.args.budget) (begins CloseBrace) c.in_err-one.field-0.0 i.0 c.each.rest.now (map init_tree c.each.all.items) i.1 c.in_err-one.ensures)

pub inits-returns-then-not-begins : goal.inits-returns-then-not-begins
inits-returns-then-not-begins t c =
    let i = c.each.invariant in
    rw (c.in_ok-push.ensures.items, map_push init_tree c.each.all.items c.in_ok-one.one)
    (i.2 ∙ front_ends (read_init c.args.budget) (begins CloseBrace) i.0 c.each.rest.now c.in_ok-one.after.now (map init_tree c.each.all.items) (init_tree c.in_ok-one.one) i.1 c.in_ok-one.ensures (sym c.if-not-begins.ensures))

pub inits-returns-then-begins : goal.inits-returns-then-begins
inits-returns-then-begins t c =
    let i = c.each.invariant in
    let stops : begins CloseBrace (rest c.in_ok-one.after.now) ≡ true = ap (begins CloseBrace) (sym c.skip-rest.ensures) ∙ sym c.if-begins.ensures in
    rw (c.in_ok-push.ensures.items, map_push init_tree c.each.all.items c.in_ok-one.one, c.skip-rest.ensures)
    (i.2 ∙ front_trailing (read_init c.args.budget) (begins CloseBrace) i.0 c.each.rest.now c.in_ok-one.after.now (map init_tree c.each.all.items) (init_tree c.in_ok-one.one) i.1 c.in_ok-one.ensures (sym c.if-not-begins.ensures) stops)

pub inits-each-smaller : goal.inits-each-smaller
inits-each-smaller t c =
    let less = shorter_init c.args.budget c.each.rest.now (init_tree c.in_ok-one.one) c.in_ok-one.after.now c.in_ok-one.ensures in
    let cut = rest_shorter c.in_ok-one.after.now in
    let same : length c.skip-rest.result.now ≡ length (rest c.in_ok-one.after.now) = ap length c.skip-rest.ensures in
    let falls : length c.skip-rest.result.now < length c.each.rest.now = omega (arith, less, cut, same) in
    falls

pub inits-each-preserved : goal.inits-each-preserved
inits-each-preserved t c =
    let i = c.each.invariant in
    let b = c.args.budget in
    let less = shorter_init b c.each.rest.now (init_tree c.in_ok-one.one) c.in_ok-one.after.now c.in_ok-one.ensures in
    let cut = rest_shorter c.in_ok-one.after.now in
    let same : length c.skip-rest.result.now ≡ length (rest c.in_ok-one.after.now) = ap length c.skip-rest.ensures in
    let on : begins CloseBrace (rest c.in_ok-one.after.now) ≡ false = ap (begins CloseBrace) (sym c.skip-rest.ensures) ∙ sym c.if-begins.ensures in
    let goes = front_goes (read_init b) (begins CloseBrace) i.0 c.each.rest.now c.in_ok-one.after.now (map init_tree c.each.all.items) (init_tree c.in_ok-one.one) i.1 c.in_ok-one.ensures (sym c.if-not-begins.ensures) on in
    (i.0 - 1, omega (arith, i.1, less, cut, same), rw (c.in_ok-push.ensures.items, map_push init_tree c.each.all.items c.in_ok-one.one, c.skip-rest.ensures) (i.2 ∙ goes))
