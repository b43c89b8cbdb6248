use Rattle.std.proofs.Common.{arith, sym, ◌∙◌, ◌≡◌, ◌-◌, suc, Ok, length, map}
use Rattle.std.proofs.lemmas.Result.{err_from_is_err_and}
use Rattle.std.proofs.lemmas.List.{map_push}
use Rattle.csub_tree.specs.Declarations.{declarator_tree}
use Rattle.csub_expr.specs.Looks.{rest}
use Rattle.csub_expr.specs.Answers.{Fails}
use Rattle.csub_expr.proofs.LawsTokens.{rest_shorter}
use Rattle.csub_stmt.specs.DeclarationDescent.{var_at}
use Rattle.csub_stmt.proofs.DeclarationSound.{var_shorter}
use Rattle.csub_stmt.proofs.LawsLoops.{others_begin, others_fail, others_go, others_end}
use Rattle.csub_stmt.proofs.declaration.vars.Goals as goal

pub each-init : goal.each-init
each-init c =
    (suc (length (rest c.args.tokens.now)), omega arith, rw c.in_ok-all.ensures.ok (others_begin (var_at c.args.budget) (declarator_tree c.args.first) c.args.tokens.now))

pub returns-in_err-one : goal.returns-in_err-one
returns-in_err-one c =
    let p = err_from_is_err_and c.from_residual-in_err-one.result c.from_residual-in_err-one.ensures.1 in
    let i = c.each.invariant in
    let failed : Fails c.in_err-one.field-0.0 (var_at c.args.budget (rest c.each.rest.now)) = rw (← c.skip.ensures) c.in_err-one.ensures in
    rw (p.1, p.2, i.2) (others_fail (var_at c.args.budget) c.in_err-one.field-0.0 i.0 c.each.rest.now (map declarator_tree c.each.all.items) i.1 (sym c.each-test.ensures) failed)

pub each-smaller : goal.each-smaller
each-smaller c =
    let one : var_at c.args.budget (rest c.each.rest.now) ≡ Ok (declarator_tree c.in_ok-one.one, c.in_ok-one.after.now) = rw (← c.skip.ensures) c.in_ok-one.ensures in
    omega (arith, var_shorter c.args.budget (rest c.each.rest.now) (declarator_tree c.in_ok-one.one) c.in_ok-one.after.now one, rest_shorter c.each.rest.now)

pub each-preserved : goal.each-preserved
each-preserved c =
    let i = c.each.invariant in
    let one : var_at c.args.budget (rest c.each.rest.now) ≡ Ok (declarator_tree c.in_ok-one.one, c.in_ok-one.after.now) = rw (← c.skip.ensures) c.in_ok-one.ensures in
    let less = var_shorter c.args.budget (rest c.each.rest.now) (declarator_tree c.in_ok-one.one) c.in_ok-one.after.now one in
    let goes = others_go (var_at c.args.budget) i.0 c.each.rest.now c.in_ok-one.after.now (map declarator_tree c.each.all.items) (declarator_tree c.in_ok-one.one) i.1 (sym c.each-test.ensures) one in
    (i.0 - 1, omega (arith, i.1, less, rest_shorter c.in_ok-one.after.now), rw (c.in_ok-push.ensures.items, map_push declarator_tree c.each.all.items c.in_ok-one.one) (i.2 ∙ goes))

pub returns : goal.returns
returns c = let i = c.each.invariant in i.2 ∙ others_end (var_at c.args.budget) i.0 c.each.rest.now (map declarator_tree c.each.all.items) (sym c.each-test.ensures)
