use Rattle.std.proofs.Common.{arith, sym, ◌∙◌, ◌-◌, map}
use Rattle.std.proofs.lemmas.Result.{err_from_is_err_and}
use Rattle.std.proofs.lemmas.List.{map_push}
use Rattle.csub_stmt.specs.DeclarationDescent.{length_at, no_length}
use Rattle.csub_tree.specs.Expressions.{expr_tree}
use Rattle.csub_stmt.proofs.DeclarationSound.{length_shorter}
use Rattle.csub_stmt.proofs.LawsLoops.{each_fails, each_goes, each_ends}
use Rattle.csub_stmt.proofs.declaration.lengths.Goals as goal

pub returns-in_err-one : goal.returns-in_err-one
returns-in_err-one c =
    let p = err_from_is_err_and c.from_residual.result c.from_residual.ensures.1 in
    let i = c.each.invariant in
    rw (p.1, p.2, i.2) (each_fails (length_at c.args.budget) (no_length c.args.budget) c.in_err-one.field-0.0 i.0 c.each.rest.now (map expr_tree c.each.all.items) i.1 (sym c.each-test.ensures) c.in_err-one.ensures)

pub each-smaller : goal.each-smaller
each-smaller c = length_shorter c.args.budget c.each.rest.now (expr_tree c.in_ok-one.one.value) c.in_ok-one.after.now c.in_ok-one.ensures

pub each-preserved : goal.each-preserved
each-preserved c =
    let i = c.each.invariant in
    let less = length_shorter c.args.budget c.each.rest.now (expr_tree c.in_ok-one.one.value) c.in_ok-one.after.now c.in_ok-one.ensures in
    let goes = each_goes (length_at c.args.budget) (no_length c.args.budget) i.0 c.each.rest.now c.in_ok-one.after.now (map expr_tree c.each.all.items) (expr_tree c.in_ok-one.one.value) i.1 (sym c.each-test.ensures) c.in_ok-one.ensures in
    (i.0 - 1, omega (arith, i.1, less), rw (c.in_ok-push.ensures.items, c.unboxed.ensures, map_push expr_tree c.each.all.items c.in_ok-one.one.value) (i.2 ∙ goes))

pub returns : goal.returns
returns c = let i = c.each.invariant in i.2 ∙ each_ends (length_at c.args.budget) (no_length c.args.budget) i.0 c.each.rest.now (map expr_tree c.each.all.items) (sym c.each-test.ensures)
