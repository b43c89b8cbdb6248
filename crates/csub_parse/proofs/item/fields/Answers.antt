use Rattle.std.proofs.Common.{arith, refl, sym, ◌∙◌, ◌-◌, suc, length, map}
use Rattle.std.proofs.lemmas.Result.{err_from_is_err_and}
use Rattle.std.proofs.lemmas.List.{map_push}
use Rattle.csub_lex.specs.declared.token.Mark.TheVariants.{CloseBrace}
use Rattle.csub_expr.specs.Looks.{begins}
use Rattle.csub_stmt.specs.DeclarationDescent.{field_at}
use Rattle.csub_parse.specs.UnitDescent.{fields_after}
use Rattle.csub_tree.specs.Declarations.{declare_tree}
use Rattle.csub_stmt.proofs.LawsDeclarations.{field_shorter}
use Rattle.csub_stmt.proofs.LawsLoops.{each_fails, each_goes, each_ends}
use Rattle.csub_parse.proofs.item.fields.Goals as goal

pub each-init : goal.each-init
unfolding fields_after
each-init c = (suc (length c.args.tokens.now), omega arith, rw c.in_ok-all.ensures.ok refl)

pub returns-in_err-one : goal.returns-in_err-one
returns-in_err-one c =
    let p = err_from_is_err_and c.from_residual-in_err-one.result c.from_residual-in_err-one.ensures.1 in
    let i = c.each.invariant in
    rw (p.1, p.2, i.2) (each_fails (field_at c.args.budget) (begins CloseBrace) c.in_err-one.field-0.0 i.0 c.each.rest.now (map declare_tree c.each.all.items) i.1 (sym c.each-test.ensures) c.in_err-one.ensures)

pub each-smaller : goal.each-smaller
each-smaller c = field_shorter c.args.budget c.each.rest.now (declare_tree c.in_ok-one.one) c.in_ok-one.after.now c.in_ok-one.ensures

pub each-preserved : goal.each-preserved
each-preserved c =
    let i = c.each.invariant in
    let less = field_shorter c.args.budget c.each.rest.now (declare_tree c.in_ok-one.one) c.in_ok-one.after.now c.in_ok-one.ensures in
    let goes = each_goes (field_at c.args.budget) (begins CloseBrace) i.0 c.each.rest.now c.in_ok-one.after.now (map declare_tree c.each.all.items) (declare_tree c.in_ok-one.one) i.1 (sym c.each-test.ensures) c.in_ok-one.ensures in
    (i.0 - 1, omega (arith, i.1, less), rw (c.in_ok-push.ensures.items, map_push declare_tree c.each.all.items c.in_ok-one.one) (i.2 ∙ goes))

pub returns : goal.returns
returns c = let i = c.each.invariant in i.2 ∙ each_ends (field_at c.args.budget) (begins CloseBrace) i.0 c.each.rest.now (map declare_tree c.each.all.items) (sym c.each-test.ensures)
