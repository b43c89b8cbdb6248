use Rattle.std.proofs.Common.{arith, refl, sym, ap, ◌∙◌, ◌≡◌, ◌≤◌, ◌<◌, length, map, max, ◌+◌, ◌-◌}
use Rattle.std.specs.Option.{option_map}
use Rattle.std.proofs.lemmas.Result.{err_from_is_err_and}
use Rattle.std.proofs.lemmas.List.{map_push}
use Rattle.csub_tree.specs.Expressions.{expr_tree}
use Rattle.csub_tree.specs.Depth.{expr_depth}
use Rattle.csub_tree.specs.SpellsExpressions.{assignment, binary}
use Rattle.csub_expr.specs.Looks.{rest, operator_view}
use Rattle.csub_expr.specs.Answers.{Fails}
use Rattle.csub_expr.specs.ListDescent.{never}
use Rattle.csub_expr.specs.ExprDescent.{read}
use Rattle.csub_expr.proofs.LawsTokens.{rest_shorter}
use Rattle.csub_expr.proofs.Spelled.{depth_pos, joined_depth}
use Rattle.csub_expr.proofs.ExprSound.{shorter}
use Rattle.csub_expr.proofs.ExprReads.{more_none, behind_none}
use Rattle.csub_expr.proofs.Unrolled.{read_looser, fails_looser, some_left, fails_bind, more_on, more_full, behind_on, behind_full, depth_push, assign_full, assign_on}
use Rattle.csub_expr.proofs.LawsLists.{front_fails, front_goes, front_ends}
use Rattle.csub_expr.proofs.expression.+expr.Goals as goal
use Rattle.csub_expr.proofs.expression.+expr.Goals.{run-in-Some+then-depth-budget, run-in_default, tails-in-Some+then-depth-budget, tails-in_default}

pub args-returns-in_err-arg-clause-gives : goal.args-returns-in_err-arg-clause-gives
args-returns-in_err-arg-clause-gives t c =
    let p = err_from_is_err_and c.from_residual.result c.from_residual.ensures.1 in
    let i = c.each.invariant in
    rw (p.1, p.2, i.goes_on.2) (front_fails (read c.args.budget assignment) never c.in_err-arg.field-0.0 i.goes_on.0 c.each.rest.now (map expr_tree c.each.all.items) i.goes_on.1 c.in_err-arg.ensures.gives)

pub args-returns-then-not-begins-clause-gives : goal.args-returns-then-not-begins-clause-gives
args-returns-then-not-begins-clause-gives t c =
    let i = c.each.invariant in
    rw (c.in_ok-push.ensures.items, map_push expr_tree c.each.all.items c.in_ok-arg.arg)
    (i.goes_on.2 ∙ front_ends (read c.args.budget assignment) never i.goes_on.0 c.each.rest.now c.in_ok-arg.after.now (map expr_tree c.each.all.items) (expr_tree c.in_ok-arg.arg) i.goes_on.1 c.in_ok-arg.ensures.gives (sym c.if-not-begins.ensures))

pub args-returns-then-not-begins-clause-deep : goal.args-returns-then-not-begins-clause-deep
args-returns-then-not-begins-clause-deep t c =
    let i = c.each.invariant in
    let m : c.max-deep.result ≡ max c.each.deep c.in_ok-arg.depth = c.max-deep.ensures in
    rw (c.in_ok-push.ensures.items, map_push expr_tree c.each.all.items c.in_ok-arg.arg, depth_push (map expr_tree c.each.all.items) (expr_tree c.in_ok-arg.arg))
    (omega (arith, m, i.is_depth, c.in_ok-arg.ensures.deep))

pub args-each-smaller : goal.args-each-smaller
args-each-smaller t c =
    let less = shorter c.args.budget assignment c.each.rest.now (expr_tree c.in_ok-arg.arg) c.in_ok-arg.after.now c.in_ok-arg.ensures.gives in
    let cut = rest_shorter c.in_ok-arg.after.now in
    let same : length c.skip-rest.result.now ≡ length (rest c.in_ok-arg.after.now) = ap length c.skip-rest.ensures in
    let falls : length c.skip-rest.result.now < length c.each.rest.now = omega (arith, less, cut, same) in
    falls

pub args-each-preserved : goal.args-each-preserved
args-each-preserved t c =
    let i = c.each.invariant in
    let b = c.args.budget in
    let m : c.max-deep.result ≡ max c.each.deep c.in_ok-arg.depth = c.max-deep.ensures in
    let less = shorter b assignment c.each.rest.now (expr_tree c.in_ok-arg.arg) c.in_ok-arg.after.now c.in_ok-arg.ensures.gives in
    let cut = rest_shorter c.in_ok-arg.after.now in
    let same : length c.skip-rest.result.now ≡ length (rest c.in_ok-arg.after.now) = ap length c.skip-rest.ensures in
    let goes = front_goes (read b assignment) never i.goes_on.0 c.each.rest.now c.in_ok-arg.after.now (map expr_tree c.each.all.items) (expr_tree c.in_ok-arg.arg) i.goes_on.1 c.in_ok-arg.ensures.gives (sym c.if-not-begins.ensures) refl in
    record {
      is_depth = rw (c.in_ok-push.ensures.items, map_push expr_tree c.each.all.items c.in_ok-arg.arg, depth_push (map expr_tree c.each.all.items) (expr_tree c.in_ok-arg.arg)) (omega (arith, m, i.is_depth, c.in_ok-arg.ensures.deep));
      fits = omega (arith, m, i.fits, c.in_ok-arg.ensures.fits);
      goes_on = (i.goes_on.0 - 1, omega (arith, i.goes_on.1, less, cut, same), rw (c.in_ok-push.ensures.items, map_push expr_tree c.each.all.items c.in_ok-arg.arg, c.skip-rest.ensures) (i.goes_on.2 ∙ goes));
    }

pub run-more-init : goal.run-more-init
run-more-init t c = record {
  is_depth = c.requires.is_depth;
  fits = c.requires.within;
  goes_on = (c.args.budget, omega (arith, c.requires.is_depth, depth_pos (expr_tree c.args.first)), refl);
}

pub run-returns-in_err-right-clause-gives : goal.run-returns-in_err-right-clause-gives
run-returns-in_err-right-clause-gives t c =
    let p = err_from_is_err_and c.from_residual-in_err-right.result c.from_residual-in_err-right.ensures.1 in
    let i = c.more.invariant in
    let b = c.args.budget in
    let failed : Fails c.in_err-right.field-0.0 (read (b - 1) (binary c.args.level) (rest c.more.rest.now)) = rw (← c.skip.ensures) c.in_err-right.ensures.gives in
    let lt : expr_depth (expr_tree c.more.left) ≤ b - 1 = omega (arith, i.is_depth) in
    rw (p.1, p.2, i.goes_on.2, more_on (read (b - 1)) (b - 1) c.args.level i.goes_on.0 (expr_tree c.more.left) c.more.rest.now (operator_view c.in-Some.joint) (omega (arith, i.goes_on.1, i.fits)) (sym c.in-Some.ensures) lt)
    (fails_bind c.in_err-right.field-0.0 _ _ failed)

pub run-more-preserved : goal.run-more-preserved
run-more-preserved t c =
    let i = c.more.invariant in
    let b = c.args.budget in
    let made = rw c.in_ok-waiting.ensures.ok at c.in_ok-left.ensures.ok in
    let lt : expr_depth (expr_tree c.more.left) ≤ b - 1 = omega (arith, i.is_depth) in
    record {
      is_depth = rw made (omega (arith, joined_depth (operator_view c.in-Some.joint) (expr_tree c.more.left) (expr_tree c.in_ok-right.right), i.is_depth, c.in_ok-right.ensures.deep, c.max-depth.ensures));
      fits = omega (arith, c.max-depth.ensures, c.in_ok-right.ensures.fits);
      goes_on = (i.goes_on.0 - 1, omega (arith, i.goes_on.1, c.max-depth.ensures), rw (i.goes_on.2, made, more_on (read (b - 1)) (b - 1) c.args.level i.goes_on.0 (expr_tree c.more.left) c.more.rest.now (operator_view c.in-Some.joint) (omega (arith, i.goes_on.1, i.fits)) (sym c.in-Some.ensures) lt) (rw (← c.skip.ensures, c.in_ok-right.ensures.gives) refl));
    }

pub run-returns-clause-gives : goal.run-returns-clause-gives
run-returns-clause-gives t c =
    let i = c.more.invariant in
    let b = c.args.budget in
    i.goes_on.2 ∙ elim c.match-op_at.branch [
      | run-in-Some+then-depth-budget w ↦ more_full (read (b - 1)) (b - 1) c.args.level i.goes_on.0 (expr_tree c.more.left) c.more.rest.now (omega (arith, i.is_depth, w.if-depth-budget.true))
      | run-in_default w ↦ more_none (read (b - 1)) (b - 1) c.args.level i.goes_on.0 (expr_tree c.more.left) c.more.rest.now (sym c.op_at.ensures ∙ ap (option_map operator_view) w.in_default.is)
    ]

pub joined-returns-in_err-left-clause-gives : goal.joined-returns-in_err-left-clause-gives
joined-returns-in_err-left-clause-gives t c =
    let p = err_from_is_err_and c.from_residual.result c.from_residual.ensures.1 in
    let all : c.args.level + 0 ≡ c.args.level = omega arith in
    let failed : Fails c.in_err-left.field-0.0 (read c.args.budget (binary c.args.level) c.args.tokens.now) = rw all at (fails_looser c.in_err-left.field-0.0 c.args.budget 0 c.args.level c.args.tokens.now c.in_err-left.ensures.gives) in
    rw (p.1, p.2) failed

pub joined-returns-in_err-next-clause-gives : goal.joined-returns-in_err-next-clause-gives
joined-returns-in_err-next-clause-gives t c =
    let p = err_from_is_err_and c.from_residual-in_err-next.result c.from_residual-in_err-next.ensures.1 in
    let i = c.levels.invariant in
    let b = c.args.budget in
    let e = c.in_err-next.field-0.0 in
    let hb = some_left b (binary c.levels.at) c.args.tokens.now (expr_tree c.levels.left, c.levels.rest.now) i.so_far in
    let here : Fails e (read b (binary (c.levels.at + 1)) c.args.tokens.now) = rw (read_looser b c.levels.at c.args.tokens.now hb, i.so_far) c.in_err-next.ensures.gives in
    let all : c.args.level - (c.levels.at + 1) + (c.levels.at + 1) ≡ c.args.level = omega arith in
    let failed : Fails e (read b (binary c.args.level) c.args.tokens.now) = rw all at (fails_looser e b (c.levels.at + 1) (c.args.level - (c.levels.at + 1)) c.args.tokens.now here) in
    rw (p.1, p.2) failed

pub joined-levels-preserved : goal.joined-levels-preserved
joined-levels-preserved t c =
    let i = c.levels.invariant in
    let b = c.args.budget in
    let hb = some_left b (binary c.levels.at) c.args.tokens.now (expr_tree c.levels.left, c.levels.rest.now) i.so_far in
    record {
      is_depth = c.in_ok-next.ensures.deep;
      fits = c.in_ok-next.ensures.fits;
      so_far = rw (read_looser b c.levels.at c.args.tokens.now hb, i.so_far) c.in_ok-next.ensures.gives;
    }

pub tails-tails-init : goal.tails-tails-init
tails-tails-init t c = record {
  is_depth = c.requires.is_depth;
  fits = c.requires.within;
  goes_on = (c.args.budget, omega (arith, c.requires.is_depth, depth_pos (expr_tree c.args.first)), refl);
}

pub tails-returns-in_err-next-clause-gives : goal.tails-returns-in_err-next-clause-gives
tails-returns-in_err-next-clause-gives t c =
    let p = err_from_is_err_and c.from_residual.result c.from_residual.ensures.1 in
    let i = c.tails.invariant in
    let b = c.args.budget in
    let lt : expr_depth (expr_tree c.tails.e) ≤ b - 1 = omega (arith, i.is_depth) in
    rw (p.1, p.2, i.goes_on.2, behind_on (read (b - 1)) (b - 1) i.goes_on.0 (expr_tree c.tails.e) c.tails.rest.now c.in-Some.tail (omega (arith, i.goes_on.1, i.fits)) (sym c.in-Some.ensures) lt)
    (fails_bind c.in_err-next.field-0.0 _ _ c.in_err-next.ensures.gives)

pub tails-tails-preserved : goal.tails-tails-preserved
tails-tails-preserved t c =
    let i = c.tails.invariant in
    let b = c.args.budget in
    let lt : expr_depth (expr_tree c.tails.e) ≤ b - 1 = omega (arith, i.is_depth) in
    record {
      is_depth = c.in_ok-next.ensures.deep;
      fits = c.in_ok-next.ensures.fits;
      goes_on = (i.goes_on.0 - 1, omega (arith, i.goes_on.1, c.in_ok-next.ensures.deeper), rw (i.goes_on.2, behind_on (read (b - 1)) (b - 1) i.goes_on.0 (expr_tree c.tails.e) c.tails.rest.now c.in-Some.tail (omega (arith, i.goes_on.1, i.fits)) (sym c.in-Some.ensures) lt) (rw c.in_ok-next.ensures.gives refl));
    }

pub tails-returns-clause-gives : goal.tails-returns-clause-gives
tails-returns-clause-gives t c =
    let i = c.tails.invariant in
    let b = c.args.budget in
    i.goes_on.2 ∙ elim c.match-tail_at.branch [
      | tails-in-Some+then-depth-budget w ↦ behind_full (read (b - 1)) (b - 1) i.goes_on.0 (expr_tree c.tails.e) c.tails.rest.now (omega (arith, i.is_depth, w.if-depth-budget.true))
      | tails-in_default w ↦ behind_none (read (b - 1)) (b - 1) i.goes_on.0 (expr_tree c.tails.e) c.tails.rest.now (sym c.tail_at.ensures ∙ w.in_default.is)
    ]

pub assign-returns-then-depth-budget-clause-gives : goal.assign-returns-then-depth-budget-clause-gives
assign-returns-then-depth-budget-clause-gives t c =
    assign_full c.args.budget c.args.tokens.now c.in_ok-first.rest.now c.in_ok-left.rest.now (expr_tree c.in_ok-first.first) (expr_tree c.in_ok-left.left) c.in-Some.op (omega arith) c.in_ok-first.ensures.gives c.in_ok-left.ensures.gives (sym c.in-Some.ensures) (sym c.if-not-is_unary.ensures) (omega (arith, c.in_ok-left.ensures.deep))

pub assign-returns-clause-gives : goal.assign-returns-clause-gives
assign-returns-clause-gives t c =
    rw (c.in_ok-node.ensures.ok, c.in_ok-waiting.ensures.ok) (assign_on c.args.budget c.args.tokens.now c.in_ok-first.rest.now c.in_ok-left.rest.now c.in_ok-right.rest.now (expr_tree c.in_ok-first.first) (expr_tree c.in_ok-left.left) (expr_tree c.in_ok-right.right) c.in-Some.op (omega arith) c.in_ok-first.ensures.gives c.in_ok-left.ensures.gives (sym c.in-Some.ensures) (sym c.if-not-is_unary.ensures) (omega (arith, c.in_ok-left.ensures.deep)) (rw (← c.skip.ensures) c.in_ok-right.ensures.gives))
