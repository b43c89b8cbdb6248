use Rattle.std.proofs.Common.{◌≡◌, ◌+◌, ℕ, IfOk, sum_by, ap, subst, arith}
use Rattle.csub_semantics.specs.Syntax.{function_tree}
use Rattle.csub_validity.specs.Valid.{frame_cells}
use Rattle.csub_limits.specs.Counts.{local_cells, param_cells}
use Rattle.csub_limits.proofs.Frames.{frame_sum}
use Rattle.csub_limits.proofs.limits.frame_cells.Goals as goal

pub returns : goal.returns
returns c =
    let params = ap (sum_by param_cells) c.deref.ensures.value in
    let locals = ap (sum_by local_cells) c.deref-2.ensures.value in
    let whole : c.in_ok-with_params.with_params + sum_by local_cells c.deref-2.result.now ≡ frame_cells (function_tree c.args.function.now) = omega (arith, frame_sum c.args.function.now, params, locals, c.in_ok-with_params.ensures, c.from.ensures) in
    subst (λ n. IfOk c.add_locals.result (λ (count : ℕ). count ≡ n)) whole c.add_locals.ensures
