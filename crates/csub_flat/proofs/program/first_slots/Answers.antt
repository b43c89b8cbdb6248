use Rattle.std.proofs.Common.{◌≡◌, ◌∙◌, ap, ◌<◌, ◌≤◌, length, map, List, All, sym, subst, arith}
use Rattle.csub_semantics.specs.declared.function.Function.{Function}
use Rattle.csub_semantics.specs.Syntax.{function_tree}
use Rattle.csub_flat.specs.Frames.{frame_size}
use Rattle.csub_flat.specs.Copies.{first_in}
use Rattle.csub_flat.proofs.Programs.{size_at, first_none, first_some}
use Rattle.csub_flat.proofs.program.first_slots.Goals as goal

pub returns-clause-within : goal.returns-clause-within
returns-clause-within c most all =
    let now = c.functions-functions.result.now in
    let some : 0 < length now = omega arith in
    let each = subst (λ (fs : List Function). All (λ f. frame_size f ≤ most) (map function_tree fs)) (sym c.functions-functions.ensures.value) all in
    let size : frame_size (function_tree c.index-functions-0.result) ≤ most = size_at now 0 c.index-functions-0.result most each some c.index-functions-0.is in
    rw c.frame_slots.ensures.value size

pub returns-then-functions-eq0-clause-value : goal.returns-then-functions-eq0-clause-value
returns-then-functions-eq0-clause-value c =
    let now = c.functions-functions.result.now in
    let none : length now ≡ 0 = omega arith in
    first_none now none ∙ ap (λ (fs : List Function). first_in (map function_tree fs)) c.functions-functions.ensures.value

pub returns-clause-value : goal.returns-clause-value
returns-clause-value c =
    let now = c.functions-functions.result.now in
    let some : 0 < length now = omega arith in
    c.frame_slots.ensures.value ∙ first_some now c.index-functions-0.result some c.index-functions-0.is ∙ ap (λ (fs : List Function). first_in (map function_tree fs)) c.functions-functions.ensures.value
