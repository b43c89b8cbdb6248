use Rattle.std.proofs.Common.{ℕ, ◌<◌, ◌≡◌, ◌≢◌, get_or, All}
use Rattle.csub_objects.specs.declared.types.Member.{Member}
use Rattle.csub_semantics.specs.declared.function.LocalVar.{LocalVar}
use Rattle.csub_decisions.proofs.objects.are_apart.Given as goal

abbrev pub invariant-loop-local : goal.invariant-loop-local
invariant-loop-local l =
    (k : ℕ) (d : LocalVar) → k < l.local-index → (get_or l.locals k d).number ≡ 1 → All (λ (p : Member). p.name ≢ (get_or l.locals k d).name) l.params
