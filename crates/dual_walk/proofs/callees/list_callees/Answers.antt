use Rattle.std.proofs.Common.{◌≡◌, ℕ, ◌∙◌, ◌++◌, ◌∷◌, [], length, Option, Some, sym, ap, subst, subst₂, ◌⊎◌, inl, inr, arith, length-append}
use Rattle.std.specs.Prelude.{slice_get}
use Rattle.dual_walk.specs.Callees.{IsCalleeAt}
use Rattle.dual_walk.specs.declared.callees.Callee.{Callee}
use Rattle.dual_walk.proofs.LawsLists.{get_push}
use Rattle.dual_walk.proofs.callees.list_callees.Goals as goal

pub loop-point-preserved : goal.loop-point-preserved
loop-point-preserved c = record {
  points = let before = c.loop-point.invariant.points in omega (arith, before, ap length items, length-append c.loop-point.callees.items (c.find_callee.result ∷ []));
  each = λ n callee at. pick n callee (get_push c.loop-point.callees.items c.find_callee.result n callee (subst (λ row. slice_get row n ≡ Some callee) items at));
}
  where
    items : c.push.new.self.items ≡ c.loop-point.callees.items ++ c.find_callee.result ∷ []
    items = c.in_ok-push.ensures.items

    pick : (n : ℕ) (callee : Option Callee) → (slice_get c.loop-point.callees.items n ≡ Some callee) ⊎ ((n ≡ length c.loop-point.callees.items) × (callee ≡ c.find_callee.result))
        → IsCalleeAt c.args.old.now c.args.new.now n callee
    pick n callee (inl before) = c.loop-point.invariant.each n callee before
    pick n callee (inr last) = subst₂ (IsCalleeAt c.args.old.now c.args.new.now) (sym (last.0 ∙ c.loop-point.invariant.points)) (sym last.1) c.find_callee.ensures
