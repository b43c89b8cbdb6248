use Rattle.std.proofs.Common.{◌≡◌, ℕ, ◌∙◌, ◌++◌, ◌∷◌, [], length, Option, Some, sym, ap, subst, subst₂, ◌⊎◌, inl, inr, arith, length-append}
use Rattle.std.specs.Prelude.{slice_get}
use Rattle.dual_walk.proofs.LawsLists.{get_push}
use Rattle.walk_cert.specs.Entries.{IsEntryFor}
use Rattle.walk_cert.proofs.alike.list_entries.Goals as goal

pub loop-point-preserved : goal.loop-point-preserved
loop-point-preserved c = record {
  points = let before = c.loop-point.invariant.points in omega (arith, before, ap length items, length-append c.loop-point.entries.items (c.find_entry.result ∷ []));
  each = λ n found at. pick n found (get_push c.loop-point.entries.items c.find_entry.result n found (subst (λ row. slice_get row n ≡ Some found) items at));
}
  where
    items : c.push.new.self.items ≡ c.loop-point.entries.items ++ c.find_entry.result ∷ []
    items = c.in_ok-push.ensures.items

    pick : (n : ℕ) (found : Option ℕ) → (slice_get c.loop-point.entries.items n ≡ Some found) ⊎ ((n ≡ length c.loop-point.entries.items) × (found ≡ c.find_entry.result))
        → IsEntryFor c.args.old.now c.args.new.now n found
    pick n found (inl before) = c.loop-point.invariant.each n found before
    pick n found (inr last) = subst₂ (IsEntryFor c.args.old.now c.args.new.now) (sym (last.0 ∙ c.loop-point.invariant.points)) (sym last.1) c.find_entry.ensures
