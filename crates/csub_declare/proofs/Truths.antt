-- A test that decides the limits of types is the definition's.
use Rattle.std.proofs.Common.{◌≡◌, ◌↔◌, Bool, true, false, IsTrue, true≢false, refl, sym}
use Rattle.csub_objects.specs.Types.{TypeTree, IsSized}
use Rattle.csub_rules.specs.Sizes.{is_sized}
use Rattle.csub_rules.proofs.LawsSizes.{is_sized-Decides}

same_truth : (a b : Bool) → (IsTrue a → IsTrue b) → (IsTrue b → IsTrue a) → a ≡ b
same_truth true true p q = refl
same_truth true false p q = absurd (true≢false (sym (p refl)))
same_truth false true p q = absurd (true≢false (sym (q refl)))
same_truth false false p q = refl

pub is_limits : (b : Bool) (t : TypeTree) → (IsTrue b ↔ IsSized t) → b ≡ is_sized t
is_limits b t h = same_truth b (is_sized t) (λ p. (is_sized-Decides t).1 (h.0 p)) (λ p. h.1 ((is_sized-Decides t).0 p))
