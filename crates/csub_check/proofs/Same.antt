-- A test that decides equality of types is the definition's.
use Rattle.std.proofs.Common.{◌≡◌, ◌↔◌, Bool, true, false, IsTrue, true≢false, refl, sym}
use Rattle.csub_objects.specs.Types.{TypeTree, type_eq}
use Rattle.csub_objects.proofs.LawsTypes.{type_eq-Decides}

pub is_type_eq : (b : Bool) (t u : TypeTree) → (IsTrue b ↔ (t ≡ u)) → b ≡ type_eq t u
is_type_eq true t u h = sym ((type_eq-Decides t u).1 (h.0 refl))
is_type_eq false t u h = by (type_eq t u) refl
  where
    by : (c : Bool) → type_eq t u ≡ c → false ≡ c
    by true e = absurd (true≢false (sym (h.1 ((type_eq-Decides t u).0 e))))
    by false e = refl
