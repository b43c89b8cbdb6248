-- Types that are the same, and parameters that agree.
use Rattle.std.proofs.Common.{◌≡◌, ◌↔◌, refl, sym, arith, List, [], ◌∷◌, length, map, Bool, true, false, IsTrue, true≢false, ◌&&◌}
use Rattle.csub_objects.specs.declared.types.CType.{CType}
use Rattle.csub_objects.specs.Meaning.{type_tree}
use Rattle.csub_objects.specs.Types.{TypeTree, type_eq}
use Rattle.csub_objects.proofs.LawsTypes.{type_eq-Decides}
use Rattle.csub_rules.specs.Params.{param_type}
use Rattle.csub_scopes.specs.Scopes.{Scope}
use Rattle.csub_tree.specs.declared.declaration.Param.{Param as CodeParam}
use Rattle.csub_tree.specs.Declarations.{param_tree}
use Rattle.csub_rules.specs.Heads.{agrees, params_agree}

pub is_type_eq : (b : Bool) (t u : TypeTree) → (IsTrue b ↔ (t ≡ u)) → b ≡ type_eq t u
is_type_eq true t u h = sym ((type_eq-Decides t u).1 (h.0 refl))
is_type_eq false t u h = by (type_eq t u) refl
  where
    by : (c : Bool) → type_eq t u ≡ c → false ≡ c
    by true e = absurd (true≢false (sym (h.1 ((type_eq-Decides t u).0 e))))
    by false e = refl

-- as many types as parameters are wanted
pub other_lengths : (scope : Scope) (ts : List CType) (ps : List CodeParam) → (length ts ≡ length ps → ⊥)
    → false ≡ params_agree scope (map type_tree ts) (map param_tree ps)
other_lengths scope [] [] h = absurd (h refl)
other_lengths scope [] (p ∷ ps) h = refl
other_lengths scope (t ∷ ts) [] h = refl
other_lengths scope (t ∷ ts) (p ∷ ps) h =
    by (agrees (type_tree t) (param_type scope (param_tree p))) (other_lengths scope ts ps (λ e. h (omega arith)))
  where
    by : (b : Bool) → false ≡ params_agree scope (map type_tree ts) (map param_tree ps)
        → false ≡ (b && params_agree scope (map type_tree ts) (map param_tree ps))
    by true e = e
    by false e = refl
