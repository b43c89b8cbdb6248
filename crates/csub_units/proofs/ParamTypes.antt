-- Parameters one after the other.
use Rattle.std.proofs.Common.{◌≡◌, ◌∙◌, ap, ℕ, ◌+◌, ◌<◌, List, [], ◌∷◌, ◌++◌, length, map, drop, get_or, append_assoc}
use Rattle.csub_tree.specs.declared.declaration.Param.{Param as CodeParam}
use Rattle.csub_tree.specs.Declarations.{param_tree}
use Rattle.csub_objects.specs.Types.{TypeTree}
use Rattle.csub_rules.specs.Here.{Here}
use Rattle.csub_rules.specs.Params.{param_type}
use Rattle.csub_rules.specs.Heads.{past_param, param_types, sure_type}
use Rattle.csub_units.proofs.Loops.{dropped}

-- one type more
pub types_more : (s k : Here) (old new : List TypeTree) (xs : List CodeParam) (i : ℕ) (x : CodeParam) → i < length xs → x ≡ get_or xs i x
    → k ≡ past_param s (param_tree x) → new ≡ old ++ sure_type (param_type s.scope (param_tree x)) ∷ []
    → new ++ param_types k (map param_tree (drop (i + 1) xs)) ≡ old ++ param_types s (map param_tree (drop i xs))
types_more s k old new xs i x h e p n =
    let rest : List TypeTree = param_types k (map param_tree (drop (i + 1) xs)) in
    let this : TypeTree = sure_type (param_type s.scope (param_tree x)) in
    ap (λ ts. ts ++ rest) n ∙ append_assoc old (this ∷ []) rest
    ∙ ap (λ (j : Here). old ++ this ∷ param_types j (map param_tree (drop (i + 1) xs))) p
    ∙ ap (λ ys. old ++ param_types s (map param_tree ys)) (dropped xs i x h e)
