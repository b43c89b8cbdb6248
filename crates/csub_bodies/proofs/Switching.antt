-- Labels as the code keeps them.
use Rattle.std.proofs.Common.{◌≡◌, ◌∙◌, refl, sym, ap, ℤ, List, [], ◌∷◌, ◌++◌, map, Bool, true, false, ◌||◌, if◌then◌else◌}
use Rattle.std.specs.List.{list_any}
use Rattle.std.specs.Ordering.{int_eq}
use Rattle.std.proofs.lemmas.Bool.Decides.{Decides-int_eq}
use Rattle.csub_rules.specs.CaseLabels.{CaseLabel, a_value, the_default, label_eq}
use Rattle.csub_bodies.specs.Switches.{with_default, inserted}

no_default : (keys : List ℤ) → list_any (label_eq the_default) (map a_value keys) ≡ false
no_default [] = refl
no_default (k ∷ keys) = no_default keys

pub default_seen : (d : Bool) (keys : List ℤ) → list_any (label_eq the_default) (with_default d (map a_value keys)) ≡ d
default_seen true keys = refl
default_seen false keys = no_default keys

values_seen : (v : ℤ) (keys : List ℤ) → list_any (label_eq (a_value v)) (map a_value keys) ≡ list_any (int_eq v) keys
values_seen v [] = refl
values_seen v (k ∷ keys) = ap (λ b. int_eq v k || b) (values_seen v keys)

pub value_seen : (v : ℤ) (d : Bool) (keys : List ℤ) → list_any (label_eq (a_value v)) (with_default d (map a_value keys)) ≡ list_any (int_eq v) keys
value_seen v true keys = values_seen v keys
value_seen v false keys = values_seen v keys

any_last : (w v : ℤ) (keys : List ℤ) → list_any (int_eq w) (keys ++ v ∷ []) ≡ (int_eq w v || list_any (int_eq w) keys)
any_last w v [] = refl
any_last w v (k ∷ keys) = ap (λ b. int_eq w k || b) (any_last w v keys) ∙ by (int_eq w k) (int_eq w v) (list_any (int_eq w) keys)
  where
    by : (a b c : Bool) → (a || (b || c)) ≡ (b || (a || c))
    by true true c = refl
    by true false c = refl
    by false b c = refl

any_there : (w v : ℤ) (keys : List ℤ) → list_any (int_eq v) keys ≡ true → list_any (int_eq w) keys ≡ (int_eq w v || list_any (int_eq w) keys)
any_there w v keys h = by (int_eq w v) refl
  where
    by : (b : Bool) → int_eq w v ≡ b → list_any (int_eq w) keys ≡ (b || list_any (int_eq w) keys)
    by true e = ap (λ x. list_any (int_eq x) keys) ((Decides-int_eq w v).0 e) ∙ h
    by false e = refl

pub any_inserted : (w v : ℤ) (keys : List ℤ) → list_any (int_eq w) (inserted keys v) ≡ (int_eq w v || list_any (int_eq w) keys)
any_inserted w v keys = by (list_any (int_eq v) keys) refl
  where
    by : (b : Bool) → list_any (int_eq v) keys ≡ b → list_any (int_eq w) (if b then keys else keys ++ v ∷ []) ≡ (int_eq w v || list_any (int_eq w) keys)
    by true e = any_there w v keys e
    by false e = any_last w v keys

-- one more label among those that are seen
pub with_value : (v : ℤ) (d : Bool) (keys : List ℤ) (l : CaseLabel) → list_any (label_eq l) (with_default d (map a_value (inserted keys v)))
    ≡ list_any (label_eq l) (a_value v ∷ with_default d (map a_value keys))
with_value v d keys (a_value w) =
    value_seen w d (inserted keys v) ∙ any_inserted w v keys ∙ ap (λ b. int_eq w v || b) (sym (value_seen w d keys))
with_value v d keys the_default = default_seen d (inserted keys v) ∙ sym (default_seen d keys)

pub with_the_default : (d : Bool) (keys : List ℤ) (l : CaseLabel) → list_any (label_eq l) (with_default true (map a_value keys))
    ≡ list_any (label_eq l) (the_default ∷ with_default d (map a_value keys))
with_the_default d keys (a_value w) = values_seen w keys ∙ sym (value_seen w d keys)
with_the_default d keys the_default = refl
