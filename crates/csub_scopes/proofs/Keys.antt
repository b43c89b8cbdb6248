-- What a change of a map of names leaves at other names.
use Rattle.std.proofs.Common.{◌≡◌, ℕ, List, Bool, true, false, Option, Some, Vec, sym, ap, subst, ◌∙◌, ⊎_elim, if◌then◌else◌}
use Rattle.std.specs.Str.{bytes_eq}
use Rattle.std.specs.Map.{KeepsOthers, IsKeyTest, AreApart, lookup}
use Rattle.std.specs.declared.alloc.Global.{Global}
use Rattle.std.proofs.lemmas.Bool.{cases_Bool, cond-true, cond-false}
use Rattle.std.proofs.lemmas.Cmp.{nat_list_eq_equiv}
use Rattle.std.proofs.lemmas.Slice.Eq.{bytes_eq-Decides}
use Rattle.indexmap.specs.IndexMap.{IndexMap, UpdatesBy}
use Rattle.csub_objects.specs.Types.{Name}
use Rattle.csub_scopes.specs.Places.{placed, flat}

apart : (a b key : Name) → bytes_eq a b ≡ false → bytes_eq a key ≡ true → bytes_eq b key ≡ false
apart a b key n y = nat_list_eq_equiv.symm b key ∙ sym (nat_list_eq_equiv.congr a key b y) ∙ n

others : {K : Type 0} (eq : K → K → Bool) (test : K → Bool) {X : Type 0} (old new : List (K × X)) → KeepsOthers eq test old new
    → (other : K → Bool) → IsKeyTest eq other → AreApart test other → lookup other new ≡ lookup other old
unfolding KeepsOthers
others eq test old new h = h

-- the places after one is put at a name
pub placed-updates : {S : Type 0} (m n : IndexMap (Vec ℕ Global) (Option ℕ) S) (name : Name) (w : Option ℕ)
    → UpdatesBy (λ a b. bytes_eq a.items b.items) (λ key. bytes_eq name key.items) m n (Some w)
    → (other : Name) → placed n other ≡ (if bytes_eq name other then w else placed m other)
placed-updates m n name w h other =
    ⊎_elim
    (λ y. subst (λ x. placed n x ≡ w) ((bytes_eq-Decides name other).0 y) (ap flat h.1) ∙ sym (cond-true (bytes_eq name other) w (placed m other) y))
    (λ e. ap flat (others (λ a b. bytes_eq a.items b.items) (λ key. bytes_eq name key.items) m.entries n.entries h.3 (λ key. bytes_eq other key.items)
    (λ x y. nat_list_eq_equiv.congr other x.items y.items) (λ key. apart name other key.items e))
    ∙ sym (cond-false (bytes_eq name other) w (placed m other) e))
    (cases_Bool (bytes_eq name other))
