-- The table of a function's labels.
use Rattle.std.proofs.Common.{◌≡◌, ◌∙◌, ℕ, List, Bool, true, false, Some, Vec, sym, subst, ⊎_elim, if◌then◌else◌, bytes_eq}
use Rattle.std.specs.Str.{bytes_eq}
use Rattle.std.specs.Map.{KeepsOthers, IsKeyTest, AreApart, lookup}
use Rattle.std.specs.declared.alloc.Global.{Global}
use Rattle.std.proofs.lemmas.Bool.{cases_Bool, cond-true, cond-false}
use Rattle.std.proofs.lemmas.Cmp.{nat_list_eq_equiv}
use Rattle.std.proofs.lemmas.Slice.Eq.{bytes_eq-Decides}
use Rattle.indexmap.specs.IndexMap.{IndexMap, UpdatesBy}
use Rattle.csub_objects.specs.Types.{Name}
use Rattle.flow_graph.specs.Jumps.{entry_of}

apart : (a b key : Name) → bytes_eq a b ≡ false → bytes_eq a key ≡ true → bytes_eq b key ≡ false
apart a b key n y = nat_list_eq_equiv.symm b key ∙ sym (nat_list_eq_equiv.congr a key b y) ∙ n

others : {K : Type 0} (eq : K → K → Bool) (test : K → Bool) {X : Type 0} (old new : List (K × X)) → KeepsOthers eq test old new
    → (other : K → Bool) → IsKeyTest eq other → AreApart test other → lookup other new ≡ lookup other old
unfolding KeepsOthers
others eq test old new h = h

-- what is entered, once a name is
pub entered : {S : Type 0} (m n : IndexMap (Vec ℕ Global) ℕ S) (name : Name) (to : ℕ)
    → UpdatesBy (λ a b. bytes_eq a.items b.items) (λ key. bytes_eq name key.items) m n (Some to)
    → (other : Name) → entry_of n other ≡ (if bytes_eq name other then Some to else entry_of m other)
entered m n name to h other =
    ⊎_elim
    (λ y. subst (λ x. entry_of n x ≡ Some to) ((bytes_eq-Decides name other).0 y) h.1 ∙ sym (cond-true (bytes_eq name other) (Some to) (entry_of m other) y))
    (λ e. others (λ a b. bytes_eq a.items b.items) (λ key. bytes_eq name key.items) m.entries n.entries h.3 (λ key. bytes_eq other key.items)
    (λ x y. nat_list_eq_equiv.congr other x.items y.items) (λ key. apart name other key.items e)
    ∙ sym (cond-false (bytes_eq name other) (Some to) (entry_of m other) e))
    (cases_Bool (bytes_eq name other))
