-- The trap of a name.
use Rattle.std.proofs.Common.{◌≡◌, ◌∙◌, ℕ, zero, suc, List, [], ◌∷◌, Bool, true, false, cond, Option, Some, None, MatchOption, bytes_eq, find, slice_get, refl, sym, subst}
use Rattle.std.proofs.lemmas.Bool.{false≢true}
use Rattle.std.proofs.lemmas.Slice.Eq.{bytes_eq-Decides}
use Rattle.csub_types.specs.declared.trap.Trap.{Trap}
use Rattle.csub_types.specs.declared.trap.Trap.TheVariants.{Overflow, Divide, Shift, Bounds, Unset, Flood, Depth, Missing}
use Rattle.test_history.specs.HistoryTexts.{trap_name}

abbrev pub traps : List Trap
traps = Overflow ∷ Divide ∷ Shift ∷ Bounds ∷ Unset ∷ Flood ∷ Depth ∷ Missing ∷ []

module _ {X : Type 0} (p : X → Bool) where
  found_passes : (xs : List X) (x : X) → find p xs ≡ Some x → p x ≡ true
  found_passes [] x e = absurd cc
  found_passes (y ∷ xs) x e = pick (p y) refl e (found_passes xs x)
    where
      pick : (b : Bool) → p y ≡ b → cond b (Some y) (find p xs) ≡ Some x → (find p xs ≡ Some x → p x ≡ true) → p x ≡ true
      pick true is e later = let same : y ≡ x = cc in subst (λ z. p z ≡ true) same is
      pick false is e later = later e

  none_passes : (xs : List X) → find p xs ≡ None → (i : ℕ) (x : X) → slice_get xs i ≡ Some x → p x ≡ false
  none_passes [] e i x at = absurd cc
  none_passes (y ∷ xs) e i x at = pick (p y) refl e i at (λ e k. none_passes xs e k x)
    where
      pick : (b : Bool) → p y ≡ b → cond b (Some y) (find p xs) ≡ None → (i : ℕ) → slice_get (y ∷ xs) i ≡ Some x → (find p xs ≡ None → (k : ℕ) → slice_get xs k ≡ Some x → p x ≡ false) → p x ≡ false
      pick true is e i at later = absurd cc
      pick false is e zero at later = let same : y ≡ x = cc in subst (λ z. p z ≡ false) same is
      pick false is e (suc i) at later = later e i at

-- each trap stands among them
place : (trap : Trap) → (i : ℕ) × (slice_get traps i ≡ Some trap)
place Overflow = (0, refl)
place Divide = (1, refl)
place Shift = (2, refl)
place Bounds = (3, refl)
place Unset = (4, refl)
place Flood = (5, refl)
place Depth = (6, refl)
place Missing = (7, refl)

-- what is found by a name is the trap of that name, if there is one
pub named : (name : List ℕ) (found : Option Trap) → found ≡ find (λ trap. bytes_eq (trap_name trap) name) traps
    → MatchOption found ((trap : Trap) → ¬ (name ≡ trap_name trap)) (λ trap. name ≡ trap_name trap)
named name (Some trap) is = sym ((bytes_eq-Decides (trap_name trap) name).0 (found_passes (λ t. bytes_eq (trap_name t) name) traps trap (sym is)))
named name None is = λ trap same.
    let at = place trap in
    false≢true (sym (none_passes (λ t. bytes_eq (trap_name t) name) traps (sym is) at.0 trap at.1) ∙ (bytes_eq-Decides (trap_name trap) name).1 (sym same))
