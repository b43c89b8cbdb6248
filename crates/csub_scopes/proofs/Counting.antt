-- One more name among counted ones.
use Rattle.std.proofs.Common.{◌≡◌, ◌∙◌, refl, sym, ap, arith, ℕ, ◌+◌, List, [], ◌∷◌, ◌++◌, reverse, Bool, true, false, Option, Some, Vec, count_by, if◌then◌else◌}
use Rattle.std.specs.Str.{bytes_eq}
use Rattle.std.specs.declared.alloc.Global.{Global}
use Rattle.std.proofs.lemmas.List.{reverse-append}
use Rattle.std.proofs.lemmas.List.Sums.{sum_by-cons}
use Rattle.std.proofs.lemmas.Slice.Eq.{bytes_eq-Decides}
use Rattle.indexmap.specs.IndexMap.{IndexMap}
use Rattle.csub_objects.specs.Types.{Name}
use Rattle.csub_scopes.specs.Places.{placed, counted, AreCounts}

abbrev pub count : Name → List Name → ℕ
count name names = count_by (λ other. bytes_eq other name) names

pub counts_more : {S : Type 0} (old new : IndexMap (Vec ℕ Global) (Option ℕ) S) (names : List Name) (x : Name) (n : ℕ) → AreCounts old names → n ≡ count x names
    → ((other : Name) → placed new other ≡ (if bytes_eq x other then Some (n + 1) else placed old other)) → AreCounts new (x ∷ names)
counts_more old new names x n are is after =
    λ other. ap counted (after other) ∙ by other (bytes_eq x other) refl ∙ sym (sum_by-cons (λ y. if bytes_eq y other then 1 else 0) x names)
  where
    by : (other : Name) (b : Bool) → bytes_eq x other ≡ b → counted (if b then Some (n + 1) else placed old other) ≡ (if b then 1 else 0) + count other names
    by other true e =
        let same : count x names ≡ count other names = ap (λ y. count y names) ((bytes_eq-Decides x other).0 e) in omega (arith)
    by other false e = let held : counted (placed old other) ≡ count other names = are other in omega (arith)

-- the last of a stack is the first of its reverse
pub pushed : (stack new : List Name) (x : Name) → new ≡ stack ++ x ∷ [] → reverse new ≡ x ∷ reverse stack
pushed stack new x h = ap reverse h ∙ reverse-append stack (x ∷ [])
