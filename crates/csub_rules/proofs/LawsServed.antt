-- What has a sort and lacks nothing is what is asked for.
use Rattle.std.proofs.Common.{◌≡◌, ℕ, Bool, true, false, Option, Some, None, refl, IsTrue, not, ◌&&◌, ◌||◌, if◌then◌else◌}
use Rattle.csub_text.specs.declared.span.Span.{Span}
use Rattle.csub_types.specs.declared.kind.IntKind.{IntKind}
use Rattle.csub_rules.specs.declared.fault.Fault.{Fault}
use Rattle.csub_rules.specs.Faults.{fault_if}
use Rattle.csub_rules.specs.Sorts.{Sort, is_sorted, lacks, value_if, sort_if}
use Rattle.csub_rules.specs.Callees.{result_sort}
use Rattle.csub_rules.proofs.LawsEarlier.{no_test}

pub both : (a b : Bool) → IsTrue a → IsTrue b → IsTrue (a && b)
both true true p q = refl
both true false p q = absurd (cc)
both false b p q = absurd (cc)

pub both_parts : (a b : Bool) → IsTrue (a && b) → IsTrue a × IsTrue b
both_parts true true h = (refl, refl)
both_parts true false h = absurd (cc)
both_parts false b h = absurd (cc)

pub neither_holds : (a b : Bool) → (a || b) ≡ false → (a ≡ false) × (b ≡ false)
neither_holds true b h = absurd (cc)
neither_holds false b h = (refl, h)

pub no_not : (b : Bool) → not b ≡ false → IsTrue b
no_not true h = refl
no_not false h = absurd (cc)

-- what has a sort and lacks nothing has what is asked for
pub served : (s : Sort) (b : Bool) → IsTrue (is_sorted s) → lacks s b ≡ false → IsTrue b
served s true p h = refl
served s false p h = absurd (by (is_sorted s) p h)
  where
    by : (t : Bool) → t ≡ true → (t && true) ≡ false → ⊥
    by true p q = cc
    by false p q = cc

pub has : (s : Sort) (b : Bool) (r : ℕ) (at : Span) → IsTrue (is_sorted s) → fault_if (lacks s b) r at ≡ None → IsTrue b
has s b r at p h = served s b p (no_test (lacks s b) r at h)

pub holds : (b : Bool) (r : ℕ) (at : Span) → fault_if (not b) r at ≡ None → IsTrue b
holds b r at h = no_not b (no_test (not b) r at h)

pub valued : (b : Bool) (k : IntKind) → IsTrue b → IsTrue (is_sorted (value_if b k))
valued true k p = refl
valued false k p = absurd (cc)

pub sorted : (b : Bool) (s : Sort) → IsTrue b → IsTrue (is_sorted s) → IsTrue (is_sorted (sort_if b s))
sorted true s p q = q
sorted false s p q = absurd (cc)

pub sorted_result : (r : Option IntKind) → IsTrue (is_sorted (result_sort r))
sorted_result None = refl
sorted_result (Some k) = refl

-- no fault of the one that is chosen
pub chosen : (t : Bool) (a b : Option Fault) → (if t then a else b) ≡ None → (IsTrue t → a ≡ None) × (IsTrue (not t) → b ≡ None)
chosen true a b h = (λ p. h, λ p. absurd (cc))
chosen false a b h = (λ p. absurd (cc), λ p. h)
