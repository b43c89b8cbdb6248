-- The earlier of two faults, for this crate and those above.
use Rattle.std.proofs.Common.{◌≡◌, ℕ, Bool, true, false, Option, Some, None, refl, cond, ◌⊎◌, inl, inr, arith, IsTrue}
use Rattle.std.proofs.lemmas.Bool.Decides.{nat_tests}
use Rattle.csub_text.specs.declared.span.Span.{Span}
use Rattle.csub_rules.specs.declared.fault.Fault.{Fault}
use Rattle.csub_rules.specs.Faults.{fault_if, is_before, ◌or_earlier◌, IsFirst, Covers}

-- the fault of two is one of them
pub either : (a b : Option Fault) (f : Fault) → (a or_earlier b) ≡ Some f → (a ≡ Some f) ⊎ (b ≡ Some f)
either None b f h = inr h
either (Some g) None f h = inl h
either (Some g) (Some k) f h = by (is_before k g) h
  where
    by : (t : Bool) → cond t (Some k) (Some g) ≡ Some f → (Some g ≡ Some f) ⊎ (Some k ≡ Some f)
    by true h = inr h
    by false h = inl h

-- no fault of two is no fault of the first, and none of the second
pub neither : (a b : Option Fault) → (a or_earlier b) ≡ None → (a ≡ None) × (b ≡ None)
neither None b h = (refl, h)
neither (Some g) None h = absurd (cc)
neither (Some g) (Some k) h = absurd (by (is_before k g) h)
  where
    by : (t : Bool) → cond t (Some k) (Some g) ≡ None → ⊥
    by true h = cc
    by false h = cc

pub three_none : (a b c : Option Fault) → (a or_earlier b or_earlier c) ≡ None → (a ≡ None) × (b ≡ None) × (c ≡ None)
three_none a b c h =
    let p = neither (a or_earlier b) c h in
    let q = neither a b p.0 in
    (q.0, q.1, p.1)

pub four_none : (a b c d : Option Fault) → (a or_earlier b or_earlier c or_earlier d) ≡ None
    → (a ≡ None) × (b ≡ None) × (c ≡ None) × (d ≡ None)
four_none a b c d h =
    let p = neither (a or_earlier b or_earlier c) d h in
    let q = three_none a b c p.0 in
    (q.0, q.1, q.2, p.1)

pub five_none : (a b c d e : Option Fault) → (a or_earlier b or_earlier c or_earlier d or_earlier e) ≡ None
    → (a ≡ None) × (b ≡ None) × (c ≡ None) × (d ≡ None) × (e ≡ None)
five_none a b c d e h =
    let p = neither (a or_earlier b or_earlier c or_earlier d) e h in
    let q = four_none a b c d p.0 in
    (q.0, q.1, q.2, q.3, p.1)

pub six_none : (a b c d e f : Option Fault) → (a or_earlier b or_earlier c or_earlier d or_earlier e or_earlier f) ≡ None
    → (a ≡ None) × (b ≡ None) × (c ≡ None) × (d ≡ None) × (e ≡ None) × (f ≡ None)
six_none a b c d e f h =
    let p = neither (a or_earlier b or_earlier c or_earlier d or_earlier e) f h in
    let q = five_none a b c d e p.0 in
    (q.0, q.1, q.2, q.3, q.4, p.1)

before_true : (f g : Fault) → is_before g f ≡ true → IsFirst g f
before_true f g h = grind (arith, nat_tests)

before_false : (f g : Fault) → is_before g f ≡ false → IsFirst f g
before_false f g h = grind (arith, nat_tests)

pub first_trans : (f g k : Fault) → IsFirst f g → IsFirst g k → IsFirst f k
first_trans f g k p q = grind arith

-- what one of two covers, the earlier of them covers
pub on_left : (a b : Option Fault) (k : Fault) → Covers a k → Covers (a or_earlier b) k
on_left None b k h = absurd h
on_left (Some f) None k h = h
on_left (Some f) (Some g) k h = by (is_before g f) refl
  where
    by : (t : Bool) → is_before g f ≡ t → Covers (cond t (Some g) (Some f)) k
    by true e = first_trans g f k (before_true f g e) h
    by false e = h

pub on_right : (a b : Option Fault) (k : Fault) → Covers b k → Covers (a or_earlier b) k
on_right None b k h = h
on_right (Some f) None k h = absurd h
on_right (Some f) (Some g) k h = by (is_before g f) refl
  where
    by : (t : Bool) → is_before g f ≡ t → Covers (cond t (Some g) (Some f)) k
    by true e = h
    by false e = first_trans f g k (before_false f g e) h

-- a test that holds covers its rule at its place
pub tested : (b : Bool) (r : ℕ) (s : Span) → IsTrue b → Covers (fault_if b r s) (record { rule = r; span = s })
tested true r s h = inr (refl, omega arith)
tested false r s h = absurd (cc)

-- a test's fault is its rule at its place
pub is_test : (b : Bool) (r : ℕ) (s : Span) (f : Fault) → fault_if b r s ≡ Some f → IsTrue b × (record { rule = r; span = s } ≡ f)
is_test true r s f h = (refl, cc)
is_test false r s f h = absurd (cc)

pub no_test : (b : Bool) (r : ℕ) (s : Span) → fault_if b r s ≡ None → b ≡ false
no_test true r s h = absurd (cc)
no_test false r s h = refl

before_trans : (f g h : Fault) → is_before g f ≡ true → is_before h g ≡ true → is_before h f ≡ true
before_trans f g h p q = grind (arith, nat_tests)

not_before_trans : (f g h : Fault) → is_before g f ≡ false → is_before h g ≡ false → is_before h f ≡ false
not_before_trans f g h p q = grind (arith, nat_tests)

pub earlier_assoc : (a b c : Option Fault) → (a or_earlier b or_earlier c) ≡ (a or_earlier (b or_earlier c))
earlier_assoc None b c = refl
earlier_assoc (Some f) None c = refl
earlier_assoc (Some f) (Some g) None = by (is_before g f)
  where
    by : (t : Bool) → (cond t (Some g) (Some f) or_earlier None) ≡ cond t (Some g) (Some f)
    by true = refl
    by false = refl
earlier_assoc (Some f) (Some g) (Some h) = by (is_before g f) (is_before h g) refl refl
  where
    by : (t u : Bool) → is_before g f ≡ t → is_before h g ≡ u
        → (cond t (Some g) (Some f) or_earlier Some h) ≡ (Some f or_earlier cond u (Some h) (Some g))
    by true true p q = rw (q, before_trans f g h p q)
    by true false p q = rw (p, q)
    by false true p q = refl
    by false false p q = rw (p, not_before_trans f g h p q)
