-- Numbers are read exactly where they are spelled.
use Rattle.std.proofs.Common.{◌≡◌, ℕ, ◌-◌, ◌≤◌, List, [], ◌∷◌, ◌++◌, take, drop, take-append-drop, Option, Some, None, Bool, true, false, cond, refl, sym, ap, ◌∙◌, subst, arith, inl, inr}
use Rattle.std.specs.Prelude.{◌==◌, ◌&&◌, ◌||◌, nat_le, nat_lt}
use Rattle.std.specs.Char.{is_ascii_digit}
use Rattle.std.specs.List.{prefix_len, list_all}
use Rattle.std.proofs.lemmas.Bool.{and_parts, and_from, and_left, eqb-true, eqb-false, ne_eqb, or_cases, leb-true, le-leb, le-ltb, lt-ltb, false_from_ne_true, cond-true, cond-false}
use Rattle.std.proofs.lemmas.List.{append-nil}
use Rattle.csub_lex.specs.Bytes.{Run, Stops}
use Rattle.csub_lex.specs.Numbers.{digit_value, is_digit_of, value_in, is_suffix, InBase, plain, suffixed, Number, decimal, octal, hexadecimal}
use Rattle.csub_lex.specs.Finding.{begins, suffix_of, with_suffix, number_in, is_hexadecimal, number_of}
use Rattle.csub_lex.specs.Finding as finding
use Rattle.csub_lex.proofs.Choices.{chosen, some_is}
use Rattle.csub_lex.proofs.Runs.{front_run, run_front, run_rest}

-- digits with at most one suffix

suffix_sound : (s : List ℕ) (unsigned : Bool) (base : ℕ) (digits : List ℕ) → suffix_of s ≡ Some unsigned → Run (is_digit_of base) digits → InBase base (digits ++ s) (value_in base digits) unsigned
suffix_sound [] unsigned base digits e run =
    subst (λ (u : Bool). InBase base (digits ++ []) (value_in base digits) u) (some_is false unsigned e)
    (subst (λ (x : List ℕ). InBase base x (value_in base digits) false) (sym (append-nil digits)) (plain digits run))
suffix_sound (u ∷ []) unsigned base digits e run = elim (chosen (is_suffix u) (Some true) None (Some unsigned) e) [
  | inl h ↦ subst (λ (x : Bool). InBase base (digits ++ u ∷ []) (value_in base digits) x) (some_is true unsigned h.1) (suffixed digits u run h.0)
  | inr h ↦ absurd (cc (h.1))
]
suffix_sound (u ∷ v ∷ s) unsigned base digits e run = absurd (cc e)

with_suffix_is : (value : ℕ) (o : Option Bool) (v : ℕ) (u : Bool) → with_suffix value o ≡ Some (v, u) → (o ≡ Some u) × (value ≡ v) × (v ≤ 4294967295)
with_suffix_is value None v u e = absurd (cc e)
with_suffix_is value (Some w) v u e = elim (chosen (nat_le value 4294967295) (Some (value, w)) None (Some (v, u)) e) [
  | inl h ↦ (let pair : ◌≡◌ {A = ℕ × Bool} (value, w) (v, u) = some_is (value, w) (v, u) h.1 in
      let same : value ≡ v = ap (λ (p : ℕ × Bool). p.0) pair in
      (ap (λ (p : ℕ × Bool). Some p.1) pair, same, omega (arith, leb-true value 4294967295 h.0)))
  | inr h ↦ absurd (cc (h.1))
]

number_in_sound : (base : ℕ) (text : List ℕ) (value : ℕ) (unsigned : Bool) → number_in base text ≡ Some (value, unsigned) → InBase base text value unsigned × (value ≤ 4294967295)
unfolding number_in
number_in_sound base text value unsigned e =
    let n = prefix_len (is_digit_of base) text in
    let parts = with_suffix_is (value_in base (take n text)) (suffix_of (drop n text)) value unsigned e in
    let made = suffix_sound (drop n text) unsigned base (take n text) parts.0 (front_run (is_digit_of base) text) in
    (subst (λ (v : ℕ). InBase base text v unsigned) parts.1 (subst (λ (x : List ℕ). InBase base x (value_in base (take n text)) unsigned) (take-append-drop n text) made), parts.2)

cut_digits : (base : ℕ) (digits suffix : List ℕ) → Run (is_digit_of base) digits → Stops (is_digit_of base) suffix → number_in base (digits ++ suffix) ≡ with_suffix (value_in base digits) (suffix_of suffix)
unfolding number_in
cut_digits base digits suffix run stops = λ i. with_suffix (value_in base (run_front (is_digit_of base) digits suffix run stops i)) (suffix_of (run_rest (is_digit_of base) digits suffix run stops i))

suffix_stops : (base u : ℕ) → base ≤ 16 → is_suffix u ≡ true → is_digit_of base u ≡ false
suffix_stops base u few h = elim (or_cases (u == 117) (u == 85) h) [
  | inl k ↦ subst (λ (x : ℕ). is_digit_of base x ≡ false) (sym (eqb-true u 117 k)) (le-ltb 16 base few)
  | inr k ↦ subst (λ (x : ℕ). is_digit_of base x ≡ false) (sym (eqb-true u 85 k)) (le-ltb 16 base few)
]

number_in_complete : {base : ℕ} {text : List ℕ} {value : ℕ} {unsigned : Bool} → InBase base text value unsigned → base ≤ 16 → value ≤ 4294967295 → number_in base text ≡ Some (value, unsigned)
number_in_complete {base} (plain digits run) few small =
    ap (λ (x : List ℕ). number_in base x) (sym (append-nil digits)) ∙ cut_digits base digits [] run tt
    ∙ cond-true (nat_le (value_in base digits) 4294967295) (Some (value_in base digits, false)) None (le-leb (value_in base digits) 4294967295 small)
number_in_complete {base} (suffixed digits u run h) few small =
    cut_digits base digits (u ∷ []) run (suffix_stops base u few h) ∙ ap (λ (t : Bool). with_suffix (value_in base digits) (cond t (Some true) None)) h
    ∙ cond-true (nat_le (value_in base digits) 4294967295) (Some (value_in base digits, true)) None (le-leb (value_in base digits) 4294967295 small)

-- whole numbers

decimal_is : (o : Option (ℕ × Bool)) (v : ℕ) (u : Bool) → finding.decimal o ≡ Some (v, u) → (o ≡ Some (v, u)) × (u ≡ false → v ≤ 2147483647)
decimal_is None v u e = absurd (cc e)
decimal_is (Some x) v u e = elim (chosen (x.1 || nat_le x.0 2147483647) (Some x) None (Some (v, u)) e) [
  | inl h ↦ (let pair : x ≡ (v, u) = some_is x (v, u) h.1 in (
    h.1,
    λ plain_is. elim (or_cases x.1 (nat_le x.0 2147483647) h.0) [
      | inl k ↦ absurd (cc (k, plain_is, ap (λ (p : ℕ × Bool). p.1) pair))
      | inr k ↦ omega (arith, leb-true x.0 2147483647 k, ap (λ (p : ℕ × Bool). p.0) pair)
    ],
  ))
  | inr h ↦ absurd (cc (h.1))
]

digit_ten : (b : ℕ) → is_ascii_digit b ≡ true → is_digit_of 10 b ≡ true
digit_ten b h =
    let range = and_parts (nat_le 48 b) (nat_le b 57) h in
    let value : digit_value b ≡ b - 48 = cond-true (is_ascii_digit b) (b - 48) _ h in
    ap (λ (n : ℕ). nat_lt n 10) value ∙ lt-ltb (b - 48) 10 (omega (arith, leb-true 48 b range.0, leb-true b 57 range.1))

hexadecimal_sound : (text : List ℕ) (value : ℕ) (unsigned : Bool) → is_hexadecimal text ≡ true → number_in 16 (drop 2 text) ≡ Some (value, unsigned) → Number text value unsigned
hexadecimal_sound [] value unsigned h e = absurd (cc h)
hexadecimal_sound (a ∷ []) value unsigned h e = absurd (cc h)
hexadecimal_sound (a ∷ x ∷ []) value unsigned h e = absurd (cc h)
hexadecimal_sound (a ∷ x ∷ d ∷ more) value unsigned h e =
    let p = and_parts (a == 48 && (x == 120 || x == 88)) (is_digit_of 16 d) h in
    let q = and_parts (a == 48) (x == 120 || x == 88) p.0 in
    let made = number_in_sound 16 (d ∷ more) value unsigned e in
    subst (λ (n : ℕ). Number (n ∷ x ∷ d ∷ more) value unsigned) (sym (eqb-true a 48 q.0)) (hexadecimal x d more value unsigned q.1 p.1 made.0 made.1)

pub number_sound : (b : ℕ) (bs : List ℕ) (value : ℕ) (unsigned : Bool) → is_ascii_digit b ≡ true → number_of (b ∷ bs) ≡ Some (value, unsigned) → Number (b ∷ bs) value unsigned
unfolding number_of
number_sound b bs value unsigned digit e =
    elim (chosen (is_hexadecimal (b ∷ bs)) (number_in 16 (drop 2 (b ∷ bs))) _ (Some (value, unsigned)) e) [
      | inl h ↦ hexadecimal_sound (b ∷ bs) value unsigned h.0 h.1
      | inr h ↦ elim (chosen (b == 48) (number_in 8 bs) (finding.decimal (number_in 10 (b ∷ bs))) (Some (value, unsigned)) h.1) [
        | inl k ↦ (let made = number_in_sound 8 bs value unsigned k.1 in
            subst (λ (n : ℕ). Number (n ∷ bs) value unsigned) (sym (eqb-true b 48 k.0)) (octal bs value unsigned made.0 made.1))
        | inr k ↦ (let parts = decimal_is (number_in 10 (b ∷ bs)) value unsigned k.1 in
            let made = number_in_sound 10 (b ∷ bs) value unsigned parts.0 in
            decimal b bs value unsigned (eqb-false b 48 k.0) (digit_ten b digit) made.0 made.1 parts.1)
      ]
    ]

octal_no_x : (x : ℕ) → is_digit_of 8 x ≡ true → (x == 120 || x == 88) ≡ false
octal_no_x x h = false_from_ne_true (x == 120 || x == 88) (λ k. elim (or_cases (x == 120) (x == 88) k) [
  | inl e ↦ cc (h, ap (λ (n : ℕ). is_digit_of 8 n) (eqb-true x 120 e))
  | inr e ↦ cc (h, ap (λ (n : ℕ). is_digit_of 8 n) (eqb-true x 88 e))
])

no_x : (x : ℕ) (t : Bool) → is_digit_of 8 x ≡ true → ((x == 120 || x == 88) && t) ≡ false
no_x x t h = and_left (x == 120 || x == 88) t (octal_no_x x h)

octal_plain : {text : List ℕ} {value : ℕ} {unsigned : Bool} → InBase 8 text value unsigned → is_hexadecimal (48 ∷ text) ≡ false
octal_plain (plain [] run) = refl
octal_plain (plain (x ∷ []) run) = refl
octal_plain (plain (x ∷ d ∷ more) run) = no_x x (is_digit_of 16 d) (and_parts (is_digit_of 8 x) (list_all (is_digit_of 8) (d ∷ more)) run).0
octal_plain (suffixed [] u run h) = refl
octal_plain (suffixed (x ∷ []) u run h) = no_x x (is_digit_of 16 u) (and_parts (is_digit_of 8 x) true run).0
octal_plain (suffixed (x ∷ d ∷ more) u run h) = no_x x (is_digit_of 16 d) (and_parts (is_digit_of 8 x) (list_all (is_digit_of 8) (d ∷ more)) run).0

not_zero : (d : ℕ) (more : List ℕ) → (d == 48) ≡ false → is_hexadecimal (d ∷ more) ≡ false
not_zero d [] h = refl
not_zero d (x ∷ []) h = refl
not_zero d (x ∷ e ∷ more) h = ap (λ (t : Bool). t && (x == 120 || x == 88) && is_digit_of 16 e) h

decimal_keeps : (value : ℕ) (unsigned : Bool) → (unsigned ≡ false → value ≤ 2147483647) → finding.decimal (Some (value, unsigned)) ≡ Some (value, unsigned)
decimal_keeps value true fits = refl
decimal_keeps value false fits = cond-true (nat_le value 2147483647) (Some (value, false)) None (le-leb value 2147483647 (fits refl))

pub number_complete : {text : List ℕ} {value : ℕ} {unsigned : Bool} → Number text value unsigned → number_of text ≡ Some (value, unsigned)
unfolding number_of
number_complete (decimal d more value unsigned nonzero digit made small fits) =
    let other : (d == 48) ≡ false = ne_eqb d 48 nonzero in
    cond-false (is_hexadecimal (d ∷ more)) _ _ (not_zero d more other) ∙ cond-false (d == 48) _ _ other
    ∙ ap (λ (o : Option (ℕ × Bool)). finding.decimal o) (number_in_complete made (omega arith) small) ∙ decimal_keeps value unsigned fits
number_complete (octal more value unsigned made small) =
    cond-false (is_hexadecimal (48 ∷ more)) _ _ (octal_plain made) ∙ number_in_complete made (omega arith) small
number_complete (hexadecimal x d more value unsigned hx hd made small) =
    cond-true (is_hexadecimal (48 ∷ x ∷ d ∷ more)) _ _ (and_from (x == 120 || x == 88) (is_digit_of 16 d) hx hd) ∙ number_in_complete made (omega arith) small
