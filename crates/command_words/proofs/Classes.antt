-- What clap makes of a word of each class.
use Rattle.std.proofs.Common.{◌≡◌, ◌≢◌, ℕ, List, [], ◌∷◌, ◌++◌, ◌&&◌, ◌⊎◌, Bool, cond, true, false, Some, None, codes, length, refl, sym, ap, ◌∙◌, subst, inl, inr, take, drop, arith, lt-ltb, true≢false}
use Rattle.std.proofs.Math.Dec.{eqb}
use Rattle.std.proofs.Common.{eqb-true}
use Rattle.std.proofs.Math.Numerals.{one-add}
use Rattle.std.specs.Prelude.{nat_eq, slice_get, encode_utf8_all}
use Rattle.std.specs.List.{before_first, starts_with}
use Rattle.std.specs.Str.{bytes_eq, chars, IsUtf8}
use Rattle.std.specs.Char.{encode_utf8}
use Rattle.std.proofs.lemmas.Str.{encodes-chars}
use Rattle.std.proofs.lemmas.List.{take-append-drop}
use Rattle.std.proofs.lemmas.Slice.Eq.{bytes_eq-Decides}
use Rattle.std.proofs.lemmas.Grind.{not_there}
use Rattle.clap.specs.Lexer.{long_of, short_of}
use Rattle.clap.specs.Walk.{Row, Text}
use Rattle.clap.specs.Faults.{turn_fault, flags_fault}
use Rattle.command_words.specs.Words.{is_option}
use Rattle.command_words.proofs.Cuts.{dashes, option, number, flag, plain, class_of, IsClass}
use Rattle.command_words.proofs.Steps.{top, IsPlain, Pending, none, plain as plain', number as number', wants, waiting_of, at, flag_fault}

-- ---- plain words

-- a word of two bytes and more is an option by its first
and_true : (b : Bool) → (b && true) ≡ b
and_true true = refl
and_true false = refl

and_false : (b : Bool) → (b && false) ≡ false
and_false true = refl
and_false false = refl

option_by_first : (x y : ℕ) (rest : Text) → is_option (x ∷ y ∷ rest) ≡ eqb x 45
option_by_first x y rest = ap (λ b. eqb x 45 && b) (lt-ltb 0 (length (y ∷ rest)) (omega arith)) ∙ and_true (eqb x 45)

lone_plain : (x : ℕ) (b : Bool) → eqb x 45 ≡ b → IsPlain (x ∷ [])
lone_plain x true e = (rw e refl, rw e refl, rw e refl)
lone_plain x false e = (rw e refl, rw e refl, rw e refl)

long_plain : (x y : ℕ) (rest : Text) → eqb x 45 ≡ false → IsPlain (x ∷ y ∷ rest)
long_plain x y rest e = (rw e refl, rw e refl, rw e refl)

plain_is : (word : Text) → is_option word ≡ false → IsPlain word
plain_is [] e = (refl, refl, refl)
plain_is (x ∷ []) e = lone_plain x (eqb x 45) refl
plain_is (x ∷ y ∷ rest) e = long_plain x y rest (sym (option_by_first x y rest) ∙ e)

-- ---- `-x..`

some_first : (cs : List ℕ) → cs ≢ [] → (c : ℕ) × (slice_get cs 0 ≡ Some c)
some_first [] ne = absurd (ne refl)
some_first (c ∷ cs) ne = (c, refl)

rest_chars : (y : ℕ) (rest : Text) → IsUtf8 (45 ∷ y ∷ rest) → chars (y ∷ rest) ≢ []
unfolding chars encode_utf8
rest_chars y rest text e =
    let back : encode_utf8_all (chars (45 ∷ y ∷ rest)) ≡ 45 ∷ y ∷ rest = encodes-chars (45 ∷ y ∷ rest) text in
    let one : 45 ∷ [] ≡ 45 ∷ y ∷ rest = ap (λ cs. encode_utf8_all (45 ∷ cs)) (sym e) ∙ back in
    absurd (cc)

short_refused : (rows : List Row) (p : Pending) (word : Text) (y : ℕ) (rest : Text) (c : ℕ) → bytes_eq word (45 ∷ 45 ∷ []) ≡ false → long_of word ≡ None → short_of word ≡ Some (y ∷ rest)
    → slice_get (chars (y ∷ rest)) 0 ≡ Some c → turn_fault top [] (at rows p (waiting_of p) false) word ≢ []
unfolding flags_fault
short_refused rows none word y rest c a b s first = rw (a, b, s, first) (λ bad. absurd (cc))
short_refused rows (plain' w) word y rest c a b s first = rw (a, b, s, first) (λ bad. absurd (cc))
short_refused rows (number' v) word y rest c a b s first = rw (a, b, s, first) (λ bad. absurd (cc))
short_refused rows wants word y rest c a b s first = rw (a, b, s, first) (λ bad. absurd (cc))

-- ---- `--x..`

-- what stands before the first `=`, and what the list then is
abbrev name_of : Text → Text
name_of xs = before_first (λ x. eqb x 61) xs

before_equals : (xs : Text) → (name_of xs ≡ xs) ⊎ ((v : Text) × (xs ≡ name_of xs ++ 61 ∷ v))
before_equals [] = inl refl
before_equals (x ∷ xs) = go (eqb x 61) refl (before_equals xs)
  where
    go : (b : Bool) → eqb x 61 ≡ b → (name_of xs ≡ xs) ⊎ ((v : Text) × (xs ≡ name_of xs ++ 61 ∷ v)) → (name_of (x ∷ xs) ≡ x ∷ xs) ⊎ ((v : Text) × (x ∷ xs ≡ name_of (x ∷ xs) ++ 61 ∷ v))
    go true e rest =
        let none' : name_of (x ∷ xs) ≡ [] = rw e refl in
        inr (xs, rw none' (ap (λ z. z ∷ xs) (eqb-true x 61 e)))
    go false e rest =
        let more : name_of (x ∷ xs) ≡ x ∷ name_of xs = rw (e, one-add) refl in
        rw more (elim rest [
          | inl same ↦ inl (ap (λ ys. x ∷ ys) same)
          | inr cut ↦ inr (cut.0, ap (λ ys. x ∷ ys) cut.1)
        ])

-- a long word with that name is `--workers` or `--workers=V`
long_name : (xs : Text) → bytes_eq (45 ∷ 45 ∷ xs) (codes "--workers") ≡ false → starts_with nat_eq (45 ∷ 45 ∷ xs) (codes "--workers=") ≡ false
    → bytes_eq (codes "workers") (name_of xs) ≡ false
long_name xs not_alone not_with = go (bytes_eq (codes "workers") (name_of xs)) refl
  where
    go : (b : Bool) → bytes_eq (codes "workers") (name_of xs) ≡ b → bytes_eq (codes "workers") (name_of xs) ≡ false
    go false e = e
    go true e =
        let named : codes "workers" ≡ name_of xs = (bytes_eq-Decides (codes "workers") (name_of xs)).0 e in
        elim (before_equals xs) [
          | inl same ↦
              let is : xs ≡ codes "workers" = sym same ∙ sym named in
              let hit : bytes_eq (45 ∷ 45 ∷ xs) (codes "--workers") ≡ true = rw is refl in
              absurd (true≢false (sym hit ∙ not_alone))
          | inr cut ↦
              let is : xs ≡ codes "workers" ++ 61 ∷ cut.0 = cut.1 ∙ ap (λ n. n ++ 61 ∷ cut.0) (sym named) in
              let hit : starts_with nat_eq (45 ∷ 45 ∷ xs) (codes "--workers=") ≡ true = rw is refl in
              absurd (true≢false (sym hit ∙ not_with))
        ]

-- ---- options

-- another option is refused
dashed_refused : (rows : List Row) (p : Pending) (rest : Text) → bytes_eq (45 ∷ 45 ∷ rest) (codes "--") ≡ false → bytes_eq (45 ∷ 45 ∷ rest) (codes "--workers") ≡ false
    → starts_with nat_eq (45 ∷ 45 ∷ rest) (codes "--workers=") ≡ false → turn_fault top [] (at rows p (waiting_of p) false) (45 ∷ 45 ∷ rest) ≢ []
dashed_refused rows p [] a b c = absurd (true≢false a)
dashed_refused rows p (z ∷ zs) a b c = flag_fault rows p (45 ∷ 45 ∷ z ∷ zs) (name_of (z ∷ zs)) _ a refl (long_name (z ∷ zs) b c)

flag_refused : (rows : List Row) (p : Pending) (y : ℕ) (rest : Text) (dash : Bool) → eqb y 45 ≡ dash → IsUtf8 (45 ∷ y ∷ rest) → bytes_eq (45 ∷ y ∷ rest) (codes "--") ≡ false
    → bytes_eq (45 ∷ y ∷ rest) (codes "--workers") ≡ false → starts_with nat_eq (45 ∷ y ∷ rest) (codes "--workers=") ≡ false
    → turn_fault top [] (at rows p (waiting_of p) false) (45 ∷ y ∷ rest) ≢ []
flag_refused rows p y rest true e text a b c = subst (λ z. bytes_eq (45 ∷ z ∷ rest) (codes "--") ≡ false → bytes_eq (45 ∷ z ∷ rest) (codes "--workers") ≡ false
    → starts_with nat_eq (45 ∷ z ∷ rest) (codes "--workers=") ≡ false → turn_fault top [] (at rows p (waiting_of p) false) (45 ∷ z ∷ rest) ≢ []) (sym (eqb-true y 45 e)) (dashed_refused rows p rest) a b c
flag_refused rows p y rest false e text a b c =
    let first = some_first (chars (y ∷ rest)) (rest_chars y rest text) in
    short_refused rows p (45 ∷ y ∷ rest) y rest first.0 a (rw e refl) (rw e refl) first.1

flag_is : (x y : ℕ) (rest : Text) → x ≡ 45 → ∥ IsUtf8 (x ∷ y ∷ rest) ∥₁ → bytes_eq (x ∷ y ∷ rest) (codes "--") ≡ false → bytes_eq (x ∷ y ∷ rest) (codes "--workers") ≡ false
    → starts_with nat_eq (x ∷ y ∷ rest) (codes "--workers=") ≡ false → IsClass (x ∷ y ∷ rest) flag
flag_is x y rest is = subst (λ x. ∥ IsUtf8 (x ∷ y ∷ rest) ∥₁ → bytes_eq (x ∷ y ∷ rest) (codes "--") ≡ false → bytes_eq (x ∷ y ∷ rest) (codes "--workers") ≡ false
    → starts_with nat_eq (x ∷ y ∷ rest) (codes "--workers=") ≡ false → IsClass (x ∷ y ∷ rest) flag) (sym is)
    (λ text a b c. ((λ rows p bad. not_there text (λ sure. flag_refused rows p y rest (eqb y 45) refl sure a b c bad)), refl))

option_is : (word : Text) → ∥ IsUtf8 word ∥₁ → bytes_eq word (codes "--") ≡ false → bytes_eq word (codes "--workers") ≡ false → starts_with nat_eq word (codes "--workers=") ≡ false
    → is_option word ≡ true → IsClass word flag
option_is [] text a b c d = absurd (true≢false (sym d))
option_is (x ∷ []) text a b c d = absurd (true≢false (sym d ∙ and_false (eqb x 45)))
option_is (x ∷ y ∷ rest) text a b c d = flag_is x y rest (eqb-true x 45 (sym (option_by_first x y rest) ∙ d)) text a b c

-- `--workers=V` is cut behind its `=`
with_number : (word : Text) → starts_with nat_eq word (codes "--workers=") ≡ true → word ≡ codes "--workers=" ++ drop 10 word
with_number word e = sym (take-append-drop 10 word) ∙ ap (λ front. front ++ drop 10 word) (sym ((bytes_eq-Decides (codes "--workers=") (take 10 word)).0 e))

-- each word is what its class says
pub class_is : (word : Text) → ∥ IsUtf8 word ∥₁ → IsClass word (class_of word)
class_is word text = one (bytes_eq word (codes "--")) refl
  where
    four : bytes_eq word (codes "--") ≡ false → bytes_eq word (codes "--workers") ≡ false → starts_with nat_eq word (codes "--workers=") ≡ false
        → (b : Bool) → is_option word ≡ b → IsClass word (cond b flag plain)
    four e1 e2 e3 true e4 = option_is word text e1 e2 e3 e4
    four e1 e2 e3 false e4 = plain_is word e4

    three : bytes_eq word (codes "--") ≡ false → bytes_eq word (codes "--workers") ≡ false
        → (b : Bool) → starts_with nat_eq word (codes "--workers=") ≡ b → IsClass word (cond b (number (drop 10 word)) (cond (is_option word) flag plain))
    three e1 e2 true e3 = with_number word e3
    three e1 e2 false e3 = four e1 e2 e3 (is_option word) refl

    two : bytes_eq word (codes "--") ≡ false → (b : Bool) → bytes_eq word (codes "--workers") ≡ b
        → IsClass word (cond b option (cond (starts_with nat_eq word (codes "--workers=")) (number (drop 10 word)) (cond (is_option word) flag plain)))
    two e1 true e2 = (bytes_eq-Decides word (codes "--workers")).0 e2
    two e1 false e2 = three e1 e2 (starts_with nat_eq word (codes "--workers=")) refl

    one : (b : Bool) → bytes_eq word (codes "--") ≡ b
        → IsClass word (cond b dashes (cond (bytes_eq word (codes "--workers")) option (cond (starts_with nat_eq word (codes "--workers=")) (number (drop 10 word)) (cond (is_option word) flag plain))))
    one true e1 = (bytes_eq-Decides word (codes "--")).0 e1
    one false e1 = two e1 (bytes_eq word (codes "--workers")) refl
