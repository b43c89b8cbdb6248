-- The characters between quotes are read exactly where they are well formed.
use Rattle.std.proofs.Common.{◌≡◌, ℕ, List, [], ◌∷◌, ◌++◌, Option, Some, None, Bool, true, false, cond, refl, sym, ap, ◌∙◌, subst, inl, inr, append_assoc}
use Rattle.std.specs.Prelude.{◌==◌, ◌&&◌, not}
use Rattle.std.proofs.lemmas.Bool.{and_parts, and_right, and_left, eqb-true, eqb-false, ne_eqb, not-true, eq-eqb, and_cases, cases_eq, cond-false}
use Rattle.csub_lex.specs.Bytes.{Stops}
use Rattle.csub_lex.specs.Numbers.{is_digit_of}
use Rattle.csub_lex.specs.Quoted.{is_plain, escape_value, Characters, none, plain, escape}
use Rattle.csub_lex.specs.Finding.{begins, escaped, character_of, characters_of, with_front, with_rest}
use Rattle.csub_lex.proofs.Choices.{chosen, some_is, Behind}
use Rattle.csub_lex.proofs.Runs.{begins_stops}

-- an escape stands for its value, and for none in front of an octal digit where it is `\0`

pub escaped_is : (e value : ℕ) (after : List ℕ) → escaped e after ≡ Some value → (escape_value e ≡ Some value) × (e ≡ 48 → Stops (is_digit_of 8) after)
unfolding escaped
escaped_is e value after h = elim (chosen (e == 48 && begins (is_digit_of 8) after) None (escape_value e) (Some value) h) [
  | inl k ↦ absurd (cc (k.1))
  | inr k ↦ (
    k.1,
    λ zero_is. begins_stops (is_digit_of 8) after (elim (and_cases (e == 48) (begins (is_digit_of 8) after) k.0) [
      | inl other ↦ absurd (eqb-false e 48 other zero_is)
      | inr none_begins ↦ none_begins
    ]),
  )
]

pub is_escaped : (e value : ℕ) (after : List ℕ) → escape_value e ≡ Some value → (e ≡ 48 → begins (is_digit_of 8) after ≡ false) → escaped e after ≡ Some value
unfolding escaped
is_escaped e value after h stops = cond-false (e == 48 && begins (is_digit_of 8) after) None (escape_value e) (elim (cases_eq e 48) [
  | inl zero_is ↦ and_right (e == 48) (begins (is_digit_of 8) after) (stops zero_is)
  | inr other ↦ and_left (e == 48) (begins (is_digit_of 8) after) (ne_eqb e 48 other)
]) ∙ h

-- a byte that stands for itself is neither `\` nor the quote

pub plain_parts : (quote b : ℕ) → is_plain quote b ≡ true → ((b == 92) ≡ false) × ((b == quote) ≡ false)
plain_parts quote b h =
    let p = and_parts _ (not (b == quote)) h in
    let q = and_parts _ (not (b == 92)) p.0 in
    (not-true (b == 92) q.1, not-true (b == quote) p.1)

-- one step of reading

at_quote : (quote : ℕ) (s : List ℕ) → characters_of quote (quote ∷ s) ≡ Some ([], s)
unfolding characters_of
at_quote quote [] = rw (eq-eqb quote quote refl) refl
at_quote quote (e ∷ s) = rw (eq-eqb quote quote refl) refl

at_plain : (quote b : ℕ) (s : List ℕ) → is_plain quote b ≡ true → characters_of quote (b ∷ s) ≡ with_front (Some b) (characters_of quote s)
unfolding characters_of
at_plain quote b [] h = ap (λ (t : Bool). cond t (Some ([], [])) None) (plain_parts quote b h).1
at_plain quote b (e ∷ s) h =
    ap (λ (t : Bool). cond t (Some ([], e ∷ s)) (cond (b == 92) (with_front (escaped e s) (characters_of quote s)) (cond (is_plain quote b) (with_front (Some b) (characters_of quote (e ∷ s))) None))) (plain_parts quote b h).1
    ∙ ap (λ (t : Bool). cond t (with_front (escaped e s) (characters_of quote s)) (cond (is_plain quote b) (with_front (Some b) (characters_of quote (e ∷ s))) None)) (plain_parts quote b h).0
    ∙ ap (λ (t : Bool). cond t (with_front (Some b) (characters_of quote (e ∷ s))) None) h

at_escape : (quote e : ℕ) (s : List ℕ) → (92 == quote) ≡ false → characters_of quote (92 ∷ e ∷ s) ≡ with_front (escaped e s) (characters_of quote s)
unfolding characters_of
at_escape quote e s apart = ap (λ (t : Bool). cond t (Some ([], e ∷ s)) (with_front (escaped e s) (characters_of quote s))) apart

-- complete: what is well formed is read

front_stops : (quote : ℕ) (text after : List ℕ) → is_digit_of 8 quote ≡ false → Stops (is_digit_of 8) text → begins (is_digit_of 8) (text ++ quote ∷ after) ≡ false
front_stops quote [] after apart stops = apart
front_stops quote (b ∷ text) after apart stops = stops

module _ (quote : ℕ) (after : List ℕ) (no_octal : is_digit_of 8 quote ≡ false) (no_escape : (92 == quote) ≡ false) where
  pub characters_complete : {text bytes : List ℕ} → Characters quote text bytes → characters_of quote (text ++ quote ∷ after) ≡ Some (bytes, after)
  characters_complete none = at_quote quote after
  characters_complete (plain b text bytes h more) =
      at_plain quote b (text ++ quote ∷ after) h ∙ ap (λ (o : Option (List ℕ × List ℕ)). with_front (Some b) o) (characters_complete more)
  characters_complete (escape e value text bytes h stops more) =
      at_escape quote e (text ++ quote ∷ after) no_escape
      ∙ ap (λ (o : Option ℕ). with_front o (characters_of quote (text ++ quote ∷ after))) (is_escaped e value (text ++ quote ∷ after) h (λ zero_is. front_stops quote text after no_octal (stops zero_is)))
      ∙ ap (λ (o : Option (List ℕ × List ℕ)). with_front (Some value) o) (characters_complete more)

-- sound: what is read is well formed

pub record Quoted (quote : ℕ) (s bytes after : List ℕ) : Type 0 where
  pub text : List ℕ
  pub parts : s ≡ text ++ quote ∷ after
  pub formed : Characters quote text bytes

front_is : (o : Option ℕ) (read : Option (List ℕ × List ℕ)) (bytes after : List ℕ) → with_front o read ≡ Some (bytes, after)
    → (value : ℕ) × (more : List ℕ) × (o ≡ Some value) × (read ≡ Some (more, after)) × (bytes ≡ value ∷ more)
front_is None read bytes after e = absurd (cc e)
front_is (Some value) None bytes after e = absurd (cc e)
front_is (Some value) (Some x) bytes after e =
    let pair : ◌≡◌ {A = List ℕ × List ℕ} (value ∷ x.0, x.1) (bytes, after) = some_is (value ∷ x.0, x.1) (bytes, after) e in
    (value, x.0, refl, ap (λ (r : List ℕ). Some (x.0, r)) (ap (λ (p : List ℕ × List ℕ). p.1) pair), sym (ap (λ (p : List ℕ × List ℕ). p.0) pair))

closed : (quote b : ℕ) (s bytes after : List ℕ) → (b == quote) ≡ true → ◌≡◌ {A = Option (List ℕ × List ℕ)} (Some ([], s)) (Some (bytes, after)) → Quoted quote (b ∷ s) bytes after
closed quote b s bytes after is e =
    let pair : ◌≡◌ {A = List ℕ × List ℕ} ([], s) (bytes, after) = some_is ([], s) (bytes, after) e in
    let no_bytes : bytes ≡ [] = sym (ap (λ (p : List ℕ × List ℕ). p.0) pair) in
    let rest : s ≡ after = ap (λ (p : List ℕ × List ℕ). p.1) pair in
    record {
      text = [];
      parts = (λ i. eqb-true b quote is i ∷ rest i);
      formed = subst (λ (x : List ℕ). Characters quote [] x) (sym no_bytes) none;
    }

open_plain : (quote b : ℕ) (s bytes after : List ℕ) → is_plain quote b ≡ true → ((more : List ℕ) → characters_of quote s ≡ Some (more, after) → Quoted quote s more after)
    → with_front (Some b) (characters_of quote s) ≡ Some (bytes, after) → Quoted quote (b ∷ s) bytes after
open_plain quote b s bytes after h again e =
    let x = front_is (Some b) (characters_of quote s) bytes after e in
    let rest = again x.1 x.3 in
    record {
      text = b ∷ rest.text;
      parts = ap (λ (t : List ℕ). b ∷ t) rest.parts;
      formed = subst (λ (v : List ℕ). Characters quote (b ∷ rest.text) v) ((λ i. some_is b x.0 x.2 i ∷ x.1) ∙ sym x.4) (plain b rest.text x.1 h rest.formed);
    }

stops_front : (quote : ℕ) (text after s : List ℕ) → s ≡ text ++ quote ∷ after → Stops (is_digit_of 8) s → Stops (is_digit_of 8) text
stops_front quote [] after s parts stops = tt
stops_front quote (b ∷ text) after s parts stops = subst (λ (x : List ℕ). Stops (is_digit_of 8) x) parts stops

open_escape : (quote b e : ℕ) (s bytes after : List ℕ) → (b == 92) ≡ true → ((more : List ℕ) → characters_of quote s ≡ Some (more, after) → Quoted quote s more after)
    → with_front (escaped e s) (characters_of quote s) ≡ Some (bytes, after) → Quoted quote (b ∷ e ∷ s) bytes after
open_escape quote b e s bytes after is again h =
    let x = front_is (escaped e s) (characters_of quote s) bytes after h in
    let rest = again x.1 x.3 in
    let value = escaped_is e x.0 s x.2 in
    record {
      text = 92 ∷ e ∷ rest.text;
      parts = (λ i. eqb-true b 92 is i ∷ e ∷ rest.parts i);
      formed = subst (λ (v : List ℕ). Characters quote (92 ∷ e ∷ rest.text) v) (sym x.4)
          (escape e x.0 rest.text x.1 value.0 (λ zero_is. stops_front quote rest.text after s rest.parts (value.1 zero_is)) rest.formed);
    }

pub characters_sound : (quote : ℕ) (s bytes after : List ℕ) → characters_of quote s ≡ Some (bytes, after) → Quoted quote s bytes after
unfolding characters_of
characters_sound quote [] bytes after e = absurd (cc e)
characters_sound quote (b ∷ []) bytes after e = elim (chosen (b == quote) (Some ([], [])) None (Some (bytes, after)) e) [
  | inl h ↦ closed quote b [] bytes after h.0 h.1
  | inr h ↦ absurd (cc (h.1))
]
characters_sound quote (b ∷ e ∷ s) bytes after h =
    let plain_part : Option (List ℕ × List ℕ) = cond (is_plain quote b) (with_front (Some b) (characters_of quote (e ∷ s))) None in
    elim (chosen (b == quote) (Some ([], e ∷ s)) (cond (b == 92) (with_front (escaped e s) (characters_of quote s)) plain_part) (Some (bytes, after)) h) [
      | inl k ↦ closed quote b (e ∷ s) bytes after k.0 k.1
      | inr k ↦ elim (chosen (b == 92) (with_front (escaped e s) (characters_of quote s)) plain_part (Some (bytes, after)) k.1) [
        | inl l ↦ open_escape quote b e s bytes after l.0 (λ more. characters_sound quote s more after) l.1
        | inr l ↦ elim (chosen (is_plain quote b) (with_front (Some b) (characters_of quote (e ∷ s))) None (Some (bytes, after)) l.1) [
          | inl m ↦ open_plain quote b (e ∷ s) bytes after m.0 (λ more. characters_sound quote (e ∷ s) more after) m.1
          | inr m ↦ absurd (cc (m.1))
        ]
      ]
    ]

pub characters_behind : (quote : ℕ) (s bytes after : List ℕ) → characters_of quote s ≡ Some (bytes, after) → Behind s after
characters_behind quote s bytes after e =
    let q = characters_sound quote s bytes after e in
    (q.text ++ quote ∷ [], q.parts ∙ sym (append_assoc q.text (quote ∷ []) after))

-- one character alone

pub record One (quote : ℕ) (s : List ℕ) (value : ℕ) (after : List ℕ) : Type 0 where
  pub text : List ℕ
  pub parts : s ≡ text ++ after
  pub formed : Characters quote text (value ∷ [])

one_plain : (quote b : ℕ) (s : List ℕ) (value : ℕ) (after : List ℕ) → is_plain quote b ≡ true → ◌≡◌ {A = Option (ℕ × List ℕ)} (Some (b, s)) (Some (value, after)) → One quote (b ∷ s) value after
one_plain quote b s value after h e =
    let pair : ◌≡◌ {A = ℕ × List ℕ} (b, s) (value, after) = some_is (b, s) (value, after) e in
    record {
      text = b ∷ [];
      parts = ap (λ (p : ℕ × List ℕ). b ∷ p.1) pair;
      formed = subst (λ (v : ℕ). Characters quote (b ∷ []) (v ∷ [])) (ap (λ (p : ℕ × List ℕ). p.0) pair) (plain b [] [] h none);
    }

one_escape : (quote b e : ℕ) (s : List ℕ) (value : ℕ) (after : List ℕ) → (b == 92) ≡ true → with_rest s (escaped e s) ≡ Some (value, after) → One quote (b ∷ e ∷ s) value after
one_escape quote b e s value after is h = go (escaped e s) refl h
  where
    go : (o : Option ℕ) → escaped e s ≡ o → with_rest s o ≡ Some (value, after) → One quote (b ∷ e ∷ s) value after
    go None k read = absurd (cc read)
    go (Some v) k read =
        let pair : ◌≡◌ {A = ℕ × List ℕ} (v, s) (value, after) = some_is (v, s) (value, after) read in
        record {
          text = 92 ∷ e ∷ [];
          parts = (λ i. eqb-true b 92 is i ∷ e ∷ ap (λ (p : ℕ × List ℕ). p.1) pair i);
          formed = subst (λ (x : ℕ). Characters quote (92 ∷ e ∷ []) (x ∷ [])) (ap (λ (p : ℕ × List ℕ). p.0) pair) (escape e v [] [] (escaped_is e v s k).0 (λ _. tt) none);
        }

pub character_sound : (quote : ℕ) (s : List ℕ) (value : ℕ) (after : List ℕ) → character_of quote s ≡ Some (value, after) → One quote s value after
unfolding character_of
character_sound quote [] value after h = absurd (cc h)
character_sound quote (b ∷ []) value after h = elim (chosen (is_plain quote b) (Some (b, [])) None (Some (value, after)) h) [
  | inl k ↦ one_plain quote b [] value after k.0 k.1
  | inr k ↦ absurd (cc (k.1))
]
character_sound quote (b ∷ e ∷ s) value after h =
    elim (chosen (b == 92) (with_rest s (escaped e s)) (cond (is_plain quote b) (Some (b, e ∷ s)) None) (Some (value, after)) h) [
      | inl k ↦ one_escape quote b e s value after k.0 k.1
      | inr k ↦ elim (chosen (is_plain quote b) (Some (b, e ∷ s)) None (Some (value, after)) k.1) [
        | inl l ↦ one_plain quote b (e ∷ s) value after l.0 l.1
        | inr l ↦ absurd (cc (l.1))
      ]
    ]

pub character_behind : (quote : ℕ) (s : List ℕ) (value : ℕ) (after : List ℕ) → character_of quote s ≡ Some (value, after) → Behind s after
character_behind quote s value after e = let o = character_sound quote s value after e in (o.text, o.parts)

empty_text : {quote : ℕ} {text bytes : List ℕ} → Characters quote text bytes → bytes ≡ [] → text ≡ []
empty_text none e = refl
empty_text (plain b text bytes h more) e = absurd (cc e)
empty_text (escape e value text bytes h stops more) k = absurd (cc k)

-- one character in front of a byte that is no octal digit
module _ (quote next : ℕ) (after : List ℕ) (no_octal : is_digit_of 8 next ≡ false) where
  one_plain_read : (b : ℕ) → is_plain quote b ≡ true → character_of quote (b ∷ next ∷ after) ≡ Some (b, next ∷ after)
  unfolding character_of
  one_plain_read b h =
      ap (λ (t : Bool). cond t (with_rest after (escaped next after)) (cond (is_plain quote b) (Some (b, next ∷ after)) None)) (plain_parts quote b h).0
      ∙ ap (λ (t : Bool). cond t (Some (b, next ∷ after)) None) h

  one_escape_read : (e value : ℕ) → escape_value e ≡ Some value → character_of quote (92 ∷ e ∷ next ∷ after) ≡ Some (value, next ∷ after)
  unfolding character_of
  one_escape_read e value h = ap (λ (o : Option ℕ). with_rest (next ∷ after) o) (is_escaped e value (next ∷ after) h (λ _. no_octal))

  pub character_complete : {text bytes : List ℕ} → Characters quote text bytes → (value : ℕ) → bytes ≡ value ∷ [] → character_of quote (text ++ next ∷ after) ≡ Some (value, next ∷ after)
  character_complete none value e = absurd (cc e)
  character_complete (plain b text bytes h more) value e =
      let heads : b ≡ value = cc in
      let nothing : bytes ≡ [] = cc in
      ap (λ (t : List ℕ). character_of quote (b ∷ (t ++ next ∷ after))) (empty_text more nothing) ∙ one_plain_read b h ∙ ap (λ (v : ℕ). Some (v, next ∷ after)) heads
  character_complete (escape e v text bytes h stops more) value k =
      let heads : v ≡ value = cc in
      let nothing : bytes ≡ [] = cc in
      ap (λ (t : List ℕ). character_of quote (92 ∷ e ∷ (t ++ next ∷ after))) (empty_text more nothing) ∙ one_escape_read e v h ∙ ap (λ (x : ℕ). Some (x, next ∷ after)) heads
