-- What a loop over bytes, keys or marks has found so far, one step on.
use Rattle.std.proofs.Common.{◌≡◌, ℕ, suc, ◌+◌, ◌*◌, ◌<◌, ◌≤◌, List, [], ◌∷◌, ◌++◌, length, take, drop, get_or, take-append-drop, Option, Some, None, Bool, true, false, cond, refl, sym, ap, ◌∙◌, subst, arith, append_assoc, length-drop}
use Rattle.std.specs.Prelude.{nat_eq, nat_le, ◌==◌, ◌&&◌, ◌||◌, if◌then◌else◌}
use Rattle.std.specs.List.{fold, starts_with}
use Rattle.std.specs.Cmp.Lexicographic.{pointwise}
use Rattle.std.proofs.lemmas.List.{at_drop_more, at_drop_all, take_more, drop_more, append-nil}
use Rattle.std.proofs.lemmas.Grind.{fold-append}
use Rattle.std.proofs.lemmas.Bool.{lt-leb}
use Rattle.std.proofs.Math.Nat.{mul-le-mul_left}
use Rattle.csub_lex.specs.Quoted.{is_plain}
use Rattle.csub_lex.specs.declared.token.Key.{Key}
use Rattle.csub_lex.specs.declared.token.Mark.{Mark}
use Rattle.csub_lex.specs.Bytes.{is_space_or_tab}
use Rattle.csub_lex.specs.Words.{key_text}
use Rattle.csub_lex.specs.Marks.{mark_text}
use Rattle.csub_lex.specs.Numbers.{digit_value, value_in}
use Rattle.csub_lex.specs.Lines.{blank_line}
use Rattle.csub_lex.specs.Finding.{key_among, mark_among, begins, behind_close, with_front, with_rest, escaped, character_of, characters_of}

-- the keys and marks of a table

module _ (keys : List Key) (i : ℕ) (d : Key) (text : List ℕ) (within : i < length keys) where
  pub key_here : pointwise nat_eq text (key_text (get_or keys i d)) ≡ true → key_among (drop i keys) text ≡ Some (get_or keys i d)
  key_here e = at_drop_more (λ (ks : List Key). key_among ks text) keys i d within ∙ ap (λ b. cond b (Some (get_or keys i d)) (key_among (drop (i + 1) keys) text)) e

  pub key_past : pointwise nat_eq text (key_text (get_or keys i d)) ≡ false → key_among (drop i keys) text ≡ key_among (drop (i + 1) keys) text
  key_past e = at_drop_more (λ (ks : List Key). key_among ks text) keys i d within ∙ ap (λ b. cond b (Some (get_or keys i d)) (key_among (drop (i + 1) keys) text)) e

pub key_none : (keys : List Key) (i : ℕ) (text : List ℕ) → length keys ≤ i → key_among (drop i keys) text ≡ None
key_none keys i text le = at_drop_all (λ (ks : List Key). key_among ks text) keys i le

module _ (marks : List Mark) (i : ℕ) (d : Mark) (bytes : List ℕ) (within : i < length marks) where
  pub mark_here : starts_with nat_eq bytes (mark_text (get_or marks i d)) ≡ true → mark_among (drop i marks) bytes ≡ Some (get_or marks i d)
  mark_here e = at_drop_more (λ (ms : List Mark). mark_among ms bytes) marks i d within ∙ ap (λ b. cond b (Some (get_or marks i d)) (mark_among (drop (i + 1) marks) bytes)) e

  pub mark_past : starts_with nat_eq bytes (mark_text (get_or marks i d)) ≡ false → mark_among (drop i marks) bytes ≡ mark_among (drop (i + 1) marks) bytes
  mark_past e = at_drop_more (λ (ms : List Mark). mark_among ms bytes) marks i d within ∙ ap (λ b. cond b (Some (get_or marks i d)) (mark_among (drop (i + 1) marks) bytes)) e

pub mark_none : (marks : List Mark) (i : ℕ) (bytes : List ℕ) → length marks ≤ i → mark_among (drop i marks) bytes ≡ None
mark_none marks i bytes le = at_drop_all (λ (ms : List Mark). mark_among ms bytes) marks i le

-- the line before a place

pub line_step : (before : List ℕ) (b : ℕ) → blank_line (before ++ b ∷ []) ≡ (b == 10 || (blank_line before && is_space_or_tab b))
line_step before b = fold-append (λ (blank : Bool) (c : ℕ). c == 10 || (blank && is_space_or_tab c)) true before (b ∷ [])

-- digits

-- a value with one more digit is no smaller
grows : (base n : ℕ) (digits : List ℕ) → 0 < base → n ≤ fold (λ n b. n * base + digit_value b) n digits
grows base n [] some = omega arith
grows base n (b ∷ bs) some =
    let one : 1 ≤ base = omega arith in
    omega (arith, mul-le-mul_left n one, grows base (n * base + digit_value b) bs some)

-- a value that is too large after some digits is too large after all
pub too_large : (base : ℕ) (digits : List ℕ) (i value : ℕ) → i < length digits → 0 < base → value ≡ value_in base (take i digits)
    → 4294967295 < value * base + digit_value (get_or digits i 0)
    → None ≡ (if nat_le (value_in base digits) 4294967295 then Some (value_in base digits) else None)
too_large base digits i value within some so_far big =
    let step : ℕ → ℕ → ℕ = λ n b. n * base + digit_value b in
    let cut : digits ≡ take (i + 1) digits ++ drop (i + 1) digits = sym (take-append-drop (i + 1) digits) in
    let front : fold step 0 (take (i + 1) digits) ≡ value * base + digit_value (get_or digits i 0) =
    ap (λ (ds : List ℕ). fold step 0 ds) (take_more digits i 0 within) ∙ fold-append step 0 (take i digits) (get_or digits i 0 ∷ []) ∙ ap (λ (n : ℕ). step n (get_or digits i 0)) (sym so_far) in
    let whole : value_in base digits ≡ fold step (fold step 0 (take (i + 1) digits)) (drop (i + 1) digits) =
    ap (λ (ds : List ℕ). fold step 0 ds) cut ∙ fold-append step 0 (take (i + 1) digits) (drop (i + 1) digits) in
    let more : fold step 0 (take (i + 1) digits) ≤ fold step (fold step 0 (take (i + 1) digits)) (drop (i + 1) digits) = grows base (fold step 0 (take (i + 1) digits)) (drop (i + 1) digits) some in
    rw (lt-leb (value_in base digits) 4294967295 (omega (arith, front, whole, more))) refl

-- a comment

two_on : (bytes : List ℕ) (at : ℕ) → at + 1 < length bytes → drop at bytes ≡ get_or bytes at 0 ∷ get_or bytes (at + 1) 0 ∷ drop (at + 2) bytes
two_on bytes at within =
    let first : at < length bytes = omega arith in
    let two : at + 1 + 1 ≡ at + 2 = omega arith in
    drop_more bytes at 0 first ∙ ap (λ (x : List ℕ). get_or bytes at 0 ∷ x) (drop_more bytes (at + 1) 0 within ∙ ap (λ n. get_or bytes (at + 1) 0 ∷ drop n bytes) two)

pub close_here : (bytes : List ℕ) (at : ℕ) → at + 1 < length bytes → get_or bytes at 0 ≡ 42 → get_or bytes (at + 1) 0 ≡ 47 → behind_close (drop at bytes) ≡ Some (drop (at + 2) bytes)
unfolding behind_close
close_here bytes at within star slash = rw (two_on bytes at within, star, slash) refl

pub close_past : (bytes : List ℕ) (at : ℕ) → at + 1 < length bytes → (get_or bytes at 0 == 42 && get_or bytes (at + 1) 0 == 47) ≡ false → behind_close (drop at bytes) ≡ behind_close (drop (at + 1) bytes)
unfolding behind_close
close_past bytes at within other =
    let two : at + 1 + 1 ≡ at + 2 = omega arith in
    let next : drop (at + 1) bytes ≡ get_or bytes (at + 1) 0 ∷ drop (at + 2) bytes = drop_more bytes (at + 1) 0 within ∙ ap (λ n. get_or bytes (at + 1) 0 ∷ drop n bytes) two in
    ap behind_close (two_on bytes at within) ∙ ap (λ (t : Bool). cond t (Some (drop (at + 2) bytes)) (behind_close (get_or bytes (at + 1) 0 ∷ drop (at + 2) bytes))) other ∙ ap behind_close (sym next)

pub close_none : (bytes : List ℕ) (at : ℕ) → length bytes ≤ at + 1 → behind_close (drop at bytes) ≡ None
close_none bytes at le = short (drop at bytes) (omega (arith, length-drop at bytes))
  where
    short : (s : List ℕ) → length s ≤ 1 → behind_close s ≡ None
    short [] few = unfold behind_close in refl
    short (b ∷ []) few = unfold behind_close in refl
    short (b ∷ c ∷ s) few = absurd (omega arith)

-- characters

-- what was read behind these values
abbrev pub with_values : List ℕ → Option (List ℕ × List ℕ) → Option (List ℕ × List ℕ)
with_values values None = None
with_values values (Some x) = Some (values ++ x.0, x.1)

-- what is read behind a first character
abbrev follow : ℕ → Option (ℕ × List ℕ) → Option (List ℕ × List ℕ)
follow quote None = None
follow quote (Some x) = with_front (Some x.0) (characters_of quote x.1)

abbrev Fewer : Option (ℕ × List ℕ) → ℕ → Type 0
Fewer None n = Unit {0}
Fewer (Some x) n = length x.1 < n

fewer : (quote : ℕ) (s : List ℕ) → Fewer (character_of quote s) (length s)
unfolding character_of
fewer quote [] = tt
fewer quote (b ∷ []) = go (is_plain quote b)
  where
    go : (t : Bool) → Fewer (cond t (Some (b, [])) None) 1
    go true = omega arith
    go false = tt
fewer quote (b ∷ e ∷ more) = go (b == 92) (is_plain quote b) (escaped e more)
  where
    go : (t p : Bool) (o : Option ℕ) → Fewer (cond t (with_rest more o) (cond p (Some (b, e ∷ more)) None)) (suc (suc (length more)))
    go true p None = tt
    go true p (Some v) = omega arith
    go false true o = omega arith
    go false false o = tt

pub shorter : (quote : ℕ) (s : List ℕ) (value : ℕ) (after : List ℕ) → character_of quote s ≡ Some (value, after) → length after < length s
shorter quote s value after e = subst (λ (o : Option (ℕ × List ℕ)). Fewer o (length s)) e (fewer quote s)

-- where no quote stands, the characters are the first one and those behind it
pub from_character : (quote : ℕ) (s : List ℕ) → begins (λ b. b == quote) s ≡ false → characters_of quote s ≡ follow quote (character_of quote s)
unfolding character_of characters_of
from_character quote [] open_still = refl
from_character quote (b ∷ []) open_still = ap (λ (t : Bool). cond t (Some ([], [])) None) open_still ∙ go (is_plain quote b)
  where
    go : (t : Bool) → None ≡ follow quote (cond t (Some (b, [])) None)
    go true = refl
    go false = refl
from_character quote (b ∷ e ∷ more) open_still =
    ap (λ (t : Bool). cond t (Some ([], e ∷ more)) (cond (b == 92) (with_front (escaped e more) (characters_of quote more)) (cond (is_plain quote b) (with_front (Some b) (characters_of quote (e ∷ more))) None))) open_still
    ∙ go (b == 92) (is_plain quote b) (escaped e more)
  where
    go : (t p : Bool) (o : Option ℕ) → cond t (with_front o (characters_of quote more)) (cond p (with_front (Some b) (characters_of quote (e ∷ more))) None)
        ≡ follow quote (cond t (with_rest more o) (cond p (Some (b, e ∷ more)) None))
    go true p None = refl
    go true p (Some v) = refl
    go false true o = refl
    go false false o = refl

values_push : (values : List ℕ) (value : ℕ) (read : Option (List ℕ × List ℕ)) → with_values values (with_front (Some value) read) ≡ with_values (values ++ value ∷ []) read
values_push values value None = refl
values_push values value (Some x) = ap (λ (v : List ℕ). Some (v, x.1)) (sym (append_assoc values (value ∷ []) x.0))

pub one_more : (quote : ℕ) (s values : List ℕ) (value : ℕ) (after : List ℕ) → begins (λ b. b == quote) s ≡ false → character_of quote s ≡ Some (value, after)
    → with_values values (characters_of quote s) ≡ with_values (values ++ value ∷ []) (characters_of quote after)
one_more quote s values value after open_still e =
    ap (λ (o : Option (List ℕ × List ℕ)). with_values values o) (from_character quote s open_still ∙ ap (λ (o : Option (ℕ × List ℕ)). follow quote o) e) ∙ values_push values value (characters_of quote after)

pub none_more : (quote : ℕ) (s values : List ℕ) → begins (λ b. b == quote) s ≡ false → character_of quote s ≡ None → with_values values (characters_of quote s) ≡ None
none_more quote s values open_still e = ap (λ (o : Option (List ℕ × List ℕ)). with_values values o) (from_character quote s open_still ∙ ap (λ (o : Option (ℕ × List ℕ)). follow quote o) e)

pub all_read : (quote : ℕ) (s values : List ℕ) → begins (λ b. b == quote) s ≡ true → with_values values (characters_of quote s) ≡ Some (values, drop 1 s)
unfolding characters_of
all_read quote [] values closed = absurd cc
all_read quote (b ∷ []) values closed = rw closed (ap (λ (v : List ℕ). Some (v, [])) (append-nil values))
all_read quote (b ∷ e ∷ more) values closed = rw closed (ap (λ (v : List ℕ). Some (v, e ∷ more)) (append-nil values))
