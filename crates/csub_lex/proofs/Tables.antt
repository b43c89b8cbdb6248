-- The tables of keywords and marks: each is found by its spelling, and the mark that is found is the longest.
use Rattle.std.proofs.Common.{◌≡◌, ℕ, ◌<◌, ◌≤◌, List, [], ◌∷◌, ◌++◌, length, take, drop, Option, Some, None, Bool, true, refl, sym, ap, ◌∙◌, subst, arith, inl, inr}
use Rattle.std.specs.Prelude.{nat_eq, nat_le, nat_lt, ◌&&◌}
use Rattle.std.specs.List.{starts_with, list_all}
use Rattle.std.specs.Cmp.Lexicographic.{pointwise}
use Rattle.std.proofs.lemmas.Bool.{and_parts, leb-true, ltb-true}
use Rattle.std.proofs.lemmas.Bool.Decides.{Decides-eqb}
use Rattle.std.proofs.lemmas.List.{take_at}
use Rattle.std.proofs.lemmas.Slice.Eq.{bytes_eq-Decides, starts_is}
use Rattle.csub_lex.specs.declared.token.Key.{Key}
use Rattle.csub_lex.specs.declared.token.Key.TheVariants as keys
use Rattle.csub_lex.specs.declared.token.Mark.{Mark}
use Rattle.csub_lex.specs.declared.token.Mark.TheVariants as marks
use Rattle.csub_lex.specs.declared.token.TokenKind.{TokenKind}
use Rattle.csub_lex.specs.declared.token.TokenKind.TheVariants as kinds
use Rattle.csub_lex.specs.Words.{key_text, Word, keyword, name}
use Rattle.csub_lex.specs.Marks.{mark_text, IsLongest}
use Rattle.csub_lex.specs.declared.key.TheConstants.{KEYS}
use Rattle.csub_lex.specs.declared.mark.TheConstants.{MARKS}
use Rattle.csub_lex.specs.Finding.{key_among, key_of, word_kind, mark_among, first_mark}
use Rattle.csub_lex.proofs.Choices.{chosen, some_is}

-- keywords

pub known_key : (key : Key) → key_of (key_text key) ≡ Some key
unfolding key_of
known_key keys.Auto = refl
known_key keys.Break = refl
known_key keys.Case = refl
known_key keys.Char = refl
known_key keys.Const = refl
known_key keys.Continue = refl
known_key keys.Default = refl
known_key keys.Do = refl
known_key keys.Double = refl
known_key keys.Else = refl
known_key keys.Enum = refl
known_key keys.Extern = refl
known_key keys.Float = refl
known_key keys.For = refl
known_key keys.Goto = refl
known_key keys.If = refl
known_key keys.Inline = refl
known_key keys.Int = refl
known_key keys.Long = refl
known_key keys.Register = refl
known_key keys.Restrict = refl
known_key keys.Return = refl
known_key keys.Short = refl
known_key keys.Signed = refl
known_key keys.Sizeof = refl
known_key keys.Static = refl
known_key keys.Struct = refl
known_key keys.Switch = refl
known_key keys.Typedef = refl
known_key keys.Union = refl
known_key keys.Unsigned = refl
known_key keys.Void = refl
known_key keys.Volatile = refl
known_key keys.While = refl
known_key keys.Alignas = refl
known_key keys.Alignof = refl
known_key keys.Atomic = refl
known_key keys.Bool = refl
known_key keys.Complex = refl
known_key keys.Generic = refl
known_key keys.Imaginary = refl
known_key keys.Noreturn = refl
known_key keys.StaticAssert = refl
known_key keys.ThreadLocal = refl

key_spelled : (table : List Key) (text : List ℕ) (key : Key) → key_among table text ≡ Some key → text ≡ key_text key
key_spelled [] text key e = absurd cc
key_spelled (k ∷ table) text key e = elim (chosen (pointwise nat_eq text (key_text k)) (Some k) (key_among table text) (Some key) e) [
  | inl h ↦ (bytes_eq-Decides text (key_text k)).0 h.0 ∙ ap key_text (some_is k key h.1)
  | inr h ↦ key_spelled table text key h.1
]

key_is : (text : List ℕ) (key : Key) → key_of text ≡ Some key → text ≡ key_text key
unfolding key_of
key_is text key e = key_spelled KEYS text key e

pub word_sound : (text : List ℕ) → Word text (word_kind (key_of text) text)
word_sound text = go (key_of text) refl
  where
    go : (o : Option Key) → key_of text ≡ o → Word text (word_kind o text)
    go None e = name text (λ key same. cc (known_key key, ap key_of same))
    go (Some key) e = subst (λ (x : List ℕ). Word x (kinds.Key key)) (sym (key_is text key e)) (keyword key)

pub word_complete : {text : List ℕ} {kind : TokenKind} → Word text kind → word_kind (key_of text) text ≡ kind
word_complete (keyword key) = ap (λ (o : Option Key). word_kind o (key_text key)) (known_key key)
word_complete (name text none) = go (key_of text) refl
  where
    go : (o : Option Key) → key_of text ≡ o → word_kind o text ≡ kinds.Name text
    go None e = refl
    go (Some key) e = absurd (none key (key_is text key e))

-- marks

pub known_mark : (mark : Mark) → first_mark (mark_text mark) ≡ Some mark
unfolding first_mark
known_mark marks.OpenBrace = refl
known_mark marks.CloseBrace = refl
known_mark marks.OpenParen = refl
known_mark marks.CloseParen = refl
known_mark marks.OpenBracket = refl
known_mark marks.CloseBracket = refl
known_mark marks.Semicolon = refl
known_mark marks.Comma = refl
known_mark marks.Colon = refl
known_mark marks.Question = refl
known_mark marks.Dot = refl
known_mark marks.Tilde = refl
known_mark marks.Plus = refl
known_mark marks.Minus = refl
known_mark marks.Star = refl
known_mark marks.Slash = refl
known_mark marks.Percent = refl
known_mark marks.Ampersand = refl
known_mark marks.Bar = refl
known_mark marks.Caret = refl
known_mark marks.Bang = refl
known_mark marks.Less = refl
known_mark marks.Greater = refl
known_mark marks.Equal = refl
known_mark marks.PlusPlus = refl
known_mark marks.MinusMinus = refl
known_mark marks.ShiftLeft = refl
known_mark marks.ShiftRight = refl
known_mark marks.LessEqual = refl
known_mark marks.GreaterEqual = refl
known_mark marks.EqualEqual = refl
known_mark marks.BangEqual = refl
known_mark marks.AndAnd = refl
known_mark marks.BarBar = refl
known_mark marks.PlusEqual = refl
known_mark marks.MinusEqual = refl
known_mark marks.StarEqual = refl
known_mark marks.SlashEqual = refl
known_mark marks.PercentEqual = refl
known_mark marks.AmpersandEqual = refl
known_mark marks.BarEqual = refl
known_mark marks.CaretEqual = refl
known_mark marks.ShiftLeftEqual = refl
known_mark marks.ShiftRightEqual = refl

known_among : (mark : Mark) → mark_among MARKS (mark_text mark) ≡ Some mark
unfolding first_mark
known_among mark = known_mark mark

-- no mark stands behind a shorter one
abbrev falls : List Mark → Bool
falls [] = true
falls (mark ∷ table) = list_all (λ other. nat_le (length (mark_text other)) (length (mark_text mark))) table && falls table

bounded : (table : List Mark) (most : ℕ) (s : List ℕ) (mark : Mark) → list_all (λ other. nat_le (length (mark_text other)) most) table ≡ true → mark_among table s ≡ Some mark → length (mark_text mark) ≤ most
bounded [] most s mark all e = absurd cc
bounded (m ∷ table) most s mark all e =
    let parts = and_parts (nat_le (length (mark_text m)) most) (list_all (λ other. nat_le (length (mark_text other)) most) table) all in
    elim (chosen (starts_with nat_eq s (mark_text m)) (Some m) (mark_among table s) (Some mark) e) [
      | inl h ↦ subst (λ (x : Mark). length (mark_text x) ≤ most) (some_is m mark h.1) (leb-true (length (mark_text m)) most parts.0)
      | inr h ↦ bounded table most s mark parts.1 h.1
    ]

-- the mark that is found for s is no shorter than another of the table that fits s
longest : (table : List Mark) (s t : List ℕ) (mark other : Mark) → falls table ≡ true → mark_among table s ≡ Some mark → mark_among table t ≡ Some other
    → starts_with nat_eq s (mark_text other) ≡ true → length (mark_text other) ≤ length (mark_text mark)
longest [] s t mark other order found known fits = absurd (cc found)
longest (m ∷ table) s t mark other order found known fits =
    let parts = and_parts (list_all (λ n. nat_le (length (mark_text n)) (length (mark_text m))) table) (falls table) order in
    let on_t = chosen (starts_with nat_eq t (mark_text m)) (Some m) (mark_among table t) (Some other) known in
    elim (chosen (starts_with nat_eq s (mark_text m)) (Some m) (mark_among table s) (Some mark) found) [
      | inl h ↦ elim on_t [
        | inl k ↦ omega (arith, ap (λ (x : Mark). length (mark_text x)) (some_is m mark h.1), ap (λ (x : Mark). length (mark_text x)) (some_is m other k.1))
        | inr k ↦ omega (arith, ap (λ (x : Mark). length (mark_text x)) (some_is m mark h.1), bounded table (length (mark_text m)) t other parts.0 k.1)
      ]
      | inr h ↦ elim on_t [
        | inl k ↦ absurd (cc (h.0, fits, ap (λ (x : Mark). starts_with nat_eq s (mark_text x)) (some_is m other k.1)))
        | inr k ↦ longest table s t mark other parts.1 h.1 k.1 fits
      ]
    ]

-- where none is found, none of the table fits
missed : (table : List Mark) (s t : List ℕ) (other : Mark) → mark_among table s ≡ None → mark_among table t ≡ Some other → starts_with nat_eq s (mark_text other) ≡ true → ⊥
missed [] s t other found known fits = cc known
missed (m ∷ table) s t other found known fits =
    elim (chosen (starts_with nat_eq s (mark_text m)) (Some m) (mark_among table s) None found) [
      | inl h ↦ cc (h.1)
      | inr h ↦ elim (chosen (starts_with nat_eq t (mark_text m)) (Some m) (mark_among table t) (Some other) known) [
        | inl k ↦ cc (h.0, fits, ap (λ (x : Mark). starts_with nat_eq s (mark_text x)) (some_is m other k.1))
        | inr k ↦ missed table s t other h.1 k.1 fits
      ]
    ]

found_fits : (table : List Mark) (s : List ℕ) (mark : Mark) → mark_among table s ≡ Some mark → starts_with nat_eq s (mark_text mark) ≡ true
found_fits [] s mark e = absurd (cc e)
found_fits (m ∷ table) s mark e = elim (chosen (starts_with nat_eq s (mark_text m)) (Some m) (mark_among table s) (Some mark) e) [
  | inl h ↦ subst (λ (x : Mark). starts_with nat_eq s (mark_text x) ≡ true) (some_is m mark h.1) h.0
  | inr h ↦ found_fits table s mark h.1
]

front_of : (s p : List ℕ) → starts_with nat_eq s p ≡ true → s ≡ p ++ drop (length p) s
front_of s p e = (starts_is Decides-eqb s p (starts_with nat_eq s p) refl).0 e

fits_front : (s p after : List ℕ) → s ≡ p ++ after → starts_with nat_eq s p ≡ true
fits_front s p after e = (starts_is Decides-eqb s p (starts_with nat_eq s p) refl).1 after e

all_some : list_all (λ mark. nat_lt 0 (length (mark_text mark))) MARKS ≡ true
all_some = refl

found_some : (table : List Mark) (s : List ℕ) (mark : Mark) → list_all (λ m. nat_lt 0 (length (mark_text m))) table ≡ true → mark_among table s ≡ Some mark → 0 < length (mark_text mark)
found_some [] s mark all e = absurd (cc e)
found_some (m ∷ table) s mark all e =
    let parts = and_parts (nat_lt 0 (length (mark_text m))) (list_all (λ n. nat_lt 0 (length (mark_text n))) table) all in
    elim (chosen (starts_with nat_eq s (mark_text m)) (Some m) (mark_among table s) (Some mark) e) [
      | inl h ↦ subst (λ (x : Mark). 0 < length (mark_text x)) (some_is m mark h.1) (ltb-true 0 (length (mark_text m)) parts.0)
      | inr h ↦ found_some table s mark parts.1 h.1
    ]

-- a mark has a byte
pub mark_some : (mark : Mark) → 0 < length (mark_text mark)
mark_some mark = found_some MARKS (mark_text mark) mark all_some (known_among mark)

ordered : falls MARKS ≡ true
ordered = refl

pub mark_front : (s : List ℕ) (mark : Mark) → first_mark s ≡ Some mark → s ≡ mark_text mark ++ drop (length (mark_text mark)) s
unfolding first_mark
mark_front s mark e = front_of s (mark_text mark) (found_fits MARKS s mark e)

pub mark_longest : (s : List ℕ) (mark : Mark) → first_mark s ≡ Some mark → IsLongest mark s
unfolding first_mark
mark_longest s mark e = λ other after parts. longest MARKS s (mark_text other) mark other ordered e (known_among other) (fits_front s (mark_text other) after parts)

same_text : (mark other : Mark) → mark_text mark ≡ mark_text other → mark ≡ other
same_text mark other e = some_is mark other (sym (known_mark mark) ∙ ap first_mark e ∙ known_mark other)

pub mark_complete : (s : List ℕ) (mark : Mark) (after : List ℕ) → s ≡ mark_text mark ++ after → IsLongest mark s → first_mark s ≡ Some mark
mark_complete s mark after parts long = go (first_mark s) refl
  where
    go : (o : Option Mark) → first_mark s ≡ o → o ≡ Some mark
    go None e = absurd (missed MARKS s (mark_text mark) mark (none_among e) (known_among mark) (fits_front s (mark_text mark) after parts))
      where
        none_among : first_mark s ≡ None → mark_among MARKS s ≡ None
        none_among e = unfold first_mark in e
    go (Some other) e =
        let front = mark_front s other e in
        let a : length (mark_text mark) ≤ length (mark_text other) = mark_longest s other e mark after parts in
        let b : length (mark_text other) ≤ length (mark_text mark) = long other (drop (length (mark_text other)) s) front in
        let n : length (mark_text mark) ≡ length (mark_text other) = omega arith in
        let texts : mark_text other ≡ mark_text mark =
        sym (take_at (mark_text other) (drop (length (mark_text other)) s) (length (mark_text other)) refl) ∙ ap (λ (x : List ℕ). take (length (mark_text other)) x) (sym front ∙ parts) ∙ take_at (mark_text mark) after (length (mark_text other)) n in
        ap (λ (x : Mark). Some x) (same_text other mark texts)
