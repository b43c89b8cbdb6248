-- The next piece is found exactly where one stands.
use Rattle.std.proofs.Common.{◌≡◌, ℕ, suc, ◌+◌, ◌<◌, ◌≤◌, List, [], ◌∷◌, ◌++◌, length, take, drop, take-append-drop, Option, Some, None, Bool, true, false, cond, refl, sym, ap, ◌∙◌, subst, arith, inl, inr, append_assoc}
use Rattle.std.specs.Prelude.{◌==◌, ◌||◌, nat_le, codes}
use Rattle.std.specs.Char.{is_ascii_digit, is_ascii_alphabetic}
use Rattle.std.specs.List.{prefix_len, list_all}
use Rattle.std.proofs.lemmas.List.{drop_at}
use Rattle.std.proofs.lemmas.Bool.{and_parts, and_from, or_cases, or_from, eqb-true, leb-true, false_from_ne_true, cond_both, cond-false, cond-true, lt-leb, ne_eqb, and_left, or_right}
use Rattle.csub_lex.specs.declared.token.Mark.{Mark}
use Rattle.csub_lex.specs.declared.token.Mark.TheVariants as marks
use Rattle.csub_lex.specs.declared.token.TokenKind.{TokenKind}
use Rattle.csub_lex.specs.declared.token.TokenKind.TheVariants as kinds
use Rattle.csub_lex.specs.declared.error.LexKind.{LexKind}
use Rattle.csub_lex.specs.declared.error.LexKind.TheVariants as faults
use Rattle.csub_lex.specs.Bytes.{is_blank, is_letter, is_word, no_newline, Run, Stops}
use Rattle.csub_lex.specs.Marks.{mark_text, IsLongest, NoComment}
use Rattle.csub_lex.specs.Lines.{blank_line}
use Rattle.csub_lex.specs.Pieces.{Piece, blank, line_comment, comment, include_line, word, number, character, string, punctuator}
use Rattle.csub_lex.specs.Finding.{Cut, skipped, took, stuck, begins, behind, word_kind, key_of, word_cut, numbered, number_of, number_cut, character_of, characters_of, constant, text_cut, behind_close, skip_to, opens, behind_include, directive_cut, first_mark, marked, comment_cut, mark_cut, other_cut, next}
use Rattle.csub_lex.proofs.Runs.{front_run, rest_stops, run_front, run_rest, run_behind}
use Rattle.csub_lex.proofs.Tables.{word_sound, word_complete, mark_front, mark_longest, mark_complete, mark_some}
use Rattle.csub_lex.proofs.NumberLaws.{number_sound, number_complete}
use Rattle.csub_lex.proofs.QuotedLaws.{characters_sound, characters_complete, character_sound, character_complete}
use Rattle.csub_lex.proofs.LineLaws.{close_sound, close_complete, include_sound, include_complete}

-- what a cut says of the bytes s behind `before`

-- the kind of a fault at these bytes
abbrev pub FaultAt : List ℕ → LexKind → Type 0
FaultAt [] kind = Unit {0}
FaultAt (b ∷ bs) kind = kind ≡ cond (is_ascii_digit b) faults.Number (cond (b == 35) faults.Directive faults.Byte)

pub record Stands (before s after : List ℕ) (piece : Option TokenKind) : Type 0 where
  pub text : List ℕ
  pub parts : s ≡ text ++ after
  pub piece_is : Piece before text after piece

abbrev pub Sound : List ℕ → List ℕ → Cut → Type 0
Sound before s (skipped after) = Stands before s after None
Sound before s (took kind after) = Stands before s after (Some kind)
Sound before s (stuck kind) = FaultAt s kind

-- the cut that says this
abbrev pub cut_of : Option TokenKind → List ℕ → Cut
cut_of None after = skipped after
cut_of (Some kind) after = took kind after

-- classes of bytes are apart

blank_cases : (P : ℕ → Type 0) (b : ℕ) → P 32 → P 9 → P 10 → P 11 → P 12 → P 13 → is_blank b ≡ true → P b
blank_cases P b p32 p9 p10 p11 p12 p13 h = elim (or_cases _ (b == 13) h) [
  | inr e ↦ subst P (sym (eqb-true b 13 e)) p13
  | inl h₅ ↦ elim (or_cases _ (b == 12) h₅) [
    | inr e ↦ subst P (sym (eqb-true b 12 e)) p12
    | inl h₄ ↦ elim (or_cases _ (b == 11) h₄) [
      | inr e ↦ subst P (sym (eqb-true b 11 e)) p11
      | inl h₃ ↦ elim (or_cases _ (b == 10) h₃) [
        | inr e ↦ subst P (sym (eqb-true b 10 e)) p10
        | inl h₂ ↦ elim (or_cases (b == 32) (b == 9) h₂) [
          | inl e ↦ subst P (sym (eqb-true b 32 e)) p32
          | inr e ↦ subst P (sym (eqb-true b 9 e)) p9
        ]
      ]
    ]
  ]
]

word_no_blank : (b : ℕ) → is_word b ≡ true → is_blank b ≡ false
word_no_blank b h = false_from_ne_true (is_blank b) (λ k. blank_cases (λ n. is_word n ≡ true → ⊥) b (λ e. cc e) (λ e. cc e) (λ e. cc e) (λ e. cc e) (λ e. cc e) (λ e. cc e) k h)

letter_word : (b : ℕ) → is_letter b ≡ true → is_word b ≡ true
letter_word b h = ap (λ (t : Bool). t || is_ascii_digit b) h

letter_no_blank : (b : ℕ) → is_letter b ≡ true → is_blank b ≡ false
letter_no_blank b h = word_no_blank b (letter_word b h)

digit_no_letter : (b : ℕ) → is_ascii_digit b ≡ true → is_letter b ≡ false
digit_no_letter b h =
    let range = and_parts (nat_le 48 b) (nat_le b 57) h in
    let most : b ≤ 57 = leb-true b 57 range.1 in
    let below : (n : ℕ) → 57 < n → nat_le n b ≡ false = λ n over. lt-leb n b (omega arith) in
    let upper = and_left (nat_le 65 b) (nat_le b 90) (below 65 (omega arith)) in
    let lower = and_left (nat_le 97 b) (nat_le b 122) (below 97 (omega arith)) in
    let line : (b == 95) ≡ false = ne_eqb b 95 (λ e. absurd (omega arith)) in
    or_from (is_ascii_alphabetic b) (b == 95) (or_from _ _ upper lower) line

digit_word : (b : ℕ) → is_ascii_digit b ≡ true → is_word b ≡ true
digit_word b h = or_right (is_letter b) (is_ascii_digit b) h

-- sound, class by class

sound_blank : (before : List ℕ) (b : ℕ) (bs : List ℕ) → is_blank b ≡ true → Sound before (b ∷ bs) (skipped bs)
sound_blank before b bs h = record { text = b ∷ []; parts = refl; piece_is = blank b bs h }

word_len : (b : ℕ) (bs : List ℕ) → is_word b ≡ true → prefix_len is_word (b ∷ bs) ≡ suc (prefix_len is_word bs)
word_len b bs h = let one : 1 + prefix_len is_word bs ≡ suc (prefix_len is_word bs) = omega arith in ap (λ (t : Bool). cond t (1 + prefix_len is_word bs) 0) h ∙ one

sound_word : (before : List ℕ) (b : ℕ) (bs : List ℕ) → is_letter b ≡ true → Sound before (b ∷ bs) (word_cut (b ∷ bs))
unfolding word_cut
sound_word before b bs h =
    let n : ℕ = prefix_len is_word bs in
    let text : List ℕ = b ∷ take n bs in
    subst (λ (m : ℕ). Sound before (b ∷ bs) (took (word_kind (key_of (take m (b ∷ bs))) (take m (b ∷ bs))) (drop m (b ∷ bs)))) (sym (word_len b bs (letter_word b h)))
    (record {
      text = text;
      parts = ap (λ (x : List ℕ). b ∷ x) (sym (take-append-drop n bs));
      piece_is = word b (take n bs) (drop n bs) (word_kind (key_of text) text) h (front_run is_word bs) (rest_stops is_word bs) (word_sound text);
    })

sound_numbered : (before : List ℕ) (b : ℕ) (bs after : List ℕ) → is_ascii_digit b ≡ true → Run is_word bs → Stops is_word after → Sound before (b ∷ (bs ++ after)) (numbered (number_of (b ∷ bs)) after)
sound_numbered before b bs after digit run stops = go (number_of (b ∷ bs)) refl
  where
    go : (o : Option (ℕ × Bool)) → number_of (b ∷ bs) ≡ o → Sound before (b ∷ (bs ++ after)) (numbered o after)
    go None e = sym (cond-true (is_ascii_digit b) faults.Number _ digit)
    go (Some x) e = record { text = b ∷ bs; parts = refl; piece_is = number b bs after x.0 x.1 digit run stops (number_sound b bs x.0 x.1 digit e) }

sound_number : (before : List ℕ) (b : ℕ) (bs : List ℕ) → is_ascii_digit b ≡ true → Sound before (b ∷ bs) (number_cut (b ∷ bs))
unfolding number_cut
sound_number before b bs h =
    let n : ℕ = prefix_len is_word bs in
    subst (λ (m : ℕ). Sound before (b ∷ bs) (numbered (number_of (take m (b ∷ bs))) (drop m (b ∷ bs)))) (sym (word_len b bs (digit_word b h)))
    (subst (λ (x : List ℕ). Sound before (b ∷ x) (numbered (number_of (b ∷ take n bs)) (drop n bs))) (take-append-drop n bs)
    (sound_numbered before b (take n bs) (drop n bs) h (front_run is_word bs) (rest_stops is_word bs)))

sound_directive : (before bs : List ℕ) → Sound before (35 ∷ bs) (directive_cut before bs)
unfolding directive_cut
sound_directive before bs = go (blank_line before) refl (behind_include bs) refl
  where
    go : (t : Bool) → blank_line before ≡ t → (o : Option (List ℕ)) → behind_include bs ≡ o → Sound before (35 ∷ bs) (cond t (skip_to faults.Directive o) (stuck faults.Directive))
    go false e o h = refl
    go true e None h = refl
    go true e (Some after) h = let k = include_sound bs after h in record {
      text = 35 ∷ (k.gap_1 ++ (codes "include" ++ (k.gap_2 ++ (k.header ++ k.gap_3))));
      parts = ap (λ (x : List ℕ). 35 ∷ x) k.parts;
      piece_is = include_line k.gap_1 k.gap_2 k.header k.gap_3 after e k.blank_1 k.blank_2 k.named k.blank_3 k.ends;
    }

sound_constant : (before bs : List ℕ) → Sound before (39 ∷ bs) (constant (character_of 39 bs))
sound_constant before bs = go (character_of 39 bs) refl
  where
    closed : (value : ℕ) (rest : List ℕ) → character_of 39 bs ≡ Some (value, rest) → (t : Bool) → begins (λ b. b == 39) rest ≡ t → Sound before (39 ∷ bs) (cond t (took (kinds.Char value) (drop 1 rest)) (stuck faults.Byte))
    closed value rest e false h = refl
    closed value [] e true h = absurd (cc h)
    closed value (b ∷ after) e true h =
        let k = character_sound 39 bs value (b ∷ after) e in
        let quote : b ≡ 39 = eqb-true b 39 h in
        record {
          text = 39 ∷ (k.text ++ 39 ∷ []);
          parts = ap (λ (x : List ℕ). 39 ∷ x) (k.parts ∙ ap (λ (n : ℕ). k.text ++ n ∷ after) quote ∙ sym (append_assoc k.text (39 ∷ []) after));
          piece_is = character k.text after value k.formed;
        }

    go : (o : Option (ℕ × List ℕ)) → character_of 39 bs ≡ o → Sound before (39 ∷ bs) (constant o)
    go None e = refl
    go (Some x) e = closed x.0 x.1 e (begins (λ b. b == 39) x.1) refl

sound_string : (before bs : List ℕ) → Sound before (34 ∷ bs) (text_cut (characters_of 34 bs))
sound_string before bs = go (characters_of 34 bs) refl
  where
    go : (o : Option (List ℕ × List ℕ)) → characters_of 34 bs ≡ o → Sound before (34 ∷ bs) (text_cut o)
    go None e = refl
    go (Some x) e = let k = characters_sound 34 bs x.0 x.1 e in record {
      text = 34 ∷ (k.text ++ 34 ∷ []);
      parts = ap (λ (t : List ℕ). 34 ∷ t) (k.parts ∙ sym (append_assoc k.text (34 ∷ []) x.1));
      piece_is = string k.text x.1 x.0 k.formed;
    }

-- a byte that is no digit and no `#` is faulty as a byte
other_fault : (b : ℕ) (bs : List ℕ) → is_ascii_digit b ≡ false → (b == 35) ≡ false → FaultAt (b ∷ bs) faults.Byte
other_fault b bs digit hash = sym (ap (λ (t : Bool). cond t faults.Number (cond (b == 35) faults.Directive faults.Byte)) digit ∙ ap (λ (t : Bool). cond t faults.Directive faults.Byte) hash)

opened : (c : ℕ) (s : List ℕ) → opens c s ≡ true → s ≡ 47 ∷ c ∷ drop 2 s
opened c [] h = absurd (cc h)
opened c (a ∷ []) h = absurd (cc h)
opened c (a ∷ b ∷ s) h = let p = and_parts (a == 47) (b == c) h in (λ i. eqb-true a 47 p.0 i ∷ eqb-true b c p.1 i ∷ s)

no_comment : (s : List ℕ) → opens 47 s ≡ false → opens 42 s ≡ false → NoComment s
no_comment s p q after = ((λ e. cc (q, ap (λ (x : List ℕ). opens 42 x) e)), (λ e. cc (p, ap (λ (x : List ℕ). opens 47 x) e)))

sound_mark : (before : List ℕ) (b : ℕ) (bs : List ℕ) → is_ascii_digit b ≡ false → (b == 35) ≡ false → Sound before (b ∷ bs) (mark_cut (b ∷ bs))
unfolding mark_cut comment_cut
sound_mark before b bs digit hash =
    let s : List ℕ = b ∷ bs in
    cond_both (opens 47 s) (skipped (behind no_newline (drop 2 s))) (cond (opens 42 s) (skip_to faults.Byte (behind_close (drop 2 s))) (marked (first_mark s) s)) (λ c. Sound before s c)
    (λ h. slashes h)
    (λ h. cond_both (opens 42 s) (skip_to faults.Byte (behind_close (drop 2 s))) (marked (first_mark s) s) (λ c. Sound before s c)
    (λ k. stars k (behind_close (drop 2 s)) refl)
    (λ k. other h k (first_mark s) refl))
  where
    slashes : opens 47 (b ∷ bs) ≡ true → Sound before (b ∷ bs) (skipped (behind no_newline (drop 2 (b ∷ bs))))
    slashes h = unfold behind in (let rest : List ℕ = drop 2 (b ∷ bs) in let n : ℕ = prefix_len no_newline rest in record {
      text = 47 ∷ 47 ∷ take n rest;
      parts = opened 47 (b ∷ bs) h ∙ ap (λ (x : List ℕ). 47 ∷ 47 ∷ x) (sym (take-append-drop n rest));
      piece_is = line_comment (take n rest) (drop n rest) (front_run no_newline rest) (rest_stops no_newline rest);
    })

    stars : opens 42 (b ∷ bs) ≡ true → (o : Option (List ℕ)) → behind_close (drop 2 (b ∷ bs)) ≡ o → Sound before (b ∷ bs) (skip_to faults.Byte o)
    stars h None e = other_fault b bs digit hash
    stars h (Some after) e = let k = close_sound (drop 2 (b ∷ bs)) after e in record {
      text = 47 ∷ 42 ∷ (k.body ++ 42 ∷ 47 ∷ []);
      parts = opened 42 (b ∷ bs) h ∙ ap (λ (x : List ℕ). 47 ∷ 42 ∷ x) (k.parts ∙ sym (append_assoc k.body (42 ∷ 47 ∷ []) after));
      piece_is = comment k.body after k.first;
    }

    other : opens 47 (b ∷ bs) ≡ false → opens 42 (b ∷ bs) ≡ false → (o : Option Mark) → first_mark (b ∷ bs) ≡ o → Sound before (b ∷ bs) (marked o (b ∷ bs))
    other p q None e = other_fault b bs digit hash
    other p q (Some mark) e =
        let after : List ℕ = drop (length (mark_text mark)) (b ∷ bs) in
        let front : b ∷ bs ≡ mark_text mark ++ after = mark_front (b ∷ bs) mark e in
        record {
          text = mark_text mark;
          parts = front;
          piece_is = punctuator mark after (subst (λ (x : List ℕ). IsLongest mark x) front (mark_longest (b ∷ bs) mark e)) (subst (λ (x : List ℕ). NoComment x) front (no_comment (b ∷ bs) p q));
        }

sound_other : (before : List ℕ) (b : ℕ) (bs : List ℕ) → is_ascii_digit b ≡ false → Sound before (b ∷ bs) (other_cut before (b ∷ bs))
unfolding other_cut
sound_other before b bs digit =
    cond_both (b == 35) (directive_cut before bs) (cond (b == 39) (constant (character_of 39 bs)) (cond (b == 34) (text_cut (characters_of 34 bs)) (mark_cut (b ∷ bs)))) (λ c. Sound before (b ∷ bs) c)
    (λ h. subst (λ (n : ℕ). Sound before (n ∷ bs) (directive_cut before bs)) (sym (eqb-true b 35 h)) (sound_directive before bs))
    (λ h. cond_both (b == 39) (constant (character_of 39 bs)) (cond (b == 34) (text_cut (characters_of 34 bs)) (mark_cut (b ∷ bs))) (λ c. Sound before (b ∷ bs) c)
    (λ k. subst (λ (n : ℕ). Sound before (n ∷ bs) (constant (character_of 39 bs))) (sym (eqb-true b 39 k)) (sound_constant before bs))
    (λ k. cond_both (b == 34) (text_cut (characters_of 34 bs)) (mark_cut (b ∷ bs)) (λ c. Sound before (b ∷ bs) c)
    (λ l. subst (λ (n : ℕ). Sound before (n ∷ bs) (text_cut (characters_of 34 bs))) (sym (eqb-true b 34 l)) (sound_string before bs))
    (λ l. sound_mark before b bs digit h)))

pub sound : (before s : List ℕ) → Sound before s (next before s)
unfolding next
sound before [] = tt
sound before (b ∷ bs) =
    cond_both (is_blank b) (skipped bs) (cond (is_letter b) (word_cut (b ∷ bs)) (cond (is_ascii_digit b) (number_cut (b ∷ bs)) (other_cut before (b ∷ bs)))) (λ c. Sound before (b ∷ bs) c)
    (λ h. sound_blank before b bs h)
    (λ h. cond_both (is_letter b) (word_cut (b ∷ bs)) (cond (is_ascii_digit b) (number_cut (b ∷ bs)) (other_cut before (b ∷ bs))) (λ c. Sound before (b ∷ bs) c)
    (λ k. sound_word before b bs k)
    (λ k. cond_both (is_ascii_digit b) (number_cut (b ∷ bs)) (other_cut before (b ∷ bs)) (λ c. Sound before (b ∷ bs) c)
    (λ l. sound_number before b bs l)
    (λ l. sound_other before b bs l)))

-- complete, piece by piece

-- what comes after blanks, words and numbers
past : (before : List ℕ) (b : ℕ) (bs : List ℕ) → is_blank b ≡ false → next before (b ∷ bs) ≡ cond (is_letter b) (word_cut (b ∷ bs)) (cond (is_ascii_digit b) (number_cut (b ∷ bs)) (other_cut before (b ∷ bs)))
unfolding next
past before b bs h = cond-false (is_blank b) _ _ h

word_is : (text after : List ℕ) → Run is_word text → Stops is_word after → word_cut (text ++ after) ≡ took (word_kind (key_of text) text) after
unfolding word_cut
word_is text after run stops = λ i. took (word_kind (key_of (run_front is_word text after run stops i)) (run_front is_word text after run stops i)) (run_rest is_word text after run stops i)

number_is : (text after : List ℕ) → Run is_word text → Stops is_word after → number_cut (text ++ after) ≡ numbered (number_of text) after
unfolding number_cut
number_is text after run stops = λ i. numbered (number_of (run_front is_word text after run stops i)) (run_rest is_word text after run stops i)

mark_next : (before : List ℕ) (mark : Mark) (after : List ℕ) → next before (mark_text mark ++ after) ≡ mark_cut (mark_text mark ++ after)
unfolding next other_cut
mark_next before marks.OpenBrace after = refl
mark_next before marks.CloseBrace after = refl
mark_next before marks.OpenParen after = refl
mark_next before marks.CloseParen after = refl
mark_next before marks.OpenBracket after = refl
mark_next before marks.CloseBracket after = refl
mark_next before marks.Semicolon after = refl
mark_next before marks.Comma after = refl
mark_next before marks.Colon after = refl
mark_next before marks.Question after = refl
mark_next before marks.Dot after = refl
mark_next before marks.Tilde after = refl
mark_next before marks.Plus after = refl
mark_next before marks.Minus after = refl
mark_next before marks.Star after = refl
mark_next before marks.Slash after = refl
mark_next before marks.Percent after = refl
mark_next before marks.Ampersand after = refl
mark_next before marks.Bar after = refl
mark_next before marks.Caret after = refl
mark_next before marks.Bang after = refl
mark_next before marks.Less after = refl
mark_next before marks.Greater after = refl
mark_next before marks.Equal after = refl
mark_next before marks.PlusPlus after = refl
mark_next before marks.MinusMinus after = refl
mark_next before marks.ShiftLeft after = refl
mark_next before marks.ShiftRight after = refl
mark_next before marks.LessEqual after = refl
mark_next before marks.GreaterEqual after = refl
mark_next before marks.EqualEqual after = refl
mark_next before marks.BangEqual after = refl
mark_next before marks.AndAnd after = refl
mark_next before marks.BarBar after = refl
mark_next before marks.PlusEqual after = refl
mark_next before marks.MinusEqual after = refl
mark_next before marks.StarEqual after = refl
mark_next before marks.SlashEqual after = refl
mark_next before marks.PercentEqual after = refl
mark_next before marks.AmpersandEqual after = refl
mark_next before marks.BarEqual after = refl
mark_next before marks.CaretEqual after = refl
mark_next before marks.ShiftLeftEqual after = refl
mark_next before marks.ShiftRightEqual after = refl

no_open : (c : ℕ) (s : List ℕ) → ((after : List ℕ) → s ≡ 47 ∷ c ∷ after → ⊥) → opens c s ≡ false
no_open c s none = false_from_ne_true (opens c s) (λ h. none (drop 2 s) (opened c s h))

mark_is : (mark : Mark) (after : List ℕ) → IsLongest mark (mark_text mark ++ after) → NoComment (mark_text mark ++ after) → mark_cut (mark_text mark ++ after) ≡ took (kinds.Mark mark) after
unfolding mark_cut
mark_is mark after long none =
    let s : List ℕ = mark_text mark ++ after in
    cond-false (opens 47 s) _ _ (no_open 47 s (λ more. (none more).1)) ∙ cond-false (opens 42 s) _ _ (no_open 42 s (λ more. (none more).0))
    ∙ ap (λ (o : Option Mark). marked o s) (mark_complete s mark after refl long) ∙ ap (λ (x : List ℕ). took (kinds.Mark mark) x) (drop_at (mark_text mark) after (length (mark_text mark)) refl)

pub complete : {before text after : List ℕ} {piece : Option TokenKind} → Piece before text after piece → next before (text ++ after) ≡ cut_of piece after
unfolding next other_cut mark_cut comment_cut directive_cut
complete (blank b after h) = cond-true (is_blank b) _ _ h
complete (line_comment body after run stops) = ap (λ (x : List ℕ). skipped x) (run_behind no_newline body after run stops)
complete (comment body after first) =
    ap (λ (x : List ℕ). skip_to faults.Byte (behind_close x)) (append_assoc body (42 ∷ 47 ∷ []) after) ∙ ap (λ (o : Option (List ℕ)). skip_to faults.Byte o) (close_complete body after first)
complete {before} (include_line gap_1 gap_2 header gap_3 after alone run_1 run_2 named run_3 ends) =
    cond-true (blank_line before) _ _ alone ∙ ap (λ (o : Option (List ℕ)). skip_to faults.Directive o) (include_complete gap_1 gap_2 header gap_3 after run_1 run_2 named run_3 ends)
complete {before} (word b bs after kind h run stops kind_is) =
    past before b (bs ++ after) (letter_no_blank b h) ∙ cond-true (is_letter b) _ _ h
    ∙ word_is (b ∷ bs) after (and_from (is_word b) (list_all is_word bs) (letter_word b h) run) stops ∙ ap (λ (k : TokenKind). took k after) (word_complete kind_is)
complete {before} (number b bs after value unsigned h run stops number_here) =
    past before b (bs ++ after) (word_no_blank b (digit_word b h)) ∙ cond-false (is_letter b) _ _ (digit_no_letter b h) ∙ cond-true (is_ascii_digit b) _ _ h
    ∙ number_is (b ∷ bs) after (and_from (is_word b) (list_all is_word bs) (digit_word b h) run) stops ∙ ap (λ (o : Option (ℕ × Bool)). numbered o after) (number_complete number_here)
complete (character text after value formed) =
    ap (λ (x : List ℕ). constant (character_of 39 x)) (append_assoc text (39 ∷ []) after) ∙ ap (λ (o : Option (ℕ × List ℕ)). constant o) (character_complete 39 39 after refl formed value refl)
complete (string text after bytes formed) =
    ap (λ (x : List ℕ). text_cut (characters_of 34 x)) (append_assoc text (34 ∷ []) after) ∙ ap (λ (o : Option (List ℕ × List ℕ)). text_cut o) (characters_complete 34 after refl refl formed)
complete {before} (punctuator mark after long none) = mark_next before mark after ∙ mark_is mark after long none

-- a piece has a byte
pub piece_some : {before text after : List ℕ} {piece : Option TokenKind} → Piece before text after piece → 0 < length text
piece_some (blank b after h) = omega arith
piece_some (line_comment body after run stops) = omega arith
piece_some (comment body after first) = omega arith
piece_some (include_line gap_1 gap_2 header gap_3 after alone run_1 run_2 named run_3 ends) = omega arith
piece_some (word b bs after kind h run stops kind_is) = omega arith
piece_some (number b bs after value unsigned h run stops number_here) = omega arith
piece_some (character text after value formed) = omega arith
piece_some (string text after bytes formed) = omega arith
piece_some (punctuator mark after long none) = mark_some mark
