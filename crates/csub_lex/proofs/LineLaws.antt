-- Comments end at the first `*/`, and include lines are found exactly where they stand.
use Rattle.std.proofs.Common.{◌≡◌, ℕ, List, [], ◌∷◌, ◌++◌, length, take, drop, take-append-drop, Option, Some, None, Bool, true, false, cond, refl, sym, ap, ◌∙◌, subst, inl, inr, append_assoc}
use Rattle.std.specs.Prelude.{◌==◌, ◌&&◌, nat_eq, is_some, codes}
use Rattle.std.specs.Cmp.Lexicographic.{pointwise}
use Rattle.std.specs.List.{prefix_len}
use Rattle.std.proofs.lemmas.Bool.{and_parts, and_right, and_left, and_cases, eqb-true, eqb-false, ne_eqb, or_cases, cases_eq, cond-false}
use Rattle.std.proofs.lemmas.List.{take_at, drop_at}
use Rattle.std.proofs.lemmas.Slice.Eq.{bytes_eq-Decides}
use Rattle.csub_lex.specs.Bytes.{Run, Stops, is_gap}
use Rattle.csub_lex.specs.Lines.{NoClose, Header, stdio, stdlib, EndsInclude, the_end, newline, line_comment, comment}
use Rattle.csub_lex.specs.Finding.{behind, strip, behind_close, ends_include, or_else, behind_header, header_line, include_line, behind_include}
use Rattle.csub_lex.proofs.Choices.{chosen, some_is, Behind}
use Rattle.csub_lex.proofs.Runs.{front_run, run_behind}

-- comments

pub record Closed (s after : List ℕ) : Type 0 where
  pub body : List ℕ
  pub parts : s ≡ body ++ 42 ∷ 47 ∷ after
  pub first : NoClose (body ++ 42 ∷ [])

no_slash : (a b : ℕ) (more body after : List ℕ) → (a == 42 && b == 47) ≡ false → b ∷ more ≡ body ++ 42 ∷ 47 ∷ after → a ≡ 42 → Stops (λ c. c == 47) (body ++ 42 ∷ [])
no_slash a b more [] after other parts star = refl
no_slash a b more (c ∷ body) after other parts star =
    let same : b ≡ c = cc in
    elim (and_cases (a == 42) (b == 47) other) [
      | inl h ↦ absurd (eqb-false a 42 h star)
      | inr h ↦ subst (λ (x : ℕ). (x == 47) ≡ false) same h
    ]

pub close_sound : (s after : List ℕ) → behind_close s ≡ Some after → Closed s after
unfolding behind_close
close_sound [] after e = absurd (cc e)
close_sound (a ∷ []) after e = absurd (cc e)
close_sound (a ∷ b ∷ more) after e = elim (chosen (a == 42 && b == 47) (Some more) (behind_close (b ∷ more)) (Some after) e) [
  | inl h ↦ (let p = and_parts (a == 42) (b == 47) h.0 in record {
    body = [];
    parts = (λ i. eqb-true a 42 p.0 i ∷ eqb-true b 47 p.1 i ∷ some_is more after h.1 i);
    first = ((λ _. tt), tt);
  })
  | inr h ↦ (let rest = close_sound (b ∷ more) after h.1 in record {
    body = a ∷ rest.body;
    parts = ap (λ (x : List ℕ). a ∷ x) rest.parts;
    first = (no_slash a b more rest.body after h.0 rest.parts, rest.first);
  })
]

pub close_behind : (s after : List ℕ) → behind_close s ≡ Some after → Behind s after
close_behind s after e = let h = close_sound s after e in (h.body ++ 42 ∷ 47 ∷ [], h.parts ∙ sym (append_assoc h.body (42 ∷ 47 ∷ []) after))

passed : (a b : ℕ) (more : List ℕ) → (a ≡ 42 → (b == 47) ≡ false) → behind_close (a ∷ b ∷ more) ≡ behind_close (b ∷ more)
unfolding behind_close
passed a b more open_still = elim (cases_eq a 42) [
  | inl star ↦ cond-false (a == 42 && b == 47) (Some more) (behind_close (b ∷ more)) (and_right (a == 42) (b == 47) (open_still star))
  | inr other ↦ cond-false (a == 42 && b == 47) (Some more) (behind_close (b ∷ more)) (and_left (a == 42) (b == 47) (ne_eqb a 42 other))
]

pub close_complete : (body after : List ℕ) → NoClose (body ++ 42 ∷ []) → behind_close (body ++ 42 ∷ 47 ∷ after) ≡ Some after
close_complete [] after first = unfold behind_close in refl
close_complete (a ∷ []) after first = passed a 42 (47 ∷ after) first.0 ∙ close_complete [] after first.1
close_complete (a ∷ b ∷ body) after first = passed a b (body ++ 42 ∷ 47 ∷ after) first.0 ∙ close_complete (b ∷ body) after first.1

-- a comment that is closed somewhere is closed
closes : (body more : List ℕ) → is_some (behind_close (body ++ 42 ∷ 47 ∷ more)) ≡ true
closes [] more = unfold behind_close in refl
closes (a ∷ []) more = ap (λ (o : Option (List ℕ)). is_some o) (passed a 42 (47 ∷ more) (λ _. refl)) ∙ closes [] more
closes (a ∷ b ∷ body) more = go (a == 42 && b == 47) refl (closes (b ∷ body) more)
  where
    go : (t : Bool) → (a == 42 && b == 47) ≡ t → is_some (behind_close (b ∷ (body ++ 42 ∷ 47 ∷ more))) ≡ true → is_some (behind_close (a ∷ b ∷ (body ++ 42 ∷ 47 ∷ more))) ≡ true
    go true h rest = unfold behind_close in ap (λ (t : Bool). is_some (cond t (Some (body ++ 42 ∷ 47 ∷ more)) (behind_close (b ∷ (body ++ 42 ∷ 47 ∷ more))))) h
    go false h rest = unfold behind_close in ap (λ (t : Bool). is_some (cond t (Some (body ++ 42 ∷ 47 ∷ more)) (behind_close (b ∷ (body ++ 42 ∷ 47 ∷ more))))) h ∙ rest

-- a fixed front

pub strip_sound : (p s after : List ℕ) → strip p s ≡ Some after → s ≡ p ++ after
unfolding strip
strip_sound p s after e = elim (chosen (pointwise nat_eq (take (length p) s) p) (Some (drop (length p) s)) None (Some after) e) [
  | inl h ↦ sym (take-append-drop (length p) s) ∙ (λ i. (bytes_eq-Decides (take (length p) s) p).0 h.0 i ++ some_is (drop (length p) s) after h.1 i)
  | inr h ↦ absurd (cc (h.1))
]

pub strip_complete : (p after : List ℕ) → strip p (p ++ after) ≡ Some after
unfolding strip
strip_complete p after =
    let same : pointwise nat_eq (take (length p) (p ++ after)) p ≡ true = (bytes_eq-Decides (take (length p) (p ++ after)) p).1 (take_at p after (length p) refl) in
    ap (λ (t : Bool). cond t (Some (drop (length p) (p ++ after))) None) same ∙ ap (λ (x : List ℕ). Some x) (drop_at p after (length p) refl)

-- where an include line ends

pub ends_sound : (s : List ℕ) → ends_include s ≡ true → EndsInclude s
unfolding ends_include
ends_sound [] h = the_end
ends_sound (b ∷ []) h = elim (or_cases (b == 10) false h) [
  | inl k ↦ subst (λ (x : ℕ). EndsInclude (x ∷ [])) (sym (eqb-true b 10 k)) (newline [])
  | inr k ↦ absurd (cc k)
]
ends_sound (b ∷ c ∷ more) h = elim (or_cases (b == 10) _ h) [
  | inl k ↦ subst (λ (x : ℕ). EndsInclude (x ∷ c ∷ more)) (sym (eqb-true b 10 k)) (newline (c ∷ more))
  | inr k ↦ elim (or_cases (b == 47 && c == 47) _ k) [
    | inl l ↦ (let p = and_parts (b == 47) (c == 47) l in
        subst (λ (x : List ℕ). EndsInclude x) (λ i. sym (eqb-true b 47 p.0) i ∷ sym (eqb-true c 47 p.1) i ∷ more) (line_comment more))
    | inr l ↦ open_comment l
  ]
]
  where
    closed_by : (o : Option (List ℕ)) → behind_close more ≡ o → is_some o ≡ true → EndsInclude (47 ∷ 42 ∷ more)
    closed_by None e t = absurd (cc t)
    closed_by (Some after) e t = let k = close_sound more after e in subst (λ (x : List ℕ). EndsInclude (47 ∷ 42 ∷ x)) (sym k.parts) (comment k.body after)

    open_comment : ((b == 47 && c == 42) && is_some (behind_close more)) ≡ true → EndsInclude (b ∷ c ∷ more)
    open_comment l =
        let p = and_parts (b == 47 && c == 42) (is_some (behind_close more)) l in
        let q = and_parts (b == 47) (c == 42) p.0 in
        subst (λ (x : List ℕ). EndsInclude x) (λ i. sym (eqb-true b 47 q.0) i ∷ sym (eqb-true c 42 q.1) i ∷ more) (closed_by (behind_close more) refl p.1)

pub ends_complete : {s : List ℕ} → EndsInclude s → ends_include s ≡ true
unfolding ends_include
ends_complete the_end = refl
ends_complete (newline more) = refl
ends_complete (line_comment more) = refl
ends_complete (comment body more) = closes body more

pub ends_stops : {s : List ℕ} → EndsInclude s → Stops is_gap s
ends_stops the_end = tt
ends_stops (newline more) = refl
ends_stops (line_comment more) = refl
ends_stops (comment body more) = refl

-- headers

pub header_complete : {header : List ℕ} → Header header → (after : List ℕ) → behind_header (header ++ after) ≡ Some after
unfolding behind_header strip
header_complete stdio after = refl
header_complete stdlib after = refl

pub record Named (s after : List ℕ) : Type 0 where
  pub text : List ℕ
  pub parts : s ≡ text ++ after
  pub header : Header text

pub header_sound : (s after : List ℕ) → behind_header s ≡ Some after → Named s after
unfolding behind_header
header_sound s after e = go (strip (codes "<stdio.h>") s) refl e
  where
    go : (o : Option (List ℕ)) → strip (codes "<stdio.h>") s ≡ o → or_else o (strip (codes "<stdlib.h>") s) ≡ Some after → Named s after
    go None k h = record { text = codes "<stdlib.h>"; parts = strip_sound (codes "<stdlib.h>") s after h; header = stdlib }
    go (Some x) k h = record { text = codes "<stdio.h>"; parts = strip_sound (codes "<stdio.h>") s after (k ∙ h); header = stdio }

-- include lines, of which the `#` is gone

pub record Included (s after : List ℕ) : Type 0 where
  pub gap_1 : List ℕ
  pub gap_2 : List ℕ
  pub header : List ℕ
  pub gap_3 : List ℕ
  pub parts : s ≡ (gap_1 ++ (codes "include" ++ (gap_2 ++ (header ++ gap_3)))) ++ after
  pub blank_1 : Run is_gap gap_1
  pub blank_2 : Run is_gap gap_2
  pub named : Header header
  pub blank_3 : Run is_gap gap_3
  pub ends : EndsInclude after

join : (gap_1 word gap_2 header gap_3 after : List ℕ) → gap_1 ++ (word ++ (gap_2 ++ (header ++ (gap_3 ++ after)))) ≡ (gap_1 ++ (word ++ (gap_2 ++ (header ++ gap_3)))) ++ after
join gap_1 word gap_2 header gap_3 after = simp append_assoc

pub include_complete : (gap_1 gap_2 header gap_3 after : List ℕ) → Run is_gap gap_1 → Run is_gap gap_2 → Header header → Run is_gap gap_3 → EndsInclude after
    → behind_include ((gap_1 ++ (codes "include" ++ (gap_2 ++ (header ++ gap_3)))) ++ after) ≡ Some after
unfolding behind_include
include_complete gap_1 gap_2 header gap_3 after run_1 run_2 named run_3 ends =
    let word : List ℕ = codes "include" in
    let rest_2 : List ℕ = header ++ (gap_3 ++ after) in
    let begin : behind is_gap (gap_1 ++ (word ++ (gap_2 ++ rest_2))) ≡ word ++ (gap_2 ++ rest_2) = run_behind is_gap gap_1 (word ++ (gap_2 ++ rest_2)) run_1 refl in
    let second : behind is_gap (gap_2 ++ rest_2) ≡ rest_2 = run_behind is_gap gap_2 rest_2 run_2 (header_stops named (gap_3 ++ after)) in
    let third : behind is_gap (gap_3 ++ after) ≡ after = run_behind is_gap gap_3 after run_3 (ends_stops ends) in
    ap behind_include (sym (join gap_1 word gap_2 header gap_3 after))
    ∙ ap (λ (x : List ℕ). include_line (strip word x)) begin
    ∙ ap (λ (o : Option (List ℕ)). include_line o) (strip_complete word (gap_2 ++ rest_2))
    ∙ ap (λ (x : List ℕ). header_line (behind_header x)) second
    ∙ ap (λ (o : Option (List ℕ)). header_line o) (header_complete named (gap_3 ++ after))
    ∙ ap (λ (x : List ℕ). cond (ends_include x) (Some x) None) third
    ∙ ap (λ (t : Bool). cond t (Some after) None) (ends_complete ends)
  where
    header_stops : {h : List ℕ} → Header h → (more : List ℕ) → Stops is_gap (h ++ more)
    header_stops stdio more = refl
    header_stops stdlib more = refl

-- a front of the class and what stands behind it
split_gap : (s : List ℕ) → s ≡ take (prefix_len is_gap s) s ++ behind is_gap s
unfolding behind
split_gap s = sym (take-append-drop (prefix_len is_gap s) s)

pub include_sound : (s after : List ℕ) → behind_include s ≡ Some after → Included s after
unfolding behind_include
include_sound s after e = go_word (strip (codes "include") (behind is_gap s)) refl e
  where
    go_end : (x y : List ℕ) → strip (codes "include") (behind is_gap s) ≡ Some x → behind_header (behind is_gap x) ≡ Some y → header_line (Some y) ≡ Some after → Included s after
    go_end x y word_is header_is h = elim (chosen (ends_include (behind is_gap y)) (Some (behind is_gap y)) None (Some after) h) [
      | inl k ↦ (let named = header_sound (behind is_gap x) y header_is in
          let same : behind is_gap y ≡ after = some_is (behind is_gap y) after k.1 in
          let gap : List ℕ → List ℕ = λ t. take (prefix_len is_gap t) t in
          let whole : s ≡ gap s ++ (codes "include" ++ (gap x ++ (named.text ++ (gap y ++ after)))) =
          split_gap s ∙ ap (λ (t : List ℕ). gap s ++ t) (strip_sound (codes "include") (behind is_gap s) x word_is
          ∙ ap (λ (t : List ℕ). codes "include" ++ t) (split_gap x ∙ ap (λ (t : List ℕ). gap x ++ t) (named.parts
          ∙ ap (λ (t : List ℕ). named.text ++ t) (split_gap y ∙ ap (λ (t : List ℕ). gap y ++ t) same)))) in
          record {
            gap_1 = gap s;
            gap_2 = gap x;
            header = named.text;
            gap_3 = gap y;
            parts = whole ∙ join (gap s) (codes "include") (gap x) named.text (gap y) after;
            blank_1 = front_run is_gap s;
            blank_2 = front_run is_gap x;
            named = named.header;
            blank_3 = front_run is_gap y;
            ends = subst (λ (t : List ℕ). EndsInclude t) same (ends_sound (behind is_gap y) k.0);
          })
      | inr k ↦ absurd (cc (k.1))
    ]

    go_header : (x : List ℕ) (o : Option (List ℕ)) → strip (codes "include") (behind is_gap s) ≡ Some x → behind_header (behind is_gap x) ≡ o → header_line o ≡ Some after → Included s after
    go_header x None word_is header_is h = absurd (cc h)
    go_header x (Some y) word_is header_is h = go_end x y word_is header_is h

    go_word : (o : Option (List ℕ)) → strip (codes "include") (behind is_gap s) ≡ o → include_line o ≡ Some after → Included s after
    go_word None word_is h = absurd (cc h)
    go_word (Some x) word_is h = go_header x (behind_header (behind is_gap x)) word_is refl h

pub include_behind : (s after : List ℕ) → behind_include s ≡ Some after → Behind s after
include_behind s after e = let h = include_sound s after e in (h.gap_1 ++ (codes "include" ++ (h.gap_2 ++ (h.header ++ h.gap_3))), h.parts)
