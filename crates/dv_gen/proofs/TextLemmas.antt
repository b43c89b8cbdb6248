-- Texts to which pieces and lines are appended.
use Rattle.std.proofs.Common.{◌≡◌, ℕ, List, [], ◌∷◌, ◌++◌, ◌+◌, ◌<◌, ◌≤◌, Option, Result, Ok, Err, is_ok, OnOk, cond, codes, map, get_or, refl, sym, ap, ◌∙◌, arith, append_assoc}
use Rattle.std.specs.Fmt.{decimal}
use Rattle.std.specs.List.{range_with_len}
use Rattle.std.proofs.lemmas.List.FromFn.{get_or-map-range_with_len, map-range_with_len_more}
use Rattle.line_text.specs.Lines.{text_of_lines}
use Rattle.dv_gen.specs.declared.functions.Function.{Function}
use Rattle.dv_gen.specs.Functions.{numbers_of, functions_of}
use Rattle.dv_gen.specs.Pairs.{bound_of, taken_of, added_of, added_in, function_line, function_lines, call_line, main_lines, source_with}

-- the last piece of a text
pub last_piece : {A E : Type 0} (r : Result A E) (before after piece whole : List ℕ) → after ≡ cond (is_ok r) (before ++ piece) before → before ++ piece ≡ whole → OnOk r (after ≡ whole)
last_piece (Ok x) before after piece whole pushed is = pushed ∙ is
last_piece (Err e) before after piece whole pushed is = tt

-- nine pieces, one after another
nine : (t t1 t2 t3 t4 t5 t6 t7 t8 a b c d e f g h i : List ℕ)
    → t1 ≡ t ++ a → t2 ≡ t1 ++ b → t3 ≡ t2 ++ c → t4 ≡ t3 ++ d → t5 ≡ t4 ++ e → t6 ≡ t5 ++ f → t7 ≡ t6 ++ g → t8 ≡ t7 ++ h
    → t8 ++ (i ++ 10 ∷ []) ≡ t ++ (a ++ b ++ c ++ d ++ e ++ f ++ g ++ h ++ i) ++ 10 ∷ []
nine t t1 t2 t3 t4 t5 t6 t7 t8 a b c d e f g h i e1 e2 e3 e4 e5 e6 e7 e8 = rw (e8, e7, e6, e5, e4, e3, e2, e1) (simp append_assoc)

pub function_pushed : (place bound taken added wide_bound wide_taken : ℕ) (t t1 t2 t3 t4 t5 t6 t7 t8 : List ℕ)
    → t1 ≡ t ++ codes "int f" → t2 ≡ t1 ++ decimal place → t3 ≡ t2 ++ codes "(int x) { if (x > " → t4 ≡ t3 ++ decimal wide_bound
    → t5 ≡ t4 ++ codes ") { x = x - " → t6 ≡ t5 ++ decimal wide_taken → t7 ≡ t6 ++ codes "; } else { x = x + " → t8 ≡ t7 ++ decimal added
    → wide_bound ≡ bound → wide_taken ≡ taken
    → t8 ++ (codes "; } return x; }" ++ 10 ∷ []) ≡ t ++ function_line place bound taken added ++ 10 ∷ []
function_pushed place bound taken added wide_bound wide_taken t t1 t2 t3 t4 t5 t6 t7 t8 e1 e2 e3 e4 e5 e6 e7 e8 same_bound same_taken =
    nine t t1 t2 t3 t4 t5 t6 t7 t8 _ _ _ _ _ _ _ _ (codes "; } return x; }") e1 e2 e3 (e4 ∙ ap (λ n. t3 ++ decimal n) same_bound) e5 (e6 ∙ ap (λ n. t5 ++ decimal n) same_taken) e7 e8

-- ---- lines

pub text_of_lines-append : (lines more : List (List ℕ)) → text_of_lines (lines ++ more) ≡ text_of_lines lines ++ text_of_lines more
text_of_lines-append [] more = refl
text_of_lines-append (line ∷ lines) more = ap (λ rest. line ++ 10 ∷ rest) (text_of_lines-append lines more) ∙ sym (append_assoc line (10 ∷ text_of_lines lines) (text_of_lines more))

-- a text to which the next of many lines is appended
pub line_pushed : (line_at : ℕ → List ℕ) (place : ℕ) (start before after line : List ℕ) → before ≡ start ++ text_of_lines (map line_at (range_with_len 0 place))
    → after ≡ before ++ line ++ 10 ∷ [] → line ≡ line_at place → after ≡ start ++ text_of_lines (map line_at (range_with_len 0 (place + 1)))
line_pushed line_at place start before after line so_far pushed is =
    let more = map-range_with_len_more line_at 0 place place (omega arith) in
    let whole = ap text_of_lines more ∙ text_of_lines-append (map line_at (range_with_len 0 place)) (line_at place ∷ []) in
    pushed ∙ rw (whole, so_far, is) (simp append_assoc)

pub function_line_pushed : (seed place size added : ℕ) (changed : Option ℕ) (functions : List Function) (other : Function) (start before after : List ℕ)
    → functions ≡ functions_of seed size → place < size → ((get_or functions place other).added ≡ added_of seed place → added ≡ added_in seed changed place) → before ≡ start ++ text_of_lines (function_lines seed place changed)
    → after ≡ before ++ function_line place (get_or functions place other).bound (get_or functions place other).taken added ++ 10 ∷ []
    → after ≡ start ++ text_of_lines (function_lines seed (place + 1) changed)
function_line_pushed seed place size added changed functions other start before after are within adds so_far pushed =
    let here : get_or functions place other ≡ numbers_of seed place =
    ap (λ fs. get_or fs place other) are ∙ get_or-map-range_with_len (numbers_of seed) 0 size place place other within (omega arith) in
    let line : function_line place (get_or functions place other).bound (get_or functions place other).taken added
    ≡ function_line place (bound_of seed place) (taken_of seed place) (added_in seed changed place) =
    ap (λ (f : Function). function_line place f.bound f.taken added) here ∙ ap (function_line place (bound_of seed place) (taken_of seed place)) (adds (ap (λ (f : Function). f.added) here)) in
    line_pushed (λ i. function_line i (bound_of seed i) (taken_of seed i) (added_in seed changed i)) place start before after _ so_far pushed line

-- three groups of lines
three_groups : (a b c : List (List ℕ)) (t t1 t2 : List ℕ) → t1 ≡ t ++ text_of_lines a → t2 ≡ t1 ++ text_of_lines b → t2 ++ text_of_lines c ≡ t ++ text_of_lines (a ++ b ++ c)
three_groups a b c t t1 t2 e1 e2 = rw (e2, e1, text_of_lines-append (a ++ b) c, text_of_lines-append a b) (simp append_assoc)

-- the lines of `main` before and behind its calls
abbrev pub lines_before : List (List ℕ)
lines_before = codes "int main(void) {" ∷ codes "    int c;" ∷ codes "    c = getchar();" ∷ []

abbrev pub lines_behind : List (List ℕ)
lines_behind = codes "    printf(\"%d\\n\", c);" ∷ codes "    return 0;" ∷ codes "}" ∷ []

pub main_pushed : (count place : ℕ) (t t1 t2 : List ℕ) → place ≤ count → count ≤ place → t1 ≡ t ++ text_of_lines lines_before
    → t2 ≡ t1 ++ text_of_lines (map call_line (range_with_len 0 place)) → t2 ++ text_of_lines lines_behind ≡ t ++ text_of_lines (main_lines count)
main_pushed count place t t1 t2 low high e1 e2 =
    let all : place ≡ count = omega arith in
    three_groups lines_before (map call_line (range_with_len 0 place)) lines_behind t t1 t2 e1 e2
    ∙ ap (λ n. t ++ text_of_lines (main_lines n)) all

-- the lines of all functions and those of `main`
pub whole_source : (seed size : ℕ) (changed : Option ℕ) (t t1 t2 : List ℕ) → t ≡ [] → t1 ≡ t ++ text_of_lines (function_lines seed size changed)
    → t2 ≡ t1 ++ text_of_lines (main_lines size) → t2 ≡ source_with seed size changed
whole_source seed size changed t t1 t2 none e1 e2 =
    e2 ∙ rw (e1, none) (sym (text_of_lines-append (function_lines seed size changed) (main_lines size)))
