-- Bytes that are written one after another, formats piece by piece, and values of expressions in turn.
use Rattle.std.proofs.Common.{◌≡◌, ◌∙◌, ℕ, suc, ◌+◌, ◌-◌, ◌<◌, ◌≤◌, ℤ, pos, List, [], ◌∷◌, ◌++◌, length, take, drop, get_or, All, Bool, true, false, nat_lt, if◌then◌else◌, refl, ap, sym, arith}
use Rattle.std.proofs.lemmas.List.{drop_more, drop_all, take_all, length-append}
use Rattle.std.proofs.lemmas.List.Elements.{All-nil, All-cons}
use Rattle.std.proofs.lemmas.Bool.{ltb-true}
use Rattle.csub_types.specs.declared.trap.Trap.{Trap}
use Rattle.csub_types.specs.declared.trap.Trap.TheVariants.{Flood}
use Rattle.csub_semantics.specs.declared.expression.Piece.{Piece}
use Rattle.csub_semantics.specs.declared.expression.Piece.TheVariants.{Byte, Signed, Plain, Letter}
use Rattle.csub_semantics.specs.Trees.{exprs_of, expr_count}
use Rattle.csub_semantics.specs.Formats.{shown, text_of, is_conversion}
use Rattle.csub_semantics.specs.Memory.{Answer, value, trapped, then_do, put_byte, put_bytes, most_output}
use Rattle.csub_flat.specs.Trees.{FlatExpr}
use Rattle.csub_slots.specs.Acts.{FlatStore}
use Rattle.csub_slots.specs.States.{FewValues, FewInRow}

-- what is left begins with the next
split : {X : Type 0} (xs : List X) (i : ℕ) (x d : X) → i < length xs → x ≡ get_or xs i d → drop i xs ≡ x ∷ drop (i + 1) xs
split xs i x d inside is = drop_more xs i d inside ∙ ap (λ y. y ∷ drop (i + 1) xs) (sym is)

abbrev Written : Type 0
Written = Answer (Unit {0}) FlatStore

-- bytes in two steps
put_append : (xs ys : List ℕ) (s : FlatStore) → put_bytes (xs ++ ys) s ≡ then_do (put_bytes xs s) (λ u t. put_bytes ys t)
put_append [] ys s = refl
put_append (x ∷ xs) ys s = go (put_byte x s) (λ t. put_append xs ys t)
  where
    go : (a : Written) → ((t : FlatStore) → put_bytes (xs ++ ys) t ≡ then_do (put_bytes xs t) (λ u v. put_bytes ys v))
        → then_do a (λ u t. put_bytes (xs ++ ys) t) ≡ then_do (then_do a (λ u t. put_bytes xs t)) (λ u t. put_bytes ys t)
    go (value u t) h = h t
    go (trapped r t) h = refl

module _ (bytes : List ℕ) (i : ℕ) (s : FlatStore) (whole : Written) (before : put_bytes (drop i bytes) s ≡ whole) where
  -- one byte more
  pub byte_more : (b : ℕ) (t : FlatStore) → i < length bytes → b ≡ get_or bytes i b → put_byte b s ≡ value tt t → put_bytes (drop (i + 1) bytes) t ≡ whole
  byte_more b t inside is e =
      sym (ap (λ (a : Written). then_do a (λ u x. put_bytes (drop (i + 1) bytes) x)) e)
      ∙ sym (ap (λ bs. put_bytes bs s) (split bytes i b b inside is)) ∙ before

  pub byte_stops : (b : ℕ) (r : Trap) (t : FlatStore) → i < length bytes → b ≡ get_or bytes i b → put_byte b s ≡ trapped r t → whole ≡ trapped r t
  byte_stops b r t inside is e =
      sym before ∙ ap (λ bs. put_bytes bs s) (split bytes i b b inside is)
      ∙ ap (λ (a : Written). then_do a (λ u x. put_bytes (drop (i + 1) bytes) x)) e

  pub bytes_end : length bytes ≤ i → whole ≡ value tt s
  bytes_end end = sym before ∙ ap (λ bs. put_bytes bs s) (drop_all i bytes end)

-- a piece that takes the first value
first_text : (p : Piece) (rest : List Piece) (v : ℤ) (vs : List ℤ) → is_conversion p ≡ true → text_of (p ∷ rest) (v ∷ vs) ≡ shown p v ++ text_of rest vs
first_text (Byte b) rest v vs e = cc
first_text Signed rest v vs e = refl
first_text Plain rest v vs e = refl
first_text Letter rest v vs e = refl

pub value_text : (p : Piece) (rest : List Piece) (vs : List ℤ) (v : ℤ) (n : ℕ) → is_conversion p ≡ true → 1 ≤ length vs → v ≡ get_or vs 0 (pos 0) → n ≡ length vs - 1
    → text_of (p ∷ rest) vs ≡ shown p v ++ text_of rest (take n (drop 1 vs))
value_text p rest [] v n e some is left = absurd (omega arith)
value_text p rest (w ∷ vs) v n e some is left =
    let all : take n vs ≡ vs = take_all n vs (omega arith) in
    first_text p rest w vs e
    ∙ ap (λ x. shown p x ++ text_of rest vs) (sym is)
    ∙ ap (λ ws. shown p v ++ text_of rest ws) (sym all)

pub no_text : (p : Piece) (rest : List Piece) (vs : List ℤ) → is_conversion p ≡ true → length vs ≡ 0 → text_of (p ∷ rest) vs ≡ []
no_text p rest (v ∷ vs) e none = absurd (omega arith)
no_text (Byte b) rest [] e none = cc
no_text Signed rest [] e none = refl
no_text Plain rest [] e none = refl
no_text Letter rest [] e none = refl

module _ (pieces : List Piece) (i : ℕ) (vs : List ℤ) (s : FlatStore) (whole : Written) (before : put_bytes (text_of (drop i pieces) vs) s ≡ whole) where
  module _ (p : Piece) (inside : i < length pieces) (is : p ≡ get_or pieces i (Byte 0)) where
    -- this piece first
    begins : put_bytes (text_of (p ∷ drop (i + 1) pieces) vs) s ≡ whole
    begins = sym (ap (λ ps. put_bytes (text_of ps vs) s) (split pieces i p (Byte 0) inside is)) ∙ before

    in_two : (xs ys : List ℕ) → text_of (p ∷ drop (i + 1) pieces) vs ≡ xs ++ ys → then_do (put_bytes xs s) (λ u t. put_bytes ys t) ≡ whole
    in_two xs ys e = sym (put_append xs ys s) ∙ sym (ap (λ bs. put_bytes bs s) e) ∙ begins

    pub piece_more : (xs : List ℕ) (ws : List ℤ) (t : FlatStore) → text_of (p ∷ drop (i + 1) pieces) vs ≡ xs ++ text_of (drop (i + 1) pieces) ws
        → put_bytes xs s ≡ value tt t → put_bytes (text_of (drop (i + 1) pieces) ws) t ≡ whole
    piece_more xs ws t e g =
        sym (ap (λ (a : Written). then_do a (λ u x. put_bytes (text_of (drop (i + 1) pieces) ws) x)) g) ∙ in_two xs (text_of (drop (i + 1) pieces) ws) e

    pub piece_stops : (xs : List ℕ) (ws : List ℤ) (r : Trap) (t : FlatStore) → text_of (p ∷ drop (i + 1) pieces) vs ≡ xs ++ text_of (drop (i + 1) pieces) ws
        → put_bytes xs s ≡ trapped r t → whole ≡ trapped r t
    piece_stops xs ws r t e g =
        sym (in_two xs (text_of (drop (i + 1) pieces) ws) e) ∙ ap (λ (a : Written). then_do a (λ u x. put_bytes (text_of (drop (i + 1) pieces) ws) x)) g

    pub values_end : text_of (p ∷ drop (i + 1) pieces) vs ≡ [] → whole ≡ value tt s
    values_end e = sym begins ∙ ap (λ bs. put_bytes bs s) e

  pub pieces_end : length pieces ≤ i → whole ≡ value tt s
  pieces_end end = sym before ∙ ap (λ ps. put_bytes (text_of ps vs) s) (drop_all i pieces end)

-- how many bytes were written
one_written : (b : ℕ) (s t : FlatStore) → put_byte b s ≡ value tt t → (length s.output < most_output) × (length t.output ≡ length s.output + 1)
one_written b s t e = pick (nat_lt (length s.output) most_output) refl e
  where
    pick : (x : Bool) → nat_lt (length s.output) most_output ≡ x
        → ◌≡◌ {A = Written} (if x then value tt (record s { output = s.output ++ b ∷ [] }) else trapped Flood s) (value tt t)
        → (length s.output < most_output) × (length t.output ≡ length s.output + 1)
    pick true h g =
        let is : ◌≡◌ {A = FlatStore} (record s { output = s.output ++ b ∷ [] }) t = cc in
        (ltb-true (length s.output) most_output h, ap (λ (x : FlatStore). length x.output) (sym is) ∙ length-append s.output (b ∷ []))
    pick false h g = cc

pub bytes_written : (bs : List ℕ) (s t : FlatStore) → put_bytes bs s ≡ value tt t → (length t.output ≡ length s.output + length bs) × (length bs ≤ most_output - length s.output)
bytes_written [] s t e =
    let is : s ≡ t = cc in
    let same = ap (λ (x : FlatStore). length x.output) is in
    (omega arith, omega arith)
bytes_written (b ∷ bs) s t e = pick (put_byte b s) refl e (λ x. bytes_written bs x t)
  where
    pick : (a : Written) → put_byte b s ≡ a → then_do a (λ u x. put_bytes bs x) ≡ value tt t
        → ((x : FlatStore) → put_bytes bs x ≡ value tt t → (length t.output ≡ length x.output + length bs) × (length bs ≤ most_output - length x.output))
        → (length t.output ≡ length s.output + suc (length bs)) × (suc (length bs) ≤ most_output - length s.output)
    pick (value tt x) g h later =
        let one = one_written b s x g in
        let rest = later x h in
        (omega arith, omega arith)
    pick (trapped r x) g h later = cc

-- the row of a `printf` that has few values
pub row_length : (es : List FlatExpr) → expr_count (exprs_of es) ≡ length es
row_length [] = refl
row_length (e ∷ rest) = let h = row_length rest in omega arith

pub each_few : (es : List FlatExpr) → FewInRow (exprs_of es) → All FewValues es
each_few [] h = All-nil FewValues
each_few (e ∷ rest) h = All-cons FewValues e rest h.0 (each_few rest h.1)
