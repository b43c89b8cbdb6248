-- Where the lines of bytes begin: in parts, how many, and where the last.
use Rattle.std.proofs.Common.{◌≡◌, ℕ, zero, suc, ◌+◌, ◌-◌, ◌<◌, ◌≤◌, inl, inr, Bool, true, false, cond, List, [], ◌∷◌, ◌++◌, length, get_or, refl, sym, ap, subst, ◌∙◌, arith, add-zero, append-nil, length-append}
use Rattle.std.specs.Prelude.{◌==◌, count_by, reverse}
use Rattle.std.proofs.Math.Seq.{get_or-append_seam}
use Rattle.std.proofs.lemmas.Bool.{ne_eqb}
use Rattle.std.proofs.lemmas.Bool.Decides.{eqb_tells}
use Rattle.std.proofs.lemmas.List.{reverse-append, reverse-reverse}
use Rattle.std.proofs.lemmas.List.Sums.{sum_by-cons}
use Rattle.std.proofs.lemmas.Grind.{reverse_onto}
use Rattle.csub_lex.specs.Place.{tail_len}
use Rattle.source_place.specs.Lines.{behind_newlines, line_begins}

pub behind-append : (at : ℕ) (xs ys : List ℕ) → behind_newlines at (xs ++ ys) ≡ behind_newlines at xs ++ behind_newlines (at + length xs) ys
behind-append at [] ys = ap (λ n. behind_newlines n ys) (sym (add-zero at))
behind-append at (x ∷ xs) ys = go (x == 10) (behind-append (at + 1) xs ys ∙ ap (λ n. behind_newlines (at + 1) xs ++ behind_newlines n ys) (omega arith))
  where
    go : (b : Bool) → behind_newlines (at + 1) (xs ++ ys) ≡ behind_newlines (at + 1) xs ++ behind_newlines (at + length (x ∷ xs)) ys
        → cond b ((at + 1) ∷ behind_newlines (at + 1) (xs ++ ys)) (behind_newlines (at + 1) (xs ++ ys))
        ≡ cond b ((at + 1) ∷ behind_newlines (at + 1) xs) (behind_newlines (at + 1) xs) ++ behind_newlines (at + length (x ∷ xs)) ys
    go true more = ap (λ begins. (at + 1) ∷ begins) more
    go false more = more

-- there is one behind each newline
pub length-behind : (at : ℕ) (xs : List ℕ) → length (behind_newlines at xs) ≡ count_by (λ b. b == 10) xs
length-behind at [] = refl
length-behind at (x ∷ xs) = go (x == 10) (length-behind (at + 1) xs) ∙ sym (sum_by-cons (λ b. cond (b == 10) 1 0) x xs)
  where
    go : (b : Bool) → length (behind_newlines (at + 1) xs) ≡ count_by (λ b. b == 10) xs
        → length (cond b ((at + 1) ∷ behind_newlines (at + 1) xs) (behind_newlines (at + 1) xs)) ≡ cond b 1 0 + count_by (λ b. b == 10) xs
    go true more = omega (arith, more)
    go false more = omega (arith, more)

abbrev IsWithin : ℕ → ℕ → List ℕ → Type 0
IsWithin low high begins = (k d : ℕ) → k < length begins → (low < get_or begins k d) × (get_or begins k d ≤ high)

-- each lies behind the first byte, and not behind the end
pub behind_within : (at : ℕ) (xs : List ℕ) → IsWithin at (at + length xs) (behind_newlines at xs)
behind_within at [] k d h = absurd (omega arith)
behind_within at (x ∷ xs) k d h = go (x == 10) (behind_within (at + 1) xs) k d h
  where
    go : (b : Bool) → IsWithin (at + 1) (at + 1 + length xs) (behind_newlines (at + 1) xs)
        → IsWithin at (at + length (x ∷ xs)) (cond b ((at + 1) ∷ behind_newlines (at + 1) xs) (behind_newlines (at + 1) xs))
    go true more zero d h = (omega arith, omega arith)
    go true more (suc k) d h = let m = more k d (omega arith) in (omega arith, omega arith)
    go false more k d h = let m = more k d h in (omega arith, omega arith)

-- ---- one byte more

begins_newline : (xs : List ℕ) → line_begins (xs ++ 10 ∷ []) ≡ line_begins xs ++ (length xs + 1) ∷ []
begins_newline xs = ap (λ more. 0 ∷ more) (behind-append 0 xs (10 ∷ []) ∙ ap (λ n. behind_newlines 0 xs ++ n ∷ []) (omega arith))

begins_more : (xs : List ℕ) (x : ℕ) → (x ≡ 10 → ⊥) → line_begins (xs ++ x ∷ []) ≡ line_begins xs
begins_more xs x ne = ap (λ more. 0 ∷ more) (behind-append 0 xs (x ∷ []) ∙ ap (λ b. behind_newlines 0 xs ++ cond b ((0 + length xs + 1) ∷ []) []) (ne_eqb x 10 ne) ∙ append-nil (behind_newlines 0 xs))

tail_newline : (xs : List ℕ) → tail_len (xs ++ 10 ∷ []) ≡ 0
unfolding tail_len
tail_newline xs = rw (reverse-append xs (10 ∷ [])) refl

tail_more : (xs : List ℕ) (x : ℕ) → (x ≡ 10 → ⊥) → tail_len (xs ++ x ∷ []) ≡ tail_len xs + 1
unfolding tail_len
tail_more xs x ne = rw (reverse-append xs (x ∷ []), ne_eqb x 10 ne) (omega arith)

-- ---- the last beginning

-- behind the last beginning stand the bytes of the last line
abbrev pub Ends : List ℕ → Type 0
Ends xs = (d : ℕ) → get_or (line_begins xs) (length (line_begins xs) - 1) d + tail_len xs ≡ length xs

last_pushed : (xs : List ℕ) (x d : ℕ) → get_or (xs ++ x ∷ []) (length (xs ++ x ∷ []) - 1) d ≡ x
last_pushed xs x d = ap (λ n. get_or (xs ++ x ∷ []) n d) (omega (arith, length-append xs (x ∷ []))) ∙ get_or-append_seam xs x [] d

ends_newline : (xs : List ℕ) → Ends (xs ++ 10 ∷ [])
ends_newline xs d =
    let last : get_or (line_begins (xs ++ 10 ∷ [])) (length (line_begins (xs ++ 10 ∷ [])) - 1) d ≡ length xs + 1 =
    ap (λ begins. get_or begins (length begins - 1) d) (begins_newline xs) ∙ last_pushed (line_begins xs) (length xs + 1) d in
    omega (arith, last, tail_newline xs, length-append xs (10 ∷ []))

ends_more : (xs : List ℕ) (x : ℕ) → (x ≡ 10 → ⊥) → Ends xs → Ends (xs ++ x ∷ [])
ends_more xs x ne h d =
    let last : get_or (line_begins (xs ++ x ∷ [])) (length (line_begins (xs ++ x ∷ [])) - 1) d ≡ get_or (line_begins xs) (length (line_begins xs) - 1) d =
    ap (λ begins. get_or begins (length begins - 1) d) (begins_more xs x ne) in
    omega (arith, last, h d, tail_more xs x ne, length-append xs (x ∷ []))

ends_next : (xs : List ℕ) (x : ℕ) → Ends xs → Ends (xs ++ x ∷ [])
ends_next xs x h = elim (eqb_tells x 10) [
  | inl newline ↦ subst (λ y. Ends (xs ++ y ∷ [])) (sym newline.1) (ends_newline xs)
  | inr other ↦ ends_more xs x other.1 h
]

ends_nothing : Ends []
unfolding tail_len
ends_nothing d = refl

ends_reversed : (ys : List ℕ) → Ends (reverse ys)
ends_reversed [] = ends_nothing
ends_reversed (y ∷ ys) = subst Ends (sym (reverse_onto ys y [])) (ends_next (reverse ys) y (ends_reversed ys))

pub ends : (xs : List ℕ) → Ends xs
ends xs = subst Ends (reverse-reverse xs) (ends_reversed (reverse xs))
