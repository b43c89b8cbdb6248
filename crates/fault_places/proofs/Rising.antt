-- Tokens that stand in their order and apart within so many bytes, as those of a source do, and the places of their parts.
use Rattle.std.proofs.Common.{◌≡◌, ℕ, ◌+◌, ◌≤◌, List, [], ◌∷◌, ◌++◌, length, arith, length-append}
use Rattle.csub_lex.specs.declared.token.Token.{Token}
use Rattle.csub_lex.specs.Tokens.{Tokens, ends, skips, takes}
use Rattle.csub_tree.specs.Tokens.{last, runs}
use Rattle.fault_places.specs.Within.{IsWithin}

-- each begins no earlier than this place and than the end of the one before it, and ends no earlier than it begins
abbrev Rises : ℕ → ℕ → List Token → Type 0
Rises n place [] = place ≤ n
Rises n place (t ∷ more) = (place ≤ t.span.start) × (t.span.start ≤ t.span.end) × Rises n t.span.end more

-- from the beginning of the source on
pub record Rising (n : ℕ) (ts : List Token) : Type 0 where
  pub rises : Rises n 0 ts

-- ---- parts

lower : (n p q : ℕ) (ts : List Token) → q ≤ p → Rises n p ts → Rises n q ts
lower n p q [] less h = omega (arith, less, h)
lower n p q (t ∷ ts) less h = (omega (arith, less, h.0), h.1, h.2)

ends_by : (n p : ℕ) (ts : List Token) → Rises n p ts → p ≤ n
ends_by n p [] h = h
ends_by n p (t ∷ ts) h = omega (arith, h.0, h.1, ends_by n t.span.end ts h.2)

left_rises : (n p : ℕ) (s t : List Token) → Rises n p (s ++ t) → Rises n p s
left_rises n p [] t h = ends_by n p t h
left_rises n p (x ∷ s) t h = (h.0, h.1, left_rises n x.span.end s t h.2)

right_rises : (n p : ℕ) (s t : List Token) → Rises n p (s ++ t) → Rises n p t
right_rises n p [] t h = h
right_rises n p (x ∷ s) t h = lower n x.span.end p t (omega (arith, h.0, h.1)) (right_rises n x.span.end s t h.2)

pub left_part : {n : ℕ} (s t : List Token) → Rising n (s ++ t) → Rising n s
left_part {n} s t h = record { rises = left_rises n 0 s t h.rises }

pub right_part : {n : ℕ} (s t : List Token) → Rising n (s ++ t) → Rising n t
right_part {n} s t h = record { rises = right_rises n 0 s t h.rises }

-- behind the first token, and behind some tokens and one more
pub later : {n : ℕ} {x : Token} {s : List Token} → Rising n (x ∷ s) → Rising n s
later {n} {x} {s} h = record { rises = lower n x.span.end 0 s (omega arith) h.rises.2 }

pub behind : {n : ℕ} (s : List Token) (x : Token) (t : List Token) → Rising n (s ++ x ∷ t) → Rising n t
behind s x t h = later (right_part s (x ∷ t) h)

-- ---- places

pub at_first : {n : ℕ} {x : Token} {s : List Token} → Rising n (x ∷ s) → IsWithin n x.span
at_first {n} {x} {s} h = record { ordered = h.rises.1; within = ends_by n x.span.end s h.rises.2 }

last_follows : (n p : ℕ) (x : Token) (s : List Token) → Rises n p (x ∷ s) → x.span.start ≤ last (x ∷ s)
last_follows n p x [] h = h.1
last_follows n p x (y ∷ s) h = omega (arith, h.1, h.2.0, last_follows n x.span.end y s h.2)

last_within : (n p : ℕ) (x : Token) (s : List Token) → Rises n p (x ∷ s) → last (x ∷ s) ≤ n
last_within n p x [] h = h.2
last_within n p x (y ∷ s) h = last_within n x.span.end y s h.2

runs_within : (n p : ℕ) (ts : List Token) → Rises n p ts → IsWithin n (runs ts)
runs_within n p [] h = record { ordered = omega arith; within = omega arith }
runs_within n p (x ∷ s) h = record { ordered = last_follows n p x s h; within = last_within n p x s h }

-- from the first to the last of them
pub whole : {n : ℕ} {ts : List Token} → Rising n ts → IsWithin n (runs ts)
whole {n} {ts} h = runs_within n 0 ts h.rises

-- ---- the tokens of a source

rise_behind : (n : ℕ) (before bytes : List ℕ) (ts : List Token) → Tokens before bytes ts → n ≡ length before + length bytes
    → Rises n (length before) ts
rise_behind n before bytes ts ends h = omega (arith, h)
rise_behind n before bytes ts (skips text after {tokens = more} p rest) h =
    lower n (length (before ++ text)) (length before) more (omega (arith, length-append before text))
    (rise_behind n (before ++ text) after more rest (omega (arith, h, length-append before text, length-append text after)))
rise_behind n before bytes ts (takes text after kind {tokens = more} p rest) h = (
  omega arith,
  omega arith,
  lower n (length (before ++ text)) (length before + length text) more (omega (arith, length-append before text))
      (rise_behind n (before ++ text) after more rest (omega (arith, h, length-append before text, length-append text after))),
)

pub rising : (bytes : List ℕ) (ts : List Token) → Tokens [] bytes ts → Rising (length bytes) ts
rising bytes ts cut = record { rises = rise_behind (length bytes) [] bytes ts cut (omega arith) }
