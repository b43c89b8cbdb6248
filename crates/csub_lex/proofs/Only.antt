-- A text is cut in one way: it has one list of tokens, or one fault with one place and kind, and never both.
use Rattle.std.proofs.Common.{◌≡◌, ℕ, List, [], ◌∷◌, ◌++◌, length, Option, Some, None, Bool, true, false, refl, sym, ap, ◌∙◌, subst}
use Rattle.std.specs.Prelude.{◌==◌}
use Rattle.std.specs.Char.{is_ascii_digit}
use Rattle.std.proofs.lemmas.Bool.{eqb-true, eqb-false, ne_eqb, cond-true, cond-false}
use Rattle.std.proofs.lemmas.List.{append_cancel_right}
use Rattle.csub_lex.specs.declared.token.Token.{Token}
use Rattle.csub_lex.specs.declared.token.TokenKind.{TokenKind}
use Rattle.csub_lex.specs.declared.error.LexKind.{LexKind}
use Rattle.csub_lex.specs.declared.error.LexKind.TheVariants as faults
use Rattle.csub_lex.specs.Pieces.{NoPiece, Stuck, no_number, no_directive, no_byte}
use Rattle.csub_lex.specs.Tokens.{token_at, Tokens, ends, skips, takes, Fault, here, later}
use Rattle.csub_lex.specs.Finding.{Cut, skipped, took, stuck, next}
use Rattle.csub_lex.proofs.Next.{FaultAt, Sound, cut_of, sound, complete}

-- where no piece is found none begins, and the kind is found with it

cut_not_stuck : (piece : Option TokenKind) (after : List ℕ) (kind : LexKind) → cut_of piece after ≡ stuck kind → ⊥
cut_not_stuck None after kind e = cc e
cut_not_stuck (Some k) after kind e = cc e

no_piece : (before s : List ℕ) (kind : LexKind) → next before s ≡ stuck kind → NoPiece before s
no_piece before s kind e text after piece parts p = cut_not_stuck piece after kind (sym (complete p) ∙ ap (λ (x : List ℕ). next before x) (sym parts) ∙ e)

pub stuck_sound : (before : List ℕ) (b : ℕ) (bs : List ℕ) (kind : LexKind) → next before (b ∷ bs) ≡ stuck kind → Stuck before (b ∷ bs) kind
stuck_sound before b bs kind e = go (is_ascii_digit b) refl (b == 35) refl (subst (λ (c : Cut). Sound before (b ∷ bs) c) e (sound before (b ∷ bs)))
  where
    none : NoPiece before (b ∷ bs)
    none = no_piece before (b ∷ bs) kind e

    go : (t : Bool) → is_ascii_digit b ≡ t → (u : Bool) → (b == 35) ≡ u → FaultAt (b ∷ bs) kind → Stuck before (b ∷ bs) kind
    go true digit u hash k = subst (λ (f : LexKind). Stuck before (b ∷ bs) f) (sym (k ∙ cond-true (is_ascii_digit b) faults.Number _ digit)) (no_number b bs digit none)
    go false digit true hash k =
        let same : kind ≡ faults.Directive = k ∙ cond-false (is_ascii_digit b) faults.Number _ digit ∙ cond-true (b == 35) faults.Directive faults.Byte hash in
        let at : b ≡ 35 = eqb-true b 35 hash in
        subst (λ (f : LexKind). Stuck before (b ∷ bs) f) (sym same)
        (subst (λ (n : ℕ). Stuck before (n ∷ bs) faults.Directive) (sym at) (no_directive bs (subst (λ (n : ℕ). NoPiece before (n ∷ bs)) at none)))
    go false digit false hash k =
        let same : kind ≡ faults.Byte = k ∙ cond-false (is_ascii_digit b) faults.Number _ digit ∙ cond-false (b == 35) faults.Directive faults.Byte hash in
        subst (λ (f : LexKind). Stuck before (b ∷ bs) f) (sym same) (no_byte b bs digit (eqb-false b 35 hash) none)

-- bytes that no piece begins are not empty, and the kind of their fault is the one found
stuck_is : (before s : List ℕ) (kind : LexKind) → NoPiece before s → ((found : LexKind) → FaultAt s found → kind ≡ found) → (c : Cut) → Sound before s c → next before s ≡ c → next before s ≡ stuck kind
stuck_is before s kind none same (skipped after) stands e = absurd (none stands.text after None stands.parts stands.piece_is)
stuck_is before s kind none same (took k after) stands e = absurd (none stands.text after (Some k) stands.parts stands.piece_is)
stuck_is before s kind none same (stuck found) fault e = e ∙ ap (λ (f : LexKind). stuck f) (sym (same found fault))

pub stuck_complete : {before s : List ℕ} {kind : LexKind} → Stuck before s kind → next before s ≡ stuck kind
stuck_complete {before} (no_number b bs digit none) =
    stuck_is before (b ∷ bs) faults.Number none (λ found k. sym (k ∙ cond-true (is_ascii_digit b) faults.Number _ digit)) (next before (b ∷ bs)) (sound before (b ∷ bs)) refl
stuck_complete {before} (no_directive bs none) = stuck_is before (35 ∷ bs) faults.Directive none (λ found k. sym k) (next before (35 ∷ bs)) (sound before (35 ∷ bs)) refl
stuck_complete {before} (no_byte b bs digit hash none) =
    stuck_is before (b ∷ bs) faults.Byte none
    (λ found k. sym (k ∙ cond-false (is_ascii_digit b) faults.Number _ digit ∙ cond-false (b == 35) faults.Directive faults.Byte (ne_eqb b 35 hash))) (next before (b ∷ bs)) (sound before (b ∷ bs)) refl

stuck_some : {before s : List ℕ} {kind : LexKind} → Stuck before s kind → s ≡ [] → ⊥
stuck_some (no_number b bs digit none) e = cc e
stuck_some (no_directive bs none) e = cc e
stuck_some (no_byte b bs digit hash none) e = cc e

-- what the first cut says of tokens

abbrev Steps : List ℕ → List ℕ → List Token → Cut → Type 0
Steps before s tokens (skipped after) = (text : List ℕ) × (s ≡ text ++ after) × Tokens (before ++ text) after tokens
Steps before s tokens (took kind after) = (text : List ℕ) × (more : List Token) × (s ≡ text ++ after) × (tokens ≡ token_at before text kind ∷ more) × Tokens (before ++ text) after more
Steps before s tokens (stuck kind) = (s ≡ []) × (tokens ≡ [])

steps : {before s : List ℕ} {tokens : List Token} → Tokens before s tokens → Steps before s tokens (next before s)
unfolding next
steps ends = (refl, refl)
steps {before} (skips text after {tokens} piece more) = subst (λ (c : Cut). Steps before (text ++ after) tokens c) (sym (complete piece)) (text, refl, more)
steps {before} (takes text after kind {tokens} piece more) = subst (λ (c : Cut). Steps before (text ++ after) (token_at before text kind ∷ tokens) c) (sym (complete piece)) (text, tokens, refl, refl, more)

pub unique : {before s : List ℕ} {tokens others : List Token} → Tokens before s tokens → Tokens before s others → tokens ≡ others
unfolding next
unique ends other = sym (steps other).1
unique {before} {others = others} (skips text after piece more) other =
    let step : Steps before (text ++ after) others (skipped after) = subst (λ (c : Cut). Steps before (text ++ after) others c) (complete piece) (steps other) in
    let same : text ≡ step.0 = append_cancel_right text step.0 after step.1 in
    unique more (subst (λ (t : List ℕ). Tokens (before ++ t) after others) (sym same) step.2)
unique {before} {others = others} (takes text after kind piece more) other =
    let step : Steps before (text ++ after) others (took kind after) = subst (λ (c : Cut). Steps before (text ++ after) others c) (complete piece) (steps other) in
    let same : text ≡ step.0 = append_cancel_right text step.0 after step.2 in
    let rest = unique more (subst (λ (t : List ℕ). Tokens (before ++ t) after step.1) (sym same) step.4) in
    (λ i. token_at before (same i) kind ∷ rest i) ∙ sym step.3

-- and what it says of a fault

abbrev Misses : List ℕ → List ℕ → LexKind → ℕ → Cut → Type 0
Misses before s kind at (skipped after) = (text : List ℕ) × (s ≡ text ++ after) × Fault (before ++ text) after kind at
Misses before s kind at (took k after) = (text : List ℕ) × (s ≡ text ++ after) × Fault (before ++ text) after kind at
Misses before s kind at (stuck found) = (kind ≡ found) × (at ≡ length before) × (s ≡ [] → ⊥)

goes_on : (before text after : List ℕ) (piece : Option TokenKind) (kind : LexKind) (at : ℕ) → Fault (before ++ text) after kind at → Misses before (text ++ after) kind at (cut_of piece after)
goes_on before text after None kind at more = (text, refl, more)
goes_on before text after (Some k) kind at more = (text, refl, more)

misses : {before s : List ℕ} {kind : LexKind} {at : ℕ} → Fault before s kind at → Misses before s kind at (next before s)
misses (here {before} {bytes} {kind} none) = subst (λ (c : Cut). Misses before bytes kind (length before) c) (sym (stuck_complete none)) (refl, refl, stuck_some none)
misses {before} {kind = kind} {at = at} (later text after piece p more) = subst (λ (c : Cut). Misses before (text ++ after) kind at c) (sym (complete p)) (goes_on before text after piece kind at more)

pub no_fault : {before s : List ℕ} {tokens : List Token} {kind : LexKind} {at : ℕ} → Tokens before s tokens → Fault before s kind at → ⊥
unfolding next
no_fault ends fault = (misses fault).2 refl
no_fault {before} {kind = kind} {at = at} (skips text after piece more) fault =
    let step : Misses before (text ++ after) kind at (skipped after) = subst (λ (c : Cut). Misses before (text ++ after) kind at c) (complete piece) (misses fault) in
    let same : text ≡ step.0 = append_cancel_right text step.0 after step.1 in
    no_fault more (subst (λ (t : List ℕ). Fault (before ++ t) after kind at) (sym same) step.2)
no_fault {before} {kind = kind} {at = at} (takes text after k piece more) fault =
    let step : Misses before (text ++ after) kind at (took k after) = subst (λ (c : Cut). Misses before (text ++ after) kind at c) (complete piece) (misses fault) in
    let same : text ≡ step.0 = append_cancel_right text step.0 after step.1 in
    no_fault more (subst (λ (t : List ℕ). Fault (before ++ t) after kind at) (sym same) step.2)

went_on : (before text after : List ℕ) (piece : Option TokenKind) (kind : LexKind) (at : ℕ) → Misses before (text ++ after) kind at (cut_of piece after) → Fault (before ++ text) after kind at
went_on before text after None kind at step = subst (λ (t : List ℕ). Fault (before ++ t) after kind at) (sym (append_cancel_right text step.0 after step.1)) step.2
went_on before text after (Some k) kind at step = subst (λ (t : List ℕ). Fault (before ++ t) after kind at) (sym (append_cancel_right text step.0 after step.1)) step.2

pub same_fault : {before s : List ℕ} {kind other : LexKind} {at place : ℕ} → Fault before s kind at → Fault before s other place → (kind ≡ other) × (at ≡ place)
same_fault {other = other} {place = place} (here {before} {bytes} {kind} none) fault =
    let step : Misses before bytes other place (stuck kind) = subst (λ (c : Cut). Misses before bytes other place c) (stuck_complete none) (misses fault) in
    (sym step.0, sym step.1)
same_fault {before} {other = other} {place = place} (later text after piece p more) fault =
    same_fault more (went_on before text after piece other place (subst (λ (c : Cut). Misses before (text ++ after) other place c) (complete p) (misses fault)))
