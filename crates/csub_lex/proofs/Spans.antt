-- The tokens of a source stand in it in their order and apart, and each is spelled by the bytes of its span.
use Rattle.std.proofs.Common.{◌≡◌, ℕ, ◌+◌, ◌-◌, ◌≤◌, List, [], ◌∷◌, ◌++◌, length, take, drop, Some, refl, sym, ap, ◌∙◌, subst, arith, length-append, append_assoc}
use Rattle.std.specs.Prelude.{slice_range}
use Rattle.std.proofs.lemmas.List.{take_at, drop_at}
use Rattle.csub_lex.specs.declared.token.Token.{Token}
use Rattle.csub_lex.specs.declared.token.TokenKind.{TokenKind}
use Rattle.csub_lex.specs.Pieces.{Piece}
use Rattle.csub_lex.specs.Tokens.{Tokens, ends, skips, takes, Spelled}
use Rattle.csub_lex.proofs.Next.{piece_some}

-- the bytes of a text that stands between two others
slice_is : (before text after : List ℕ) → slice_range (before ++ (text ++ after)) (length before) (length before + length text) ≡ text
slice_is before text after =
    ap (λ (x : List ℕ). take (length before + length text - length before) x) (drop_at before (text ++ after) (length before) refl)
    ∙ take_at text after (length before + length text - length before) (omega arith)

behind_is : (before text after : List ℕ) → drop (length before + length text) (before ++ (text ++ after)) ≡ after
behind_is before text after =
    ap (λ (x : List ℕ). drop (length before + length text) x) (sym (append_assoc before text after)) ∙ drop_at (before ++ text) after (length before + length text) (length-append before text)

-- a piece is one at its place in the whole
placed : (before text after : List ℕ) (kind : TokenKind) → Piece before text after (Some kind)
    → Piece (take (length before) (before ++ (text ++ after))) (slice_range (before ++ (text ++ after)) (length before) (length before + length text))
    (drop (length before + length text) (before ++ (text ++ after))) (Some kind)
placed before text after kind p =
    subst (λ (x : List ℕ). Piece x (slice_range (before ++ (text ++ after)) (length before) (length before + length text)) (drop (length before + length text) (before ++ (text ++ after))) (Some kind))
    (sym (take_at before (text ++ after) (length before) refl))
    (subst (λ (x : List ℕ). Piece before x (drop (length before + length text) (before ++ (text ++ after))) (Some kind)) (sym (slice_is before text after))
    (subst (λ (x : List ℕ). Piece before text x (Some kind)) (sym (behind_is before text after)) p))

pub spelled : {before s : List ℕ} {tokens : List Token} → Tokens before s tokens → (source : List ℕ) → source ≡ before ++ s → (place : ℕ) → place ≤ length before → Spelled source place tokens
spelled {before} ends source whole place within = omega (arith, ap length whole, length-append before [])
spelled {before} (skips text after piece more) source whole place within =
    spelled more source (whole ∙ sym (append_assoc before text after)) place (omega (arith, length-append before text))
spelled {before} (takes text after kind {tokens} piece more) source whole place within =
    let here : Piece (take (length before) source) (slice_range source (length before) (length before + length text)) (drop (length before + length text) source) (Some kind) =
    subst (λ (x : List ℕ). Piece (take (length before) x) (slice_range x (length before) (length before + length text)) (drop (length before + length text) x) (Some kind)) (sym whole) (placed before text after kind piece) in
    (within, omega (arith, piece_some piece), here, spelled more source (whole ∙ sym (append_assoc before text after)) (length before + length text) (omega (arith, length-append before text)))

-- each token takes a byte or more of the source
pub as_many : (source : List ℕ) (place : ℕ) (tokens : List Token) → Spelled source place tokens → place + length tokens ≤ length source
as_many source place [] within = omega arith
as_many source place (t ∷ more) (before, some, piece, after) = omega (arith, as_many source t.span.end more after)
