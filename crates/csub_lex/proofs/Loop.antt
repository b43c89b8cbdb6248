-- One turn of the cutting: a source is cut from one place to the next.
use Rattle.std.proofs.Common.{◌≡◌, ℕ, ◌+◌, ◌<◌, ◌≤◌, List, [], ◌∷◌, ◌++◌, length, take, drop, take-append-drop, Option, Some, None, sym, ap, ◌∙◌, subst, arith, length-append, length-drop, length-take-le, append_assoc}
use Rattle.std.proofs.lemmas.List.{drop-drop, take_at, drop_all}
use Rattle.csub_lex.specs.declared.token.Token.{Token}
use Rattle.csub_lex.specs.declared.token.TokenKind.{TokenKind}
use Rattle.csub_lex.specs.declared.error.LexKind.{LexKind}
use Rattle.csub_lex.specs.declared.error.LexKind.TheVariants as faults
use Rattle.csub_lex.specs.Pieces.{Piece, Stuck}
use Rattle.csub_lex.specs.Tokens.{token_at, Tokens, ends, skips, takes, Fault, here, later, Names, InSource, error_of}
use Rattle.csub_lex.specs.Finding.{Cut, skipped, took, stuck, next}
use Rattle.csub_lex.proofs.Next.{Sound, Stands, sound, piece_some}
use Rattle.csub_lex.proofs.Only.{stuck_sound}

-- a piece of n bytes at a place of the source
pub record Moves (source : List ℕ) (at n : ℕ) (piece : Option TokenKind) : Type 0 where
  pub text : List ℕ
  pub size : length text ≡ n
  pub some : 0 < n
  pub within : at + n ≤ length source
  pub place : length (take at source) ≡ at
  pub front : take at source ++ text ≡ take (at + n) source
  pub parts : drop at source ≡ text ++ drop (at + n) source
  pub piece_is : Piece (take at source) text (drop (at + n) source) piece

moves : (source : List ℕ) (at n : ℕ) (piece : Option TokenKind) → at ≤ length source → n ≤ length (drop at source) → Stands (take at source) (drop at source) (drop n (drop at source)) piece → Moves source at n piece
moves source at n piece within fits stands =
    let text : List ℕ = stands.text in
    let left : ℕ = length (drop at source) in
    let size : length text ≡ n = omega (arith, ap length stands.parts, length-append text (drop n (drop at source)), length-drop n (drop at source)) in
    let place : length (take at source) ≡ at = length-take-le at source within in
    let rest : drop n (drop at source) ≡ drop (at + n) source = drop-drop n at source in
    let whole : source ≡ (take at source ++ text) ++ drop n (drop at source) =
    sym (take-append-drop at source) ∙ ap (λ (x : List ℕ). take at source ++ x) stands.parts ∙ sym (append_assoc (take at source) text (drop n (drop at source))) in
    let long : length (take at source ++ text) ≡ at + n = omega (arith, length-append (take at source) text, size, place) in
    record {
      text = text;
      size = size;
      some = omega (arith, size, piece_some stands.piece_is);
      within = omega (arith, length-drop at source);
      place = place;
      front = sym (ap (λ (x : List ℕ). take (at + n) x) whole ∙ take_at (take at source ++ text) (drop n (drop at source)) (at + n) long);
      parts = stands.parts ∙ ap (λ (x : List ℕ). text ++ x) rest;
      piece_is = subst (λ (x : List ℕ). Piece (take at source) text x piece) rest stands.piece_is;
    }

pub skip_moves : (source : List ℕ) (at n : ℕ) → at ≤ length source → n ≤ length (drop at source) → next (take at source) (drop at source) ≡ skipped (drop n (drop at source)) → Moves source at n None
skip_moves source at n within fits e = moves source at n None within fits (subst (λ (c : Cut). Sound (take at source) (drop at source) c) e (sound (take at source) (drop at source)))

pub token_moves : (source : List ℕ) (at n : ℕ) (kind : TokenKind) → at ≤ length source → n ≤ length (drop at source) → next (take at source) (drop at source) ≡ took kind (drop n (drop at source)) → Moves source at n (Some kind)
token_moves source at n kind within fits e = moves source at n (Some kind) within fits (subst (λ (c : Cut). Sound (take at source) (drop at source) c) e (sound (take at source) (drop at source)))

module _ (source : List ℕ) (at n : ℕ) where
  pub skips_on : (tokens : List Token) → Moves source at n None → Tokens (take (at + n) source) (drop (at + n) source) tokens → Tokens (take at source) (drop at source) tokens
  skips_on tokens m more =
      subst (λ (x : List ℕ). Tokens (take at source) x tokens) (sym m.parts)
      (skips m.text (drop (at + n) source) m.piece_is (subst (λ (x : List ℕ). Tokens x (drop (at + n) source) tokens) (sym m.front) more))

  pub takes_on : (kind : TokenKind) (tokens : List Token) → Moves source at n (Some kind) → Tokens (take (at + n) source) (drop (at + n) source) tokens
      → Tokens (take at source) (drop at source) (record { kind = kind; span = record { start = at; end = at + n } } ∷ tokens)
  takes_on kind tokens m more =
      let begin : length (take at source) ≡ at = m.place in
      let made : Tokens (take at source) (drop at source) (token_at (take at source) m.text kind ∷ tokens) =
      subst (λ (x : List ℕ). Tokens (take at source) x (token_at (take at source) m.text kind ∷ tokens)) (sym m.parts)
      (takes m.text (drop (at + n) source) kind m.piece_is (subst (λ (x : List ℕ). Tokens x (drop (at + n) source) tokens) (sym m.front) more)) in
      let token : token_at (take at source) m.text kind ≡ record { kind = kind; span = record { start = at; end = at + n } } =
      (λ i. record { kind = kind; span = record { start = begin i; end = begin i + m.size i } }) in
      subst (λ (t : Token). Tokens (take at source) (drop at source) (t ∷ tokens)) token made

  pub faults_on : (piece : Option TokenKind) (kind : LexKind) (place : ℕ) → Moves source at n piece → Fault (take (at + n) source) (drop (at + n) source) kind place → Fault (take at source) (drop at source) kind place
  faults_on piece kind place m more =
      subst (λ (x : List ℕ). Fault (take at source) x kind place) (sym m.parts)
      (later m.text (drop (at + n) source) piece m.piece_is (subst (λ (x : List ℕ). Fault x (drop (at + n) source) kind place) (sym m.front) more))

pub at_end : (source : List ℕ) (at : ℕ) → length source ≤ at → Tokens (take at source) (drop at source) []
at_end source at le = subst (λ (x : List ℕ). Tokens (take at source) x []) (sym (drop_all at source le)) ends

-- where no piece is found there is a fault
pub fault_here : (source : List ℕ) (at : ℕ) (kind : LexKind) → at < length source → next (take at source) (drop at source) ≡ stuck kind → Fault (take at source) (drop at source) kind at
fault_here source at kind within e = subst (λ (n : ℕ). Fault (take at source) (drop at source) kind n) (length-take-le at source (omega arith)) (here (go (drop at source) (omega (arith, length-drop at source)) e))
  where
    go : (s : List ℕ) → 0 < length s → next (take at source) s ≡ stuck kind → Stuck (take at source) s kind
    go [] some k = absurd (omega arith)
    go (b ∷ bs) some k = stuck_sound (take at source) b bs kind k

pub names : (kind : LexKind) (at : ℕ) (source : List ℕ) → Fault [] source kind at → Names (error_of kind at) source
names faults.Byte at source h = h
names faults.Number at source h = h
names faults.Directive at source h = h

pub in_source : (kind : LexKind) (at : ℕ) (source : List ℕ) → at < length source → InSource (error_of kind at) source
in_source faults.Byte at source h = h
in_source faults.Number at source h = h
in_source faults.Directive at source h = h
