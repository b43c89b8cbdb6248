-- A base that is read is spelled so; what is spelled has tokens, and a place from the first to the last.
use Rattle.std.proofs.Common.{◌≡◌, ℕ, ◌<◌, List, [], ◌∷◌, ◌++◌, length, Ok, Err, cond, refl, ap, arith, length-append, inl, inr}
use Rattle.csub_text.specs.declared.span.Span.{Span}
use Rattle.csub_lex.specs.declared.token.Key.TheVariants as keys
use Rattle.csub_lex.specs.declared.token.Mark.TheVariants as marks
use Rattle.csub_lex.specs.declared.token.Token.{Token}
use Rattle.csub_tree.specs.declared.name.TypeName.{TypeName}
use Rattle.csub_tree.specs.declared.name.TypeName.TheVariants as types
use Rattle.csub_tree.specs.Expressions.{Expr}
use Rattle.csub_tree.specs.Declarations.{Declarator, Declare, Param}
use Rattle.csub_tree.specs.Tokens.{mark, key, id, first, last, runs}
use Rattle.csub_tree.specs.SpellsExpressions.{SpellsNumber, char, int, unsigned, unsigned_int}
use Rattle.csub_tree.specs.SpellsDeclarations.{SpellsBase, numeric, structure, SpellsLength, bracketed, SpellsSlot, slot, SpellsVar, no_init, with_init, SpellsField, field, SpellsDecl, decl, SpellsParam, param}
use Rattle.csub_expr.specs.Looks.{begins_key, rest, head_span}
use Rattle.csub_expr.specs.Answers.{done, expect_name}
use Rattle.csub_expr.proofs.LawsAnswers.{bind_ok, chosen}
use Rattle.csub_expr.proofs.LawsTokens.{begins_key_is, expect_name_is, nonempty_append}
use Rattle.csub_stmt.specs.DeclarationDescent.{from_to, unsigned_at, numeric_at, tag_at, base_at}
use Rattle.csub_stmt.proofs.LawsTakes.{Took, took_done, took_at}

-- a base, and where it ends
abbrev pub NumberTo : TypeName × ℕ → List Token → Type 0
NumberTo x s = SpellsNumber x.0 s × (x.1 ≡ last s)

abbrev pub BaseTo : TypeName × ℕ → List Token → Type 0
BaseTo x s = SpellsBase x.0 s × (x.1 ≡ last s)

abbrev pub flat : {A : Type 0} → A → ℕ
flat x = 0

abbrev pub TookNumber : List Token → TypeName × ℕ → List Token → Type 0
TookNumber = Took (TypeName × ℕ) NumberTo flat 0

abbrev pub TookBase : List Token → TypeName × ℕ → List Token → Type 0
TookBase = Took (TypeName × ℕ) BaseTo flat 0

unsigned_sound : (a : Span) (ts : List Token) (x : TypeName × ℕ) (r : List Token) → unsigned_at a.end ts ≡ Ok (x, r) → TookNumber (key keys.Unsigned a ∷ ts) x r
unfolding unsigned_at
unsigned_sound a ts x r h = elim (chosen (begins_key keys.Int ts) (done (types.Unsigned, (head_span ts).end) (rest ts)) (done (types.Unsigned, a.end) ts) (Ok (x, r)) h) [
  | inl p ↦ took_done (TypeName × ℕ) NumberTo flat 0 (key keys.Unsigned a ∷ ts) x (types.Unsigned, (head_span ts).end) r (rest ts)
      (record { s = key keys.Unsigned a ∷ key keys.Int (head_span ts) ∷ []; parts = ap (λ (u : List Token). key keys.Unsigned a ∷ u) (begins_key_is keys.Int ts p.0); spelled = (unsigned_int a (head_span ts), refl); fits = omega arith }) p.1
  | inr p ↦ took_done (TypeName × ℕ) NumberTo flat 0 (key keys.Unsigned a ∷ ts) x (types.Unsigned, a.end) r ts
      (record { s = key keys.Unsigned a ∷ []; parts = refl; spelled = (unsigned a, refl); fits = omega arith }) p.1
]

pub numeric_sound : (ts : List Token) (x : TypeName × ℕ) (r : List Token) → numeric_at ts ≡ Ok (x, r) → TookNumber ts x r
unfolding numeric_at
numeric_sound ts x r h = elim (chosen (begins_key keys.Char ts) (done (types.Char, (head_span ts).end) (rest ts)) (cond (begins_key keys.Int ts) (done (types.Int, (head_span ts).end) (rest ts)) (cond (begins_key keys.Unsigned ts) (unsigned_at (head_span ts).end (rest ts)) (Err (length ts)))) (Ok (x, r)) h) [
  | inl p ↦ took_done (TypeName × ℕ) NumberTo flat 0 ts x (types.Char, (head_span ts).end) r (rest ts)
      (record { s = key keys.Char (head_span ts) ∷ []; parts = begins_key_is keys.Char ts p.0; spelled = (char (head_span ts), refl); fits = omega arith }) p.1
  | inr p ↦ elim (chosen (begins_key keys.Int ts) (done (types.Int, (head_span ts).end) (rest ts)) (cond (begins_key keys.Unsigned ts) (unsigned_at (head_span ts).end (rest ts)) (Err (length ts))) (Ok (x, r)) p.1) [
    | inl q ↦ took_done (TypeName × ℕ) NumberTo flat 0 ts x (types.Int, (head_span ts).end) r (rest ts)
        (record { s = key keys.Int (head_span ts) ∷ []; parts = begins_key_is keys.Int ts q.0; spelled = (int (head_span ts), refl); fits = omega arith }) q.1
    | inr q ↦ elim (chosen (begins_key keys.Unsigned ts) (unsigned_at (head_span ts).end (rest ts)) (Err (length ts)) (Ok (x, r)) q.1) [
      | inl w ↦ took_at (TypeName × ℕ) NumberTo flat 0 ts (key keys.Unsigned (head_span ts) ∷ rest ts) x r (begins_key_is keys.Unsigned ts w.0) (unsigned_sound (head_span ts) (rest ts) x r w.1)
      | inr w ↦ absurd (cc w.1)
    ]
  ]
]

tag_sound : (a : Span) (ts : List Token) (x : TypeName × ℕ) (r : List Token) → tag_at ts ≡ Ok (x, r) → TookBase (key keys.Struct a ∷ ts) x r
unfolding tag_at
tag_sound a ts x r h =
    let n = bind_ok (expect_name ts) (λ n. done (types.Struct n.0, n.0.span.end) n.1) (x, r) h in
    took_done (TypeName × ℕ) BaseTo flat 0 (key keys.Struct a ∷ ts) x (types.Struct n.0.0, n.0.0.span.end) r n.0.1
    (record { s = key keys.Struct a ∷ id n.0.0 ∷ []; parts = ap (λ (u : List Token). key keys.Struct a ∷ u) (expect_name_is ts n.0.0 n.0.1 n.1); spelled = (structure a n.0.0, refl); fits = omega arith }) n.2

pub base_sound : (ts : List Token) (x : TypeName × ℕ) (r : List Token) → base_at ts ≡ Ok (x, r) → TookBase ts x r
unfolding base_at
base_sound ts x r h = elim (chosen (begins_key keys.Struct ts) (tag_at (rest ts)) (numeric_at ts) (Ok (x, r)) h) [
  | inl p ↦ took_at (TypeName × ℕ) BaseTo flat 0 ts (key keys.Struct (head_span ts) ∷ rest ts) x r (begins_key_is keys.Struct ts p.0) (tag_sound (head_span ts) (rest ts) x r p.1)
  | inr p ↦ let t = numeric_sound ts x r p.1 in record { s = t.s; parts = t.parts; spelled = (numeric t.spelled.0, t.spelled.1); fits = t.fits }
]

number_some : {n : TypeName} {s : List Token} → SpellsNumber n s → 0 < length s
number_some (char a) = omega arith
number_some (int a) = omega arith
number_some (unsigned a) = omega arith
number_some (unsigned_int a b) = omega arith

pub base_some : {n : TypeName} {s : List Token} → SpellsBase n s → 0 < length s
base_some (numeric h) = number_some h
base_some (structure a n) = omega arith

-- a list that is cut has the first token of what was taken
pub starts_at : (s ts r : List Token) → ts ≡ s ++ r → 0 < length s → (head_span ts).start ≡ first s
unfolding head_span
starts_at [] ts r e some = elim some [ ]
starts_at (t ∷ s) ts r e some = ap (λ (u : List Token). (head_span u).start) e

pub length_some : {e : Expr} {s : List Token} → SpellsLength e s → 0 < length s
length_some (bracketed a b h) = omega arith

pub slot_some : {v : Declarator} {s : List Token} → SpellsSlot v s → 0 < length s
slot_some (slot n h) = omega arith

pub var_some : {v : Declarator} {s : List Token} → SpellsVar v s → 0 < length s
var_some (no_init h) = slot_some h
var_some (with_init {s = s} {t = t} a h i) = nonempty_append s _ t

pub field_some : {x : Declare} {s : List Token} → SpellsField x s → 0 < length s
field_some (field {s = s} {t = t} a b h) = omega (arith, base_some b, length-append s t, length-append (s ++ t) (mark marks.Semicolon a ∷ []))

pub decl_some : {x : Declare} {s : List Token} → SpellsDecl x s → 0 < length s
decl_some (decl {s = s} {t = t} a b h) = omega (arith, base_some b, length-append s t, length-append (s ++ t) (mark marks.Semicolon a ∷ []))

pub param_some : {x : Param} {s : List Token} → SpellsParam x s → 0 < length s
param_some (param {s = s} {t = t} {u = u} b n h) = omega (arith, base_some b, length-append s t, length-append (s ++ t) u)

-- the place from a list's first token to its last
pub span_from : (i j : ℕ) (ts : List Token) → i ≡ first ts → j ≡ last ts → from_to i j ≡ runs ts
span_from i j ts hi hj = λ k. from_to (hi k) (hj k)
