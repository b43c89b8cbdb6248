-- The tokens that an answered question has looked at.
use Rattle.std.proofs.Common.{◌≡◌, ℕ, List, [], ◌∷◌, ◌++◌, length, Option, Some, None, Ok, Err, Bool, true, false, cond, refl, sym, ap, subst, ◌∙◌, inl, inr}
use Rattle.std.specs.Prelude.{◌==◌}
use Rattle.std.proofs.lemmas.Bool.{eqb-true}
use Rattle.csub_text.specs.declared.span.Span.{Span}
use Rattle.csub_text.specs.declared.operator.BinOp.{BinOp}
use Rattle.csub_text.specs.declared.operator.StepOp.TheVariants as steps
use Rattle.csub_lex.specs.declared.token.Key.{Key}
use Rattle.csub_lex.specs.declared.token.Key.TheVariants as keys
use Rattle.csub_lex.specs.declared.token.Mark.{Mark}
use Rattle.csub_lex.specs.declared.token.Mark.TheVariants as marks
use Rattle.csub_lex.specs.declared.token.TokenKind.{TokenKind}
use Rattle.csub_lex.specs.declared.token.TokenKind.TheVariants as kinds
use Rattle.csub_lex.specs.declared.token.Token.{Token}
use Rattle.csub_tree.specs.declared.name.Name.{Name}
use Rattle.csub_tree.specs.declared.name.TypeName.{TypeName}
use Rattle.csub_tree.specs.declared.name.TypeName.TheVariants as types
use Rattle.csub_tree.specs.Tokens.{mark, key, id}
use Rattle.csub_tree.specs.SpellsExpressions.{Operator, Prefix, operator_of, level_of, assignment_of, prefix_of, postfix_of, SpellsNumber, char, int, unsigned, unsigned_int}
use Rattle.csub_expr.specs.declared.operator.Tail.{Tail}
use Rattle.csub_expr.specs.declared.operator.Tail.TheVariants as tails
use Rattle.csub_expr.specs.Looks.{begins, begins_key, rest, head_span, same_mark, same_key, of_mark, of_key, of_level, op_at, assignment_at, prefix_at, tail_at, tail_of}
use Rattle.csub_expr.specs.Answers.{done, expect, expect_name, name_of}
use Rattle.csub_expr.specs.ExprDescent.{number_at}
use Rattle.csub_expr.proofs.LawsAnswers.{chosen, ok_rest, ok_value}
use Rattle.csub_expr.proofs.SameWords.{same_key_is, same_mark_is}

-- the token that answers a question about marks, or about keywords, is one
by_mark : {A : Type 0} (f : Mark → Option A) (k : TokenKind) (x : A) → of_mark None f k ≡ Some x → (m : Mark) × (k ≡ kinds.Mark m) × (f m ≡ Some x)
by_mark f (kinds.Mark m) x e = (m, refl, e)
by_mark f (kinds.Key k) x e = absurd cc
by_mark f (kinds.Name t) x e = absurd cc
by_mark f (kinds.Number n u) x e = absurd cc
by_mark f (kinds.Char b) x e = absurd cc
by_mark f (kinds.Text t) x e = absurd cc

is_mark : (f : Mark → Bool) (k : TokenKind) → of_mark false f k ≡ true → (m : Mark) × (k ≡ kinds.Mark m) × (f m ≡ true)
is_mark f (kinds.Mark m) e = (m, refl, e)
is_mark f (kinds.Key k) e = absurd cc
is_mark f (kinds.Name t) e = absurd cc
is_mark f (kinds.Number n u) e = absurd cc
is_mark f (kinds.Char b) e = absurd cc
is_mark f (kinds.Text t) e = absurd cc

is_key : (f : Key → Bool) (k : TokenKind) → of_key false f k ≡ true → (m : Key) × (k ≡ kinds.Key m) × (f m ≡ true)
is_key f (kinds.Key m) e = (m, refl, e)
is_key f (kinds.Mark k) e = absurd cc
is_key f (kinds.Name t) e = absurd cc
is_key f (kinds.Number n u) e = absurd cc
is_key f (kinds.Char b) e = absurd cc
is_key f (kinds.Text t) e = absurd cc

at_kind : (t : Token) (k : TokenKind) (ts : List Token) → t.kind ≡ k → t ∷ ts ≡ record { kind = k; span = t.span } ∷ ts
at_kind t k ts e = ap (λ (x : TokenKind). record { kind = x; span = t.span } ∷ ts) e

-- what begins with the mark is the mark and the rest
pub begins_is : (m : Mark) (ts : List Token) → begins m ts ≡ true → ts ≡ mark m (head_span ts) ∷ rest ts
unfolding begins head_span rest
begins_is m [] e = absurd cc
begins_is m (t ∷ ts) e = let h = is_mark (λ n. same_mark n m) t.kind e in at_kind t (kinds.Mark m) ts (h.1 ∙ ap (λ n. kinds.Mark n) (same_mark_is h.0 m h.2))

pub begins_key_is : (k : Key) (ts : List Token) → begins_key k ts ≡ true → ts ≡ key k (head_span ts) ∷ rest ts
unfolding begins_key head_span rest
begins_key_is k [] e = absurd cc
begins_key_is k (t ∷ ts) e = let h = is_key (λ l. same_key l k) t.kind e in at_kind t (kinds.Key k) ts (h.1 ∙ ap (λ n. kinds.Key n) (same_key_is h.0 k h.2))

pub expect_is : (m : Mark) (ts : List Token) (sp : Span) (r : List Token) → expect m ts ≡ Ok (sp, r) → ts ≡ mark m sp ∷ r
unfolding expect
expect_is m ts sp r e = elim (chosen (begins m ts) (done (head_span ts) (rest ts)) (Err (length ts)) (done sp r) e) [
  | inl h ↦ begins_is m ts h.0 ∙ (λ i. mark m (ok_value (head_span ts) sp (rest ts) r h.1 i) ∷ ok_rest (head_span ts) sp (rest ts) r h.1 i)
  | inr h ↦ absurd (cc h.1)
]

name_is : (k : TokenKind) (ts : List Token) (n : Name) (r : List Token) → name_of k ts ≡ Ok (n, r) → (k ≡ kinds.Name n.text) × (head_span ts ≡ n.span) × (rest ts ≡ r)
name_is (kinds.Name t) ts n r e =
    let same = ok_value (record { text = t; span = head_span ts }) n (rest ts) r e in
    (ap (λ (x : Name). kinds.Name x.text) same, ap (λ (x : Name). x.span) same, ok_rest (record { text = t; span = head_span ts }) n (rest ts) r e)
name_is (kinds.Mark m) ts n r e = absurd cc
name_is (kinds.Key m) ts n r e = absurd cc
name_is (kinds.Number m u) ts n r e = absurd cc
name_is (kinds.Char m) ts n r e = absurd cc
name_is (kinds.Text m) ts n r e = absurd cc

pub expect_name_is : (ts : List Token) (n : Name) (r : List Token) → expect_name ts ≡ Ok (n, r) → ts ≡ id n ∷ r
unfolding expect_name head_span rest
expect_name_is [] n r e = absurd cc
expect_name_is (t ∷ ts) n r e = let h = name_is t.kind (t ∷ ts) n r e in λ i. record { kind = h.0 i; span = h.1 i } ∷ h.2 i

of_level_some : (k : ℕ) (p : Option Operator) (o : Operator) → of_level k p ≡ Some o → (p ≡ Some o) × (level_of o ≡ k)
of_level_some k None o e = absurd cc
of_level_some k (Some p) o e = elim (chosen (level_of p == k) (Some p) None (Some o) e) [
  | inl h ↦ (h.1, let same : p ≡ o = cc h.1 in ap level_of (sym same) ∙ eqb-true (level_of p) k h.0)
  | inr h ↦ absurd (cc h.1)
]

op_kind : (k : ℕ) (t : TokenKind) (o : Operator) → of_level k (of_mark None operator_of t) ≡ Some o → (m : Mark) × (t ≡ kinds.Mark m) × (operator_of m ≡ Some o) × (level_of o ≡ k)
op_kind k t o e = let a = of_level_some k (of_mark None operator_of t) o e in let h = by_mark operator_of t o a.0 in (h.0, h.1, h.2, a.1)

-- an operator that comes is the first token's mark
pub op_is : (k : ℕ) (ts : List Token) (o : Operator) → op_at k ts ≡ Some o → (m : Mark) × (ts ≡ mark m (head_span ts) ∷ rest ts) × (operator_of m ≡ Some o) × (level_of o ≡ k)
unfolding op_at head_span rest
op_is k [] o e = absurd cc
op_is k (t ∷ ts) o e = let h = op_kind k t.kind o e in (h.0, at_kind t (kinds.Mark h.0) ts h.1, h.2, h.3)

pub assignment_is : (ts : List Token) (o : Option BinOp) → assignment_at ts ≡ Some o → (m : Mark) × (ts ≡ mark m (head_span ts) ∷ rest ts) × (assignment_of m ≡ Some o)
unfolding assignment_at head_span rest
assignment_is [] o e = absurd cc
assignment_is (t ∷ ts) o e = let h = by_mark assignment_of t.kind o e in (h.0, at_kind t (kinds.Mark h.0) ts h.1, h.2)

pub prefix_is : (ts : List Token) (o : Prefix) → prefix_at ts ≡ Some o → (m : Mark) × (ts ≡ mark m (head_span ts) ∷ rest ts) × (prefix_of m ≡ Some o)
unfolding prefix_at head_span rest
prefix_is [] o e = absurd cc
prefix_is (t ∷ ts) o e = let h = by_mark prefix_of t.kind o e in (h.0, at_kind t (kinds.Mark h.0) ts h.1, h.2)

pub tail_is : (ts : List Token) (o : Tail) → tail_at ts ≡ Some o → (m : Mark) × (ts ≡ mark m (head_span ts) ∷ rest ts) × (tail_of m ≡ Some o)
unfolding tail_at head_span rest
tail_is [] o e = absurd cc
tail_is (t ∷ ts) o e = let h = by_mark tail_of t.kind o e in (h.0, at_kind t (kinds.Mark h.0) ts h.1, h.2)

-- which marks the tails are
abbrev pub Means : Mark → Tail → Type 0
Means m tails.Index = m ≡ marks.OpenBracket
Means m tails.Member = m ≡ marks.Dot
Means m (tails.Step o) = postfix_of m ≡ Some o

pub tail_means : (m : Mark) (t : Tail) → tail_of m ≡ Some t → Means m t
tail_means marks.OpenBracket t e = let same : tails.Index ≡ t = cc in subst (Means marks.OpenBracket) same refl
tail_means marks.Dot t e = let same : tails.Member ≡ t = cc in subst (Means marks.Dot) same refl
tail_means marks.PlusPlus t e = let same : tails.Step steps.PostUp ≡ t = cc in subst (Means marks.PlusPlus) same refl
tail_means marks.MinusMinus t e = let same : tails.Step steps.PostDown ≡ t = cc in subst (Means marks.MinusMinus) same refl
tail_means _ t e = absurd cc

-- a number type that is read is spelled so
pub record TookNumber (ts : List Token) (n : TypeName) (r : List Token) : Type 0 where
  pub s : List Token
  pub parts : ts ≡ s ++ r
  pub spelled : SpellsNumber n s

took_number : (ts : List Token) (n x : TypeName) (r y : List Token) → TookNumber ts x y → done x y ≡ done n r → TookNumber ts n r
took_number ts n x r y h e = subst (λ (v : TypeName). TookNumber ts v r) (ok_value x n y r e) (subst (λ (v : List Token). TookNumber ts x v) (ok_rest x n y r e) h)

pub number_is : (ts : List Token) (n : TypeName) (r : List Token) → number_at ts ≡ Ok (n, r) → TookNumber ts n r
unfolding number_at
number_is ts n r e = elim (chosen (begins_key keys.Char ts) (done types.Char (rest ts)) (cond (begins_key keys.Int ts) (done types.Int (rest ts)) (cond (begins_key keys.Unsigned ts) (cond (begins_key keys.Int (rest ts)) (done types.Unsigned (rest (rest ts))) (done types.Unsigned (rest ts))) (Err (length ts)))) (done n r) e) [
  | inl p ↦ took_number ts n types.Char r (rest ts) (record { s = key keys.Char (head_span ts) ∷ []; parts = begins_key_is keys.Char ts p.0; spelled = char (head_span ts) }) p.1
  | inr p ↦ elim (chosen (begins_key keys.Int ts) (done types.Int (rest ts)) (cond (begins_key keys.Unsigned ts) (cond (begins_key keys.Int (rest ts)) (done types.Unsigned (rest (rest ts))) (done types.Unsigned (rest ts))) (Err (length ts))) (done n r) p.1) [
    | inl q ↦ took_number ts n types.Int r (rest ts) (record { s = key keys.Int (head_span ts) ∷ []; parts = begins_key_is keys.Int ts q.0; spelled = int (head_span ts) }) q.1
    | inr q ↦ elim (chosen (begins_key keys.Unsigned ts) (cond (begins_key keys.Int (rest ts)) (done types.Unsigned (rest (rest ts))) (done types.Unsigned (rest ts))) (Err (length ts)) (done n r) q.1) [
      | inl w ↦ elim (chosen (begins_key keys.Int (rest ts)) (done types.Unsigned (rest (rest ts))) (done types.Unsigned (rest ts)) (done n r) w.1) [
        | inl v ↦ took_number ts n types.Unsigned r (rest (rest ts)) (record { s = key keys.Unsigned (head_span ts) ∷ key keys.Int (head_span (rest ts)) ∷ []; parts = begins_key_is keys.Unsigned ts w.0 ∙ ap (λ (u : List Token). key keys.Unsigned (head_span ts) ∷ u) (begins_key_is keys.Int (rest ts) v.0); spelled = unsigned_int (head_span ts) (head_span (rest ts)) }) v.1
        | inr v ↦ took_number ts n types.Unsigned r (rest ts) (record { s = key keys.Unsigned (head_span ts) ∷ []; parts = begins_key_is keys.Unsigned ts w.0; spelled = unsigned (head_span ts) }) v.1
      ]
      | inr w ↦ absurd (cc w.1)
    ]
  ]
]
