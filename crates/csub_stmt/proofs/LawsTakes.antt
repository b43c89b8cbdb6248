-- What was read: the tokens that were taken, which spell it, within a depth.
use Rattle.std.proofs.Common.{◌≡◌, ℕ, ◌<◌, ◌≤◌, List, ◌∷◌, ◌++◌, length, Ok, Err, sym, ap, subst, ◌∙◌, arith, append_assoc, length-append, inl, inr}
use Rattle.csub_text.specs.declared.span.Span.{Span}
use Rattle.csub_lex.specs.declared.token.Key.{Key}
use Rattle.csub_lex.specs.declared.token.Token.{Token}
use Rattle.csub_tree.specs.Tokens.{key}
use Rattle.csub_expr.specs.Looks.{begins_key, rest, head_span}
use Rattle.csub_expr.specs.Answers.{Answer, done}
use Rattle.csub_expr.proofs.LawsAnswers.{ok_value, ok_rest, chosen}
use Rattle.csub_expr.proofs.LawsTokens.{begins_key_is}
use Rattle.csub_stmt.specs.StatementDescent.{expect_key}

pub record Took (A : Type 0) (R : A → List Token → Type 0) (deep : A → ℕ) (d : ℕ) (ts : List Token) (x : A) (r : List Token) : Type 0 where
  pub s : List Token
  pub parts : ts ≡ s ++ r
  pub spelled : R x s
  pub fits : deep x ≤ d

abbrev pub Sound : (A : Type 0) → (A → List Token → Type 0) → (A → ℕ) → ℕ → (List Token → Answer A) → Type 0
Sound A R deep d p = (ts : List Token) (x : A) (r : List Token) → p ts ≡ Ok (x, r) → Took A R deep d ts x r

abbrev pub Shorter : (A : Type 0) → (List Token → Answer A) → Type 0
Shorter A p = (ts : List Token) (x : A) (r : List Token) → p ts ≡ Ok (x, r) → length r < length ts

-- the same at the parts of what was answered, and from another list
pub took_done : (A : Type 0) (R : A → List Token → Type 0) (deep : A → ℕ) (d : ℕ) (ts : List Token) (e x : A) (r y : List Token) → Took A R deep d ts x y → done x y ≡ done e r → Took A R deep d ts e r
took_done A R deep d ts e x r y h eq = subst (λ (v : A). Took A R deep d ts v r) (ok_value x e y r eq) (subst (λ (v : List Token). Took A R deep d ts x v) (ok_rest x e y r eq) h)

pub took_at : (A : Type 0) (R : A → List Token → Type 0) (deep : A → ℕ) (d : ℕ) (ts us : List Token) (x : A) (r : List Token) → ts ≡ us → Took A R deep d us x r → Took A R deep d ts x r
took_at A R deep d ts us x r eq h = subst (λ (v : List Token). Took A R deep d v x r) (sym eq) h

pub took_as : (A : Type 0) (R : A → List Token → Type 0) (deep : A → ℕ) (d : ℕ) (ts : List Token) (e x : A) (r : List Token) → x ≡ e → Took A R deep d ts e r → Took A R deep d ts x r
took_as A R deep d ts e x r eq h = subst (λ (v : A). Took A R deep d ts v r) (sym eq) h

pub took_rest : (A : Type 0) (R : A → List Token → Type 0) (deep : A → ℕ) (d : ℕ) (ts : List Token) (x : A) (r u : List Token) → r ≡ u → Took A R deep d ts x r → Took A R deep d ts x u
took_rest A R deep d ts x r u eq h = subst (λ (v : List Token). Took A R deep d ts x v) eq h

-- where something is always taken, fewer tokens are left
pub took_shorter : (A : Type 0) (R : A → List Token → Type 0) (deep : A → ℕ) (d : ℕ) (p : List Token → Answer A) → Sound A R deep d p → ((x : A) (s : List Token) → R x s → 0 < length s) → Shorter A p
took_shorter A R deep d p sound some ts x r h = let t = sound ts x r h in omega (arith, ap length t.parts, length-append t.s r, some x t.s t.spelled)

-- cuts of lists: two parts, a part and a token and a part, a token and a part
pub cut_two : (s t ts u r : List Token) → ts ≡ s ++ u → u ≡ t ++ r → ts ≡ (s ++ t) ++ r
cut_two s t ts u r p q = p ∙ ap (λ (x : List Token). s ++ x) q ∙ sym (append_assoc s t r)

pub cut_at : (s t : List Token) (c : Token) (ts u r : List Token) → ts ≡ s ++ c ∷ u → u ≡ t ++ r → ts ≡ (s ++ c ∷ t) ++ r
cut_at s t c ts u r p q = p ∙ ap (λ (x : List Token). s ++ c ∷ x) q ∙ sym (append_assoc s (c ∷ t) r)

pub cut_first : (t : List Token) (c : Token) (ts u r : List Token) → ts ≡ c ∷ u → u ≡ t ++ r → ts ≡ (c ∷ t) ++ r
cut_first t c ts u r p q = p ∙ ap (λ (x : List Token). c ∷ x) q

pub expect_key_is : (k : Key) (ts : List Token) (sp : Span) (r : List Token) → expect_key k ts ≡ Ok (sp, r) → ts ≡ key k sp ∷ r
unfolding expect_key
expect_key_is k ts sp r e = elim (chosen (begins_key k ts) (done (head_span ts) (rest ts)) (Err (length ts)) (done sp r) e) [
  | inl h ↦ begins_key_is k ts h.0 ∙ (λ i. key k (ok_value (head_span ts) sp (rest ts) r h.1 i) ∷ ok_rest (head_span ts) sp (rest ts) r h.1 i)
  | inr h ↦ absurd (cc h.1)
]
