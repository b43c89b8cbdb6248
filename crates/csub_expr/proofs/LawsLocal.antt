-- A reading depends on the tokens that it took, and on the one after them.
use Rattle.std.proofs.Common.{◌≡◌, ℕ, suc, ◌+◌, ◌<◌, List, [], ◌∷◌, ◌++◌, length, Option, Some, None, Ok, Err, Bool, true, false, cond, refl, sym, ap, subst, ◌∙◌, arith, append_assoc, length-append, inl, inr, ◌⊎◌}
use Rattle.csub_text.specs.declared.span.Span.{Span}
use Rattle.csub_lex.specs.declared.token.Key.{Key}
use Rattle.csub_lex.specs.declared.token.Mark.{Mark}
use Rattle.csub_lex.specs.declared.token.TokenKind.{TokenKind}
use Rattle.csub_lex.specs.declared.token.TokenKind.TheVariants as kinds
use Rattle.csub_lex.specs.declared.token.Token.{Token}
use Rattle.csub_tree.specs.declared.name.Name.{Name}
use Rattle.csub_expr.specs.Looks.{begins, begins_key, rest, head_span, same_mark, same_key, of_mark, of_key, begins_number, is_number_key}
use Rattle.csub_expr.specs.Answers.{Answer, ◌>>=◌, done, refuse, expect, expect_name, name_of}
use Rattle.csub_expr.specs.Laws.{head}
use Rattle.csub_expr.proofs.LawsAnswers.{bind_ok}

-- two lists that begin alike have the same first token where what follows has
head_append : (s r q : List Token) → head r ≡ head q → head (s ++ r) ≡ head (s ++ q)
head_append [] r q e = e
head_append (t ∷ s) r q e = refl

-- what was read is read from every list that goes on with the same token; what was refused is refused in every such list
pub record Local (A : Type 0) (p : List Token → Answer A) : Type 0 where
  pub reads : (ts : List Token) (x : A) (r : List Token) → p ts ≡ Ok (x, r) → (s : List Token) × (ts ≡ s ++ r) × ((q : List Token) → head q ≡ head r → p (s ++ q) ≡ Ok (x, q))
  pub refuses : (ts : List Token) (n : ℕ) → p ts ≡ Err n → (s : List Token) × (r : List Token) × (ts ≡ s ++ r) × (n ≡ length r) × ((q : List Token) → head q ≡ head r → p (s ++ q) ≡ Err (length q))

-- a question whose answer depends on the first token alone
abbrev pub SameAtHead : (B : Type 0) → (List Token → B) → Type 0
SameAtHead B g = (ts us : List Token) → head ts ≡ head us → g ts ≡ g us

-- where two steps are refused, the first is, or it is answered and the second refused
bind_err : {A B : Type 0} (r : Answer A) (f : A × List Token → Answer B) (n : ℕ) → (r >>= f) ≡ Err n → (r ≡ Err n) ⊎ ((x : A × List Token) × (r ≡ Ok x) × (f x ≡ Err n))
bind_err (Ok x) f n e = inr (x, refl, e)
bind_err (Err m) f n e = let same : m ≡ n = cc in inl (ap (λ k. Err k) same)

-- two steps are local where both are
pub local_bind : (A B : Type 0) (p : List Token → Answer A) (q : A → List Token → Answer B) → Local A p → ((x : A) → Local B (q x)) → Local B (λ ts. p ts >>= λ x. q x.0 x.1)
local_bind A B p q hp hq = record {
  reads = λ ts x r e.
      let b = bind_ok (p ts) (λ x. q x.0 x.1) (x, r) e in
      let one = hp.reads ts b.0.0 b.0.1 b.1 in
      let two = (hq b.0.0).reads b.0.1 x r b.2 in (
        one.0 ++ two.0,
        one.1 ∙ ap (λ (u : List Token). one.0 ++ u) two.1 ∙ sym (append_assoc one.0 two.0 r),
        λ z same.
            rw (append_assoc one.0 two.0 z, one.2 (two.0 ++ z) (head_append two.0 z r same ∙ ap head (sym two.1))) (two.2 z same),
      );
  refuses = λ ts n e. elim (bind_err (p ts) (λ x. q x.0 x.1) n e) [
    | inl h ↦
        let one = hp.refuses ts n h in
        (one.0, one.1, one.2, one.3, λ z same. rw (one.4 z same) refl)
    | inr b ↦
        let one = hp.reads ts b.0.0 b.0.1 b.1 in
        let two = (hq b.0.0).refuses b.0.1 n b.2 in (
          one.0 ++ two.0,
          two.1,
          one.1 ∙ ap (λ (u : List Token). one.0 ++ u) two.2 ∙ sym (append_assoc one.0 two.0 two.1),
          two.3,
          λ z same.
              rw (append_assoc one.0 two.0 z, one.2 (two.0 ++ z) (head_append two.0 z two.1 same ∙ ap head (sym two.2))) (two.4 z same),
        )
  ];
}

value_of : {A : Type 0} → A → Answer A → A
value_of d (Ok x) = x.0
value_of d (Err n) = d

rest_of : {A : Type 0} → Answer A → List Token
rest_of (Ok x) = x.1
rest_of (Err n) = []

left_of : {A : Type 0} → Answer A → ℕ
left_of (Ok x) = 0
left_of (Err n) = n

-- an answer without a look is local
pub local_done : (A : Type 0) (x : A) → Local A (done x)
unfolding value_of rest_of
local_done A x = record {
  reads = λ ts y r e. ([], ap rest_of e, λ z same. ap (λ (v : A). done v z) (ap (value_of x) e));
  refuses = λ ts n e. absurd cc;
}

-- so is a refusal
pub local_refuse : (A : Type 0) → Local A refuse
unfolding left_of
local_refuse A = record {
  reads = λ ts y r e. absurd cc;
  refuses = λ ts n e. ([], ts, refl, sym (ap left_of e), λ z same. refl);
}

nil_append : (s r : List Token) → [] ≡ s ++ r → r ≡ []
nil_append [] r e = sym e
nil_append (t ∷ s) r e = absurd cc

-- and a local reading behind the first token
pub local_rest : (A : Type 0) (p : List Token → Answer A) → Local A p → Local A (λ ts. p (rest ts))
unfolding rest
local_rest A p h = record { reads = go; refuses = no_go }
  where
    empty : (q : List Token) → head q ≡ head [] → q ≡ []
    empty [] e = refl
    empty (t ∷ q) e = absurd cc

    go : (ts : List Token) (x : A) (r : List Token) → p (rest ts) ≡ Ok (x, r) → (s : List Token) × (ts ≡ s ++ r) × ((q : List Token) → head q ≡ head r → p (rest (s ++ q)) ≡ Ok (x, q))
    go [] x r e =
        let a = h.reads [] x r e in
        let none = nil_append a.0 r a.1 in
        ([], sym none, λ q same. let q_none : q ≡ [] = empty q (same ∙ ap head none) in rw q_none (subst (λ (v : List Token). p [] ≡ Ok (x, v)) none e))
    go (t ∷ ts) x r e = let a = h.reads ts x r e in (t ∷ a.0, ap (λ (u : List Token). t ∷ u) a.1, a.2)

    no_go : (ts : List Token) (n : ℕ) → p (rest ts) ≡ Err n → (s : List Token) × (r : List Token) × (ts ≡ s ++ r) × (n ≡ length r) × ((q : List Token) → head q ≡ head r → p (rest (s ++ q)) ≡ Err (length q))
    no_go [] n e =
        let a = h.refuses [] n e in
        let none = nil_append a.0 a.1 a.2 in
        ([], [], refl, a.3 ∙ ap length none, λ q same. let q_none : q ≡ [] = empty q same in rw q_none (e ∙ ap (λ k. Err k) (a.3 ∙ ap length none)))
    no_go (t ∷ ts) n e = let a = h.refuses ts n e in (t ∷ a.0, a.1, ap (λ (u : List Token). t ∷ u) a.2, a.3, a.4)

-- a reading that depends on a question about the first token
pub local_at : (A B : Type 0) (g : List Token → B) → SameAtHead B g → (p : B → List Token → Answer A) → ((b : B) → Local A (p b)) → Local A (λ ts. p (g ts) ts)
local_at A B g same_g p h = record {
  reads = λ ts x r e.
      let a = (h (g ts)).reads ts x r e in
      (a.0, a.1, λ z same. ap (λ (b : B). p b (a.0 ++ z)) (same_g (a.0 ++ z) ts (head_append a.0 z r same ∙ ap head (sym a.1))) ∙ a.2 z same);
  refuses = λ ts n e.
      let a = (h (g ts)).refuses ts n e in
      (a.0, a.1, a.2, a.3, λ z same. ap (λ (b : B). p b (a.0 ++ z)) (same_g (a.0 ++ z) ts (head_append a.0 z a.1 same ∙ ap head (sym a.2))) ∙ a.4 z same);
}

-- a reading that is one of two
pub local_choice : (A : Type 0) (p q : List Token → Answer A) → Local A p → Local A q → (b : Bool) → Local A (λ ts. cond b (p ts) (q ts))
local_choice A p q hp hq true = hp
local_choice A p q hp hq false = hq

-- a reading that a test of the first token chooses
pub local_if : (A : Type 0) (test : List Token → Bool) → SameAtHead Bool test → (p q : List Token → Answer A) → Local A p → Local A q → Local A (λ ts. cond (test ts) (p ts) (q ts))
local_if A test same p q hp hq = local_at A Bool test same (λ b ts. cond b (p ts) (q ts)) (local_choice A p q hp hq)

-- a reading that equals a local one at each list is local
by_cases : (A : Type 0) (p q : List Token → Answer A) → ((ts : List Token) → q ts ≡ p ts) → Local A p → Local A q
by_cases A p q same h = record {
  reads = λ ts x r e. let a = h.reads ts x r (sym (same ts) ∙ e) in (a.0, a.1, λ z head. same (a.0 ++ z) ∙ a.2 z head);
  refuses = λ ts n e. let a = h.refuses ts n (sym (same ts) ∙ e) in (a.0, a.1, a.2, a.3, λ z head. same (a.0 ++ z) ∙ a.4 z head);
}

-- the token of an equal first token
some_is : (t u : Token) → Some t ≡ Some u → t ≡ u
some_is t u e = cc

-- a question about the first token alone
pub same_by : (B : Type 0) (g : List Token → B) (h : Token → B) → ((t : Token) (ts : List Token) → g (t ∷ ts) ≡ h t) → SameAtHead B g
same_by B g h at [] [] e = refl
same_by B g h at [] (u ∷ us) e = absurd cc
same_by B g h at (t ∷ ts) [] e = absurd cc
same_by B g h at (t ∷ ts) (u ∷ us) e = at t ts ∙ ap h (some_is t u e) ∙ sym (at u us)

-- whether the first token is a mark
pub same_begins : (m : Mark) → SameAtHead Bool (begins m)
unfolding begins
same_begins m = same_by Bool (begins m) (λ t. of_mark false (λ n. same_mark n m) t.kind) (λ t ts. refl)

-- whether it is a keyword
pub same_begins_key : (k : Key) → SameAtHead Bool (begins_key k)
unfolding begins_key
same_begins_key k = same_by Bool (begins_key k) (λ t. of_key false (λ n. same_key n k) t.kind) (λ t ts. refl)

-- whether it begins a number type
pub same_begins_number : SameAtHead Bool begins_number
unfolding begins_number
same_begins_number = same_by Bool begins_number (λ t. of_key false is_number_key t.kind) (λ t ts. refl)

-- its place
pub same_head_span : SameAtHead Span head_span
unfolding head_span
same_head_span = same_by Span head_span (λ t. t.span) (λ t ts. refl)

-- the tokens behind the first, with its place
pub local_token : (A : Type 0) (p : Span → List Token → Answer A) → ((sp : Span) → Local A (p sp)) → Local A (λ ts. p (head_span ts) (rest ts))
local_token A p h = local_at A Span head_span same_head_span (λ sp ts. p sp (rest ts)) (λ sp. local_rest A (p sp) (h sp))

-- a mark that has to come
pub local_expect : (m : Mark) → Local Span (expect m)
unfolding expect
local_expect m = local_if Span (begins m) (same_begins m) (λ ts. done (head_span ts) (rest ts)) refuse (local_token Span (λ sp. done sp) (λ sp. local_done Span sp)) (local_refuse Span)

local_name_of : (k : TokenKind) → Local Name (name_of k)
local_name_of (kinds.Name t) = local_token Name (λ sp. done (record { text = t; span = sp })) (λ sp. local_done Name (record { text = t; span = sp }))
local_name_of (kinds.Mark m) = local_refuse Name
local_name_of (kinds.Key k) = local_refuse Name
local_name_of (kinds.Number n u) = local_refuse Name
local_name_of (kinds.Char b) = local_refuse Name
local_name_of (kinds.Text t) = local_refuse Name

-- a reading by the first token, which refuses the end
pub local_first : (A : Type 0) (p : List Token → Answer A) (q : TokenKind → List Token → Answer A) → p [] ≡ Err 0 → ((t : Token) (ts : List Token) → p (t ∷ ts) ≡ q t.kind (t ∷ ts)) → ((k : TokenKind) → Local A (q k)) → Local A p
local_first A p q none some h = by_cases A (λ ts. by (head ts) ts) p same (local_at A (Option Token) head (λ ts us e. e) by local_by)
  where
    by : Option Token → List Token → Answer A
    by None ts = refuse ts
    by (Some t) ts = q t.kind ts

    local_by : (o : Option Token) → Local A (by o)
    local_by None = local_refuse A
    local_by (Some t) = h t.kind

    same : (ts : List Token) → p ts ≡ by (head ts) ts
    same [] = none
    same (t ∷ ts) = some t ts

-- a name that has to come
pub local_name : Local Name expect_name
unfolding expect_name
local_name = local_first Name expect_name name_of refl (λ t ts. refl) local_name_of

cons_is : (a b : List Token) (t u : Token) → t ∷ a ≡ u ∷ b → a ≡ b
cons_is a b t u e = cc

-- what stands in front of the same rest is the same
cancel : (a b r : List Token) → a ++ r ≡ b ++ r → a ≡ b
cancel [] [] r e = refl
cancel [] (u ∷ b) r e = absurd (omega (arith, ap length e, length-append b r))
cancel (t ∷ a) [] r e = absurd (omega (arith, ap length e, length-append a r))
cancel (t ∷ a) (u ∷ b) r e = let same = cancel a b r (cons_is (a ++ r) (b ++ r) t u e) in let first : t ≡ u = cc in λ i. first i ∷ same i

-- two cuts of one list with rests of one length have the same rest
same_rest_of : (a b r q : List Token) → a ++ r ≡ b ++ q → length r ≡ length q → r ≡ q
same_rest_of [] [] r q e l = e
same_rest_of [] (u ∷ b) r q e l = absurd (omega (arith, ap length e, length-append b q))
same_rest_of (t ∷ a) [] r q e l = absurd (omega (arith, ap length e, length-append a r))
same_rest_of (t ∷ a) (u ∷ b) r q e l = same_rest_of a b r q (cons_is (a ++ r) (b ++ q) t u e) l

-- A reading with fuel that is local at each fuel, and the same at each fuel above the tokens, is local with the fuel that the tokens give.
pub local_fuel : (A : Type 0) (p : ℕ → List Token → Answer A) → ((f : ℕ) → Local A (p f)) → ((f g : ℕ) (ts : List Token) → length ts < f → length ts < g → p f ts ≡ p g ts) → Local A (λ ts. p (suc (length ts)) ts)
local_fuel A p h enough = record {
  reads = λ ts x r e.
      let a = (h (suc (length ts))).reads ts x r e in (
        a.0,
        a.1,
        λ q same.
            let big = suc (length ts + length (a.0 ++ q)) in
            let e' = enough big (suc (length ts)) ts (omega arith) (omega arith) ∙ e in
            let b = (h big).reads ts x r e' in
            let same_front : b.0 ≡ a.0 = cancel b.0 a.0 r (sym b.1 ∙ a.1) in
            enough (suc (length (a.0 ++ q))) big (a.0 ++ q) (omega arith) (omega arith) ∙ subst (λ (u : List Token). p big (u ++ q) ≡ Ok (x, q)) same_front (b.2 q same),
      );
  refuses = λ ts n e.
      let a = (h (suc (length ts))).refuses ts n e in (
        a.0,
        a.1,
        a.2,
        a.3,
        λ q same.
            let big = suc (length ts + length (a.0 ++ q)) in
            let e' = enough big (suc (length ts)) ts (omega arith) (omega arith) ∙ e in
            let b = (h big).refuses ts n e' in
            let same_rest : b.1 ≡ a.1 = same_rest_of b.0 a.0 b.1 a.1 (sym b.2 ∙ a.2) (sym b.3 ∙ a.3) in
            let same_front : b.0 ≡ a.0 = cancel b.0 a.0 a.1 (ap (λ (u : List Token). b.0 ++ u) (sym same_rest) ∙ sym b.2 ∙ a.2) in
            enough (suc (length (a.0 ++ q))) big (a.0 ++ q) (omega arith) (omega arith) ∙ subst (λ (u : List Token). p big (u ++ q) ≡ Err (length q)) same_front (b.4 q (same ∙ ap head (sym same_rest))),
      );
}

-- two steps are the same where the second is, behind each answer of the first
pub bind_same : (A B : Type 0) (r : Answer A) (f g : A × List Token → Answer B) → ((x : A) (u : List Token) → r ≡ Ok (x, u) → f (x, u) ≡ g (x, u)) → (r >>= f) ≡ (r >>= g)
bind_same A B (Ok x) f g h = h x.0 x.1 refl
bind_same A B (Err n) f g h = refl
