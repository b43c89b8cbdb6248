-- The laws of the descent of initialisers: what is read is spelled so, what is spelled so is read, and a reading depends
-- on what it took and on the token after it.
use Rattle.std.proofs.Common.{◌≡◌, ℕ, zero, suc, ◌<◌, ◌≤◌, List, [], ◌∷◌, ◌++◌, length, Ok, Err, true, false, cond, refl, sym, ap, subst, ◌∙◌, arith, append_assoc, length-append, inl, inr}
use Rattle.std.specs.Prelude.{nat_le}
use Rattle.std.proofs.lemmas.Bool.{le-leb}
use Rattle.csub_text.specs.declared.span.Span.{Span}
use Rattle.csub_lex.specs.declared.token.Mark.TheVariants as marks
use Rattle.csub_lex.specs.declared.token.Token.{Token}
use Rattle.csub_tree.specs.Expressions.{Expr}
use Rattle.csub_tree.specs.Declarations.{Init, Inits, One, Listed, NoInits, MoreInits, inits_of}
use Rattle.csub_tree.specs.Depth.{expr_depth, init_depth, inits_depth}
use Rattle.csub_tree.specs.Tokens.{mark, runs}
use Rattle.csub_tree.specs.Lists.{Separated, last_one, before, Trailing, no_comma, comma}
use Rattle.csub_tree.specs.SpellsExpressions.{SpellsExpr, assignment}
use Rattle.csub_tree.specs.SpellsDeclarations.{SpellsInit, SpellsInits, one, listed, last_init, next_init}
use Rattle.csub_expr.specs.Looks.{begins, rest, head_span}
use Rattle.csub_expr.specs.Answers.{Answer, ◌>>=◌, done, refuse, expect}
use Rattle.csub_expr.specs.ListDescent.{separated}
use Rattle.csub_expr.specs.ExprDescent.{read}
use Rattle.csub_expr.specs.InitDescent.{read_init, init_at, listed_at}
use Rattle.csub_expr.proofs.LawsTokens.{last_token}
use Rattle.csub_expr.proofs.LawsAnswers.{bind_ok, ok_value, ok_rest, chosen}
use Rattle.csub_expr.proofs.Taken.{begins_is, expect_is}
use Rattle.csub_expr.proofs.LawsLocal.{Local, local_bind, local_done, local_refuse, local_if, local_choice, local_token, local_expect, same_begins}
use Rattle.csub_expr.proofs.LawsLists.{separated_sound, separated_last, separated_next, separated_trailing, local_separated}
use Rattle.csub_expr.proofs.Spelled.{depth_pos, nonempty, lead, lead_no_mark}
use Rattle.csub_expr.proofs.ExprSound.{sound}
use Rattle.csub_expr.proofs.ExprLocal.{local_read}
use Rattle.csub_expr.specs.Laws.{Ends}
use Rattle.csub_expr.proofs.ExprReads.{Closing, ends_at}
use Rattle.csub_expr.proofs.ExprComplete.{complete}

pub init_nonempty : {i : Init} {s : List Token} → SpellsInit i s → 0 < length s
init_nonempty (one h) = nonempty h
init_nonempty (listed a b h t) = omega arith

-- sound
pub record TookInit (d : ℕ) (ts : List Token) (i : Init) (r : List Token) : Type 0 where
  pub s : List Token
  pub parts : ts ≡ s ++ r
  pub spelled : SpellsInit i s
  pub fits : init_depth i ≤ d

abbrev pub SoundInit : ℕ → (List Token → Answer Init) → Type 0
SoundInit d p = (ts : List Token) (i : Init) (r : List Token) → p ts ≡ Ok (i, r) → TookInit d ts i r

took_init : (d : ℕ) (ts : List Token) (i j : Init) (r q : List Token) → TookInit d ts j q → done j q ≡ done i r → TookInit d ts i r
took_init d ts i j r q h e = subst (λ (v : Init). TookInit d ts v r) (ok_value j i q r e) (subst (λ (v : List Token). TookInit d ts j v) (ok_rest j i q r e) h)

init_from : (d : ℕ) (ts us : List Token) (i : Init) (r : List Token) → ts ≡ us → TookInit d us i r → TookInit d ts i r
init_from d ts us i r e h = subst (λ (v : List Token). TookInit d v i r) (sym e) h

abbrev pub FittedInit : ℕ → Init → List Token → Type 0
FittedInit d i s = (init_depth i ≤ d) × SpellsInit i s

fitted_inits : (d : ℕ) {xs : List Init} {s : List Token} → Separated Init (FittedInit d) xs s → (inits_depth (inits_of xs) ≤ d) × SpellsInits (inits_of xs) s
fitted_inits d (last_one h) = (omega (arith, h.0), last_init h.1)
fitted_inits d (before a h hs) = let t = fitted_inits d hs in (omega (arith, h.0, t.0), next_init a h.1 t.1)

make_listed : (d : ℕ) (a b : Span) (is : Inits) (s t ts r : List Token) → SpellsInits is s → Trailing t → inits_depth is ≤ d → ts ≡ s ++ (t ++ mark marks.CloseBrace b ∷ r)
    → TookInit (suc d) (mark marks.OpenBrace a ∷ ts) (Listed is (record { start = a.start; end = b.end })) r
make_listed d a b is s t ts r h w fits parts =
    let o = mark marks.OpenBrace a in
    let c = mark marks.CloseBrace b in
    let all : List Token = o ∷ (s ++ t ++ c ∷ []) in
    let span : ◌≡◌ {A = Span} (runs all) (record { start = a.start; end = b.end }) = ap (λ (n : ℕ). record { start = a.start; end = n }) (last_token (o ∷ (s ++ t)) c) in
    subst (λ (v : Span). TookInit (suc d) (o ∷ ts) (Listed is v) r) span
    (record { s = all; parts = ap (λ (x : List Token). o ∷ x) (parts ∙ sym (append_assoc (s ++ t) (c ∷ []) r ∙ append_assoc s t (c ∷ r))); spelled = listed a b h w; fits = omega (arith, fits) })

module _ (below : List Token → Answer Init) (d : ℕ) (ih : SoundInit d below) where
  init_item : (ts : List Token) (x : Init) (r : List Token) → below ts ≡ Ok (x, r) → (s : List Token) × (ts ≡ s ++ r) × FittedInit d x s
  init_item ts x r h = let t = ih ts x r h in (t.s, t.parts, (t.fits, t.spelled))

  listed_sound : (a : Span) (ts : List Token) (i : Init) (r : List Token) → listed_at below d a.start ts ≡ Ok (i, r) → TookInit (suc d) (mark marks.OpenBrace a ∷ ts) i r
  unfolding listed_at
  listed_sound a ts i r h =
      let all = bind_ok (separated below (begins marks.CloseBrace) (suc (length ts)) ts) (λ all. expect marks.CloseBrace all.1 >>= λ close. done (Listed (inits_of all.0) (record { start = a.start; end = close.0.end })) close.1) (i, r) h in
      let c = bind_ok (expect marks.CloseBrace all.0.1) (λ close. done (Listed (inits_of all.0.0) (record { start = a.start; end = close.0.end })) close.1) (i, r) all.2 in
      let t = separated_sound below (begins marks.CloseBrace) (FittedInit d) init_item (suc (length ts)) ts all.0.0 all.0.1 all.1 in
      let f = fitted_inits d t.spelled in
      let parts : ts ≡ t.s ++ (t.u ++ mark marks.CloseBrace c.0.0 ∷ c.0.1) = t.parts ∙ ap (λ (u : List Token). t.s ++ (t.u ++ u)) (expect_is marks.CloseBrace all.0.1 c.0.0 c.0.1 c.1) in
      took_init (suc d) (mark marks.OpenBrace a ∷ ts) i (Listed (inits_of all.0.0) (record { start = a.start; end = c.0.0.end })) r c.0.1 (make_listed d a c.0.0 (inits_of all.0.0) t.s t.u ts c.0.1 f.1 t.trail f.0 parts) c.2

  init_at_sound : SoundInit (suc d) (init_at below d)
  unfolding init_at
  init_at_sound ts i r h = elim (chosen (begins marks.OpenBrace ts) (cond (nat_le 2 d) (listed_at below d (head_span ts).start (rest ts)) (Err (length ts))) (read d assignment ts >>= λ e. done (One e.0) e.1) (Ok (i, r)) h) [
    | inl p ↦ elim (chosen (nat_le 2 d) (listed_at below d (head_span ts).start (rest ts)) (Err (length ts)) (Ok (i, r)) p.1) [
      | inl q ↦ init_from (suc d) ts (mark marks.OpenBrace (head_span ts) ∷ rest ts) i r (begins_is marks.OpenBrace ts p.0) (listed_sound (head_span ts) (rest ts) i r q.1)
      | inr q ↦ absurd (cc q.1)
    ]
    | inr p ↦
        let e = bind_ok (read d assignment ts) (λ e. done (One e.0) e.1) (i, r) p.1 in
        let t = sound d assignment ts e.0.0 e.0.1 e.1 in
        took_init (suc d) ts i (One e.0.0) r e.0.1 (record { s = t.s; parts = t.parts; spelled = one t.spelled; fits = omega (arith, t.fits) }) e.2
  ]

pub sound_init : (d : ℕ) → SoundInit d (read_init d)
unfolding read_init
sound_init zero ts i r h = absurd cc
sound_init (suc d) ts i r h = init_at_sound (read_init d) d (sound_init d) ts i r h

pub shorter_init : (d : ℕ) (ts : List Token) (i : Init) (r : List Token) → read_init d ts ≡ Ok (i, r) → length r < length ts
shorter_init d ts i r h = let t = sound_init d ts i r h in omega (arith, ap length t.parts, length-append t.s r, init_nonempty t.spelled)

-- local
module _ (below : List Token → Answer Init) (d : ℕ) (l_below : Local Init below) (shorter : (ts : List Token) (i : Init) (r : List Token) → below ts ≡ Ok (i, r) → length r < length ts) where
  local_listed : (start : ℕ) → Local Init (listed_at below d start)
  unfolding listed_at
  local_listed start = local_bind (List Init) Init (λ ts. separated below (begins marks.CloseBrace) (suc (length ts)) ts) (λ all us. expect marks.CloseBrace us >>= λ c. done (Listed (inits_of all) (record { start = start; end = c.0.end })) c.1) (local_separated below (begins marks.CloseBrace) shorter l_below (same_begins marks.CloseBrace))
      (λ all. local_bind Span Init (expect marks.CloseBrace) (λ c. done (Listed (inits_of all) (record { start = start; end = c.end }))) (local_expect marks.CloseBrace) (λ c. local_done Init (Listed (inits_of all) (record { start = start; end = c.end }))))

  local_init_at : Local Init (init_at below d)
  unfolding init_at
  local_init_at = local_if Init (begins marks.OpenBrace) (same_begins marks.OpenBrace) (λ ts. cond (nat_le 2 d) (listed_at below d (head_span ts).start (rest ts)) (Err (length ts))) (λ ts. read d assignment ts >>= λ e. done (One e.0) e.1)
      (local_choice Init (λ ts. listed_at below d (head_span ts).start (rest ts)) refuse (local_token Init (λ sp. listed_at below d sp.start) (λ sp. local_listed sp.start)) (local_refuse Init) (nat_le 2 d))
      (local_bind Expr Init (read d assignment) (λ e. done (One e)) (local_read d assignment) (λ e. local_done Init (One e)))

pub local_init : (d : ℕ) → Local Init (read_init d)
unfolding read_init
local_init zero = local_refuse Init
local_init (suc d) = local_init_at (read_init d) d (local_init d) (shorter_init d)

-- complete
abbrev pub ReadsInit : Init → List Token → Type 0
ReadsInit i s = (d : ℕ) → init_depth i ≤ d → (r : List Token) → Ends assignment r → read_init d (s ++ r) ≡ Ok (i, r)

abbrev pub list_of_inits : Inits → List Init
list_of_inits NoInits = []
list_of_inits (MoreInits i is) = i ∷ list_of_inits is

inits_again : (is : Inits) → inits_of (list_of_inits is) ≡ is
inits_again NoInits = refl
inits_again (MoreInits i is) = ap (λ (t : Inits). MoreInits i t) (inits_again is)

-- a list is read up to what is no comma, or with a comma more up to the closing brace
record ReadsInits (is : Inits) (s : List Token) : Type 0 where
  plainly : (d : ℕ) → inits_depth is ≤ d → (f : ℕ) → length s < f → (r : List Token) → Ends assignment r → begins marks.Comma r ≡ false → separated (read_init d) (begins marks.CloseBrace) f (s ++ r) ≡ Ok (list_of_inits is, r)
  trailing : (d : ℕ) → inits_depth is ≤ d → (f : ℕ) → length s < f → (a : Span) (r : List Token) → begins marks.CloseBrace r ≡ true → separated (read_init d) (begins marks.CloseBrace) f (s ++ (mark marks.Comma a ∷ r)) ≡ Ok (list_of_inits is, r)

init_opens : {i : Init} {s : List Token} → SpellsInit i s → (r : List Token) → begins marks.CloseBrace (s ++ r) ≡ false
unfolding begins
init_opens (one h) r = lead_no_mark (lead h r) marks.CloseBrace refl refl
init_opens (listed a b h t) r = refl

inits_open : {is : Inits} {s : List Token} → SpellsInits is s → (r : List Token) → begins marks.CloseBrace (s ++ r) ≡ false
inits_open (last_init h) r = init_opens h r
inits_open (next_init {t = t} a h hs) r = rw append_assoc (init_opens h (mark marks.Comma a ∷ t ++ r))

-- an initialiser is at least two deep: itself and an expression
mutual
  init_deep : {i : Init} {s : List Token} → SpellsInit i s → 2 ≤ init_depth i
  init_deep (one {e = e} h) = omega (arith, depth_pos e)
  init_deep (listed a b h t) = omega (arith, inits_deep h)

  inits_deep : {is : Inits} {s : List Token} → SpellsInits is s → 2 ≤ inits_depth is
  inits_deep (last_init h) = omega (arith, init_deep h)
  inits_deep (next_init a h hs) = omega (arith, init_deep h)

reads_one : (e : Expr) (s : List Token) → SpellsExpr assignment e s → ReadsInit (One e) s
unfolding read_init init_at
reads_one e s h zero fits r ends = absurd (omega arith)
reads_one e s h (suc d) fits r ends =
    let fits_e : expr_depth e ≤ d = omega arith in
    rw (lead_no_mark (lead h r) marks.OpenBrace refl refl, complete h d fits_e r ends) refl

one_list : (below : List Token → Answer Init) (d : ℕ) (a : Span) (ts : List Token) → 2 ≤ d → init_at below d (mark marks.OpenBrace a ∷ ts) ≡ listed_at below d a.start ts
unfolding init_at begins rest head_span
one_list below d a ts some = rw (le-leb 2 d some) refl

brace_closes : Closing marks.CloseBrace
brace_closes = record { no_operator = refl; no_tail = refl; no_assignment = refl; no_open = refl; no_question = refl }

comma_closes : Closing marks.Comma
comma_closes = record { no_operator = refl; no_tail = refl; no_assignment = refl; no_open = refl; no_question = refl }

list_span : (a b : Span) (s : List Token) → ◌≡◌ {A = Span} (record { start = a.start; end = b.end }) (runs (mark marks.OpenBrace a ∷ (s ++ mark marks.CloseBrace b ∷ [])))
list_span a b s = ap (λ (n : ℕ). record { start = a.start; end = n }) (sym (last_token (mark marks.OpenBrace a ∷ s) (mark marks.CloseBrace b)))

reads_listed : (is : Inits) (s t : List Token) (a b : Span) → 2 ≤ inits_depth is → ReadsInits is s → Trailing t
    → ReadsInit (Listed is (runs (mark marks.OpenBrace a ∷ (s ++ t ++ mark marks.CloseBrace b ∷ [])))) (mark marks.OpenBrace a ∷ (s ++ t ++ mark marks.CloseBrace b ∷ []))
unfolding read_init listed_at expect begins rest head_span
reads_listed is s t a b deep h w zero fits r ends = absurd (omega arith)
reads_listed is s t a b deep h no_comma (suc d) fits r ends =
    let c = mark marks.CloseBrace b in
    let fits_is : inits_depth is ≤ d = omega arith in
    let shape : (s ++ [] ++ c ∷ []) ++ r ≡ s ++ (c ∷ r) = append_assoc (s ++ []) (c ∷ []) r ∙ append_assoc s [] (c ∷ r) in
    let all = h.plainly d fits_is (suc (length (s ++ (c ∷ r)))) (omega (arith, length-append s (c ∷ r))) (c ∷ r) (ends_at marks.CloseBrace brace_closes b r) refl in
    rw (shape, one_list (read_init d) d a (s ++ (c ∷ r)) (omega (arith, deep)), all, inits_again is, list_span a b (s ++ [])) refl
reads_listed is s t a b deep h (comma e) (suc d) fits r ends =
    let c = mark marks.CloseBrace b in
    let m = mark marks.Comma e in
    let fits_is : inits_depth is ≤ d = omega arith in
    let shape : (s ++ (m ∷ []) ++ c ∷ []) ++ r ≡ s ++ (m ∷ c ∷ r) = append_assoc (s ++ (m ∷ [])) (c ∷ []) r ∙ append_assoc s (m ∷ []) (c ∷ r) in
    let all = h.trailing d fits_is (suc (length (s ++ (m ∷ c ∷ r)))) (omega (arith, length-append s (m ∷ c ∷ r))) e (c ∷ r) refl in
    rw (shape, one_list (read_init d) d a (s ++ (m ∷ c ∷ r)) (omega (arith, deep)), all, inits_again is, list_span a b (s ++ (m ∷ []))) refl

inits_last : (i : Init) (s : List Token) → ReadsInit i s → ReadsInits (MoreInits i NoInits) s
inits_last i s h = record { plainly = plain; trailing = trail }
  where
    plain : (d : ℕ) → inits_depth (MoreInits i NoInits) ≤ d → (f : ℕ) → length s < f → (r : List Token) → Ends assignment r → begins marks.Comma r ≡ false → separated (read_init d) (begins marks.CloseBrace) f (s ++ r) ≡ Ok (i ∷ [], r)
    plain d fits zero lt r ends none = elim lt [ ]
    plain d fits (suc f) lt r ends none = separated_last (read_init d) (begins marks.CloseBrace) f (s ++ r) i r (h d (omega arith) r ends) none

    trail : (d : ℕ) → inits_depth (MoreInits i NoInits) ≤ d → (f : ℕ) → length s < f → (a : Span) (r : List Token) → begins marks.CloseBrace r ≡ true → separated (read_init d) (begins marks.CloseBrace) f (s ++ (mark marks.Comma a ∷ r)) ≡ Ok (i ∷ [], r)
    trail d fits zero lt a r ends = elim lt [ ]
    trail d fits (suc f) lt a r ends = separated_trailing (read_init d) (begins marks.CloseBrace) f (s ++ (mark marks.Comma a ∷ r)) i a r (h d (omega arith) (mark marks.Comma a ∷ r) (ends_at marks.Comma comma_closes a r)) ends

inits_next : (i : Init) (is : Inits) (s t : List Token) (a : Span) → ReadsInit i s → ((r : List Token) → begins marks.CloseBrace (t ++ r) ≡ false) → ReadsInits is t → ReadsInits (MoreInits i is) (s ++ mark marks.Comma a ∷ t)
inits_next i is s t a h opens hs = record { plainly = plain; trailing = trail }
  where
    c : Token
    c = mark marks.Comma a

    plain : (d : ℕ) → inits_depth (MoreInits i is) ≤ d → (f : ℕ) → length (s ++ mark marks.Comma a ∷ t) < f → (r : List Token) → Ends assignment r → begins marks.Comma r ≡ false → separated (read_init d) (begins marks.CloseBrace) f ((s ++ mark marks.Comma a ∷ t) ++ r) ≡ Ok (i ∷ list_of_inits is, r)
    plain d fits zero lt r ends none = elim lt [ ]
    plain d fits (suc f) lt r ends none =
        let shape : (s ++ mark marks.Comma a ∷ t) ++ r ≡ s ++ (mark marks.Comma a ∷ (t ++ r)) = append_assoc s (mark marks.Comma a ∷ t) r in
        rw shape (separated_next (read_init d) (begins marks.CloseBrace) f (s ++ (mark marks.Comma a ∷ (t ++ r))) i a (t ++ r) (list_of_inits is) r (h d (omega arith) (mark marks.Comma a ∷ (t ++ r)) (ends_at marks.Comma comma_closes a (t ++ r))) (opens r) (hs.plainly d (omega arith) f (omega (arith, length-append s (mark marks.Comma a ∷ t))) r ends none))

    trail : (d : ℕ) → inits_depth (MoreInits i is) ≤ d → (f : ℕ) → length (s ++ mark marks.Comma a ∷ t) < f → (b : Span) (r : List Token) → begins marks.CloseBrace r ≡ true → separated (read_init d) (begins marks.CloseBrace) f ((s ++ mark marks.Comma a ∷ t) ++ (mark marks.Comma b ∷ r)) ≡ Ok (i ∷ list_of_inits is, r)
    trail d fits zero lt b r ends = elim lt [ ]
    trail d fits (suc f) lt b r ends =
        let q : List Token = mark marks.Comma b ∷ r in
        let shape : (s ++ mark marks.Comma a ∷ t) ++ q ≡ s ++ (mark marks.Comma a ∷ (t ++ q)) = append_assoc s (mark marks.Comma a ∷ t) q in
        rw shape (separated_next (read_init d) (begins marks.CloseBrace) f (s ++ (mark marks.Comma a ∷ (t ++ q))) i a (t ++ q) (list_of_inits is) r (h d (omega arith) (mark marks.Comma a ∷ (t ++ q)) (ends_at marks.Comma comma_closes a (t ++ q))) (opens q) (hs.trailing d (omega arith) f (omega (arith, length-append s (mark marks.Comma a ∷ t))) b r ends))

mutual
  pub complete_init : {i : Init} {s : List Token} → SpellsInit i s → ReadsInit i s
  complete_init (one {e = e} {s = s} h) = reads_one e s h
  complete_init (listed {is = is} {s = s} {t = t} a b h w) = reads_listed is s t a b (inits_deep h) (complete_inits h) w

  complete_inits : {is : Inits} {s : List Token} → SpellsInits is s → ReadsInits is s
  complete_inits (last_init {i = i} {s = s} h) = inits_last i s (complete_init h)
  complete_inits (next_init {i = i} {is = is} {s = s} {t = t} a h hs) = inits_next i is s t a (complete_init h) (inits_open hs) (complete_inits hs)
