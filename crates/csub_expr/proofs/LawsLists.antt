-- Lists with commas, by how one piece is read: what is read is spelled so, what is spelled so is read, and a reading depends on
-- what it took and on the token after it.
use Rattle.std.proofs.Common.{◌≡◌, ℕ, zero, suc, ◌-◌, ◌<◌, Err, List, [], ◌∷◌, ◌++◌, length, Ok, Bool, true, false, cond, refl, sym, ap, subst, ◌∙◌, arith, append_assoc, inl, inr, ◌⊎◌}
use Rattle.csub_text.specs.declared.span.Span.{Span}
use Rattle.csub_lex.specs.declared.token.Mark.TheVariants as marks
use Rattle.csub_lex.specs.declared.token.Token.{Token}
use Rattle.csub_tree.specs.Tokens.{mark}
use Rattle.csub_tree.specs.Lists.{Separated, last_one, before, Trailing, no_comma, comma}
use Rattle.csub_expr.specs.Looks.{begins, rest, head_span}
use Rattle.csub_expr.specs.declared.stop.Stop.{Stop}
use Rattle.csub_expr.specs.declared.stop.Stop.TheVariants as stops
use Rattle.csub_expr.specs.Answers.{Answer, ◌>>=◌, Fails, done}
use Rattle.csub_expr.specs.ListDescent.{separated}
use Rattle.csub_expr.proofs.LawsAnswers.{bind_ok, ok_value, ok_rest, chosen}
use Rattle.csub_expr.proofs.LawsTokens.{rest_shorter}
use Rattle.csub_expr.proofs.Taken.{begins_is}
use Rattle.csub_expr.proofs.LawsLocal.{Local, SameAtHead, local_bind, local_done, local_refuse, local_rest, local_if, same_begins, local_fuel, bind_same}

-- what was read is a list, and a comma more only where the list may end with one
pub record TookList (A : Type 0) (R : A → List Token → Type 0) (stop : List Token → Bool) (ts : List Token) (xs : List A) (r : List Token) : Type 0 where
  pub s : List Token
  pub u : List Token
  pub parts : ts ≡ s ++ (u ++ r)
  pub spelled : Separated A R xs s
  pub trail : Trailing u
  pub tail : (u ≡ []) ⊎ (stop r ≡ true)

module _ {A : Type 0} (item : List Token → Answer A) (stop : List Token → Bool) where
  after : ℕ → A → List Token → Answer (List A)
  after f x us = cond (begins marks.Comma us) (cond (stop (rest us)) (done (x ∷ []) (rest us)) (separated item stop f (rest us) >>= λ xs. done (x ∷ xs.0) xs.1)) (done (x ∷ []) us)

  unroll : (f : ℕ) (ts : List Token) → separated item stop (suc f) ts ≡ (item ts >>= λ x. after f x.0 x.1)
  unfolding separated after
  unroll f ts = refl

  -- sound
  module _ (R : A → List Token → Type 0) (sound : (ts : List Token) (x : A) (r : List Token) → item ts ≡ Ok (x, r) → (s : List Token) × (ts ≡ s ++ r) × R x s) where
    took_done : (ts : List Token) (xs ys : List A) (r q : List Token) → TookList A R stop ts ys q → done ys q ≡ done xs r → TookList A R stop ts xs r
    took_done ts xs ys r q h e = subst (λ (v : List A). TookList A R stop ts v r) (ok_value ys xs q r e) (subst (λ (v : List Token). TookList A R stop ts ys v) (ok_rest ys xs q r e) h)

    -- what was read is a list with commas
    pub separated_sound : (f : ℕ) (ts : List Token) (xs : List A) (r : List Token) → separated item stop f ts ≡ Ok (xs, r) → TookList A R stop ts xs r
    unfolding separated after
    separated_sound zero ts xs r e = absurd cc
    separated_sound (suc f) ts xs r e =
        let i = bind_ok (item ts) (λ x. after f x.0 x.1) (xs, r) (sym (unroll f ts) ∙ e) in
        let x = i.0.0 in
        let us = i.0.1 in
        let one = sound ts x us i.1 in
        elim (chosen (begins marks.Comma us) (cond (stop (rest us)) (done (x ∷ []) (rest us)) (separated item stop f (rest us) >>= λ ys. done (x ∷ ys.0) ys.1)) (done (x ∷ []) us) (Ok (xs, r)) i.2) [
          | inl p ↦
              let c = mark marks.Comma (head_span us) in
              elim (chosen (stop (rest us)) (done (x ∷ []) (rest us)) (separated item stop f (rest us) >>= λ ys. done (x ∷ ys.0) ys.1) (Ok (xs, r)) p.1) [
                | inl q ↦ took_done ts xs (x ∷ []) r (rest us) (record {
                  s = one.0;
                  u = c ∷ [];
                  parts = one.1 ∙ ap (λ (v : List Token). one.0 ++ v) (begins_is marks.Comma us p.0);
                  spelled = last_one one.2;
                  trail = comma (head_span us);
                  tail = inr q.0;
                }) q.1
                | inr q ↦
                    let j = bind_ok (separated item stop f (rest us)) (λ ys. done (x ∷ ys.0) ys.1) (xs, r) q.1 in
                    let more = separated_sound f (rest us) j.0.0 j.0.1 j.1 in
                    took_done ts xs (x ∷ j.0.0) r j.0.1 (record {
                      s = one.0 ++ c ∷ more.s;
                      u = more.u;
                      parts = one.1 ∙ ap (λ (v : List Token). one.0 ++ v) (begins_is marks.Comma us p.0) ∙ ap (λ (v : List Token). one.0 ++ c ∷ v) more.parts ∙ sym (append_assoc one.0 (c ∷ more.s) (more.u ++ j.0.1));
                      spelled = before (head_span us) one.2 more.spelled;
                      trail = more.trail;
                      tail = more.tail;
                    }) j.2
              ]
          | inr p ↦ took_done ts xs (x ∷ []) r us (record { s = one.0; u = []; parts = one.1; spelled = last_one one.2; trail = no_comma; tail = inl refl }) p.1
        ]

  -- the last piece
  pub separated_last : (f : ℕ) (ts : List Token) (x : A) (r : List Token) → item ts ≡ Ok (x, r) → begins marks.Comma r ≡ false → separated item stop (suc f) ts ≡ Ok (x ∷ [], r)
  unfolding separated
  separated_last f ts x r e none = rw (e, none) refl

  -- the last piece with a comma more behind it
  pub separated_trailing : (f : ℕ) (ts : List Token) (x : A) (a : Span) (r : List Token) → item ts ≡ Ok (x, mark marks.Comma a ∷ r) → stop r ≡ true → separated item stop (suc f) ts ≡ Ok (x ∷ [], r)
  unfolding separated begins rest
  separated_trailing f ts x a r e ends = rw (e, ends) refl

  -- a piece in front of others
  pub separated_next : (f : ℕ) (ts : List Token) (x : A) (a : Span) (us : List Token) (xs : List A) (r : List Token) → item ts ≡ Ok (x, mark marks.Comma a ∷ us) → stop us ≡ false → separated item stop f us ≡ Ok (xs, r) → separated item stop (suc f) ts ≡ Ok (x ∷ xs, r)
  unfolding separated begins rest
  separated_next f ts x a us xs r e on more = rw (e, on, more) refl

  -- local
  module _ (shorter : (ts : List Token) (x : A) (r : List Token) → item ts ≡ Ok (x, r) → length r < length ts) where
    -- fuel above the number of tokens is enough
    separated_enough : (f g : ℕ) (ts : List Token) → length ts < f → length ts < g → separated item stop f ts ≡ separated item stop g ts
    unfolding separated after
    separated_enough zero g ts lf lg = elim lf [ ]
    separated_enough (suc f) zero ts lf lg = elim lg [ ]
    separated_enough (suc f) (suc g) ts lf lg = bind_same A (List A) (item ts) (λ x. after f x.0 x.1) (λ x. after g x.0 x.1)
        (λ x u e. let less = shorter ts x u e in let less_rest = rest_shorter u in ap (λ (q : Answer (List A)). cond (begins marks.Comma u) (cond (stop (rest u)) (done (x ∷ []) (rest u)) (q >>= λ xs. done (x ∷ xs.0) xs.1)) (done (x ∷ []) u)) (separated_enough f g (rest u) (omega arith) (omega arith)))

    module _ (local_item : Local A item) (same_stop : SameAtHead Bool stop) where
      local_each : (f : ℕ) → Local (List A) (separated item stop f)
      unfolding separated after
      local_each zero = local_refuse (List A)
      local_each (suc f) = local_bind A (List A) item (λ x. after f x) local_item
          (λ x. local_if (List A) (begins marks.Comma) (same_begins marks.Comma) (λ us. cond (stop (rest us)) (done (x ∷ []) (rest us)) (separated item stop f (rest us) >>= λ xs. done (x ∷ xs.0) xs.1)) (done (x ∷ []))
          (local_rest (List A) (λ us. cond (stop us) (done (x ∷ []) us) (separated item stop f us >>= λ xs. done (x ∷ xs.0) xs.1))
          (local_if (List A) stop same_stop (done (x ∷ [])) (λ us. separated item stop f us >>= λ xs. done (x ∷ xs.0) xs.1) (local_done (List A) (x ∷ []))
          (local_bind (List A) (List A) (separated item stop f) (λ xs. done (x ∷ xs)) (local_each f) (λ xs. local_done (List A) (x ∷ xs)))))
          (local_done (List A) (x ∷ [])))

      -- a list is read locally where its pieces are
      pub local_separated : Local (List A) (λ ts. separated item stop (suc (length ts)) ts)
      local_separated = local_fuel (List A) (separated item stop) local_each separated_enough

-- in the loop over a list those read so far stand in front of those still to come
abbrev pub with_front : {A : Type 0} → List A → Answer (List A) → Answer (List A)
with_front xs read = read >>= λ ys. Ok (xs ++ ys.0, ys.1)

-- a turn of that loop
module _ {A : Type 0} (item : List Token → Answer A) (stop : List Token → Bool) where
  -- the piece is refused
  pub front_fails : (e : Stop) (f : ℕ) (u : List Token) (xs : List A) → length u < f → Fails e (item u) → Fails e (with_front xs (separated item stop f u))
  unfolding separated
  front_fails e zero u xs lt h = elim lt [ ]
  front_fails stops.Memory (suc f) u xs lt h = tt
  front_fails (stops.At n) (suc f) u xs lt h = rw h refl

  -- a comma comes, and the list goes on
  pub front_goes : (f : ℕ) (u v : List Token) (xs : List A) (x : A) → length u < f → item u ≡ Ok (x, v) → begins marks.Comma v ≡ true → stop (rest v) ≡ false → with_front xs (separated item stop f u) ≡ with_front (xs ++ x ∷ []) (separated item stop (f - 1) (rest v))
  unfolding separated
  front_goes zero u v xs x lt e comes on = elim lt [ ]
  front_goes (suc f) u v xs x lt e comes on =
      let ef : suc f - 1 ≡ f = omega arith in
      rw (ef, e, comes, on) (step (separated item stop f (rest v)))
    where
      step : (read : Answer (List A)) → with_front xs (read >>= λ ys. Ok (x ∷ ys.0, ys.1)) ≡ with_front (xs ++ x ∷ []) read
      step (Ok y) = ap (λ (v : List A). Ok (v, y.1)) (sym (append_assoc xs (x ∷ []) y.0))
      step (Err n) = refl

  -- no comma comes
  pub front_ends : (f : ℕ) (u v : List Token) (xs : List A) (x : A) → length u < f → item u ≡ Ok (x, v) → begins marks.Comma v ≡ false → with_front xs (separated item stop f u) ≡ Ok (xs ++ x ∷ [], v)
  unfolding separated
  front_ends zero u v xs x lt e none = elim lt [ ]
  front_ends (suc f) u v xs x lt e none = rw (e, none) refl

  -- a comma comes, and the list ends behind it
  pub front_trailing : (f : ℕ) (u v : List Token) (xs : List A) (x : A) → length u < f → item u ≡ Ok (x, v) → begins marks.Comma v ≡ true → stop (rest v) ≡ true → with_front xs (separated item stop f u) ≡ Ok (xs ++ x ∷ [], rest v)
  unfolding separated
  front_trailing zero u v xs x lt e comes ends = elim lt [ ]
  front_trailing (suc f) u v xs x lt e comes ends = rw (e, comes, ends) refl
