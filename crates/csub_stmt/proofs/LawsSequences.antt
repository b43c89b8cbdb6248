-- Lists of pieces: what is read is spelled so, what is spelled so is read, and a reading depends on what it took and on
-- the token after it.
use Rattle.std.proofs.Common.{◌≡◌, ℕ, zero, suc, ◌<◌, ◌≤◌, map, List, [], ◌∷◌, ◌++◌, length, Ok, Err, Bool, true, false, cond, refl, ap, subst, ◌∙◌, arith, append_assoc, length-append, inl, inr, ◌⊎◌}
use Rattle.csub_text.specs.declared.span.Span.{Span}
use Rattle.csub_lex.specs.declared.token.Mark.TheVariants as marks
use Rattle.csub_lex.specs.declared.token.Token.{Token}
use Rattle.csub_tree.specs.Tokens.{mark}
use Rattle.csub_tree.specs.Lists.{Each, no_more, one_more, Separated, last_one, before, Trailing}
use Rattle.csub_tree.specs.Depth.{most}
use Rattle.csub_expr.specs.Looks.{begins, rest, head_span}
use Rattle.csub_expr.specs.Answers.{Answer, ◌>>=◌, done, refuse}
use Rattle.csub_expr.specs.ListDescent.{separated, repeated, never}
use Rattle.csub_expr.proofs.LawsAnswers.{bind_ok, ok_value, ok_rest, chosen}
use Rattle.csub_expr.proofs.LawsTokens.{begins_is}
use Rattle.csub_expr.proofs.LawsLocal.{Local, SameAtHead, local_bind, local_done, local_refuse, local_rest, local_if, same_begins, local_fuel, bind_same}
use Rattle.csub_expr.proofs.LawsLists.{separated_sound, local_separated, separated_last, separated_trailing, separated_next}
use Rattle.csub_stmt.specs.DeclarationDescent.{following}
use Rattle.csub_stmt.proofs.LawsTakes.{Took, Sound, Shorter, cut_two, cut_at}

-- pieces that are spelled so, and within a depth
module _ (A : Type 0) (R : A → List Token → Type 0) (deep : A → ℕ) (d : ℕ) where
  abbrev pub Fitting : A → List Token → Type 0
  Fitting x s = R x s × (deep x ≤ d)

  pub each_spelled : {xs : List A} {s : List Token} → Each A Fitting xs s → Each A R xs s
  each_spelled no_more = no_more
  each_spelled (one_more h hs) = one_more h.0 (each_spelled hs)

  pub each_fits : {xs : List A} {s : List Token} → Each A Fitting xs s → most (map deep xs) ≤ d
  each_fits no_more = omega arith
  each_fits (one_more h hs) = omega (arith, h.1, each_fits hs)

  pub some_spelled : {xs : List A} {s : List Token} → Separated A Fitting xs s → Separated A R xs s
  some_spelled (last_one h) = last_one h.0
  some_spelled (before a h hs) = before a h.0 (some_spelled hs)

  pub some_fits : {xs : List A} {s : List Token} → Separated A Fitting xs s → most (map deep xs) ≤ d
  some_fits (last_one h) = omega (arith, h.1)
  some_fits (before a h hs) = omega (arith, h.1, some_fits hs)

-- x*
pub record TookEach (A : Type 0) (R : A → List Token → Type 0) (deep : A → ℕ) (d : ℕ) (stop : List Token → Bool) (ts : List Token) (xs : List A) (r : List Token) : Type 0 where
  pub s : List Token
  pub parts : ts ≡ s ++ r
  pub spelled : Each A R xs s
  pub fits : most (map deep xs) ≤ d
  pub ends : stop r ≡ true

-- x ("," x)* [","]
pub record TookSome (A : Type 0) (R : A → List Token → Type 0) (deep : A → ℕ) (d : ℕ) (stop : List Token → Bool) (ts : List Token) (xs : List A) (r : List Token) : Type 0 where
  pub s : List Token
  pub u : List Token
  pub parts : ts ≡ s ++ (u ++ r)
  pub spelled : Separated A R xs s
  pub trail : Trailing u
  pub fits : most (map deep xs) ≤ d
  pub tail : (u ≡ []) ⊎ (stop r ≡ true)

module _ (A : Type 0) (R : A → List Token → Type 0) (deep : A → ℕ) (d : ℕ) (item : List Token → Answer A) (stop : List Token → Bool) (sound : Sound A R deep d item) where
  each_done : (ts : List Token) (xs ys : List A) (r q : List Token) → TookEach A R deep d stop ts ys q → done ys q ≡ done xs r → TookEach A R deep d stop ts xs r
  each_done ts xs ys r q h e = subst (λ (v : List A). TookEach A R deep d stop ts v r) (ok_value ys xs q r e) (subst (λ (v : List Token). TookEach A R deep d stop ts ys v) (ok_rest ys xs q r e) h)

  pub repeated_sound : (f : ℕ) (ts : List Token) (xs : List A) (r : List Token) → repeated item stop f ts ≡ Ok (xs, r) → TookEach A R deep d stop ts xs r
  unfolding repeated
  repeated_sound zero ts xs r e = elim (chosen (stop ts) (done [] ts) (Err (length ts)) (Ok (xs, r)) e) [
    | inl p ↦ each_done ts xs [] r ts (record { s = []; parts = refl; spelled = no_more; fits = omega arith; ends = p.0 }) p.1
    | inr p ↦ absurd (cc p.1)
  ]
  repeated_sound (suc f) ts xs r e = elim (chosen (stop ts) (done [] ts) (item ts >>= λ x. repeated item stop f x.1 >>= λ ys. done (x.0 ∷ ys.0) ys.1) (Ok (xs, r)) e) [
    | inl p ↦ each_done ts xs [] r ts (record { s = []; parts = refl; spelled = no_more; fits = omega arith; ends = p.0 }) p.1
    | inr p ↦
        let i = bind_ok (item ts) (λ x. repeated item stop f x.1 >>= λ ys. done (x.0 ∷ ys.0) ys.1) (xs, r) p.1 in
        let j = bind_ok (repeated item stop f i.0.1) (λ ys. done (i.0.0 ∷ ys.0) ys.1) (xs, r) i.2 in
        let one = sound ts i.0.0 i.0.1 i.1 in
        let two = repeated_sound f i.0.1 j.0.0 j.0.1 j.1 in
        each_done ts xs (i.0.0 ∷ j.0.0) r j.0.1 (record {
          s = one.s ++ two.s;
          parts = cut_two one.s two.s ts i.0.1 j.0.1 one.parts two.parts;
          spelled = one_more one.spelled two.spelled;
          fits = omega (arith, one.fits, two.fits);
          ends = two.ends;
        }) j.2
  ]

  pub some_sound : (f : ℕ) (ts : List Token) (xs : List A) (r : List Token) → separated item stop f ts ≡ Ok (xs, r) → TookSome A R deep d stop ts xs r
  some_sound f ts xs r e =
      let t = separated_sound item stop (Fitting A R deep d) (λ us x q h. let o = sound us x q h in (o.s, o.parts, (o.spelled, o.fits))) f ts xs r e in
      record { s = t.s; u = t.u; parts = t.parts; spelled = some_spelled A R deep d t.spelled; trail = t.trail; fits = some_fits A R deep d t.spelled; tail = t.tail }

-- where no comma may stand behind the last piece
pub record TookRow (A : Type 0) (R : A → List Token → Type 0) (deep : A → ℕ) (d : ℕ) (ts : List Token) (xs : List A) (r : List Token) : Type 0 where
  pub s : List Token
  pub parts : ts ≡ s ++ r
  pub spelled : Separated A R xs s
  pub fits : most (map deep xs) ≤ d

module _ (A : Type 0) (R : A → List Token → Type 0) (deep : A → ℕ) (d : ℕ) (item : List Token → Answer A) (sound : Sound A R deep d item) where
  pub row_sound : (f : ℕ) (ts : List Token) (xs : List A) (r : List Token) → separated item never f ts ≡ Ok (xs, r) → TookRow A R deep d ts xs r
  row_sound f ts xs r e =
      let t = some_sound A R deep d item never sound f ts xs r e in
      let none : t.u ≡ [] = elim t.tail [ inl p ↦ p | inr p ↦ absurd cc ] in
      record { s = t.s; parts = t.parts ∙ ap (λ (v : List Token). t.s ++ (v ++ r)) none; spelled = t.spelled; fits = t.fits }

  row_done : (ts : List Token) (xs ys : List A) (r q : List Token) → TookRow A R deep d ts ys q → done ys q ≡ done xs r → TookRow A R deep d ts xs r
  row_done ts xs ys r q h e = subst (λ (v : List A). TookRow A R deep d ts v r) (ok_value ys xs q r e) (subst (λ (v : List Token). TookRow A R deep d ts ys v) (ok_rest ys xs q r e) h)

  -- the pieces behind the first
  pub following_sound : (ts : List Token) (x : A) (us : List Token) → Took A R deep d ts x us → (xs : List A) (r : List Token) → following item x us ≡ Ok (xs, r) → TookRow A R deep d ts xs r
  unfolding following
  following_sound ts x us one xs r e = elim (chosen (begins marks.Comma us) (separated item never (suc (length (rest us))) (rest us) >>= λ ys. done (x ∷ ys.0) ys.1) (done (x ∷ []) us) (Ok (xs, r)) e) [
    | inl p ↦
        let j = bind_ok (separated item never (suc (length (rest us))) (rest us)) (λ ys. done (x ∷ ys.0) ys.1) (xs, r) p.1 in
        let two = row_sound (suc (length (rest us))) (rest us) j.0.0 j.0.1 j.1 in
        let c = mark marks.Comma (head_span us) in
        row_done ts xs (x ∷ j.0.0) r j.0.1 (record {
          s = one.s ++ c ∷ two.s;
          parts = cut_at one.s two.s c ts (rest us) j.0.1 (one.parts ∙ ap (λ (v : List Token). one.s ++ v) (begins_is marks.Comma us p.0)) two.parts;
          spelled = before (head_span us) one.spelled two.spelled;
          fits = omega (arith, one.fits, two.fits);
        }) j.2
    | inr p ↦ row_done ts xs (x ∷ []) r us (record { s = one.s; parts = one.parts; spelled = last_one one.spelled; fits = omega (arith, one.fits) }) p.1
  ]

-- complete: x*, piece by piece
module _ {A : Type 0} (item : List Token → Answer A) (stop : List Token → Bool) where
  pub repeated_ends : (f : ℕ) (r : List Token) → stop r ≡ true → repeated item stop f r ≡ Ok ([], r)
  unfolding repeated
  repeated_ends zero r ends = rw ends refl
  repeated_ends (suc f) r ends = rw ends refl

  pub repeated_goes : (f : ℕ) (ts : List Token) (x : A) (us : List Token) (xs : List A) (r : List Token) → stop ts ≡ false → item ts ≡ Ok (x, us) → repeated item stop f us ≡ Ok (xs, r) → repeated item stop (suc f) ts ≡ Ok (x ∷ xs, r)
  unfolding repeated
  repeated_goes f ts x us xs r on one more = rw (on, one, more) refl

-- complete: lists of pieces each of which is read where what follows is okay
module _ (A : Type 0) (R : A → List Token → Type 0) (deep : A → ℕ) (d : ℕ) (item : List Token → Answer A) (Okay : List Token → Type 0)
    (reads : (x : A) (s : List Token) → R x s → deep x ≤ d → (r : List Token) → Okay r → item (s ++ r) ≡ Ok (x, r)) where
  -- x*, where what a piece begins with is okay
  pub each_reads : (stop : List Token → Bool) → ((x : A) (s : List Token) → R x s → deep x ≤ d → (r : List Token) → (stop (s ++ r) ≡ false) × Okay (s ++ r)) → ((x : A) (s : List Token) → R x s → 0 < length s)
      → {xs : List A} {s : List Token} → Each A R xs s → most (map deep xs) ≤ d → (f : ℕ) → length s < f → (r : List Token) → Okay r → stop r ≡ true → repeated item stop f (s ++ r) ≡ Ok (xs, r)
  each_reads stop opens some no_more fits f lt r okay ends = repeated_ends item stop f r ends
  each_reads stop opens some (one_more h hs) fits zero lt r okay ends = elim lt [ ]
  each_reads stop opens some (one_more {x = x} {xs = xs} {s = s} {t = t} h hs) fits (suc f) lt r okay ends =
      let okay_t : Okay (t ++ r) = okay_each hs (omega arith) r okay in
      rw (append_assoc s t r) (repeated_goes item stop f (s ++ (t ++ r)) x (t ++ r) xs r (opens x s h (omega arith) (t ++ r)).0 (reads x s h (omega arith) (t ++ r) okay_t)
      (each_reads stop opens some hs (omega arith) f (omega (arith, length-append s t, some x s h)) r okay ends))
    where
      okay_each : {ys : List A} {u : List Token} → Each A R ys u → most (map deep ys) ≤ d → (q : List Token) → Okay q → Okay (u ++ q)
      okay_each no_more k q ok = ok
      okay_each (one_more {x = y} {s = a} {t = b} w ws) k q ok = rw (append_assoc a b q) ((opens y a w (omega arith) (b ++ q)).1)

  -- x ("," x)*
  pub some_reads : (stop : List Token → Bool) → ((x : A) (s : List Token) → R x s → (r : List Token) → stop (s ++ r) ≡ false) → ((a : Span) (r : List Token) → Okay (mark marks.Comma a ∷ r))
      → {xs : List A} {s : List Token} → Separated A R xs s → most (map deep xs) ≤ d → (f : ℕ) → length s < f → (r : List Token) → Okay r → begins marks.Comma r ≡ false → separated item stop f (s ++ r) ≡ Ok (xs, r)
  some_reads stop opens okay_comma (last_one h) fits zero lt r okay none = elim lt [ ]
  some_reads stop opens okay_comma (last_one {x = x} {s = s} h) fits (suc f) lt r okay none = separated_last item stop f (s ++ r) x r (reads x s h (omega arith) r okay) none
  some_reads stop opens okay_comma (before a h hs) fits zero lt r okay none = elim lt [ ]
  some_reads stop opens okay_comma (before {x = x} {xs = xs} {s = s} {t = t} a h hs) fits (suc f) lt r okay none =
      let c = mark marks.Comma a in
      rw (append_assoc s (c ∷ t) r) (separated_next item stop f (s ++ (c ∷ (t ++ r))) x a (t ++ r) xs r (reads x s h (omega arith) (c ∷ (t ++ r)) (okay_comma a (t ++ r))) (opens_some hs r)
      (some_reads stop opens okay_comma hs (omega arith) f (omega (arith, length-append s (c ∷ t))) r okay none))
    where
      opens_some : {ys : List A} {u : List Token} → Separated A R ys u → (q : List Token) → stop (u ++ q) ≡ false
      opens_some (last_one {x = y} {s = b} k) q = opens y b k q
      opens_some (before {x = y} {s = b} {t = e} g k ks) q = rw (append_assoc b (mark marks.Comma g ∷ e) q) (opens y b k (mark marks.Comma g ∷ (e ++ q)))

  -- x ("," x)* ","
  pub trailing_reads : (stop : List Token → Bool) → ((x : A) (s : List Token) → R x s → (r : List Token) → stop (s ++ r) ≡ false) → ((a : Span) (r : List Token) → Okay (mark marks.Comma a ∷ r))
      → {xs : List A} {s : List Token} → Separated A R xs s → most (map deep xs) ≤ d → (f : ℕ) → length s < f → (b : Span) (r : List Token) → stop r ≡ true → separated item stop f (s ++ (mark marks.Comma b ∷ r)) ≡ Ok (xs, r)
  trailing_reads stop opens okay_comma (last_one h) fits zero lt b r ends = elim lt [ ]
  trailing_reads stop opens okay_comma (last_one {x = x} {s = s} h) fits (suc f) lt b r ends = separated_trailing item stop f (s ++ (mark marks.Comma b ∷ r)) x b r (reads x s h (omega arith) (mark marks.Comma b ∷ r) (okay_comma b r)) ends
  trailing_reads stop opens okay_comma (before a h hs) fits zero lt b r ends = elim lt [ ]
  trailing_reads stop opens okay_comma (before {x = x} {xs = xs} {s = s} {t = t} a h hs) fits (suc f) lt b r ends =
      let c = mark marks.Comma a in
      let q = mark marks.Comma b ∷ r in
      rw (append_assoc s (c ∷ t) q) (separated_next item stop f (s ++ (c ∷ (t ++ q))) x a (t ++ q) xs r (reads x s h (omega arith) (c ∷ (t ++ q)) (okay_comma a (t ++ q))) (opens_some hs q)
      (trailing_reads stop opens okay_comma hs (omega arith) f (omega (arith, length-append s (c ∷ t))) b r ends))
    where
      opens_some : {ys : List A} {u : List Token} → Separated A R ys u → (q : List Token) → stop (u ++ q) ≡ false
      opens_some (last_one {x = y} {s = b} k) q = opens y b k q
      opens_some (before {x = y} {s = b} {t = e} g k ks) q = rw (append_assoc b (mark marks.Comma g ∷ e) q) (opens y b k (mark marks.Comma g ∷ (e ++ q)))

  -- ("," x)* behind the first x
  pub following_ends : (x : A) (r : List Token) → begins marks.Comma r ≡ false → following item x r ≡ Ok (x ∷ [], r)
  unfolding following
  following_ends x r none = rw none refl

  pub following_reads : ((a : Span) (r : List Token) → Okay (mark marks.Comma a ∷ r)) → (x : A) (a : Span) {xs : List A} {s : List Token} → Separated A R xs s → most (map deep xs) ≤ d
      → (r : List Token) → Okay r → begins marks.Comma r ≡ false → following item x (mark marks.Comma a ∷ (s ++ r)) ≡ Ok (x ∷ xs, r)
  unfolding following begins rest
  following_reads okay_comma x a {s = s} h fits r okay none = rw (some_reads never (λ y t k q. refl) okay_comma h fits (suc (length (s ++ r))) (omega (arith, length-append s r)) r okay none) refl

-- local
module _ (A : Type 0) (item : List Token → Answer A) (stop : List Token → Bool) (shorter : Shorter A item) (local_item : Local A item) (same_stop : SameAtHead Bool stop) where
  repeated_enough : (f g : ℕ) (ts : List Token) → length ts < f → length ts < g → repeated item stop f ts ≡ repeated item stop g ts
  unfolding repeated
  repeated_enough zero g ts lf lg = elim lf [ ]
  repeated_enough (suc f) zero ts lf lg = elim lg [ ]
  repeated_enough (suc f) (suc g) ts lf lg = ap (λ (q : Answer (List A)). cond (stop ts) (done [] ts) q)
      (bind_same A (List A) (item ts) (λ x. repeated item stop f x.1 >>= λ xs. done (x.0 ∷ xs.0) xs.1) (λ x. repeated item stop g x.1 >>= λ xs. done (x.0 ∷ xs.0) xs.1)
      (λ x u e. let less = shorter ts x u e in ap (λ (q : Answer (List A)). q >>= λ xs. done (x ∷ xs.0) xs.1) (repeated_enough f g u (omega arith) (omega arith))))

  repeated_at : (f : ℕ) → Local (List A) (repeated item stop f)
  unfolding repeated
  repeated_at zero = local_if (List A) stop same_stop (done []) refuse (local_done (List A) []) (local_refuse (List A))
  repeated_at (suc f) = local_if (List A) stop same_stop (done []) (λ ts. item ts >>= λ x. repeated item stop f x.1 >>= λ xs. done (x.0 ∷ xs.0) xs.1) (local_done (List A) [])
      (local_bind A (List A) item (λ x us. repeated item stop f us >>= λ xs. done (x ∷ xs.0) xs.1) local_item
      (λ x. local_bind (List A) (List A) (repeated item stop f) (λ xs. done (x ∷ xs)) (repeated_at f) (λ xs. local_done (List A) (x ∷ xs))))

  pub local_repeated : Local (List A) (λ ts. repeated item stop (suc (length ts)) ts)
  local_repeated = local_fuel (List A) (repeated item stop) repeated_at repeated_enough

pub same_never : SameAtHead Bool never
same_never ts us e = refl

module _ (A : Type 0) (item : List Token → Answer A) (shorter : Shorter A item) (local_item : Local A item) where
  pub local_row : Local (List A) (λ ts. separated item never (suc (length ts)) ts)
  local_row = local_separated item never shorter local_item same_never

  pub local_following : (x : A) → Local (List A) (following item x)
  unfolding following
  local_following x = local_if (List A) (begins marks.Comma) (same_begins marks.Comma) (λ ts. separated item never (suc (length (rest ts))) (rest ts) >>= λ xs. done (x ∷ xs.0) xs.1) (done (x ∷ []))
      (local_rest (List A) (λ ts. separated item never (suc (length ts)) ts >>= λ xs. done (x ∷ xs.0) xs.1)
      (local_bind (List A) (List A) (λ ts. separated item never (suc (length ts)) ts) (λ xs. done (x ∷ xs)) local_row (λ xs. local_done (List A) (x ∷ xs))))
      (local_done (List A) (x ∷ []))
