-- Runs of a class: how long they are, and what stands behind them.
use Rattle.std.proofs.Common.{◌≡◌, ℕ, suc, ◌+◌, List, [], ◌∷◌, ◌++◌, length, take, drop, Bool, true, false, refl, sym, arith}
use Rattle.std.specs.List.{prefix_len, list_all}
use Rattle.std.proofs.lemmas.List.{take_at, drop_at}
use Rattle.std.proofs.lemmas.Bool.{and_parts}
use Rattle.csub_lex.specs.Bytes.{Run, Stops}
use Rattle.csub_lex.specs.Finding.{begins, behind}

module _ (class : ℕ → Bool) where
  -- the front of the class is a run
  pub front_run : (s : List ℕ) → Run class (take (prefix_len class s) s)
  front_run [] = refl
  front_run (b ∷ bs) = go (front_run bs) (class b) refl
    where
      go : Run class (take (prefix_len class bs) bs) → (t : Bool) → class b ≡ t → Run class (take (prefix_len class (b ∷ bs)) (b ∷ bs))
      go ih true e = let one : 1 + prefix_len class bs ≡ suc (prefix_len class bs) = omega arith in rw (e, one) (rw e ih)
      go ih false e = rw e refl

  -- and what stands behind it ends it
  pub rest_stops : (s : List ℕ) → Stops class (drop (prefix_len class s) s)
  rest_stops [] = tt
  rest_stops (b ∷ bs) = go (rest_stops bs) (class b) refl
    where
      go : Stops class (drop (prefix_len class bs) bs) → (t : Bool) → class b ≡ t → Stops class (drop (prefix_len class (b ∷ bs)) (b ∷ bs))
      go ih true e = let one : 1 + prefix_len class bs ≡ suc (prefix_len class bs) = omega arith in rw (e, one) ih
      go ih false e = rw e e

  no_front : (r : List ℕ) → Stops class r → prefix_len class r ≡ 0
  no_front [] stops = refl
  no_front (b ∷ bs) stops = rw stops refl

  -- a run that ends in front of r is the front
  pub run_len : (t r : List ℕ) → Run class t → Stops class r → prefix_len class (t ++ r) ≡ length t
  run_len [] r run stops = no_front r stops
  run_len (b ∷ t) r run stops =
      let parts = and_parts (class b) (list_all class t) run in
      let rest : 1 + prefix_len class (t ++ r) ≡ suc (length t) = omega (arith, run_len t r parts.1 stops) in
      rw (parts.0) rest

  pub run_front : (t r : List ℕ) → Run class t → Stops class r → take (prefix_len class (t ++ r)) (t ++ r) ≡ t
  run_front t r run stops = take_at t r (prefix_len class (t ++ r)) (sym (run_len t r run stops))

  pub run_rest : (t r : List ℕ) → Run class t → Stops class r → drop (prefix_len class (t ++ r)) (t ++ r) ≡ r
  run_rest t r run stops = drop_at t r (prefix_len class (t ++ r)) (sym (run_len t r run stops))

  pub run_behind : (t r : List ℕ) → Run class t → Stops class r → behind class (t ++ r) ≡ r
  unfolding behind
  run_behind t r run stops = run_rest t r run stops

  pub begins_stops : (r : List ℕ) → begins class r ≡ false → Stops class r
  begins_stops [] e = tt
  begins_stops (b ∷ bs) e = e
