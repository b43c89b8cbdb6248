-- The elements of two lists, one behind the other: each, and each two.
use Rattle.std.proofs.Common.{◌↔◌, zero, suc, ◌++◌, List, [], ◌∷◌, All, AllPairs, arith}
use Rattle.std.proofs.lemmas.List.Elements.{All-nil, All-cons, All-head, All-tail}

-- each element of two lists, one behind the other
pub All-append : {X : Type 0} (P : X → Type 0) (xs ys : List X) → All P (xs ++ ys) ↔ (All P xs × All P ys)
All-append P [] ys = (λ h. (All-nil P, h), λ h. h.1)
All-append P (x ∷ xs) ys =
    let rest = All-append P xs ys in (
      λ h. let both = rest.0 (All-tail P x (xs ++ ys) h) in (All-cons P x xs (All-head P x (xs ++ ys) h) both.0, both.1),
      λ h. All-cons P x (xs ++ ys) (All-head P x xs h.0) (rest.1 (All-tail P x xs h.0, h.1)),
    )

module _ {X : Type 0} (R : X → X → Type 0) where
  AllPairs-cons : (x : X) (xs : List X) → AllPairs R (x ∷ xs) ↔ (All (R x) xs × AllPairs R xs)
  AllPairs-cons x xs = (λ h. (λ k d below. h 0 (suc k) d (omega arith) (omega (arith, below)), λ i j d less below. h (suc i) (suc j) d (omega (arith, less)) (omega (arith, below))), back)
    where
      back : All (R x) xs × AllPairs R xs → AllPairs R (x ∷ xs)
      back h zero zero d less below = absurd (omega (arith, less))
      back h zero (suc j) d less below = h.0 j d (omega (arith, below))
      back h (suc i) zero d less below = absurd (omega (arith, less))
      back h (suc i) (suc j) d less below = h.1 i j d (omega (arith, less)) (omega (arith, below))

  -- each two elements of two lists, one behind the other
  pub AllPairs-append : (xs ys : List X) → AllPairs R (xs ++ ys) ↔ (AllPairs R xs × AllPairs R ys × All (λ x. All (R x) ys) xs)
  AllPairs-append [] ys = (λ h. (λ i j d less below. absurd (omega (arith, below)), h, All-nil (λ x. All (R x) ys)), λ h. h.1)
  AllPairs-append (x ∷ xs) ys =
      let rest = AllPairs-append xs ys in
      let first = All-append (R x) xs ys in (
        λ h.
            let parts = (AllPairs-cons x (xs ++ ys)).0 h in
            let heads = first.0 parts.0 in
            let others = rest.0 parts.1 in
            ((AllPairs-cons x xs).1 (heads.0, others.0), others.1, All-cons (λ y. All (R y) ys) x xs heads.1 others.2),
        λ h.
            let parts = (AllPairs-cons x xs).0 h.0 in
            (AllPairs-cons x (xs ++ ys)).1 (first.1 (parts.0, All-head (λ y. All (R y) ys) x xs h.2), rest.1 (parts.1, h.1, All-tail (λ y. All (R y) ys) x xs h.2)),
      )
