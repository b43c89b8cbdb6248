-- The pairs of a certificate are few enough: they rise, and their numbers are small.
use Rattle.std.proofs.Common.{◌≡◌, ◌<◌, ◌≤◌, ◌+◌, ◌*◌, ℕ, suc, List, [], ◌∷◌, length, Some, refl, inl, inr, arith}
use Rattle.std.specs.Prelude.{slice_get}
use Rattle.cert_text.specs.declared.pair.Pair.{Pair}
use Rattle.cert_text.specs.Certificates.{IsBefore, Rise, RiseAfter}

-- no program has more than 10,000 points
abbrev pub AreSmall : List Pair → Type 0
AreSmall pairs = (place : ℕ) (pair : Pair) → slice_get pairs place ≡ Some pair → (pair.old < 10000) × (pair.new < 10000)

-- the place of a pair among all pairs of small numbers
abbrev rank : Pair → ℕ
rank pair = 10000 * pair.old + pair.new

rank_rises : (a b : Pair) → a.new < 10000 → IsBefore a b → rank a < rank b
rank_rises a b small (inl less) = omega arith
rank_rises a b small (inr same) = omega (arith, same.0, same.1)

after_few : (last : Pair) (pairs : List Pair) → (last.old < 10000) × (last.new < 10000) → AreSmall pairs → RiseAfter IsBefore (Some last) pairs → length pairs + rank last < 100000000
after_few last [] within small rise = omega (arith, within.0, within.1)
after_few last (pair ∷ more) within small rise =
    let up = rank_rises last pair within.1 rise.0 in
    let rest = after_few pair more (small 0 pair refl) (λ place other is. small (suc place) other is) rise.1 in
    omega (arith, up, rest)

pub few : (pairs : List Pair) → AreSmall pairs → Rise pairs → length pairs ≤ 100000000
few [] small rise = omega arith
few (pair ∷ more) small rise =
    let rest = after_few pair more (small 0 pair refl) (λ place other is. small (suc place) other is) rise.1 in
    omega (arith, rest)
