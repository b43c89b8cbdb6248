-- The numbers of a row rise as the things of a certificate do.
use Rattle.std.proofs.Common.{◌<◌, ℕ, suc, Bool, List, [], ◌∷◌, length, Option, Some, None, refl, arith}
use Rattle.std.specs.List.{All, AllPairs}
use Rattle.std.proofs.lemmas.List.Elements.{All-head}
use Rattle.edge_trace.specs.Rows.{numbers_of}
use Rattle.edge_trace.proofs.LawsOfNumbers.{AreRising-numbers_of}
use Rattle.cert_text.specs.Certificates.{IsAfter, RiseAfter}

rise : (last : Option ℕ) (numbers : List ℕ) → AllPairs (λ number later. number < later) numbers → All (IsAfter (λ a b. a < b) last) numbers → RiseAfter (λ a b. a < b) last numbers
rise last [] pairs after = tt
rise last (n ∷ more) pairs after = (
  All-head (IsAfter (λ a b. a < b) last) n more after,
  rise (Some n) more (λ i j d before within. pairs (suc i) (suc j) d (omega arith) (omega arith)) (λ k d within. pairs 0 (suc k) d (omega arith) (omega arith)),
)

pub rise-numbers_of : (row : List Bool) → RiseAfter (λ a b. a < b) None (numbers_of row)
rise-numbers_of row = rise None (numbers_of row) (AreRising-numbers_of row (length row) refl).rising (λ k d within. tt)
