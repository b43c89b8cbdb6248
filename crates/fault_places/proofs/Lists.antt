-- Lists of trees, and trees that may be missing, lie where the tokens that spell them lie.
use Rattle.std.proofs.Common.{ℕ, List, ◌∷◌, Option}
use Rattle.csub_lex.specs.declared.token.Token.{Token}
use Rattle.csub_lex.specs.declared.token.Mark.TheVariants as marks
use Rattle.csub_tree.specs.Tokens.{mark}
use Rattle.csub_tree.specs.Lists.{Each, no_more, one_more, Separated, last_one, before, Optional, missing, present}
use Rattle.fault_places.specs.Within.{WithinEach, WithinMaybe}
use Rattle.fault_places.proofs.Rising.{Rising, left_part, right_part, behind}

module _ {n : ℕ} {A : Type 0} {R : A → List Token → Type 0} {P : A → Type 0} where
  pub each_within : ((x : A) (ts : List Token) → R x ts → Rising n ts → P x) → (xs : List A) (ts : List Token) → Each A R xs ts → Rising n ts
      → WithinEach P xs
  each_within one xs ts no_more f = tt
  each_within one xs ts (one_more {x} {xs = rest} {s} {t} p q) f =
      (one x s p (left_part s t f), each_within one rest t q (right_part s t f))

  pub separated_within : ((x : A) (ts : List Token) → R x ts → Rising n ts → P x) → (xs : List A) (ts : List Token) → Separated A R xs ts
      → Rising n ts → WithinEach P xs
  separated_within one xs ts (last_one {x} {s} p) f = (one x s p f, tt)
  separated_within one xs ts (before {x} {xs = rest} {s} {t} a p q) f =
      (one x s p (left_part s (mark marks.Comma a ∷ t) f), separated_within one rest t q (behind s (mark marks.Comma a) t f))

  pub maybe_within : ((x : A) (ts : List Token) → R x ts → Rising n ts → P x) → (o : Option A) (ts : List Token) → Optional A R o ts
      → Rising n ts → WithinMaybe P o
  maybe_within one o ts missing f = tt
  maybe_within one o ts (present {x} {s} p) f = one x s p f
