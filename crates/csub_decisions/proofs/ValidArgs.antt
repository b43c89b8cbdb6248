-- The arguments of a call fit its parameters where they are as many, and each fits.
use Rattle.std.proofs.Common.{◌≡◌, ◌↔◌, ℕ, Bool, true, false, nat_lt, zero, suc, ◌+◌, ◌<◌, List, [], ◌∷◌, map, length, get_or, arith, refl, ap, sym, subst}
use Rattle.std.proofs.lemmas.Bool.{ltb-true, ltb-false}
use Rattle.std.proofs.lemmas.List.Elements.{at_read}
use Rattle.csub_objects.specs.declared.types.Member.{Member}
use Rattle.csub_semantics.specs.declared.expression.RArg.{RArg}
use Rattle.csub_objects.specs.Meaning.{member_tree}
use Rattle.csub_semantics.specs.Trees.{arg_tree}
use Rattle.csub_validity.specs.Valid.{Scope, IsArg, AreArgs}

-- each argument up to one of a number fits its parameter
abbrev pub FitUpTo : Scope → ℕ → List Member → List RArg → ℕ → Type 0
FitUpTo sc n ps xs count = (k : ℕ) (p : Member) (a : RArg) → k < count → IsArg sc n (member_tree (get_or ps k p)) (arg_tree (get_or xs k a))

pub AreArgs-split : (sc : Scope) (n : ℕ) (ps : List Member) (xs : List RArg) → length ps ≡ length xs
    → AreArgs sc n (map member_tree ps) (map arg_tree xs) ↔ FitUpTo sc n ps xs (length ps)
AreArgs-split sc n [] [] e = (λ h k p a below. absurd (omega (arith, below)), λ h. tt)
AreArgs-split sc n [] (x ∷ xs) e = absurd (omega (arith, e))
AreArgs-split sc n (p ∷ ps) [] e = absurd (omega (arith, e))
AreArgs-split sc n (p ∷ ps) (x ∷ xs) e =
    let rest = AreArgs-split sc n ps xs (omega (arith, e)) in
    (there rest.0, λ h. (h 0 p x (omega arith), rest.1 (λ k q a below. h (suc k) q a (omega (arith, below)))))
  where
    there : (AreArgs sc n (map member_tree ps) (map arg_tree xs) → FitUpTo sc n ps xs (length ps))
        → AreArgs sc n (map member_tree (p ∷ ps)) (map arg_tree (x ∷ xs)) → FitUpTo sc n (p ∷ ps) (x ∷ xs) (length (p ∷ ps))
    there again h zero q a below = h.0
    there again h (suc k) q a below = again h.1 k q a (omega (arith, below))

pub as_many : (sc : Scope) (n : ℕ) (ps : List Member) (xs : List RArg) → AreArgs sc n (map member_tree ps) (map arg_tree xs) → length ps ≡ length xs
as_many sc n [] [] h = refl
as_many sc n [] (x ∷ xs) h = absurd h
as_many sc n (p ∷ ps) [] h = absurd h
as_many sc n (p ∷ ps) (x ∷ xs) h = ap suc (as_many sc n ps xs h.1)

-- one more argument
pub FitUpTo-more : (sc : Scope) (n : ℕ) (ps : List Member) (xs : List RArg) (i : ℕ) (p : Member) (x : RArg) → i < length ps → i < length xs
    → p ≡ get_or ps i p → x ≡ get_or xs i x → IsArg sc n (member_tree p) (arg_tree x) → FitUpTo sc n ps xs i → FitUpTo sc n ps xs (i + 1)
FitUpTo-more sc n ps xs i p x inside there is same fits before k q a below = pick (nat_lt k i) refl
  where
    last : IsArg sc n (member_tree (get_or ps i q)) (arg_tree (get_or xs i a))
    last =
        at_read ps (λ r. IsArg sc n (member_tree r) (arg_tree (get_or xs i a))) i p inside is
        (at_read xs (λ r. IsArg sc n (member_tree p) (arg_tree r)) i x there same fits a) q

    pick : (b : Bool) → nat_lt k i ≡ b → IsArg sc n (member_tree (get_or ps k q)) (arg_tree (get_or xs k a))
    pick true less = before k q a (ltb-true k i less)
    pick false not_less =
        let high = ltb-false k i not_less in let e : i ≡ k = omega (arith, below, high) in
        subst (λ j. IsArg sc n (member_tree (get_or ps j q)) (arg_tree (get_or xs j a))) e last

-- an argument that does not fit
pub FitUpTo-at : (sc : Scope) (n : ℕ) (ps : List Member) (xs : List RArg) (i : ℕ) (p : Member) (x : RArg) → i < length ps
    → p ≡ get_or ps i p → x ≡ get_or xs i x → FitUpTo sc n ps xs (length ps) → IsArg sc n (member_tree p) (arg_tree x)
FitUpTo-at sc n ps xs i p x inside is same h =
    subst (λ r. IsArg sc n (member_tree r) (arg_tree x)) (sym is) (subst (λ r. IsArg sc n (member_tree (get_or ps i p)) (arg_tree r)) (sym same) (h i p x inside))
