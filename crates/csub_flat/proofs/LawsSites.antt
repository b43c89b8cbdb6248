-- Points and functions of a program by their numbers.
use Rattle.std.proofs.Common.{◌≡◌, ◌<◌, ◌∙◌, ℕ, zero, suc, List, [], ◌∷◌, length, All, Option, Some, Bool, true, false, cond, refl, sym, ap, subst, arith, bytes_eq}
use Rattle.std.specs.Prelude.{slice_get}
use Rattle.std.specs.Option.{option_map}
use Rattle.std.proofs.lemmas.List.Elements.{All-head, All-tail}
use Rattle.csub_objects.specs.Types.{Name}
use Rattle.csub_semantics.specs.Syntax.{FunctionTree, ProgramTree}
use Rattle.csub_semantics.specs.Flows.{point_list, function_in, function_of}
use Rattle.csub_semantics.specs.Numbers.{Site, site_of, site_at}
use Rattle.csub_flat.specs.Sites.{place_of, site_or}

-- a number of a list has an element
pub there : {X : Type 0} (xs : List X) (n : ℕ) → n < length xs → (x : X) × (slice_get xs n ≡ Some x)
there [] n h = absurd (omega arith)
there (x ∷ xs) zero h = (x, refl)
there (x ∷ xs) (suc n) h = there xs n (omega arith)

-- the point with a number of the program
pub place_is : (P : ProgramTree) (n : ℕ) → n < length (point_list P) → site_at P n ≡ Some (place_of P n)
place_is P n h =
    let m = there (point_list P) n h in
    let e = ap (option_map site_of) m.1 in
    e ∙ ap (λ (o : Option Site). Some (site_or o)) (sym e)

found_in : (fs : List FunctionTree) (Q : FunctionTree → Type 0) (a : Name) (g : FunctionTree) → All Q fs → function_in fs a ≡ Some g → Q g
found_in [] Q a g h e = absurd cc
found_in (f ∷ rest) Q a g h e = pick (bytes_eq f.name a) e (λ later. found_in rest Q a g (All-tail Q f rest h) later)
  where
    pick : (b : Bool) → cond b (Some f) (function_in rest a) ≡ Some g → (function_in rest a ≡ Some g → Q g) → Q g
    pick true e later = let same : f ≡ g = cc in subst Q same (All-head Q f rest h)
    pick false e later = later e

-- the function of a name has what all have
pub found_has : (P : ProgramTree) (Q : FunctionTree → Type 0) (a : Name) (g : FunctionTree) → All Q P.functions → function_of P a ≡ Some g → Q g
found_has P Q a g h e = found_in P.functions Q a g h e
