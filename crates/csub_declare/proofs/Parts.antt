-- The measure of entries of a list.
use Rattle.std.proofs.Common.{ℕ, zero, suc, ◌+◌, ◌<◌, ◌≤◌, List, [], ◌∷◌, length, map, get_or, arith}
use Rattle.csub_tree.specs.declared.declaration.Init.{Init as CodeInit}
use Rattle.csub_tree.specs.Declarations.{Inits, NoInits, MoreInits, init_tree, inits_of}
use Rattle.csub_declare.specs.Depths.{init_size, inits_size}

some_size : (xs : Inits) → 1 ≤ inits_size xs
some_size NoInits = omega arith
some_size (MoreInits x rest) = let p = some_size rest in omega arith

pub entry_falls : (xs : List CodeInit) (i : ℕ) (d : CodeInit) → i < length xs → init_size (init_tree (get_or xs i d)) + 1 ≤ inits_size (inits_of (map init_tree xs))
entry_falls [] i d h = absurd (omega arith)
entry_falls (x ∷ xs) zero d h = let p = some_size (inits_of (map init_tree xs)) in omega arith
entry_falls (x ∷ xs) (suc i) d h = let rest = entry_falls xs i d (omega arith) in omega arith
