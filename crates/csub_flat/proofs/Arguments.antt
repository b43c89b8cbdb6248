-- Arguments, one after another.
use Rattle.std.proofs.Common.{ℕ, ◌≡◌, ◌<◌, ◌≤◌, ◌+◌, ◌-◌, ◌∙◌, List, [], ◌∷◌, ◌++◌, map, take, drop, length, get_or, sym, ap, subst, arith, append_assoc}
use Rattle.std.proofs.lemmas.List.{map-append, drop_more, take_all}
use Rattle.csub_objects.specs.declared.types.Member.{Member}
use Rattle.csub_objects.specs.Meaning.{member_tree}
use Rattle.csub_semantics.specs.Trees.{arg_tree}
use Rattle.csub_semantics.specs.Syntax.{LocalTree, FunctionTree}
use Rattle.csub_semantics.specs.declared.expression.RArg.{RArg}
use Rattle.csub_flat.specs.Trees as the
use Rattle.csub_flat.specs.Flatten.{parameter_slot, flat_given, paired}
use Rattle.csub_flat.specs.Fits.{FitsArg, FitArgs}
use Rattle.csub_flat.specs.Seen.{arg_seen}
use Rattle.csub_flat.specs.declared.flat.FlatArg.{FlatArg}

-- one argument more, with its parameter
module _ (gs : List LocalTree) (f callee : FunctionTree) (params : List Member) where
  abbrev from : ℕ → List RArg → List the.FlatArg
  from i rest = paired gs f callee (map member_tree (drop i params)) (map arg_tree rest)

  pub paired_more : (more made : List FlatArg) (m : FlatArg) (i n : ℕ) (p : Member) (a : RArg) (rest : List RArg) → i < length params → p ≡ get_or params i p
      → 1 ≤ length rest → a ≡ get_or rest 0 a → n ≡ length rest - 1
      → arg_seen m ≡ record { slot = parameter_slot callee (member_tree p); given = flat_given gs f (member_tree p) (arg_tree a) }
      → more ≡ made ++ m ∷ [] → map arg_seen more ++ from (i + 1) (take n (drop 1 rest)) ≡ map arg_seen made ++ from i rest
  paired_more more made m i n p a [] within is some first left same pushed = absurd (omega arith)
  paired_more more made m i n p a (b ∷ rs) within is some first left same pushed =
      let here : from i (b ∷ rs) ≡ arg_seen m ∷ from (i + 1) rs =
      ap (λ (ps : List Member). paired gs f callee (map member_tree ps) (arg_tree b ∷ map arg_tree rs)) (drop_more params i p within)
      ∙ ap (λ (q : Member). paired gs f callee (member_tree q ∷ map member_tree (drop (i + 1) params)) (arg_tree b ∷ map arg_tree rs)) (sym is)
      ∙ ap (λ (c : RArg). let x : the.FlatArg = record { slot = parameter_slot callee (member_tree p); given = flat_given gs f (member_tree p) (arg_tree c) } in x ∷ from (i + 1) rs) (sym first)
      ∙ ap (λ (x : the.FlatArg). x ∷ from (i + 1) rs) (sym same)
      in
      let all : take n rs ≡ rs = take_all n rs (omega arith) in
      ap (λ (xs : List FlatArg). map arg_seen xs ++ from (i + 1) (take n rs)) pushed
      ∙ ap (λ (xs : List the.FlatArg). xs ++ from (i + 1) (take n rs)) (map-append arg_seen made (m ∷ []))
      ∙ append_assoc (map arg_seen made) (arg_seen m ∷ []) (from (i + 1) (take n rs))
      ∙ ap (λ (ys : List RArg). map arg_seen made ++ arg_seen m ∷ from (i + 1) ys) all
      ∙ ap (λ (xs : List the.FlatArg). map arg_seen made ++ xs) (sym here)

-- the first argument fits its parameter, and so do those behind it, as a pattern leaves them
module _ (gs : List LocalTree) (f : FunctionTree) (params : List Member) where
  pub fits_more : (i n : ℕ) (p : Member) (a : RArg) (rest : List RArg) → i < length params → p ≡ get_or params i p
      → 1 ≤ length rest → a ≡ get_or rest 0 a → n ≡ length rest - 1 → FitArgs gs f (map member_tree (drop i params)) (map arg_tree rest)
      → FitsArg gs f (member_tree p) (arg_tree a) × FitArgs gs f (map member_tree (drop (i + 1) params)) (map arg_tree (take n (drop 1 rest)))
  fits_more i n p a [] within is some first left h = absurd (omega arith)
  fits_more i n p a (b ∷ rs) within is some first left h =
      let q = get_or params i p in
      let later = map member_tree (drop (i + 1) params) in
      let both : FitArgs gs f (member_tree q ∷ later) (arg_tree b ∷ map arg_tree rs) =
      subst (λ (ps : List Member). FitArgs gs f (map member_tree ps) (arg_tree b ∷ map arg_tree rs)) (drop_more params i p within) h
      in (
        subst (λ (m : Member). FitsArg gs f (member_tree m) (arg_tree a)) (sym is) (subst (λ (c : RArg). FitsArg gs f (member_tree q) (arg_tree c)) (sym first) both.0),
        subst (λ (xs : List RArg). FitArgs gs f later (map arg_tree xs)) (sym (take_all n rs (omega arith))) both.1,
      )
