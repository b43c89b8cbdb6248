-- Zeros, one after the other and all at once.
use Rattle.std.proofs.Common.{◌≡◌, ◌∙◌, refl, sym, ap, arith, ℕ, zero, suc, ◌+◌, ◌-◌, ◌*◌, ◌≤◌, ℤ, pos, List, [], ◌∷◌, ◌++◌, length, map, take, drop, replicate}
use Rattle.std.proofs.Common.{Result, Ok, Err, OnOk, ⊎_elim}
use Rattle.std.specs.List.{repeat}
use Rattle.std.proofs.lemmas.Bool.{cases_lt}
use Rattle.std.proofs.lemmas.List.{append-nil, map-append}
use Rattle.std.proofs.Math.Nat.{mul_comm}
use Rattle.std.proofs.Math.ListN.{drop_of_length-le}
use Rattle.csub_types.specs.declared.kind.IntKind.{IntKind}
use Rattle.csub_objects.specs.Types.{IsCapped, TypeTree, MemberTrees, no_member, more_members, cells, kinds, member_kinds}
use Rattle.csub_objects.proofs.LawsTypes.{length-kinds}
use Rattle.csub_tree.specs.declared.declaration.Init.{Init as CodeInit}
use Rattle.csub_tree.specs.Declarations.{NoInits, init_tree, inits_of}
use Rattle.csub_scopes.specs.Scopes.{Scope}
use Rattle.csub_resolution.specs.Contents.{zeros, member_contents}

take_whole : {X : Type 0} (n : ℕ) (xs : List X) → length xs ≤ n → take n xs ≡ xs
take_whole zero [] h = refl
take_whole zero (x ∷ xs) h = absurd (omega arith)
take_whole (suc n) [] h = refl
take_whole (suc n) (x ∷ xs) h = ap (λ ys. x ∷ ys) (take_whole n xs (omega arith))

-- numbers behind which zeros were put
pub extended : (old new : List ℤ) (n len size : ℕ) → new ≡ take n old ++ replicate (n - len) (pos 0) → len ≡ length old → n ≡ len + size
    → new ≡ old ++ replicate size (pos 0)
extended old new n len size e el en =
    let more : n - len ≡ size = omega arith in
    e ∙ ap (λ xs. xs ++ replicate (n - len) (pos 0)) (take_whole n old (omega arith)) ∙ ap (λ k. old ++ replicate k (pos 0)) more

all_zero : {X : Type 0} (xs : List X) → map (λ x. pos 0) xs ≡ replicate (length xs) (pos 0)
all_zero [] = refl
all_zero (x ∷ xs) = ap (λ ys. pos 0 ∷ ys) (all_zero xs)

replicate_more : {X : Type 0} (x : X) (m n : ℕ) → replicate m x ++ replicate n x ≡ replicate (m + n) x
replicate_more x zero n = let none : n ≡ 0 + n = omega arith in ap (λ k. replicate k x) none
replicate_more x (suc m) n =
    let more : suc (m + n) ≡ suc m + n = omega arith in ap (λ ys. x ∷ ys) (replicate_more x m n) ∙ ap (λ k. replicate k x) more

repeated : {X : Type 0} (x : X) (n m : ℕ) → repeat n (replicate m x) ≡ replicate (n * m) x
repeated x zero m = let none : 0 * m ≡ 0 = omega arith in ap (λ k. replicate k x) (sym none)
repeated x (suc n) m =
    let more : m + n * m ≡ suc n * m = omega arith in
    ap (λ ys. replicate m x ++ ys) (repeated x n m) ∙ replicate_more x m (n * m) ∙ ap (λ k. replicate k x) more

-- a number that is counted up to 65,536 only, where it is no more
pub exact : (c n : ℕ) → IsCapped c n → c ≤ 65536 → c ≡ n
exact c n h small =
    ⊎_elim (λ k. let far : c ≡ 65537 = h.above k in absurd (omega arith)) (λ k. h.exact k) (cases_lt 65536 n)

-- as many as there are cells
pub counted : (n c : ℕ) (t : TypeTree) → c ≡ cells t → replicate (c * n) (pos 0) ≡ repeat n (zeros t)
counted n c t e =
    let turned : c * n ≡ n * cells t = ap (λ m. m * n) e ∙ mul_comm (cells t) n in
    ap (λ k. replicate k (pos 0)) turned ∙ sym (repeated (pos 0) n (cells t)) ∙ ap (λ k. repeat n (replicate k (pos 0))) (sym (length-kinds t))
    ∙ ap (λ xs. repeat n xs) (sym (all_zero (kinds t)))

pub once : {X : Type 0} (xs : List X) → repeat 1 xs ≡ xs
once xs = append-nil xs

-- members for which nothing is given
pub none_given : (scope : Scope) (ms : MemberTrees) → member_contents scope NoInits ms ≡ map (λ k. pos 0) (member_kinds ms)
none_given scope no_member = refl
none_given scope (more_members a t ms) =
    ap (λ xs. zeros t ++ xs) (none_given scope ms) ∙ sym (map-append (λ (k : IntKind). pos 0) (kinds t) (member_kinds ms))

-- all entries are behind, and nothing is given for the members that are left
pub members_done : {A B : Type 0} (r : Result A B) (scope : Scope) (ms : MemberTrees) (es : List CodeInit) (i : ℕ) (new now whole : List ℤ)
    → OnOk r (new ≡ now ++ map (λ k. pos 0) (member_kinds ms)) → length es ≤ i
    → now ++ member_contents scope (inits_of (map init_tree (drop i es))) ms ≡ whole → OnOk r (new ≡ whole)
members_done (Ok x) scope ms es i new now whole e l h =
    e ∙ ap (λ xs. now ++ xs) (sym (none_given scope ms))
    ∙ ap (λ xs. now ++ member_contents scope (inits_of (map init_tree xs)) ms) (sym (drop_of_length-le es l)) ∙ h
members_done (Err x) scope ms es i new now whole e l h = tt
