-- Declared objects, one after the other and as a whole.
use Rattle.std.proofs.Common.{◌≡◌, ◌∙◌, sym, ap, subst, append_assoc, ℕ, ◌+◌, ◌<◌, List, [], ◌∷◌, ◌++◌, length, map, drop, get_or, Option}
use Rattle.std.proofs.lemmas.List.{drop_more}
use Rattle.csub_tree.specs.declared.declaration.Declarator.{Declarator as CodeDeclarator}
use Rattle.csub_tree.specs.Declarations.{Declarator, declarator_tree}
use Rattle.csub_objects.specs.Types.{TypeTree}
use Rattle.csub_semantics.specs.Syntax.{LocalTree, PartTree}
use Rattle.csub_rules.specs.BrokenLocal.{FineVar, FineVars}
use Rattle.csub_rules.specs.Declarators.{object_type}
use Rattle.csub_rules.specs.Here.{Here}
use Rattle.csub_rules.specs.Locals.{past_var, past_vars}
use Rattle.csub_resolution.specs.Values.{Defined}
use Rattle.csub_resolution.specs.Lines.{var_parts, vars_locals, vars_parts}
use Rattle.csub_lines.specs.Numbers.{HasNumbers, parts_of_object}
use Rattle.csub_lines.specs.Objects.{local_of}
use Rattle.csub_lines.proofs.Numbers.{has_numbers, same_parts}

-- one object, by what is declared then
pub var_numbers : (h k : Here) (base : Option TypeTree) (d : Declarator) → k ≡ past_var h base d → FineVar h base d → HasNumbers k.scope d.init
var_numbers h k base d p f =
    subst (λ (x : Here). HasNumbers x.scope d.init) (sym p) (has_numbers (past_var h base d).scope (object_type h.scope base d.dims) d.init f.3)

pub var_more : (defined : List Defined) (h k : Here) (base : Option TypeTree) (d : Declarator) (v : LocalTree) (old new : List PartTree)
    → k ≡ past_var h base d → v ≡ local_of h base d → new ≡ old ++ parts_of_object defined k.scope d.name v.number v.ctype d.init
    → new ≡ old ++ var_parts defined h base d d.init
var_more defined h k base d v old new p q n =
    n ∙ ap (λ (x : Here). old ++ parts_of_object defined x.scope d.name v.number v.ctype d.init) p
    ∙ ap (λ (x : LocalTree). old ++ parts_of_object defined (past_var h base d).scope d.name x.number x.ctype d.init) q
    ∙ ap (λ xs. old ++ xs) (same_parts defined h base d d.init)

dropped : {X : Type 0} (xs : List X) (i : ℕ) (x : X) → i < length xs → x ≡ get_or xs i x → x ∷ drop (i + 1) xs ≡ drop i xs
dropped xs i x h e = sym (drop_more xs i x h ∙ ap (λ y. y ∷ drop (i + 1) xs) (sym e))

abbrev vars : List CodeDeclarator → List Declarator
vars ds = map declarator_tree ds

-- one object more
pub past_more : (h k : Here) (base : Option TypeTree) (ds : List CodeDeclarator) (i : ℕ) (d : CodeDeclarator) → i < length ds → d ≡ get_or ds i d
    → k ≡ past_var h base (declarator_tree d) → past_vars k base (vars (drop (i + 1) ds)) ≡ past_vars h base (vars (drop i ds))
past_more h k base ds i d l e p =
    ap (λ (x : Here). past_vars x base (vars (drop (i + 1) ds))) p ∙ ap (λ xs. past_vars h base (vars xs)) (dropped ds i d l e)

pub locals_more : (h k : Here) (base : Option TypeTree) (ds : List CodeDeclarator) (i : ℕ) (d : CodeDeclarator) (old new : List LocalTree)
    → i < length ds → d ≡ get_or ds i d → k ≡ past_var h base (declarator_tree d) → new ≡ old ++ local_of h base (declarator_tree d) ∷ []
    → new ++ vars_locals k base (vars (drop (i + 1) ds)) ≡ old ++ vars_locals h base (vars (drop i ds))
locals_more h k base ds i d old new l e p n =
    let rest = vars (drop (i + 1) ds) in
    let t : Declarator = declarator_tree d in
    ap (λ xs. xs ++ vars_locals k base rest) n ∙ ap (λ (x : Here). (old ++ local_of h base t ∷ []) ++ vars_locals x base rest) p
    ∙ append_assoc old (local_of h base t ∷ []) (vars_locals (past_var h base t) base rest)
    ∙ ap (λ xs. old ++ vars_locals h base (vars xs)) (dropped ds i d l e)

pub parts_more : (defined : List Defined) (h k : Here) (base : Option TypeTree) (ds : List CodeDeclarator) (i : ℕ) (d : CodeDeclarator)
    (old new : List PartTree) → i < length ds → d ≡ get_or ds i d → k ≡ past_var h base (declarator_tree d)
    → new ≡ old ++ var_parts defined h base (declarator_tree d) (declarator_tree d).init
    → new ++ vars_parts defined k base (vars (drop (i + 1) ds)) ≡ old ++ vars_parts defined h base (vars (drop i ds))
parts_more defined h k base ds i d old new l e p n =
    let rest = vars (drop (i + 1) ds) in
    let t : Declarator = declarator_tree d in
    ap (λ xs. xs ++ vars_parts defined k base rest) n
    ∙ ap (λ (x : Here). (old ++ var_parts defined h base t t.init) ++ vars_parts defined x base rest) p
    ∙ append_assoc old (var_parts defined h base t t.init) (vars_parts defined (past_var h base t) base rest)
    ∙ ap (λ xs. old ++ vars_parts defined h base (vars xs)) (dropped ds i d l e)

pub fine_this : (h : Here) (base : Option TypeTree) (ds : List CodeDeclarator) (i : ℕ) (d : CodeDeclarator) → i < length ds → d ≡ get_or ds i d
    → FineVars h base (vars (drop i ds)) → FineVars h base (declarator_tree d ∷ vars (drop (i + 1) ds))
fine_this h base ds i d l e f = subst (λ xs. FineVars h base (vars xs)) (sym (dropped ds i d l e)) f

pub fine_more : (h k : Here) (base : Option TypeTree) (ds : List CodeDeclarator) (i : ℕ) (d : CodeDeclarator) → i < length ds → d ≡ get_or ds i d
    → k ≡ past_var h base (declarator_tree d) → FineVars h base (vars (drop i ds)) → FineVars k base (vars (drop (i + 1) ds))
fine_more h k base ds i d l e p f =
    subst (λ (x : Here). FineVars x base (vars (drop (i + 1) ds))) (sym p) (fine_this h base ds i d l e f).1
