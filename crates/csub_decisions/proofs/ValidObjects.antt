-- The objects of a function, by its parameters and its locals.
use Rattle.std.proofs.Common.{◌≡◌, ◌≢◌, ◌↔◌, ◌∙◌, ℕ, List, [], ◌∷◌, ◌++◌, ◌&&◌, map, get_or, All, AllPairs, Option, Some, None, find, nat_eq, refl, ap, sym, subst, bytes_eq}
use Rattle.std.specs.Option.{option_map, option_or}
use Rattle.std.proofs.lemmas.List.Folds.{find-append}
use Rattle.csub_objects.specs.declared.types.Member.{Member}
use Rattle.csub_semantics.specs.declared.function.LocalVar.{LocalVar}
use Rattle.csub_objects.specs.Types.{Name, TypeTree}
use Rattle.csub_objects.specs.Meaning.{member_tree}
use Rattle.csub_semantics.specs.Syntax.{LocalTree, local_tree}
use Rattle.csub_validity.specs.Valid.{parameter_object, type_in, AreOther}
use Rattle.csub_decisions.specs.Checks.{AreApart}
use Rattle.csub_validity.proofs.LawsLists.{All-of_map, AllPairs-of_map}
use Rattle.csub_decisions.proofs.ValidLists.{AllPairs-append}

-- a parameter as an object
abbrev pub as_object : Member → LocalTree
as_object p = parameter_object (member_tree p)

pub same_objects : (ps : List Member) → map parameter_object (map member_tree ps) ≡ map as_object ps
same_objects [] = refl
same_objects (p ∷ ps) = ap (λ os. as_object p ∷ os) (same_objects ps)

type_of_either : (o u : Option LocalTree) → option_map (λ (x : LocalTree). x.ctype) (option_or o u) ≡ option_or (option_map (λ (x : LocalTree). x.ctype) o) (option_map (λ (x : LocalTree). x.ctype) u)
type_of_either None u = refl
type_of_either (Some x) u = refl

type_in-append : (os us : List LocalTree) (a : Name) (n : ℕ) → type_in (os ++ us) a n ≡ option_or (type_in os a n) (type_in us a n)
type_in-append os us a n =
    let test = λ (o : LocalTree). bytes_eq o.name a && nat_eq o.number n in
    ap (option_map (λ (o : LocalTree). o.ctype)) (find-append test os us) ∙ type_of_either (find test os) (find test us)

-- what is found among the parameters, and what is found among the locals where no parameter fits
pub found_first : (ps : List Member) (ls : List LocalTree) (a : Name) (n : ℕ) (t : TypeTree) → Some t ≡ type_in (map as_object ps) a n → Some t ≡ type_in (map parameter_object (map member_tree ps) ++ ls) a n
found_first ps ls a n t e =
    ap (λ o. option_or o (type_in ls a n)) e ∙ sym (type_in-append (map as_object ps) ls a n) ∙ ap (λ os. type_in (os ++ ls) a n) (sym (same_objects ps))

pub found_later : (ps : List Member) (ls : List LocalTree) (a : Name) (n : ℕ) → None ≡ type_in (map as_object ps) a n → type_in ls a n ≡ type_in (map parameter_object (map member_tree ps) ++ ls) a n
found_later ps ls a n e =
    ap (λ o. option_or o (type_in ls a n)) e ∙ sym (type_in-append (map as_object ps) ls a n) ∙ ap (λ os. type_in (os ++ ls) a n) (sym (same_objects ps))

params_apart : (ps : List Member) → AllPairs AreOther (map parameter_object (map member_tree ps)) ↔ AllPairs (λ (a b : Member). a.name ≢ b.name) ps
params_apart ps =
    let pairs = AllPairs-of_map AreOther as_object ps in (
      λ h i j d less below same. pairs.0 (subst (AllPairs AreOther) (same_objects ps) h) i j d less below same refl,
      λ h. subst (AllPairs AreOther) (sym (same_objects ps)) (pairs.1 (λ i j d less below same one. h i j d less below same)),
    )

cross_apart : (ps : List Member) (ls : List LocalVar) → All (λ o. All (AreOther o) (map local_tree ls)) (map parameter_object (map member_tree ps)) ↔ AreApart ps ls
cross_apart ps ls =
    let outer = All-of_map (λ o. All (AreOther o) (map local_tree ls)) as_object ps in
    let inner = λ (p : Member). All-of_map (AreOther (as_object p)) local_tree ls in (
      λ h k d below first i e inside same. (inner (get_or ps i e)).0 (outer.0 (subst (All (λ o. All (AreOther o) (map local_tree ls))) (same_objects ps) h) i e inside) k d below same (sym first),
      λ h. subst (All (λ o. All (AreOther o) (map local_tree ls))) (sym (same_objects ps)) (outer.1 (λ i e inside. (inner (get_or ps i e)).1 (λ k d below same one. h k d below (sym one) i e inside same))),
    )

-- no two objects of a function have one name and one number
pub objects_apart : (ps : List Member) (ls : List LocalVar) → AllPairs AreOther (map parameter_object (map member_tree ps) ++ map local_tree ls) ↔ (AllPairs (λ (a b : Member). a.name ≢ b.name) ps × (AllPairs (λ (a b : LocalVar). AreOther (local_tree a) (local_tree b)) ls × AreApart ps ls))
objects_apart ps ls =
    let whole = AllPairs-append AreOther (map parameter_object (map member_tree ps)) (map local_tree ls) in
    let params = params_apart ps in
    let locals = AllPairs-of_map AreOther local_tree ls in
    let cross = cross_apart ps ls in (
      λ h. let parts = whole.0 h in (params.0 parts.0, (locals.0 parts.1, cross.0 parts.2)),
      λ h. whole.1 (params.1 h.0, locals.1 h.1.0, cross.1 h.1.1),
    )
