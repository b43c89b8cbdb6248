-- The names of the members of structs, by the types of the code, and what holds of the types of all objects.
use Rattle.std.proofs.Common.{◌≡◌, ◌≢◌, ◌↔◌, List, [], ◌∷◌, ◌++◌, map, slice_index_or, All, AllPairs, refl, ap, sym, subst}
use Rattle.std.specs.List.{flat_map}
use Rattle.std.proofs.lemmas.List.Elements.{All-head, All-tail}
use Rattle.csub_objects.specs.declared.types.Member.{Member}
use Rattle.csub_objects.specs.Meaning.{type_tree, member_tree}
use Rattle.csub_objects.specs.Types.{Name, TypeTree, struct_type, MemberTree, members_of, HaveDifferentNames}
use Rattle.csub_semantics.specs.declared.types.GlobalVar.{GlobalVar}
use Rattle.csub_semantics.specs.declared.function.Function.{Function}
use Rattle.csub_semantics.specs.Types.{GlobalTree, global_tree}
use Rattle.csub_semantics.specs.Syntax.{LocalTree, FunctionTree, function_tree}
use Rattle.csub_decisions.specs.declared.site.Definitions.{Definitions}
use Rattle.csub_validity.specs.Valid.{objects_of, declared_types, names_in, HasOwnNames, HaveOwnNames}
use Rattle.csub_decisions.specs.Checks.{tree_of, OfObjects}
use Rattle.csub_validity.proofs.LawsLists.{All-of_map, AllPairs-of_map}
use Rattle.csub_decisions.proofs.ValidLists.{All-append}
use Rattle.csub_decisions.proofs.ValidTags.{All-flat_map}

names_in-map : (ms : List MemberTree) → names_in (members_of ms) ≡ map (λ (m : MemberTree). m.name) ms
names_in-map [] = refl
names_in-map (m ∷ ms) = ap (λ xs. m.name ∷ xs) (names_in-map ms)

-- members of different names
different : (ms : List MemberTree) → HaveDifferentNames ms → AllPairs (λ (x y : Name). x ≢ y) (names_in (members_of ms))
different ms h =
    subst (AllPairs (λ (x y : Name). x ≢ y)) (sym (names_in-map ms)) ((AllPairs-of_map (λ (x y : Name). x ≢ y) (λ (m : MemberTree). m.name) ms).1 h)

each_own : (ms : List Member) → All (λ (m : Member). HasOwnNames (type_tree m.ctype)) ms → HaveOwnNames (members_of (map member_tree ms))
each_own [] h = tt
each_own (m ∷ ms) h =
    (All-head (λ (x : Member). HasOwnNames (type_tree x.ctype)) m ms h, each_own ms (All-tail (λ (x : Member). HasOwnNames (type_tree x.ctype)) m ms h))

-- a struct whose members have different names, and types in which it is so
pub struct_own : (t : TypeTree) (tag : Name) (ms : List Member) → t ≡ struct_type tag (members_of (map member_tree ms))
    → HaveDifferentNames (map member_tree ms) → All (λ (m : Member). HasOwnNames (type_tree m.ctype)) ms → HasOwnNames t
struct_own t tag ms e h each = subst HasOwnNames (sym e) (different (map member_tree ms) h, each_own ms each)

-- what holds of the types of the objects of file scope and of all functions holds of all types
pub types_split : (R : TypeTree → Type 0) (d : Definitions) → All (λ (g : GlobalVar). R (type_tree g.ctype)) d.globals.now
    → All (λ (f : Function). OfObjects R (function_tree f)) d.functions.now → All R (declared_types (tree_of d))
types_split R d globals functions =
    let gs = map global_tree d.globals.now in
    let fs = map function_tree d.functions.now in
    let types = λ (f : FunctionTree). map (λ (o : LocalTree). o.ctype) (objects_of f) in
    let first = (All-of_map R (λ (g : GlobalTree). g.ctype) gs).1 ((All-of_map (λ (g : GlobalTree). R g.ctype) global_tree d.globals.now).1 globals) in
    let objects = (All-of_map (OfObjects R) function_tree d.functions.now).1 functions in
    let later = (All-flat_map R types fs).1 (λ k f below. (All-of_map R (λ (o : LocalTree). o.ctype) (objects_of (slice_index_or fs k f))).1 (objects k f below)) in
    (All-append R (map (λ (g : GlobalTree). g.ctype) gs) (flat_map types fs)).1 (first, later)
