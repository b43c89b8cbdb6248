-- A label has each global that its tree names, where the program declares it; and equal declarations.
use Rattle.std.proofs.Common.{◌≡◌, ◌⊎◌, inl, inr, List, [], ◌∷◌, ◌++◌, Bool, true, false, ◌||◌, Option, Some, None, IsTrue, refl, ap, sym, subst, ◌∙◌, bytes_eq}
use Rattle.std.specs.List.{list_any}
use Rattle.std.specs.declared.cmp.Ordering.{Ordering}
use Rattle.std.specs.declared.cmp.Ordering.TheVariants.{Less, Equal, Greater}
use Rattle.std.specs.Ordering.{nat_cmp, match_ordering}
use Rattle.std.specs.Cmp.Lexicographic.{slice_cmp}
use Rattle.std.specs.FinMap.{nat_cmp-IsAntisymmetric, slice_cmp-IsAntisymmetric}
use Rattle.std.specs.BTreeSet.{insert_key}
use Rattle.csub_objects.specs.Types.{Name, TypeTree, type_eq}
use Rattle.csub_objects.proofs.LawsTypes.{type_eq-Decides}
use Rattle.csub_semantics.specs.Types.{GlobalTree}
use Rattle.csub_semantics.specs.Labels.{LabelTree}
use Rattle.csub_semantics.specs.Globals.{ordered, global_of, found_first, globals_of, label_names, named_globals}
use Rattle.program_laws.proofs.Lists.{passes_found}

-- a stands among names
abbrev pub Among : List Name → Name → Type 0
Among [] a = ⊥
Among (b ∷ names) a = (b ≡ a) ⊎ Among names a

pub among_left : (names more : List Name) (a : Name) → Among names a → Among (names ++ more) a
among_left [] more a h = absurd h
among_left (b ∷ names) more a (inl e) = inl e
among_left (b ∷ names) more a (inr h) = inr (among_left names more a h)

pub among_right : (names more : List Name) (a : Name) → Among more a → Among (names ++ more) a
among_right [] more a h = h
among_right (b ∷ names) more a h = inr (among_right names more a h)

abbrev order : Name → Name → Ordering
order a b = slice_cmp nat_cmp a b

inserted : (names : List Name) (a : Name) → Among (insert_key order names a) a
inserted [] a = inl refl
inserted (b ∷ names) a = pick (order a b) refl (inserted names a)
  where
    pick : (o : Ordering) → order a b ≡ o → Among (insert_key order names a) a → Among (match_ordering o (a ∷ b ∷ names) (b ∷ names) (b ∷ insert_key order names a)) a
    pick Less e h = inl refl
    pick Equal e h = inl (sym (slice_cmp-IsAntisymmetric nat_cmp-IsAntisymmetric a b e))
    pick Greater e h = inr h

kept : (names : List Name) (b a : Name) → Among names a → Among (insert_key order names b) a
kept [] b a h = absurd h
kept (c ∷ names) b a h = pick (order b c) (kept names b a) h
  where
    pick : (o : Ordering) → (Among names a → Among (insert_key order names b) a) → Among (c ∷ names) a → Among (match_ordering o (b ∷ c ∷ names) (c ∷ names) (c ∷ insert_key order names b)) a
    pick Less later h = inr h
    pick Equal later h = h
    pick Greater later (inl e) = inl e
    pick Greater later (inr g) = inr (later g)

-- names that are put in order are all there
ordered_before : (names before : List Name) (a : Name) → Among before a → Among (ordered before names) a
ordered_before [] before a h = h
ordered_before (b ∷ names) before a h = ordered_before names (insert_key order before b) a (kept before b a h)

ordered_all : (names before : List Name) (a : Name) → Among names a → Among (ordered before names) a
ordered_all [] before a h = absurd h
ordered_all (b ∷ names) before a (inl e) = ordered_before names (insert_key order before b) a (subst (λ c. Among (insert_key order before b) c) e (inserted before b))
ordered_all (b ∷ names) before a (inr h) = ordered_all names (insert_key order before b) a h

-- the global of a name is listed
abbrev Listed : List GlobalTree → Name → Type 0
Listed gs a = IsTrue (list_any (λ (g : GlobalTree). bytes_eq g.name a) gs)

listed_later : (g : GlobalTree) (gs : List GlobalTree) (a : Name) → Listed gs a → Listed (g ∷ gs) a
listed_later g gs a h = pick (bytes_eq g.name a) h
  where
    pick : (b : Bool) → Listed gs a → IsTrue (b || list_any (λ (g : GlobalTree). bytes_eq g.name a) gs)
    pick true h = refl
    pick false h = h

found_is_listed : (globals : List GlobalTree) (names : List Name) (a : Name) (g : GlobalTree) → global_of globals a ≡ Some g → Among names a → Listed (globals_of globals names) a
found_is_listed globals [] a g e h = absurd h
found_is_listed globals (b ∷ names) a g e (inl same) =
    let here : global_of globals b ≡ Some g = ap (global_of globals) same ∙ e in
    let name = passes_found (λ (h : GlobalTree). bytes_eq h.name a) globals g e in
    subst (λ o. Listed (found_first o (globals_of globals names)) a) (sym here) (ap (λ t. t || list_any (λ (h : GlobalTree). bytes_eq h.name a) (globals_of globals names)) name)
found_is_listed globals (b ∷ names) a g e (inr h) = pick (global_of globals b) (found_is_listed globals names a g e h)
  where
    pick : (o : Option GlobalTree) → Listed (globals_of globals names) a → Listed (found_first o (globals_of globals names)) a
    pick None h = h
    pick (Some f) h = listed_later f (globals_of globals names) a h

-- a label lists each global that its tree names and the program declares
pub named_is_listed : (globals : List GlobalTree) (l : LabelTree) (a : Name) (g : GlobalTree) → global_of globals a ≡ Some g → Among (label_names l) a → Listed (named_globals globals l) a
named_is_listed globals l a g e h = found_is_listed globals (ordered [] (label_names l)) a g e (ordered_all (label_names l) [] a h)

-- the test of types decides equality
pub same_type : (t u : TypeTree) → type_eq t u ≡ true → t ≡ u
same_type t u e = (type_eq-Decides t u).0 e

pub type_itself : (t : TypeTree) → type_eq t t ≡ true
type_itself t = (type_eq-Decides t t).1 refl
