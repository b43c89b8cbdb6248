-- Numbers of types by names.
use Rattle.std.proofs.Common.{◌≡◌, ◌⊎◌, ◌<◌, ◌≤◌, ◌+◌, ◌∙◌, ℕ, List, [], ◌∷◌, ◌++◌, length, map, get_or, take, Some, refl, sym, ap, ap₂, subst, subst₂, inl, inr, arith, slice_get, length-append, Bool, true, false, true≢false, None}
use Rattle.std.specs.Prelude.{IsTrue}
use Rattle.std.specs.List.{All}
use Rattle.std.proofs.lemmas.Option.{slice_get_within, same_Some}
use Rattle.std.proofs.lemmas.List.Elements.{All-append, All-cons, All-nil}
use Rattle.std.proofs.lemmas.List.{map-append, map_more, length-map, get_or-map}
use Rattle.csub_semantics.specs.Types.{GlobalTree}
use Rattle.csub_semantics.specs.Trees.{global_owner, local_owner}
use Rattle.csub_semantics.specs.Labels.{label_tree}
use Rattle.edge_label.specs.declared.types.Typed.{Typed}
use Rattle.label_code.specs.declared.uses.TypeUse.{TypeUse as CodeUse}
use Rattle.csub_objects.specs.Types.{TypeTree}
use Rattle.edge_label.specs.Numbers.{HasEachOnce}
use Rattle.edge_label.specs.Known.{named_code, type_at, IsNumberOf, AreOfTags, AreStructs, AreKnown, AreTyped}
use Rattle.edge_label.specs.Structs.{Table, IsStructTable}
use Rattle.edge_label.specs.declared.structs.TagNumbers.{TagNumbers}
use Rattle.edge_label.specs.Tables.{Extend, IsTypeNumber, AreTypeNumbers, use_type, types_of}
use Rattle.edge_label.specs.declared.table.Tables.{Tables}
use Rattle.edge_label.specs.Uses.{Named, an_object, a_callee, TypeUse, use_tree, Tags, IsTagged, Declarations, declared_type, IsDeclaredUse}
use Rattle.edge_label.proofs.ListLemmas.{last_or_before, last_is}
use Rattle.edge_label.proofs.StructLemmas.{one_more_code}
use Rattle.edge_label.proofs.TableLemmas.{IsTypeNumber-extends, AreTypeNumbers-extends}

-- the declared type of a name is found by its code
pub type_of_name : (d : Declarations) (f : ℕ) (name : Named) → type_at d (named_code f name) ≡ declared_type d f name
type_of_name d f (an_object (global_owner a)) = refl
type_of_name d f (an_object (local_owner a n)) = refl
type_of_name d f (a_callee a) = refl

number_stays : (tables new : Tables) (d : Declarations) (name : List ℕ) (number : ℕ) → Extend tables new → IsNumberOf tables d name number → IsNumberOf new d name number
number_stays tables new d name number grown is = record {
  ctype = is.ctype;
  declared = is.declared;
  stands = IsTypeNumber-extends tables new number is.ctype grown is.stands;
}

module _ (tables : Tables) (d : Declarations) (f : ℕ) (u : TypeUse) (name : List ℕ) (number : ℕ) (same : name ≡ named_code f u.named) where
  declared_there : declared_type d f u.named ≡ Some u.ctype → type_at d name ≡ Some u.ctype
  declared_there declared = ap (type_at d) same ∙ type_of_name d f u.named ∙ declared

  -- the number of a name is that of the type beside it
  pub number_of_use : IsNumberOf tables d name number → declared_type d f u.named ≡ Some u.ctype → IsTypeNumber tables number u.ctype
  number_of_use is declared = subst (IsTypeNumber tables number) (same_Some is.ctype u.ctype (sym is.declared ∙ declared_there declared)) is.stands

  pub use_number : IsTypeNumber tables number u.ctype → declared_type d f u.named ≡ Some u.ctype → IsNumberOf tables d name number
  use_number has declared = record { ctype = u.ctype; declared = declared_there declared; stands = has }

-- nothing is known of no names
pub none_known : (tables : Tables) (d : Declarations) → AreKnown tables d [] []
none_known tables d = record { once = λ i j name at_i at_j. absurd cc; as_many = refl; each = λ p number name at _. absurd cc }

-- where no tag is trusted, nothing is asked of their numbers
pub none_trusted : (structs : Table) (by_tag : Tags) (tags : TagNumbers) → tags.trusted ≡ false → IsStructTable structs → AreStructs by_tag structs tags
none_trusted structs by_tag tags untrusted is = record { table = is; numbers = λ trusted. absurd (true≢false (sym trusted ∙ untrusted)) }

-- so where there are no tags yet
pub no_tags : (structs : Table) (by_tag : Tags) (tags : TagNumbers) → tags.by_tag.entries ≡ [] → IsStructTable structs → AreStructs by_tag structs tags
no_tags structs by_tag tags empty is = record {
  table = is;
  numbers = λ _. subst (AreOfTags structs by_tag) (sym empty) (λ tag s at. absurd cc);
}

-- tags of globals, where they are trusted, and else any
pub some_tags : (trusted : Bool) (globals : List GlobalTree) → (IsTrue trusted → (by_tag : Tags) × All (λ g. IsTagged by_tag g.ctype) globals)
    → (by_tag : Tags) × (IsTrue trusted → All (λ g. IsTagged by_tag g.ctype) globals)
some_tags true globals tagged = let its = tagged refl in (its.0, λ trusted. its.1)
some_tags false globals tagged = ((λ tag. None), λ trusted. absurd (true≢false (sym trusted)))

-- what is known stays where the table grows
pub known_stays : (tables new : Tables) (d : Declarations) (names : Table) (numbers : List ℕ) → Extend tables new → AreKnown tables d names numbers → AreKnown new d names numbers
known_stays tables new d names numbers grown known = record {
  once = known.once;
  as_many = known.as_many;
  each = λ p number name at numbered. number_stays tables new d name number grown (known.each p number name at numbered);
}

-- a name more with the number of its type
pub one_known : (tables : Tables) (d : Declarations) (names : Table) (numbers : List ℕ) (name : List ℕ) (number : ℕ) → AreKnown tables d names numbers → HasEachOnce (names ++ name ∷ [])
    → IsNumberOf tables d name number → AreKnown tables d (names ++ name ∷ []) (numbers ++ number ∷ [])
one_known tables d names numbers name number known once is = record {
  once = once;
  as_many = length-append numbers (number ∷ []) ∙ ap (λ n. n + 1) known.as_many ∙ sym (length-append names (name ∷ []));
  each = λ p m key at numbered. pick p m key (last_or_before names name key p at) (last_or_before numbers number m p numbered);
}
  where
    pick : (p m : ℕ) (key : List ℕ) → (slice_get names p ≡ Some key) ⊎ ((p ≡ length names) × (key ≡ name)) → (slice_get numbers p ≡ Some m) ⊎ ((p ≡ length numbers) × (m ≡ number)) → IsNumberOf tables d key m
    pick p m key (inl at) (inl numbered) = known.each p m key at numbered
    pick p m key (inl at) (inr last) = let below = slice_get_within names p key at in absurd (omega (arith, below, last.0, known.as_many))
    pick p m key (inr here) (inl numbered) = let below = slice_get_within numbers p m numbered in absurd (omega (arith, below, here.0, known.as_many))
    pick p m key (inr here) (inr last) = subst (λ k. IsNumberOf tables d k m) (sym here.1) (subst (λ n. IsNumberOf tables d name n) (sym last.1) is)

-- the names after one was looked for
abbrev pub Added : Table → Table → List ℕ → Type 0
Added names new name = (new ≡ names) ⊎ (new ≡ names ++ name ∷ [])

module _ (tables : Tables) (d : Declarations) (names new : Table) (numbers : List ℕ) (name : List ℕ) (place : ℕ)
    (known : AreKnown tables d names numbers) (added : Added names new name) (at : slice_get new place ≡ Some name) where
  -- a name that has a number is an old one
  was_known : place < length numbers → slice_get names place ≡ Some name
  was_known below = elim added [
    | inl same ↦ ap (λ l. slice_get l place) (sym same) ∙ at
    | inr more ↦ elim (last_or_before names name name place (ap (λ l. slice_get l place) (sym more) ∙ at)) [
      | inl before ↦ before
      | inr last ↦ absurd (omega (arith, below, last.0, known.as_many))
    ]
  ]

  -- and its number is that of its type
  pub found_number : (number : ℕ) → slice_get numbers place ≡ Some number → IsNumberOf tables d name number
  found_number number numbered = known.each place number name (was_known (slice_get_within numbers place number numbered)) numbered

  -- so no name is new
  pub still_known : HasEachOnce new → place < length numbers → AreKnown tables d new numbers
  still_known once below = elim added [
    | inl same ↦ subst (λ l. AreKnown tables d l numbers) (sym same) known
    | inr more ↦ let two = once place (length names) name at (ap (λ l. slice_get l (length names)) more ∙ last_is names name) in absurd (omega (arith, two, below, known.as_many))
  ]

  -- a name without a number is a new one, and gets one
  pub now_known : HasEachOnce new → length numbers ≤ place → (number : ℕ) → IsNumberOf tables d name number → AreKnown tables d new (numbers ++ number ∷ [])
  now_known once past number is = elim added [
    | inl same ↦ let below = slice_get_within names place name (ap (λ l. slice_get l place) (sym same) ∙ at) in absurd (omega (arith, below, past, known.as_many))
    | inr more ↦ subst (λ l. AreKnown tables d l (numbers ++ number ∷ [])) (sym more) (one_known tables d names numbers name number known (subst HasEachOnce more once) is)
  ]

-- the types of a label so far, and one more
one_more_type : (tables : Tables) (numbers : List ℕ) (types : List TypeTree) (n : ℕ) (t : TypeTree) → AreTypeNumbers tables numbers types → IsTypeNumber tables n t
    → AreTypeNumbers tables (numbers ++ n ∷ []) (types ++ t ∷ [])
one_more_type tables numbers types n t have has = record {
  codes = have.codes ++ has.code ∷ [];
  are = one_more_code tables.structs types have.codes t has.code have.are has.is;
  stand = map-append (slice_get tables.parts) numbers (n ∷ []) ∙ ap₂ (λ x y. x ++ y) have.stand (ap (λ o. o ∷ []) has.stands) ∙ sym (map-append Some have.codes (has.code ∷ []));
}

-- numbers of types stay where the tables grow
pub typed_stays : (tables new : Tables) (rows : List Typed) → Extend tables new → AreTyped tables rows → AreTyped new rows
typed_stays tables new rows grown typed k d within =
    let t = get_or rows k d in AreTypeNumbers-extends tables new t.types.items (types_of (label_tree t.label.now)) grown (typed k d within)

-- the numbers of a label of some
pub typed_at : (tables : Tables) (rows : List Typed) (k : ℕ) (t : Typed) (numbers : List ℕ) → k < length rows → t ≡ get_or rows k t → numbers ≡ t.types.items
    → AreTyped tables rows → AreTypeNumbers tables numbers (types_of (label_tree t.label.now))
typed_at tables rows k t numbers within is same typed =
    let at = subst (λ (t : Typed). AreTypeNumbers tables t.types.items (types_of (label_tree t.label.now))) (sym is) (typed k t within) in
    subst (λ ns. AreTypeNumbers tables ns (types_of (label_tree t.label.now))) (sym same) at

-- the types so far, and one more
types_more : (uses : List CodeUse) (i : ℕ) (u : CodeUse) → i < length uses → u ≡ get_or uses i u
    → map use_type (map use_tree (take (i + 1) uses)) ≡ map use_type (map use_tree (take i uses)) ++ (use_tree u).ctype ∷ []
types_more uses i u within is =
    ap (map use_type) (map_more use_tree uses i u within ∙ ap (λ v. map use_tree (take i uses) ++ use_tree v ∷ []) (sym is))
    ∙ map-append use_type (map use_tree (take i uses)) (use_tree u ∷ [])

-- the same with their numbers
pub one_more_use : (tables : Tables) (uses : List CodeUse) (i : ℕ) (u : CodeUse) (numbers new : List ℕ) (n : ℕ) → i < length uses → u ≡ get_or uses i u → new ≡ numbers ++ n ∷ []
    → AreTypeNumbers tables numbers (map use_type (map use_tree (take i uses))) → IsTypeNumber tables n (use_tree u).ctype
    → AreTypeNumbers tables new (map use_type (map use_tree (take (i + 1) uses)))
one_more_use tables uses i u numbers new n within is pushed have has =
    let done = map use_type (map use_tree (take i uses)) in
    subst₂ (λ ns types. AreTypeNumbers tables ns types) (sym pushed) (sym (types_more uses i u within is)) (one_more_type tables numbers done n (use_tree u).ctype have has)

-- no types have no numbers
pub no_types : (tables : Tables) → AreTypeNumbers tables [] []
no_types tables = record { codes = []; are = refl; stand = refl }

-- what holds of all that a list stands for holds of one
pub mapped_at : {X Y : Type 0} (Q : Y → Type 0) (f : X → Y) (xs : List X) (i : ℕ) (x : X) → i < length xs → x ≡ get_or xs i x → All Q (map f xs) → Q (f x)
mapped_at Q f xs i x within is all =
    subst Q (get_or-map f xs i x (f x) within ∙ ap f (sym is)) (all i (f x) (omega (arith, within, length-map xs f)))

-- a name of some is declared
pub declared_at : (d : Declarations) (f : ℕ) (uses : List CodeUse) (i : ℕ) (u : CodeUse) → i < length uses → u ≡ get_or uses i u
    → All (IsDeclaredUse d f) (map use_tree uses) → IsDeclaredUse d f (use_tree u)
declared_at d f uses i u within is declared = mapped_at (IsDeclaredUse d f) use_tree uses i u within is declared

-- one label more with the numbers of its types
pub one_more_typed : (tables : Tables) (rows : List Typed) (last : Typed) → AreTyped tables rows → AreTypeNumbers tables last.types.items (types_of (label_tree last.label.now))
    → AreTyped tables (rows ++ last ∷ [])
one_more_typed tables rows last typed are =
    let Q : Typed → Type 0 = λ t. AreTypeNumbers tables t.types.items (types_of (label_tree t.label.now)) in
    All-append Q rows (last ∷ []) typed (All-cons Q last [] are (All-nil Q))
