-- What is known of gathered members: objects may have their types, and their names differ where none is told twice.
use Rattle.std.proofs.Common.{◌≡◌, ◌∙◌, ◌≢◌, refl, ap, subst, arith, List, [], ◌∷◌, ◌++◌, map, nat_le, bytes_eq}
use Rattle.std.proofs.Common.{Option, Some, None, option_map, Bool, true, false, IsTrue, not, ◌&&◌, ◌||◌, All, if◌then◌else◌}
use Rattle.std.proofs.lemmas.List.Elements.{All-cons}
use Rattle.std.proofs.lemmas.List.Kept.{AllPairs-cons}
use Rattle.std.proofs.lemmas.Slice.Eq.{bytes_eq-Decides}
use Rattle.csub_tree.specs.declared.name.Name.{Name as NameAt}
use Rattle.csub_tree.specs.Declarations.{Declarator, Declare}
use Rattle.csub_objects.specs.Types.{Name, TypeTree, struct_type, cells, levels, MemberTree, members_of, HaveDifferentNames}
use Rattle.csub_scopes.specs.Scopes.{Scope}
use Rattle.csub_rules.specs.declared.fault.Fault.{Fault}
use Rattle.csub_rules.specs.Faults.{fault_if, ◌or_earlier◌}
use Rattle.csub_rules.specs.Sizes.{has_arrays, have_arrays, is_sized}
use Rattle.csub_rules.specs.Declarators.{base_type, declared_type, if_sized, object_type, is_too_large}
use Rattle.csub_rules.specs.Labels.{stands_in, twice_fault, NamesDiffer}
use Rattle.csub_rules.proofs.LawsEarlier.{neither}
use Rattle.csub_rules.proofs.LawsServed.{both, both_parts}
use Rattle.csub_rules.proofs.LawsSlots.{in_first, in_second}
use Rattle.csub_rules.proofs.LawsBodies.{names_differ}
use Rattle.csub_rules.proofs.LawsSizes.{contrary}
use Rattle.csub_rules.specs.Files.{tag_fault}
use Rattle.csub_units.specs.Gathered.{AreSized, Differ}
use Rattle.csub_rules.specs.Structs.{with_member, fields_before, members, field_names, fields_fault, defined_struct, struct_fault}

-- ---- objects may have the types

one_sized : (x : Name) (o : Option TypeTree) (ms : Option (List MemberTree)) → AreSized ms
    → AreSized (with_member (option_map (λ t. record { name = x; ctype = t }) (if_sized o)) ms)
one_sized x None ms h = tt
one_sized x (Some t) ms h = by (is_sized t) refl ms h
  where
    by : (b : Bool) → is_sized t ≡ b → (ns : Option (List MemberTree)) → AreSized ns
        → AreSized (with_member (option_map (λ u. record { name = x; ctype = u }) (if b then Some t else None)) ns)
    by false e ns g = tt
    by true e None g = tt
    by true e (Some ns) g =
        both (has_arrays t) (have_arrays (members_of ns))
        (both_parts (has_arrays t) (nat_le (cells t) 65536 && nat_le (levels t) 32) e).0 g

line_sized : (scope : Scope) (base : Option TypeTree) (vs : List Declarator) (ms : Option (List MemberTree)) → AreSized ms
    → AreSized (fields_before scope base vs ms)
line_sized scope base [] ms h = h
line_sized scope base (v ∷ vs) ms h =
    one_sized v.name.text (declared_type scope base v.dims) (fields_before scope base vs ms) (line_sized scope base vs ms h)

pub all_sized : (scope : Scope) (ds : List Declare) → AreSized (members scope ds)
all_sized scope [] = refl
all_sized scope (d ∷ ds) = line_sized scope (base_type scope d.base) d.vars (members scope ds) (all_sized scope ds)

-- ---- names differ

abbrev Named : Option (List MemberTree) → List NameAt → Type 0
Named None xs = Unit {0}
Named (Some ms) xs = map (λ m. m.name) ms ≡ map (λ x. x.text) xs

one_named : (x : NameAt) (o : Option TypeTree) (ms : Option (List MemberTree)) (xs : List NameAt) → Named ms xs
    → Named (with_member (option_map (λ t. record { name = x.text; ctype = t }) o) ms) (x ∷ xs)
one_named x None ms xs h = tt
one_named x (Some t) None xs h = tt
one_named x (Some t) (Some ms) xs h = ap (λ ns. x.text ∷ ns) h

line_named : (scope : Scope) (base : Option TypeTree) (vs : List Declarator) (ms : Option (List MemberTree)) (xs : List NameAt) → Named ms xs
    → Named (fields_before scope base vs ms) (map (λ v. v.name) vs ++ xs)
line_named scope base [] ms xs h = h
line_named scope base (v ∷ vs) ms xs h =
    one_named v.name (object_type scope base v.dims) (fields_before scope base vs ms) (map (λ w. w.name) vs ++ xs)
    (line_named scope base vs ms xs h)

all_named : (scope : Scope) (ds : List Declare) → Named (members scope ds) (field_names ds)
all_named scope [] = refl
all_named scope (d ∷ ds) = line_named scope (base_type scope d.base) d.vars (members scope ds) (field_names ds) (all_named scope ds)

equal_bytes : (a b : Name) → a ≡ b → IsTrue (bytes_eq a b)
equal_bytes a b e = (bytes_eq-Decides a b).1 e

-- a name that stands among others is none of those that differ from them
others : (m : MemberTree) (seen : List Name) (xs : List NameAt) (ms : List MemberTree) → IsTrue (stands_in m.name seen)
    → map (λ n. n.name) ms ≡ map (λ x. x.text) xs → NamesDiffer seen xs → All (λ n. m.name ≢ n.name) ms
others m seen [] [] s e h = λ i d l. absurd (omega arith)
others m seen [] (n ∷ ms) s e h = absurd (cc)
others m seen (x ∷ xs) [] s e h = absurd (cc)
others m seen (x ∷ xs) (n ∷ ms) s e h =
    let this : n.name ≡ x.text = cc in
    let rest : map (λ n. n.name) ms ≡ map (λ x. x.text) xs = cc in
    All-cons (λ n. m.name ≢ n.name) n ms
    (λ p. contrary (stands_in x.text seen) h.0 (subst (λ y. IsTrue (stands_in y seen)) (p ∙ this) s))
    (others m (x.text ∷ seen) xs ms (in_second (bytes_eq x.text m.name) (stands_in m.name seen) s) rest h.1)

differ : (seen : List Name) (xs : List NameAt) (ms : List MemberTree) → map (λ n. n.name) ms ≡ map (λ x. x.text) xs → NamesDiffer seen xs
    → HaveDifferentNames ms
differ seen [] [] e h = λ i j d l k. absurd (omega arith)
differ seen [] (m ∷ ms) e h = absurd (cc)
differ seen (x ∷ xs) [] e h = absurd (cc)
differ seen (x ∷ xs) (m ∷ ms) e h =
    let this : x.text ≡ m.name = cc in
    let rest : map (λ n. n.name) ms ≡ map (λ x. x.text) xs = cc in
    AllPairs-cons (λ m n. m.name ≢ n.name) m ms
    (others m (x.text ∷ seen) xs ms (in_first (bytes_eq x.text m.name) (stands_in m.name seen) (equal_bytes x.text m.name this)) rest h.1)
    (differ (x.text ∷ seen) xs ms rest h.1)

differ_if : (ms : Option (List MemberTree)) (xs : List NameAt) → Named ms xs → NamesDiffer [] xs → Differ ms
differ_if None xs n h = tt
differ_if (Some ms) xs n h = differ [] xs ms n h

pub all_differ : (scope : Scope) (tag : NameAt) (ds : List Declare) → struct_fault scope tag ds ≡ None → Differ (members scope ds)
all_differ scope tag ds h =
    let q = neither (tag_fault scope tag or_earlier fault_if (is_too_large (defined_struct scope tag.text ds)) 10 tag.span
    or_earlier fields_fault scope ds) (twice_fault [] (field_names ds)) h in
    differ_if (members scope ds) (field_names ds) (all_named scope ds) (names_differ [] (field_names ds) q.1)

-- ---- the limits

all_right : (a p q : Bool) → IsTrue a → (not p || not q) ≡ not (a && (p && q))
all_right true true true h = refl
all_right true true false h = refl
all_right true false q h = refl
all_right false p q h = absurd (cc)

-- ---- what is told of a struct, by what the code keeps on the way

pub struct_told : (scope : Scope) (tag : NameAt) (ds : List Declare) (ms : Option (List MemberTree)) (big : Bool)
    (tagged large fields twice first second told : Option Fault) → tagged ≡ tag_fault scope tag → ms ≡ members scope ds
    → big ≡ is_too_large (option_map (λ ns. struct_type tag.text (members_of ns)) ms) → large ≡ fault_if big 10 tag.span
    → fields ≡ fields_fault scope ds → twice ≡ twice_fault [] (field_names ds) → first ≡ (tagged or_earlier large)
    → second ≡ (first or_earlier fields) → told ≡ (second or_earlier twice) → told ≡ struct_fault scope tag ds
struct_told scope tag ds ms big tagged large fields twice first second told a b c d e f g h i =
    i ∙ ap (λ o. o or_earlier twice) (h ∙ ap (λ o. o or_earlier fields) (g ∙ ap (λ o. o or_earlier large) a
    ∙ ap (λ o. tag_fault scope tag or_earlier o)
    (d ∙ ap (λ t. fault_if t 10 tag.span) (c ∙ ap (λ ns. is_too_large (option_map (λ ns. struct_type tag.text (members_of ns)) ns)) b)))
    ∙ ap (λ o. tag_fault scope tag or_earlier fault_if (is_too_large (defined_struct scope tag.text ds)) 10 tag.span or_earlier o) e)
    ∙ ap (λ o. tag_fault scope tag or_earlier fault_if (is_too_large (defined_struct scope tag.text ds)) 10 tag.span
    or_earlier fields_fault scope ds or_earlier o) f
