-- Places of the first definition of a name.
use Rattle.std.proofs.Common.{◌≡◌, ◌∙◌, refl, sym, ap, subst, arith, ℕ, zero, suc, ◌<◌, List, [], ◌∷◌, ◌++◌, length, map, get_or}
use Rattle.std.proofs.Common.{Bool, true, false, Option, Some, None, Vec, is_some, ⊎_elim, if◌then◌else◌, option_map}
use Rattle.std.specs.Option.{option_or}
use Rattle.std.specs.List.{find}
use Rattle.std.specs.Str.{bytes_eq}
use Rattle.std.specs.Map.{KeepsOthers, IsKeyTest, AreApart, lookup}
use Rattle.std.specs.declared.alloc.Global.{Global}
use Rattle.std.proofs.lemmas.Bool.{cases_Bool, cond-true, cond-false}
use Rattle.std.proofs.lemmas.Cmp.{nat_list_eq_equiv}
use Rattle.std.proofs.lemmas.List.{get_or-map, length-map, map-append}
use Rattle.std.proofs.lemmas.Slice.Eq.{bytes_eq-Decides}
use Rattle.indexmap.specs.IndexMap.{IndexMap, UpdatesBy}
use Rattle.csub_objects.specs.Types.{Name}
use Rattle.csub_objects.specs.Meaning.{member_tree}
use Rattle.csub_resolution.specs.Values.{Defined, params_in, params_or}
use Rattle.csub_lower.specs.declared.definitions.Definition.{Definition}
use Rattle.csub_lower.specs.Definitions.{place, placed, ArePlaces, defined_of}

some_same : {X : Type 0} (x y : X) → Some x ≡ Some y → x ≡ y
some_same x y e = cc

-- a first place, and a place behind n others where there is none
place_or : (o : Option ℕ) (b : Bool) (n : ℕ)
    → option_map suc (option_or o (if b then Some n else None)) ≡ option_or (option_map suc o) (if b then Some (suc n) else None)
place_or None true n = refl
place_or None false n = refl
place_or (Some m) b n = refl

or_none : (o : Option ℕ) → o ≡ option_or o None
or_none None = refl
or_none (Some m) = refl

place_one : (b : Bool) (n : ℕ) → (if b then Some n else None) ≡ option_or None (if b then Some n else None)
place_one true n = refl
place_one false n = refl

place_more : (b c : Bool) (n : ℕ) (o p : Option ℕ) → p ≡ option_or o (if c then Some n else None)
    → (if b then Some zero else option_map suc p) ≡ option_or (if b then Some zero else option_map suc o) (if c then Some (suc n) else None)
place_more true c n o p h = refl
place_more false c n o p h = ap (option_map suc) h ∙ place_or o c n

-- one definition more
pub place-push : (name : Name) (ds : List Defined) (d : Defined)
    → place name (ds ++ d ∷ []) ≡ option_or (place name ds) (if bytes_eq d.name name then Some (length ds) else None)
place-push name [] d = place_one (bytes_eq d.name name) zero
place-push name (e ∷ ds) d =
    place_more (bytes_eq e.name name) (bytes_eq d.name name) (length ds) (place name ds) (place name (ds ++ d ∷ [])) (place-push name ds d)

unplaced_by : {X : Type 0} (b : Bool) (o : Option ℕ) (e : X) (f : Option X) → (o ≡ None → f ≡ None)
    → (if b then Some zero else option_map suc o) ≡ None → (if b then Some e else f) ≡ None
unplaced_by true o e f rest h = absurd (cc)
unplaced_by false None e f rest h = rest refl
unplaced_by false (Some m) e f rest h = absurd (cc)

-- a name without a place has no definition
pub unplaced : (name : Name) (ds : List Defined) → place name ds ≡ None → find (λ d. bytes_eq d.name name) ds ≡ None
unplaced name [] h = refl
unplaced name (e ∷ ds) h =
    unplaced_by (bytes_eq e.name name) (place name ds) e (find (λ d. bytes_eq d.name name) ds) (λ k. unplaced name ds k) h

-- a place shows the first definition of its name
pub record Shows (f : Option Defined) (ds : List Defined) (p : ℕ) (d : Defined) : Type 0 where
  pub below : p < length ds
  pub found : f ≡ Some (get_or ds p d)

shown_by : (b : Bool) (o : Option ℕ) (e : Defined) (f : Option Defined) (ds : List Defined) (p : ℕ) (d : Defined)
    → ((q : ℕ) → o ≡ Some q → Shows f ds q d) → (if b then Some zero else option_map suc o) ≡ Some p
    → Shows (if b then Some e else f) (e ∷ ds) p d
shown_by true o e f ds p d rest h =
    let none : zero ≡ p = some_same zero p h in
    record { below = omega arith; found = ap (λ i. Some (get_or (e ∷ ds) i d)) none }
shown_by false None e f ds p d rest h = absurd (cc)
shown_by false (Some q) e f ds p d rest h =
    let next : suc q ≡ p = some_same (suc q) p h in
    let s = rest q refl in
    record { below = let less : q < length ds = s.below in omega arith; found = s.found ∙ ap (λ i. Some (get_or (e ∷ ds) i d)) next }

pub shown : (name : Name) (ds : List Defined) (p : ℕ) (d : Defined) → place name ds ≡ Some p
    → Shows (find (λ d. bytes_eq d.name name) ds) ds p d
shown name [] p d h = absurd (cc)
shown name (e ∷ ds) p d h =
    shown_by (bytes_eq e.name name) (place name ds) e (find (λ d. bytes_eq d.name name) ds) ds p d (λ q k. shown name ds q d k) h

-- the parameters of a definition whose place is known
pub params_found : (name : Name) (held : List Definition) (p : ℕ) (e : Definition) → place name (map defined_of held) ≡ Some p
    → e ≡ get_or held p e → map member_tree e.params.items ≡ params_in (map defined_of held) name
params_found name held p e h is =
    let s = shown name (map defined_of held) p (defined_of e) h in
    let count : length (map defined_of held) ≡ length held = length-map held defined_of in
    let less : p < length held = let below : p < length (map defined_of held) = s.below in omega arith in
    let at = get_or-map defined_of held p e (defined_of e) less in
    let same : defined_of e ≡ get_or (map defined_of held) p (defined_of e) = cc (at, ap defined_of is) in
    ap (λ (d : Defined). d.params) same ∙ sym (ap params_or s.found)

-- and of a name without one
pub params_none : (name : Name) (ds : List Defined) → place name ds ≡ None → [] ≡ params_in ds name
params_none name ds h = sym (ap params_or (unplaced name ds h))

apart : (a b key : Name) → bytes_eq a b ≡ false → bytes_eq a key ≡ true → bytes_eq b key ≡ false
apart a b key n y = nat_list_eq_equiv.symm b key ∙ sym (nat_list_eq_equiv.congr a key b y) ∙ n

others : {K : Type 0} (eq : K → K → Bool) (test : K → Bool) {X : Type 0} (old new : List (K × X)) → KeepsOthers eq test old new
    → (other : K → Bool) → IsKeyTest eq other → AreApart test other → lookup other new ≡ lookup other old
unfolding KeepsOthers
others eq test old new h = h

-- the places after one is put at a name
placed-updates : {S : Type 0} (m n : IndexMap (Vec ℕ Global) ℕ S) (name : Name) (p : ℕ)
    → UpdatesBy (λ a b. bytes_eq a.items b.items) (λ key. bytes_eq name key.items) m n (Some p)
    → (other : Name) → placed n other ≡ (if bytes_eq name other then Some p else placed m other)
placed-updates m n name p h other =
    ⊎_elim
    (λ y. subst (λ x. placed n x ≡ Some p) ((bytes_eq-Decides name other).0 y) h.1 ∙ sym (cond-true (bytes_eq name other) (Some p) (placed m other) y))
    (λ e. others (λ a b. bytes_eq a.items b.items) (λ key. bytes_eq name key.items) m.entries n.entries h.3 (λ key. bytes_eq other key.items)
    (λ x y. nat_list_eq_equiv.congr other x.items y.items) (λ key. apart name other key.items e)
    ∙ sym (cond-false (bytes_eq name other) (Some p) (placed m other) e))
    (cases_Bool (bytes_eq name other))

pub not_some : (o : Option ℕ) → is_some o ≡ false → o ≡ None
not_some None h = refl
not_some (Some p) h = absurd (cc)

-- a name that has no place gets one
pub noted_new : {S : Type 0} (m n : IndexMap (Vec ℕ Global) ℕ S) (name : Name) (p : ℕ) → placed m name ≡ None
    → UpdatesBy (λ a b. bytes_eq a.items b.items) (λ key. bytes_eq name key.items) m n (Some p)
    → (other : Name) → placed n other ≡ option_or (placed m other) (if bytes_eq name other then Some p else None)
noted_new m n name p none h other = placed-updates m n name p h other ∙ by (bytes_eq name other) refl
  where
    by : (b : Bool) → bytes_eq name other ≡ b → (if b then Some p else placed m other) ≡ option_or (placed m other) (if b then Some p else None)
    by true e = sym (ap (λ o. option_or o (Some p)) (subst (λ x. placed m x ≡ None) ((bytes_eq-Decides name other).0 e) none))
    by false e = or_none (placed m other)

-- the places after one definition more
pub places_more : {S : Type 0} (old new : IndexMap (Vec ℕ Global) ℕ S) (held more : List Definition) (d : Definition) (key : Name) (p : ℕ)
    → ArePlaces old (map defined_of held) → key ≡ d.name → p ≡ length held → more ≡ held ++ d ∷ []
    → ((other : Name) → placed new other ≡ option_or (placed old other) (if bytes_eq key other then Some p else None))
    → ArePlaces new (map defined_of more)
places_more old new held more d key p are named at is after =
    λ other.
    let count : length (map defined_of held) ≡ length held = length-map held defined_of in
    let one = place-push other (map defined_of held) (defined_of d) in
    let all : map defined_of more ≡ map defined_of held ++ defined_of d ∷ [] = ap (map defined_of) is ∙ map-append defined_of held (d ∷ []) in
    after other
    ∙ ap (λ o. option_or o (if bytes_eq key other then Some p else None)) (are other)
    ∙ ap (λ x. option_or (place other (map defined_of held)) (if bytes_eq x other then Some p else None)) named
    ∙ ap (λ n. option_or (place other (map defined_of held)) (if bytes_eq d.name other then Some n else None)) (at ∙ sym count)
    ∙ sym one ∙ ap (place other) (sym all)
