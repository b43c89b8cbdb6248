-- In a valid program each struct in the type of an object has the members of the first struct with its tag.
use Rattle.std.proofs.Common.{ℕ, zero, suc, ◌≡◌, ◌<◌, List, [], ◌∷◌, ◌++◌, ◌∙◌, length, get_or, map, Bool, true, false, cond, All, Option, Some, None, find, option_map, refl, sym, ap, subst, arith, true≢false, bytes_eq}
use Rattle.std.specs.List.{flat_map}
use Rattle.std.proofs.lemmas.List.Elements.{All-nil, All-cons, All-head, All-tail}
use Rattle.std.proofs.lemmas.Option.{slice_get_within, get_or_from_slice_get}
use Rattle.std.proofs.lemmas.Slice.Eq.{bytes_eq-Decides}
use Rattle.csub_objects.specs.Types.{Name, TypeTree, number_type, array_type, struct_type, loose_type, MemberTree, MemberTrees, no_member, more_members, members_of}
use Rattle.csub_semantics.specs.Types.{GlobalTree}
use Rattle.csub_semantics.specs.Globals.{global_of}
use Rattle.csub_semantics.specs.Flows.{function_of}
use Rattle.csub_semantics.specs.Syntax.{LocalTree, FunctionTree, ProgramTree}
use Rattle.csub_validity.specs.Valid.{objects_of, parameter_object, type_in, global_type, StructTree, structs_in, structs_of, declared_types, AgreeOn, AgreeOnTags, IsValid}
use Rattle.csub_validity.proofs.LawsLists.{All-of_map}
use Rattle.program_laws.proofs.LawsNames.{same_name}
use Rattle.edge_label.specs.Uses.{Tags, IsTagged, AreTagged}
use Rattle.dual_walk.proofs.LawsNumbers.{found_at}

-- what holds of two lists holds of each
all_left : {X : Type 0} (Q : X → Type 0) (xs ys : List X) → All Q (xs ++ ys) → All Q xs
all_left Q [] ys h = All-nil Q
all_left Q (x ∷ xs) ys h = All-cons Q x xs (All-head Q x (xs ++ ys) h) (all_left Q xs ys (All-tail Q x (xs ++ ys) h))

pub all_right : {X : Type 0} (Q : X → Type 0) (xs ys : List X) → All Q (xs ++ ys) → All Q ys
all_right Q [] ys h = h
all_right Q (x ∷ xs) ys h = all_right Q xs ys (All-tail Q x (xs ++ ys) h)

-- and what holds of lists, joined, of each of them
all_parts : {X Y : Type 0} (Q : Y → Type 0) (f : X → List Y) (xs : List X) → All Q (flat_map f xs) → All (λ x. All Q (f x)) xs
all_parts Q f [] h = All-nil (λ x. All Q (f x))
all_parts Q f (x ∷ xs) h = All-cons (λ y. All Q (f y)) x xs (all_left Q (f x) (flat_map f xs) h) (all_parts Q f xs (all_right Q (f x) (flat_map f xs) h))

-- what holds of a list holds of what is found there
all_found : {X : Type 0} (Q : X → Type 0) (test : X → Bool) (xs : List X) (x : X) → All Q xs → find test xs ≡ Some x → Q x
all_found Q test xs x all e = let at = found_at test xs x e in subst Q (get_or_from_slice_get xs at.0 x x at.1) (all at.0 x (slice_get_within xs at.0 x at.1))

-- what passes a test is found, or another one before it
passes : {X : Type 0} (test : X → Bool) (xs : List X) (i : ℕ) (d : X) → i < length xs → test (get_or xs i d) ≡ true → (y : X) × (find test xs ≡ Some y) × (test y ≡ true)
passes test [] i d within is = absurd (omega arith)
passes {X} test (x ∷ xs) zero d within is = pick (test x) refl
  where
    pick : (b : Bool) → test x ≡ b → (y : X) × (cond b (Some x) (find test xs) ≡ Some y) × (test y ≡ true)
    pick true same = (x, refl, same)
    pick false same = absurd (true≢false (sym is ∙ same))
passes {X} test (x ∷ xs) (suc i) d within is = pick (test x) refl (passes test xs i d (omega arith) is)
  where
    pick : (b : Bool) → test x ≡ b → (y : X) × (find test xs ≡ Some y) × (test y ≡ true) → (y : X) × (cond b (Some x) (find test xs) ≡ Some y) × (test y ≡ true)
    pick true same later = (x, refl, same)
    pick false same later = later

-- the value behind a part of it
behind : {X Y : Type 0} (f : X → Y) (o : Option X) (y : Y) → option_map f o ≡ Some y → (x : X) × (o ≡ Some x) × (f x ≡ y)
behind f None y e = absurd cc
behind f (Some x) y e = (x, refl, cc)

-- the members of the first struct with a tag
abbrev pub first_members : List StructTree → Tags
first_members structs tag = option_map (λ (s : StructTree). s.members) (find (λ (s : StructTree). bytes_eq s.tag tag) structs)

-- the members that a program declares tags with
abbrev pub declared_members : ProgramTree → Tags
declared_members P = first_members (flat_map structs_in (declared_types P))

-- where structs with one tag have the same members, these are those of each
abbrev HasFirst : List StructTree → StructTree → Type 0
HasFirst structs s = first_members structs s.tag ≡ Some s.members

all_first : (structs : List StructTree) → AgreeOnTags structs → All (HasFirst structs) structs
all_first structs agree k d below =
    let s = get_or structs k d in
    let test : StructTree → Bool = λ t. bytes_eq t.tag s.tag in
    let first = passes test structs k d below ((bytes_eq-Decides s.tag s.tag).1 refl) in
    let agrees : All (AgreeOn first.0) structs = all_found (λ a. All (AgreeOn a) structs) test structs first.0 agree first.1 in
    ap (option_map (λ (t : StructTree). t.members)) first.1 ∙ ap Some (agrees k d below (same_name first.0.tag s.tag first.2))

-- a type whose structs have them
module _ (structs : List StructTree) where
  mutual
    tagged : (t : TypeTree) → All (HasFirst structs) (structs_in t) → IsTagged (first_members structs) t
    tagged (number_type k) h = tt
    tagged (array_type t n) h = tagged t h
    tagged (struct_type tag ms) h =
        let s : StructTree = record { tag = tag; members = ms } in
        (All-head (HasFirst structs) s (structs_of ms) h, all_tagged ms (All-tail (HasFirst structs) s (structs_of ms) h))
    tagged (loose_type t) h = tagged t h

    all_tagged : (ms : MemberTrees) → All (HasFirst structs) (structs_of ms) → AreTagged (first_members structs) ms
    all_tagged no_member h = tt
    all_tagged (more_members x t rest) h =
        (tagged t (all_left (HasFirst structs) (structs_in t) (structs_of rest) h), all_tagged rest (all_right (HasFirst structs) (structs_in t) (structs_of rest) h))

-- the types of parameters
parameters_tagged : (by_tag : Tags) (ms : List MemberTree) (os : List LocalTree) → All (λ (o : LocalTree). IsTagged by_tag o.ctype) (map parameter_object ms ++ os) → AreTagged by_tag (members_of ms)
parameters_tagged by_tag [] os h = tt
parameters_tagged by_tag (m ∷ ms) os h =
    let Q : LocalTree → Type 0 = λ o. IsTagged by_tag o.ctype in
    let rest = map parameter_object ms ++ os in
    (All-head Q (parameter_object m) rest h, parameters_tagged by_tag ms os (All-tail Q (parameter_object m) rest h))

module _ (P : ProgramTree) (valid : IsValid P) where
  abbrev by_tag : Tags
  by_tag = declared_members P

  types_tagged : All (IsTagged by_tag) (declared_types P)
  types_tagged k d below =
      let structs = flat_map structs_in (declared_types P) in
      tagged structs (get_or (declared_types P) k d) (all_parts (HasFirst structs) structs_in (declared_types P) (all_first structs valid.tags) k d below)

  -- the types of globals
  pub globals_tagged : All (λ (g : GlobalTree). IsTagged by_tag g.ctype) P.globals
  globals_tagged =
      let kinds = map (λ (g : GlobalTree). g.ctype) P.globals in
      (All-of_map (IsTagged by_tag) (λ (g : GlobalTree). g.ctype) P.globals).0 (all_left (IsTagged by_tag) kinds _ types_tagged)

  pub global_tagged : (a : Name) (t : TypeTree) → global_type P.globals a ≡ Some t → IsTagged by_tag t
  global_tagged a t e =
      let found = behind (λ (g : GlobalTree). g.ctype) (global_of P.globals a) t e in
      subst (IsTagged by_tag) found.2 (all_found (λ (g : GlobalTree). IsTagged by_tag g.ctype) (λ (g : GlobalTree). bytes_eq g.name a) P.globals found.0 globals_tagged found.1)

  -- those of the objects of a function
  objects_tagged : (a : Name) (f : FunctionTree) → function_of P a ≡ Some f → All (λ (o : LocalTree). IsTagged by_tag o.ctype) (objects_of f)
  objects_tagged a f e =
      let types : FunctionTree → List TypeTree = λ f. map (λ (o : LocalTree). o.ctype) (objects_of f) in
      let kinds = map (λ (g : GlobalTree). g.ctype) P.globals in
      let all = all_parts (IsTagged by_tag) types P.functions (all_right (IsTagged by_tag) kinds (flat_map types P.functions) types_tagged) in
      (All-of_map (IsTagged by_tag) (λ (o : LocalTree). o.ctype) (objects_of f)).0
      (all_found (λ (f : FunctionTree). All (IsTagged by_tag) (types f)) (λ (f : FunctionTree). bytes_eq f.name a) P.functions f all e)

  pub object_tagged : (b : Name) (f : FunctionTree) → function_of P b ≡ Some f → (a : Name) (n : ℕ) (t : TypeTree) → type_in (objects_of f) a n ≡ Some t → IsTagged by_tag t
  object_tagged b f is a n t e =
      let found = behind (λ (o : LocalTree). o.ctype) _ t e in
      subst (IsTagged by_tag) found.2 (all_found (λ (o : LocalTree). IsTagged by_tag o.ctype) _ (objects_of f) found.0 (objects_tagged b f is) found.1)

  -- and those of its parameters
  pub function_tagged : (a : Name) (f : FunctionTree) → function_of P a ≡ Some f → AreTagged by_tag (members_of f.params)
  function_tagged a f e = parameters_tagged by_tag f.params f.locals (objects_tagged a f e)
