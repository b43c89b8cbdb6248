-- Types whose structs are the ones of their tags.
use Rattle.std.proofs.Common.{◌≡◌, ℕ, Bool, true, false, List, ◌∷◌, All, IsTrue, is_some, not, bytes_eq, Option, Some, None, refl, subst}
use Rattle.std.specs.Prelude.{if◌then◌else◌}
use Rattle.std.specs.Option.{option_and_then}
use Rattle.std.proofs.lemmas.List.Elements.{All-nil, All-cons, All-append}
use Rattle.csub_types.specs.declared.kind.IntKind.{IntKind}
use Rattle.csub_objects.specs.Types.{Name, TypeTree, number_type, array_type, struct_type, loose_type, MemberTrees, no_member, more_members, IsSized}
use Rattle.csub_validity.specs.Valid.{HasOwnNames, StructTree, structs_in, structs_of}
use Rattle.csub_scopes.specs.Scopes.{Tagged, find_tag}
use Rattle.program_validity.proofs.Lists.{same_name}

-- the members of the struct of a tag
abbrev pub members_of_tag : Option Tagged → Option MemberTrees
members_of_tag o = option_and_then (λ (d : Tagged). d.members) o

abbrev pub members_at : List Tagged → Name → Option MemberTrees
members_at tags tag = members_of_tag (find_tag tag tags)

module _ (tags : List Tagged) where
  abbrev mutual
    pub Known : TypeTree → Type 0
    Known (number_type k) = Unit {0}
    Known (array_type t n) = Known t
    Known (struct_type tag ms) = (members_at tags tag ≡ Some ms) × AreKnown ms
    Known (loose_type t) = Known t

    pub AreKnown : MemberTrees → Type 0
    AreKnown no_member = Unit {0}
    AreKnown (more_members x t rest) = Known t × AreKnown rest

  -- a type whose structs have names of their own for their members, and are those of their tags
  pub record IsGood (t : TypeTree) : Type 0 where
    pub names : HasOwnNames t
    pub known : Known t

  -- what is known of the struct of a tag
  pub record IsStruct (tag : Name) (ms : MemberTrees) : Type 0 where
    pub sized : IsSized (struct_type tag ms)
    pub names : HasOwnNames (struct_type tag ms)
    pub known : AreKnown ms

  abbrev pub AreGood : Type 0
  AreGood = (tag : Name) (ms : MemberTrees) → members_at tags tag ≡ Some ms → IsStruct tag ms

  pub number_good : (k : IntKind) → IsGood (number_type k)
  number_good k = record { names = tt; known = tt }

  pub array_good : (t : TypeTree) (n : ℕ) → IsGood t → IsGood (array_type t n)
  array_good t n g = record { names = g.names; known = g.known }

  pub loose_good : (t : TypeTree) → IsGood t → IsGood (loose_type t)
  loose_good t g = record { names = g.names; known = g.known }

  pub struct_good : (tag : Name) (ms : MemberTrees) → members_at tags tag ≡ Some ms → IsStruct tag ms → IsGood (struct_type tag ms)
  struct_good tag ms e s = record { names = s.names; known = (e, s.known) }

  -- each struct in a known type is the one of its tag
  abbrev pub IsOfTag : StructTree → Type 0
  IsOfTag s = members_at tags s.tag ≡ Some s.members

  mutual
    pub all_of_tags : (t : TypeTree) → Known t → All IsOfTag (structs_in t)
    all_of_tags (number_type k) g = All-nil IsOfTag
    all_of_tags (array_type t n) g = all_of_tags t g
    all_of_tags (struct_type tag ms) g = All-cons IsOfTag (record { tag = tag; members = ms }) (structs_of ms) g.0 (members_of_tags ms g.1)
    all_of_tags (loose_type t) g = all_of_tags t g

    members_of_tags : (ms : MemberTrees) → AreKnown ms → All IsOfTag (structs_of ms)
    members_of_tags no_member g = All-nil IsOfTag
    members_of_tags (more_members x t rest) g = All-append IsOfTag (structs_in t) (structs_of rest) (all_of_tags t g.0) (members_of_tags rest g.1)

-- ---- more tags

-- the tags of structs mean on what they mean
abbrev pub Grows : List Tagged → List Tagged → Type 0
Grows ts us = (tag : Name) (ms : MemberTrees) → members_at ts tag ≡ Some ms → members_at us tag ≡ Some ms

module _ (ts us : List Tagged) (grows : Grows ts us) where
  mutual
    pub known_more : (t : TypeTree) → Known ts t → Known us t
    known_more (number_type k) g = tt
    known_more (array_type t n) g = known_more t g
    known_more (struct_type tag ms) g = (grows tag ms g.0, are_known_more ms g.1)
    known_more (loose_type t) g = known_more t g

    pub are_known_more : (ms : MemberTrees) → AreKnown ts ms → AreKnown us ms
    are_known_more no_member g = tt
    are_known_more (more_members x t rest) g = (known_more t g.0, are_known_more rest g.1)

  pub good_more : (t : TypeTree) → IsGood ts t → IsGood us t
  good_more t g = record { names = g.names; known = known_more t g.known }

  struct_more : (tag : Name) (ms : MemberTrees) → IsStruct ts tag ms → IsStruct us tag ms
  struct_more tag ms s = record { sized = s.sized; names = s.names; known = are_known_more ms s.known }

-- a tag that isn't declared yet
module _ (d : Tagged) (ts : List Tagged) (fresh : IsTrue (not (is_some (find_tag d.tag ts)))) where
  no_members : (o : Option Tagged) (ms : MemberTrees) → IsTrue (not (is_some o)) → members_of_tag o ≡ Some ms → ⊥
  no_members None ms n e = cc
  no_members (Some c) ms n e = cc

  pub grows_tag : Grows ts (d ∷ ts)
  grows_tag tag ms e = by (bytes_eq d.tag tag) (same_name d.tag tag)
    where
      by : (b : Bool) → (IsTrue b → d.tag ≡ tag) → members_of_tag (if b then Some d else find_tag tag ts) ≡ Some ms
      by true same =
          let unknown : IsTrue (not (is_some (find_tag tag ts))) = subst (λ a. IsTrue (not (is_some (find_tag a ts)))) (same refl) fresh in
          absurd (no_members (find_tag tag ts) ms unknown e)
      by false same = e

  pub good_tags : AreGood ts → ((ms : MemberTrees) → d.members ≡ Some ms → IsStruct ts d.tag ms) → AreGood (d ∷ ts)
  good_tags good this tag ms e = by (bytes_eq d.tag tag) (same_name d.tag tag) e
    where
      by : (b : Bool) → (IsTrue b → d.tag ≡ tag) → members_of_tag (if b then Some d else find_tag tag ts) ≡ Some ms → IsStruct (d ∷ ts) tag ms
      by true same h =
          let own : d.members ≡ Some ms = h in
          struct_more ts (d ∷ ts) grows_tag tag ms (subst (λ a. IsStruct ts a ms) (same refl) (this ms own))
      by false same h = struct_more ts (d ∷ ts) grows_tag tag ms (good tag ms h)
