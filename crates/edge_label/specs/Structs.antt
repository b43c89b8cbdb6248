-- Structs by numbers: a table has the structs, each once, by its tag and its members. In the types of these members, and in a type
-- whose structs stand in the table, a number stands in the place of each struct.
use Rattle.std.specs.Prelude.{◌≡◌, ◌<◌, ℕ, zero, suc, List, [], ◌∷◌, ◌++◌, Some, length, slice_get}
use Rattle.std.proofs.Common.{get_or}
use Rattle.csub_objects.specs.Types.{Name, TypeTree, number_type, array_type, struct_type, loose_type, MemberTrees, no_member, more_members}
use Rattle.label_code.specs.Bare.{no_type}
use Rattle.label_code.specs.Codes.{type_code, members_code, numbered}
use Rattle.edge_label.specs.Numbers.{HasEachOnce}
use Rattle.label_code.specs.Readers.{coded_type}

-- codes by their numbers
abbrev pub Table : Type 0
Table = List (List ℕ)

-- the second type, or the second list of members, is the first with numbers in place of its structs
abbrev mutual
  pub IsShort : Table → TypeTree → TypeTree → Type 0
  IsShort structs (number_type k) u = u ≡ number_type k
  IsShort structs (array_type t n) u = (v : TypeTree) × (u ≡ array_type v n) × IsShort structs t v
  IsShort structs (struct_type tag ms) u =
      (s : ℕ) × (u ≡ numbered s) × (ns : MemberTrees) × (slice_get structs s ≡ Some (type_code (struct_type tag ns))) × AreShort structs ms ns
  IsShort structs (loose_type t) u = (v : TypeTree) × (u ≡ loose_type v) × IsShort structs t v

  pub AreShort : Table → MemberTrees → MemberTrees → Type 0
  AreShort structs no_member us = us ≡ no_member
  AreShort structs (more_members x t rest) us =
      (u : TypeTree) × (vs : MemberTrees) × (us ≡ more_members x u vs) × IsShort structs t u × AreShort structs rest vs

-- the struct of a tag and members has this number
abbrev pub HasStruct : Table → ℕ → Name → MemberTrees → Type 0
HasStruct structs s tag ms = (ns : MemberTrees) × (slice_get structs s ≡ Some (type_code (struct_type tag ns))) × AreShort structs ms ns

-- the code of a type with numbers in place of its structs
abbrev pub IsTypeCode : Table → TypeTree → List ℕ → Type 0
IsTypeCode structs t code = (u : TypeTree) × (code ≡ type_code u) × IsShort structs t u

-- such codes, each of its type
abbrev pub AreTypeCodes : Table → List TypeTree → List (List ℕ) → Type 0
AreTypeCodes structs [] codes = codes ≡ []
AreTypeCodes structs (t ∷ types) codes =
    (code : List ℕ) × (more : List (List ℕ)) × (codes ≡ code ∷ more) × IsTypeCode structs t code × AreTypeCodes structs types more

-- one of them stands behind what was there
abbrev pub AppendsType : Table → TypeTree → List ℕ → List ℕ → Type 0
AppendsType structs t old new = (u : TypeTree) × (new ≡ old ++ type_code u) × IsShort structs t u

-- and the codes of members
abbrev pub AppendsMembers : Table → MemberTrees → List ℕ → List ℕ → Type 0
AppendsMembers structs ms old new = (ns : MemberTrees) × (new ≡ old ++ members_code ns) × AreShort structs ms ns

-- the numbers in a type, or in members, are below a number
abbrev pub IsBelow : ℕ → TypeTree → Type 0
IsBelow b (number_type k) = Unit {0}
IsBelow b (array_type t n) = IsBelow b t
IsBelow b (struct_type tag ms) = get_or tag 0 0 < b
IsBelow b (loose_type t) = IsBelow b t

abbrev pub AreBelow : ℕ → MemberTrees → Type 0
AreBelow b no_member = Unit {0}
AreBelow b (more_members x t rest) = IsBelow b t × AreBelow b rest

-- a table of structs: each stands once, and behind those whose numbers its members have
pub record IsStructTable (structs : Table) : Type 0 where
  pub once : HasEachOnce structs
  pub rising : (s : ℕ) (tag : Name) (ns : MemberTrees) → slice_get structs s ≡ Some (type_code (struct_type tag ns)) → AreBelow s ns

-- a type, members and a struct with the structs put back, by their numbers
abbrev pub whole_type : (ℕ → TypeTree) → TypeTree → TypeTree
whole_type struct_of (number_type k) = number_type k
whole_type struct_of (array_type t n) = array_type (whole_type struct_of t) n
whole_type struct_of (struct_type tag ms) = struct_of (get_or tag 0 0)
whole_type struct_of (loose_type t) = loose_type (whole_type struct_of t)

abbrev pub whole_members : (ℕ → TypeTree) → MemberTrees → MemberTrees
whole_members struct_of no_member = no_member
whole_members struct_of (more_members x t rest) = more_members x (whole_type struct_of t) (whole_members struct_of rest)

abbrev pub whole_struct : (ℕ → TypeTree) → TypeTree → TypeTree
whole_struct struct_of (number_type k) = number_type k
whole_struct struct_of (array_type t n) = array_type t n
whole_struct struct_of (struct_type tag ms) = struct_type tag (whole_members struct_of ms)
whole_struct struct_of (loose_type t) = loose_type t

-- the struct with a number, where at most so many stand inside each other
abbrev pub struct_at : Table → ℕ → ℕ → TypeTree
struct_at structs zero s = no_type
struct_at structs (suc n) s = whole_struct (struct_at structs n) (coded_type (get_or structs s []))

-- the type that a code stands for: no more structs stand inside each other than the table has
unfoldable pub type_in : Table → List ℕ → TypeTree
type_in structs code = whole_type (struct_at structs (length structs)) (coded_type code)
