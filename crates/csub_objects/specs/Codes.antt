-- Types as lists of numbers, which lets a type be the value of a struct. No definition of what types mean needs this file.
use Rattle.std.specs.Prelude.{ℕ, zero, suc, ◌+◌, ◌≡◌, List, [], ◌∷◌, refl}
use Rattle.std.specs.Coded.{Coded, code_by, coded_list, coded×, coded_ℕ}
use Rattle.std.proofs.Common.{ap, ◌∙◌}
use Rattle.csub_types.specs.declared.kind.IntKind.TheVariants.{Char, Int, Unsigned}
use Rattle.csub_objects.specs.Types.{Name, TypeTree, number_type, array_type, struct_type, loose_type}
use Rattle.csub_objects.specs.Types.{MemberTree, MemberTrees, no_member, more_members, members_of}

-- how many parts a type has
abbrev mutual
  pub type_size : TypeTree → ℕ
  type_size (number_type k) = 0
  type_size (array_type t n) = type_size t + 1
  type_size (struct_type tag ms) = members_size ms + 2
  type_size (loose_type t) = type_size t + 1

  pub members_size : MemberTrees → ℕ
  members_size no_member = 0
  members_size (more_members x t rest) = type_size t + (members_size rest + 1)

abbrev pub list_size : List MemberTree → ℕ
list_size ms = members_size (members_of ms) + 1

-- A type is written with its parts first. Each list of numbers is one sign: what it is, and a length, a tag or a name.
abbrev mutual
  pub type_signs : TypeTree → List (List ℕ) → List (List ℕ)
  type_signs (number_type Char) after = (2 ∷ []) ∷ after
  type_signs (number_type Int) after = (3 ∷ []) ∷ after
  type_signs (number_type Unsigned) after = (4 ∷ []) ∷ after
  type_signs (array_type t n) after = type_signs t ((5 ∷ n ∷ []) ∷ after)
  type_signs (struct_type tag ms) after = members_signs ms ((6 ∷ tag) ∷ after)
  type_signs (loose_type t) after = type_signs t ((1 ∷ []) ∷ after)

  pub members_signs : MemberTrees → List (List ℕ) → List (List ℕ)
  members_signs no_member after = (0 ∷ []) ∷ after
  members_signs (more_members x t rest) after = type_signs t (members_signs rest ((7 ∷ x) ∷ after))

-- what signs that were read give
pub data Piece : Type 0 where
  a_type : TypeTree → Piece
  members : MemberTrees → Piece

-- one sign more: it joins the last pieces
abbrev pub join : ℕ → Name → List Piece → List Piece
join zero x pieces = members no_member ∷ pieces
join (suc zero) x (a_type t ∷ pieces) = a_type (loose_type t) ∷ pieces
join (suc (suc zero)) x pieces = a_type (number_type Char) ∷ pieces
join (suc (suc (suc zero))) x pieces = a_type (number_type Int) ∷ pieces
join (suc (suc (suc (suc zero)))) x pieces = a_type (number_type Unsigned) ∷ pieces
join (suc (suc (suc (suc (suc zero))))) (n ∷ x) (a_type t ∷ pieces) = a_type (array_type t n) ∷ pieces
join (suc (suc (suc (suc (suc (suc zero)))))) tag (members ms ∷ pieces) = a_type (struct_type tag ms) ∷ pieces
join (suc (suc (suc (suc (suc (suc (suc n))))))) x (members ms ∷ a_type t ∷ pieces) = members (more_members x t ms) ∷ pieces
join n x pieces = pieces

abbrev pub joined : List ℕ → List Piece → List Piece
joined [] pieces = pieces
joined (n ∷ x) pieces = join n x pieces

abbrev pub read : List (List ℕ) → List Piece → List Piece
read [] pieces = pieces
read (s ∷ rest) pieces = read rest (joined s pieces)

mutual
  type_read : (t : TypeTree) (after : List (List ℕ)) (pieces : List Piece) → read (type_signs t after) pieces ≡ read after (a_type t ∷ pieces)
  type_read (number_type Char) after pieces = refl
  type_read (number_type Int) after pieces = refl
  type_read (number_type Unsigned) after pieces = refl
  type_read (array_type t n) after pieces = type_read t ((5 ∷ n ∷ []) ∷ after) pieces
  type_read (struct_type tag ms) after pieces = members_read ms ((6 ∷ tag) ∷ after) pieces
  type_read (loose_type t) after pieces = type_read t ((1 ∷ []) ∷ after) pieces

  members_read : (ms : MemberTrees) (after : List (List ℕ)) (pieces : List Piece)
      → read (members_signs ms after) pieces ≡ read after (members ms ∷ pieces)
  members_read no_member after pieces = refl
  members_read (more_members x t rest) after pieces =
      type_read t (members_signs rest ((7 ∷ x) ∷ after)) pieces ∙ members_read rest ((7 ∷ x) ∷ after) (a_type t ∷ pieces)

-- the type that was read last
abbrev pub top : List Piece → TypeTree
top (a_type t ∷ pieces) = t
top pieces = number_type Int

pub top_read : (t : TypeTree) → top (read (type_signs t []) []) ≡ t
top_read t = ap top (type_read t [] [])

abbrev pub type_code : Coded TypeTree
type_code = code_by (List (List ℕ)) (coded_list (coded_list coded_ℕ)) (λ t. type_signs t []) (λ s. top (read s [])) top_read

abbrev pub member_code : Coded MemberTree
member_code =
    code_by (Name × TypeTree) (coded× (coded_list coded_ℕ) type_code) (λ m. (m.name, m.ctype)) (λ p. record { name = p.0; ctype = p.1 })
    (λ _. refl)

abbrev pub members_code : Coded (List MemberTree)
members_code = coded_list member_code
