-- Numbers of types by the names beside which they stand, and of structs by their tags.
use Rattle.std.specs.Prelude.{◌≡◌, ℕ, zero, suc, List, [], ◌∷◌, Option, Some, None, IsTrue, drop, length, slice_get}
use Rattle.std.specs.Borrow.{Bor}
use Rattle.std.specs.Str.{bytes_eq}
use Rattle.std.specs.Map.{lookup}
use Rattle.std.specs.List.{All}
use Rattle.csub_objects.specs.Types.{Name, TypeTree, MemberTrees}
use Rattle.csub_semantics.specs.Trees.{global_owner, local_owner}
use Rattle.csub_semantics.specs.Labels.{label_tree}
use Rattle.label_code.specs.Codes.{name_code}
use Rattle.edge_label.specs.Numbers.{HasEachOnce}
use Rattle.edge_label.specs.Structs.{Table, HasStruct, IsStructTable}
use Rattle.edge_label.specs.Tables.{IsTypeNumber, AreTypeNumbers, types_of}
use Rattle.edge_label.specs.Uses.{Named, an_object, a_callee, Tags, Declarations}
use Rattle.edge_label.specs.declared.structs.TagNumbers.{TagNumbers}
use Rattle.edge_label.specs.declared.table.Tables.{Tables}
use Rattle.edge_label.specs.declared.types.Typed.{Typed}

-- what tells a name in a function from others: an object of file scope and a callee are the same in each function
abbrev pub named_code : ℕ → Named → List ℕ
named_code f (an_object (global_owner a)) = 0 ∷ name_code a
named_code f (an_object (local_owner a n)) = 1 ∷ f ∷ n ∷ name_code a
named_code f (a_callee a) = 2 ∷ name_code a

-- the declared type of the name with a code
abbrev pub type_at : Declarations → List ℕ → Option TypeTree
type_at d [] = None
type_at d (zero ∷ name) = d.file_type (drop 1 name)
type_at d (suc zero ∷ []) = None
type_at d (suc zero ∷ f ∷ []) = None
type_at d (suc zero ∷ f ∷ n ∷ name) = d.own_type f (drop 1 name) n
type_at d (suc (suc k) ∷ name) = d.parameters (drop 1 name)

-- the number is that of the declared type of the name with a code
pub record IsNumberOf (tables : Tables) (d : Declarations) (name : List ℕ) (number : ℕ) : Type 0 where
  pub ctype : TypeTree
  pub declared : type_at d name ≡ Some ctype
  pub stands : IsTypeNumber tables number ctype

-- names by their codes, and by each of them the number of its type
pub record AreKnown (tables : Tables) (d : Declarations) (names : Table) (numbers : List ℕ) : Type 0 where
  pub once : HasEachOnce names
  pub as_many : length numbers ≡ length names
  pub each : (p number : ℕ) (name : List ℕ) → slice_get names p ≡ Some name → slice_get numbers p ≡ Some number → IsNumberOf tables d name number

-- each label has the numbers of its types
abbrev pub AreTyped : Tables → List Typed → Type 0
AreTyped tables rows = All (λ t. AreTypeNumbers tables t.types.items (types_of (label_tree t.label.now))) rows

-- each tag among entries has the number of the struct with the members that it is declared with
abbrev pub AreOfTags : Table → Tags → List (Bor (List ℕ) × ℕ) → Type 0
AreOfTags structs by_tag entries =
    (tag : Name) (s : ℕ) → lookup (λ key. bytes_eq tag key.now) entries ≡ Some s
    → (ms : MemberTrees) × (by_tag tag ≡ Some ms) × HasStruct structs s tag ms

-- a table of structs, and numbers of structs by their tags, where these are trusted
pub record AreStructs (by_tag : Tags) (structs : Table) (tags : TagNumbers) : Type 0 where
  pub table : IsStructTable structs
  pub numbers : IsTrue tags.trusted → AreOfTags structs by_tag tags.by_tag.entries
