-- In a program a name stands with one type, that of its declaration, and a tag with the members of its own, also in the types
-- of globals. The names in a label with their types are passed on.
use Rattle.std.specs.Prelude.{ℕ, ◌≡◌, List, Option, Some}
use Rattle.std.specs.List.{All}
use Rattle.csub_objects.specs.Types.{Name, TypeTree, number_type, array_type, struct_type, loose_type, MemberTrees, no_member, more_members}
use Rattle.csub_semantics.specs.Types.{GlobalTree}
use Rattle.csub_semantics.specs.Trees.{global_owner, local_owner}
use Rattle.csub_semantics.specs.Labels.{LabelTree, label_tree}
use Rattle.edge_label.specs.declared.standing.Standing.{Standing as CodeStanding}
pub use Rattle.label_code.specs.Uses.{Named, an_object, a_callee, TypeUse, parameters_type, variable_uses, place_uses, expr_uses, exprs_uses, arg_uses, init_uses, inits_uses, answer_uses, label_uses, use_tree}

-- members of structs by their tags
abbrev pub Tags : Type 0
Tags = Name → Option MemberTrees

-- what is declared in a program: the types of the objects of file scope by their names, those of a function's own objects
-- by the number of the function, their name and their number among those of the name, of functions their parameters, and of
-- structs the members by their tags
pub record Declarations : Type 0 where
  pub file_type : Name → Option TypeTree
  pub own_type : ℕ → Name → ℕ → Option TypeTree
  pub parameters : Name → Option TypeTree
  pub by_tag : Tags

-- the type of a name in a function
abbrev pub declared_type : Declarations → ℕ → Named → Option TypeTree
declared_type d f (an_object (global_owner a)) = d.file_type a
declared_type d f (an_object (local_owner a n)) = d.own_type f a n
declared_type d f (a_callee a) = d.parameters a

-- each struct in a type, or in members, has the members that its tag is declared with
abbrev mutual
  pub IsTagged : Tags → TypeTree → Type 0
  IsTagged by_tag (number_type k) = Unit {0}
  IsTagged by_tag (array_type t n) = IsTagged by_tag t
  IsTagged by_tag (struct_type tag ms) = (by_tag tag ≡ Some ms) × AreTagged by_tag ms
  IsTagged by_tag (loose_type t) = IsTagged by_tag t

  pub AreTagged : Tags → MemberTrees → Type 0
  AreTagged by_tag no_member = Unit {0}
  AreTagged by_tag (more_members x t rest) = IsTagged by_tag t × AreTagged by_tag rest

abbrev pub struct_members : TypeTree → MemberTrees
struct_members (number_type k) = no_member
struct_members (array_type t n) = no_member
struct_members (struct_type tag ms) = ms
struct_members (loose_type t) = no_member

-- so in the type beside an object, and in those of the parameters of a callee, which are a struct without a tag
abbrev pub HasTags : Tags → Named → TypeTree → Type 0
HasTags by_tag (an_object owner) t = IsTagged by_tag t
HasTags by_tag (a_callee a) t = AreTagged by_tag (struct_members t)

-- a name in a function stands with the type of its declaration, and each struct there with the members of its own
abbrev pub IsDeclaredUse : Declarations → ℕ → TypeUse → Type 0
IsDeclaredUse d f u = (declared_type d f u.named ≡ Some u.ctype) × HasTags d.by_tag u.named u.ctype

-- a label, and the number of the function in which it stands
pub record StandingTree : Type 0 where
  pub function : ℕ
  pub tree : LabelTree

-- each name in a label is declared so
abbrev pub IsDeclared : Declarations → StandingTree → Type 0
IsDeclared d s = All (IsDeclaredUse d s.function) (label_uses s.tree)

-- so in each of some labels; and a global has a type in which each struct has the members of its tag
abbrev pub AreDeclared : List StandingTree → List GlobalTree → Type 0
AreDeclared labels globals = (d : Declarations) × All (IsDeclared d) labels × All (λ g. IsTagged d.by_tag g.ctype) globals

-- the value of the code
abbrev pub standing_tree : CodeStanding → StandingTree
standing_tree s = record { function = s.function; tree = label_tree s.label.now }
