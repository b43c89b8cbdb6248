-- What the steps of the decisions on expressions, objects, calls and tags decide. No definition of `Valid` needs it.
use Rattle.std.specs.Prelude.{ℕ, ◌+◌, ◌<◌, ◌≡◌, ◌≢◌, ℤ, All, List, [], ◌∷◌, map, length, slice_index_or, Option, Some, None}
use Rattle.std.specs.List.{flat_map}
use Rattle.csub_types.specs.Kinds.{IsOf}
use Rattle.csub_types.specs.declared.kind.IntKind.{IntKind}
use Rattle.csub_semantics.specs.declared.function.RCall.{RCall}
use Rattle.csub_semantics.specs.declared.function.LocalVar.{LocalVar}
use Rattle.csub_objects.specs.declared.types.Member.{Member}
use Rattle.csub_objects.specs.Meaning.{member_tree}
use Rattle.csub_objects.specs.Types.{Name, TypeTree, members_of}
use Rattle.csub_semantics.specs.Labels.{LabelTree, call_tree}
use Rattle.csub_semantics.specs.Syntax.{LocalTree, FunctionTree, ProgramTree, part_tree, function_tree, program_tree}
use Rattle.csub_decisions.specs.declared.site.Definitions.{Definitions}
use Rattle.csub_decisions.specs.declared.site.Site.{Site}
use Rattle.csub_validity.specs.Valid.{Scope, scope_of, label_result, IsCall, objects_of}
use Rattle.csub_validity.specs.Valid.{StructTree, structs_in, declared_types, AgreeOn}

-- the program that is judged
abbrev pub tree_of : Definitions → ProgramTree
tree_of d = program_tree (record { functions = d.functions.now; globals = d.globals.now })

-- what the expressions of a part may name, by where they stand
abbrev pub scope_at : Site → Scope
scope_at site = scope_of (tree_of site.program) (function_tree site.function.now) (part_tree site.part.now)

-- what a part's own point gives, where it is a call
abbrev pub own_result : Option LabelTree → Option IntKind
own_result None = None
own_result (Some label) = label_result label

-- the calls of a part, numbered from 1, fit their callees
abbrev pub AreCalls : ProgramTree → Scope → ℕ → List RCall → Type 0
AreCalls P sc temps calls = (i : ℕ) (d : RCall) → i < length calls → IsCall P sc temps (i + 1) (call_tree (slice_index_or calls i d).label)

-- no local that counts as the first of its name has the name of a parameter
abbrev pub AreApart : List Member → List LocalVar → Type 0
AreApart params locals = All (λ (l : LocalVar). l.number ≡ 1 → All (λ (p : Member). p.name ≢ l.name) params) locals

-- numbers begin with as many as there are kinds, each a number of its kind, and these are the others
abbrev pub BeginWith : List IntKind → List ℤ → List ℤ → Type 0
BeginWith [] vs rest = vs ≡ rest
BeginWith (k ∷ ks) [] rest = ⊥
BeginWith (k ∷ ks) (v ∷ vs) rest = IsOf k v × BeginWith ks vs rest

-- the others, if numbers begin so
abbrev pub AreBehind : List IntKind → List ℤ → Option (List ℤ) → Type 0
AreBehind ks vs (Some rest) = BeginWith ks vs rest
AreBehind ks vs None = (rest : List ℤ) → BeginWith ks vs rest → ⊥

-- a struct of the code, by its tag and its members
abbrev pub struct_tree : Name → List Member → StructTree
struct_tree tag ms = record { tag = tag; members = members_of (map member_tree ms) }

-- the structs in the types of all objects of a program
abbrev pub declared_structs : ProgramTree → List StructTree
declared_structs P = flat_map structs_in (declared_types P)

-- a struct has the members of each struct in a type that has its tag
abbrev pub AgreesIn : StructTree → TypeTree → Type 0
AgreesIn a t = All (AgreeOn a) (structs_in t)

-- each struct in a type has the members of each of these structs that has its tag
unfoldable pub AllAgree : List StructTree → TypeTree → Type 0
AllAgree structs t = All (λ a. All (AgreeOn a) structs) (structs_in t)

-- what holds of the type of each object of a function
abbrev pub OfObjects : (TypeTree → Type 0) → FunctionTree → Type 0
OfObjects R f = All (λ (o : LocalTree). R o.ctype) (objects_of f)
