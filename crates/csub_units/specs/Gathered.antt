-- How members of structs are gathered. No definition of the rules needs this file.
use Rattle.std.specs.Prelude.{List, [], ◌∷◌, ◌++◌, Option, Some, None, Vec, IsTrue, map, option_map}
use Rattle.std.specs.declared.alloc.Global.{Global}
use Rattle.csub_tree.specs.Declarations.{Declarator}
use Rattle.csub_objects.specs.declared.types.Member.{Member}
use Rattle.csub_objects.specs.Meaning.{member_tree}
use Rattle.csub_objects.specs.Types.{Name, TypeTree, MemberTree, HaveDifferentNames, members_of}
use Rattle.csub_scopes.specs.Scopes.{Scope}
use Rattle.csub_rules.specs.Sizes.{have_arrays}
use Rattle.csub_rules.specs.Structs.{fields_before}

abbrev pub gathered : Option (Vec Member Global) → Option (List MemberTree)
gathered ms = option_map (λ v. map member_tree v.items) ms

-- members behind others; none where some have no type
abbrev pub behind : Option (List MemberTree) → Option (List MemberTree) → Option (List MemberTree)
behind None ns = None
behind (Some ms) None = None
behind (Some ms) (Some ns) = Some (ms ++ ns)

abbrev pub one : Name → Option TypeTree → Option (List MemberTree)
one x t = option_map (λ t. record { name = x; ctype = t } ∷ []) t

-- the members of one declaration
abbrev pub line_members : Scope → Option TypeTree → List Declarator → Option (List MemberTree)
line_members scope base vs = fields_before scope base vs (Some [])

-- objects may have the types of these members
abbrev pub AreSized : Option (List MemberTree) → Type 0
AreSized None = Unit {0}
AreSized (Some ms) = IsTrue (have_arrays (members_of ms))

abbrev pub Differ : Option (List MemberTree) → Type 0
Differ None = Unit {0}
Differ (Some ms) = HaveDifferentNames ms
