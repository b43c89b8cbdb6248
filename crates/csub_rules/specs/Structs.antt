-- Structs (C11 6.7.2.1), and the rules on them.
use Rattle.std.specs.Prelude.{List, [], ◌∷◌, Option, Some, None, map, option_map, is_some, if◌then◌else◌}
use Rattle.std.specs.List.{flat_map}
use Rattle.csub_tree.specs.declared.name.Name.{Name as NameAt}
use Rattle.csub_tree.specs.Declarations.{Declarator, Declare}
use Rattle.csub_objects.specs.Types.{Name, TypeTree, struct_type, MemberTree, MemberTrees, members_of}
use Rattle.csub_scopes.specs.Scopes.{Scope}
use Rattle.csub_rules.specs.declared.fault.Fault.{Fault}
use Rattle.csub_rules.specs.Faults.{fault_if, ◌or_earlier◌}
use Rattle.csub_rules.specs.Declarators.{base_type, base_fault, object_type, slot_fault, is_too_large}
use Rattle.csub_rules.specs.Here.{is_reserved}
use Rattle.csub_rules.specs.Labels.{twice_fault}
use Rattle.csub_rules.specs.Files.{tagging, tag_fault}

-- the names of the members in order; the members of a struct have a name space of their own (C11 6.2.3)
abbrev pub field_names : List Declare → List NameAt
field_names ds = flat_map (λ d. map (λ v. v.name) d.vars) ds

-- the members of declarations in order; none where one of them has no type
abbrev pub with_member : Option MemberTree → Option (List MemberTree) → Option (List MemberTree)
with_member None ms = None
with_member (Some m) None = None
with_member (Some m) (Some ms) = Some (m ∷ ms)

abbrev pub member_of : Scope → Option TypeTree → Declarator → Option MemberTree
member_of scope base d = option_map (λ t. record { name = d.name.text; ctype = t }) (object_type scope base d.dims)

abbrev pub fields_before : Scope → Option TypeTree → List Declarator → Option (List MemberTree) → Option (List MemberTree)
fields_before scope base [] ms = ms
fields_before scope base (d ∷ ds) ms = with_member (member_of scope base d) (fields_before scope base ds ms)

abbrev pub members : Scope → List Declare → Option (List MemberTree)
members scope [] = Some []
members scope (d ∷ ds) = fields_before scope (base_type scope d.base) d.vars (members scope ds)

-- the earliest fault of a member: M3, its name is one of the library's, or one of its declarator
abbrev pub field_fault : Scope → Option TypeTree → Declarator → Option Fault
field_fault scope base d = fault_if (is_reserved d.name.text) 3 d.name.span or_earlier slot_fault scope base d.name.span d.dims

abbrev pub line_fault : Scope → Option TypeTree → List Declarator → Option Fault
line_fault scope base [] = None
line_fault scope base (d ∷ ds) = field_fault scope base d or_earlier line_fault scope base ds

abbrev pub fields_fault : Scope → List Declare → Option Fault
fields_fault scope [] = None
fields_fault scope (d ∷ ds) = base_fault scope d.base or_earlier line_fault scope (base_type scope d.base) d.vars or_earlier fields_fault scope ds

-- the type that a definition would give its tag
abbrev pub defined_struct : Scope → Name → List Declare → Option TypeTree
defined_struct scope tag ds = option_map (λ ms. struct_type tag (members_of ms)) (members scope ds)

-- The earliest fault of a struct. Its own tag isn't defined before the end of its members (C11 6.7.2.3p4). M10: it is too large,
-- or too many structs stand inside each other. M2: two members have one name.
abbrev pub struct_fault : Scope → NameAt → List Declare → Option Fault
struct_fault scope tag ds =
    tag_fault scope tag or_earlier fault_if (is_too_large (defined_struct scope tag.text ds)) 10 tag.span
    or_earlier fields_fault scope ds or_earlier twice_fault [] (field_names ds)

-- what a tag means behind a definition, which gives a struct where it breaks no rule
abbrev pub sound_members : Scope → NameAt → List Declare → Option MemberTrees
sound_members scope tag ds = if is_some (struct_fault scope tag ds) then None else option_map members_of (members scope ds)

abbrev pub past_struct : Scope → NameAt → List Declare → Scope
past_struct scope tag ds = tagging scope tag.text (sound_members scope tag ds)
