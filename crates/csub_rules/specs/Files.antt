-- What is declared at file scope (C11 6.2.1p4, 6.9).
use Rattle.std.specs.Prelude.{List, [], ◌∷◌, Bool, Option, is_some}
use Rattle.csub_tree.specs.declared.name.Name.{Name as NameAt}
use Rattle.csub_objects.specs.Types.{Name, MemberTrees}
use Rattle.csub_scopes.specs.Scopes.{Scope, Meaning, find, find_tag}
use Rattle.csub_rules.specs.declared.fault.Fault.{Fault}
use Rattle.csub_rules.specs.Faults.{fault_if, ◌or_earlier◌}
use Rattle.csub_rules.specs.Here.{is_reserved}

-- what an item sees, and the functions that are defined before it, the latest first
pub record File : Type 0 where
  pub scope : Scope
  pub defined : List Name

-- before the first item nothing is declared
abbrev pub no_file : File
no_file = record { scope = record { names = []; tags = [] }; defined = [] }

-- one more name at file scope, round which no block stands
abbrev pub naming : Scope → Name → Meaning → Scope
naming scope x m = record scope { names = record { name = x; depth = 0; means = m } ∷ scope.names }

-- one more tag: of a struct with its members, or of an enum, or of a struct whose definition breaks a rule, without
abbrev pub tagging : Scope → Name → Option MemberTrees → Scope
tagging scope x ms = record scope { tags = record { tag = x; members = ms } ∷ scope.tags }

-- a name of file scope is declared already
abbrev pub is_known : Scope → Name → Bool
is_known scope x = is_some (find x scope.names)

-- M2: the name is declared twice at file scope (C11 6.7p3). M3: it is one of the library's (7.1.3).
abbrev pub name_fault : Scope → NameAt → Option Fault
name_fault scope x = fault_if (is_known scope x.text) 2 x.span or_earlier fault_if (is_reserved x.text) 3 x.span

-- The same of a tag, of a struct or of an enum (C11 6.7.2.3p1): tags have one name space (6.2.3).
abbrev pub tag_fault : Scope → NameAt → Option Fault
tag_fault scope x = fault_if (is_some (find_tag x.text scope.tags)) 2 x.span or_earlier fault_if (is_reserved x.text) 3 x.span
