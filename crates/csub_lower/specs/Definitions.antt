-- Definitions of functions as lists of numbers, which lets their list be the value of a struct, and how a table finds the first
-- one of a name. No definition of what a source stands for needs this file.
use Rattle.std.specs.Prelude.{ℕ, suc, ◌≡◌, List, [], ◌∷◌, map, Option, Some, None, Vec, bytes_eq, refl, if◌then◌else◌}
use Rattle.std.specs.Option.{option_map}
use Rattle.std.specs.Coded.{Coded, code_by, coded_list, coded×, coded_ℕ}
use Rattle.std.specs.declared.alloc.Global.{Global}
use Rattle.indexmap.specs.IndexMap.{IndexMap, get_by}
use Rattle.csub_objects.specs.Types.{Name, MemberTree}
use Rattle.csub_objects.specs.Meaning.{member_tree}
use Rattle.csub_objects.specs.Codes.{members_code}
use Rattle.csub_resolution.specs.Values.{Defined}
use Rattle.csub_lower.specs.declared.definitions.Definition.{Definition}

abbrev pub definitions_code : Coded (List Defined)
definitions_code =
    coded_list (code_by (Name × List MemberTree) (coded× (coded_list coded_ℕ) members_code) (λ d. (d.name, d.params))
    (λ p. record { name = p.0; params = p.1 }) (λ _. refl))

-- what a definition of the code stands for
abbrev pub defined_of : Definition → Defined
defined_of d = record { name = d.name; params = map member_tree d.params.items }

-- the place of the first definition of a name
abbrev pub place : Name → List Defined → Option ℕ
place name [] = None
place name (d ∷ rest) = if bytes_eq d.name name then Some 0 else option_map suc (place name rest)

-- the place that a map has for a name
abbrev pub placed : {S : Type 0} → IndexMap (Vec ℕ Global) ℕ S → Name → Option ℕ
placed places name = get_by (λ key. bytes_eq name key.items) places

abbrev pub ArePlaces : {S : Type 0} → IndexMap (Vec ℕ Global) ℕ S → List Defined → Type 0
ArePlaces places ds = (name : Name) → placed places name ≡ place name ds
