-- What declarations of the code stand for.
use Rattle.std.specs.Prelude.{map, option_map}
use Rattle.csub_objects.specs.Meaning.{type_tree}
use Rattle.csub_objects.specs.Types.{members_of}
use Rattle.csub_scopes.specs.declared.meaning.Declared.{Declared}
use Rattle.csub_scopes.specs.declared.meaning.Meaning.{Meaning}
use Rattle.csub_scopes.specs.declared.meaning.Meaning.TheVariants.{Global, Local, Constant, Function, Untyped}
use Rattle.csub_scopes.specs.declared.meaning.Tagged.{Tagged}
use Rattle.csub_scopes.specs.declared.scope.Scope.{Scope}
use Rattle.csub_scopes.specs.Scopes as scopes

abbrev pub meaning_of : Meaning → scopes.Meaning
meaning_of (Global t) = scopes.global_object (type_tree t)
meaning_of (Local k t) = scopes.local_object k (type_tree t)
meaning_of (Constant v) = scopes.enum_constant v
meaning_of (Function f) = scopes.a_function (map type_tree f.params.items) f.result
meaning_of Untyped = scopes.untyped

abbrev pub declared_of : Declared → scopes.Declared
declared_of d = record { name = d.name; depth = d.depth; means = meaning_of d.meaning }

abbrev pub tagged_of : Tagged → scopes.Tagged
tagged_of d = record { tag = d.tag; members = option_map members_of d.members }

-- names and tags stand for their lists already
abbrev pub scope_of : Scope → scopes.Scope
scope_of s = record { names = s.names; tags = s.tags }
