-- What a called name is, and which arguments suit it.
use Rattle.std.specs.Prelude.{List, [], ◌∷◌, Bool, true, false, Option, Some, None, ◌&&◌, ◌||◌}
use Rattle.std.specs.Option.{unwrap_or}
use Rattle.csub_types.specs.declared.kind.IntKind.{IntKind}
use Rattle.csub_types.specs.declared.kind.IntKind.TheVariants.{Int}
use Rattle.csub_objects.specs.Types.{Name, TypeTree, number_type, array_type, struct_type, loose_type}
use Rattle.csub_scopes.specs.Scopes.{Scope, Declared, Meaning, global_object, local_object, enum_constant, a_function, untyped, find}
use Rattle.csub_rules.specs.Library.{LibraryName, getchar, putchar, printf, exit, eof, library_name}
use Rattle.csub_rules.specs.Sorts.{Sort, a_value, a_void, lacks, is_number, has_elements}

-- no function, one of the source with the types of its parameters and of its result, or one of the library
pub data Callee : Type 0 where
  no_function : Callee
  user_function : List TypeTree → Option IntKind → Callee
  getchar_function : Callee
  putchar_function : Callee
  printf_function : Callee
  exit_function : Callee

abbrev pub callee_of_meaning : Meaning → Callee
callee_of_meaning (global_object t) = no_function
callee_of_meaning (local_object k t) = no_function
callee_of_meaning (enum_constant v) = no_function
callee_of_meaning (a_function params result) = user_function params result
callee_of_meaning untyped = no_function

abbrev pub callee_of_declared : Option Declared → Callee
callee_of_declared None = no_function
callee_of_declared (Some d) = callee_of_meaning d.means

abbrev pub callee_by : Option LibraryName → Option Declared → Callee
callee_by None d = callee_of_declared d
callee_by (Some getchar) d = getchar_function
callee_by (Some putchar) d = putchar_function
callee_by (Some printf) d = printf_function
callee_by (Some exit) d = exit_function
callee_by (Some eof) d = no_function

abbrev pub callee_of : Scope → Name → Callee
callee_of scope name = callee_by (library_name name) (find name scope.names)

abbrev pub is_printf : Callee → Bool
is_printf printf_function = true
is_printf c = false

-- the types of the parameters, where they are fixed (C11 7.21.7.6p1, 7.21.7.8p1 and 7.22.4.4p1)
abbrev pub params_of : Callee → Option (List TypeTree)
params_of no_function = None
params_of (user_function params result) = Some params
params_of getchar_function = Some []
params_of putchar_function = Some (number_type Int ∷ [])
params_of printf_function = None
params_of exit_function = Some (number_type Int ∷ [])

-- the same as a list, which has none where they aren't fixed
abbrev pub fixed_params : Callee → List TypeTree
fixed_params c = unwrap_or (params_of c) []

-- A parameter takes an argument (C11 6.5.2.2p2): one that is a number takes a number; one for an array takes a place of an
-- array, or an array parameter, with the same type of elements. A source has no other parameters.
abbrev pub takes : TypeTree → Sort → Bool
takes (number_type k) s = is_number s
takes (array_type t n) s = false
takes (struct_type tag ms) s = false
takes (loose_type t) s = has_elements t s

-- there are as many arguments as parameters (C11 6.5.2.2p2), and each is taken
abbrev pub take_all : List TypeTree → List Sort → Bool
take_all [] [] = true
take_all [] (s ∷ ss) = false
take_all (p ∷ ps) [] = false
take_all (p ∷ ps) (s ∷ ss) = takes p s && take_all ps ss

-- there are more or fewer arguments than parameters, or one that has a sort isn't taken
abbrev pub misfits : List TypeTree → List Sort → Bool
misfits [] [] = false
misfits [] (s ∷ ss) = true
misfits (p ∷ ps) [] = true
misfits (p ∷ ps) (s ∷ ss) = lacks s (takes p s) || misfits ps ss

abbrev pub are_numbers : List Sort → Bool
are_numbers [] = true
are_numbers (s ∷ ss) = is_number s && are_numbers ss

abbrev pub result_sort : Option IntKind → Sort
result_sort None = a_void
result_sort (Some k) = a_value k
