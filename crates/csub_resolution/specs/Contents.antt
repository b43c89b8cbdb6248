-- What objects are initialised with (C11 6.7.9).
use Rattle.std.specs.Prelude.{ℕ, zero, suc, ◌+◌, ℤ, pos, List, [], ◌∷◌, ◌++◌, map, Option, Some, None}
use Rattle.std.specs.Option.{unwrap_or}
use Rattle.std.specs.List.{repeat}
use Rattle.csub_types.specs.Kinds.{convert}
use Rattle.csub_tree.specs.Declarations.{Init, Inits, One, Listed, NoInits, MoreInits}
use Rattle.csub_objects.specs.Types.{TypeTree, number_type, array_type, struct_type, loose_type, MemberTrees, no_member, more_members}
use Rattle.csub_objects.specs.Types.{number_kind, kinds}
use Rattle.csub_semantics.specs.Labels.{InitTree, one_value, listed, InitTrees, no_init, more_inits}
use Rattle.csub_semantics.specs.Syntax.{CallAt}
use Rattle.csub_scopes.specs.Scopes.{Scope}
use Rattle.csub_rules.specs.Constants.{constant}
use Rattle.csub_resolution.specs.Values.{Defined, count, value, calls_in}

-- how many calls an initialiser has
abbrev mutual
  pub init_count : Scope → Init → ℕ
  init_count scope (One e) = count scope e
  init_count scope (Listed xs s) = inits_count scope xs

  pub inits_count : Scope → Inits → ℕ
  inits_count scope NoInits = 0
  inits_count scope (MoreInits x rest) = init_count scope x + inits_count scope rest

-- an initialiser of an object of a function, before which its part makes k calls
abbrev mutual
  pub init_value : Scope → ℕ → Init → InitTree
  init_value scope k (One e) = one_value (value scope k e)
  init_value scope k (Listed xs s) = listed (init_values scope k xs)

  pub init_values : Scope → ℕ → Inits → InitTrees
  init_values scope k NoInits = no_init
  init_values scope k (MoreInits x rest) = more_inits (init_value scope k x) (init_values scope (k + init_count scope x) rest)

-- and its calls
module _ (defined : List Defined) where
  abbrev mutual
    pub init_calls : Scope → ℕ → Init → List CallAt
    init_calls scope k (One e) = calls_in defined scope k e
    init_calls scope k (Listed xs s) = inits_calls scope k xs

    pub inits_calls : Scope → ℕ → Inits → List CallAt
    inits_calls scope k NoInits = []
    inits_calls scope k (MoreInits x rest) = init_calls scope k x ++ inits_calls scope (k + init_count scope x) rest

-- an object of file scope begins with 0 in each of its cells (C11 6.7.9p10)
abbrev pub zeros : TypeTree → List ℤ
zeros t = map (λ k. pos 0) (kinds t)

-- the value of a constant; where a rule is broken it may be none
abbrev pub constant_or_zero : Scope → Init → ℤ
constant_or_zero scope (One e) = unwrap_or (constant scope e) (pos 0)
constant_or_zero scope (Listed xs s) = pos 0

-- The numbers that an object of file scope begins with, one for each of its cells: those of its initialiser's constants,
-- converted to the kinds of their cells (C11 6.7.9p11), and 0 for all others (p21).
abbrev mutual
  pub contents : Scope → Init → TypeTree → List ℤ
  contents scope (One e) t = convert (number_kind t) (constant_or_zero scope (One e)) ∷ []
  contents scope (Listed xs s) (number_type k) = zeros (number_type k)
  contents scope (Listed xs s) (array_type t n) = element_contents scope xs t n
  contents scope (Listed xs s) (struct_type tag ms) = member_contents scope xs ms
  contents scope (Listed xs s) (loose_type t) = zeros (loose_type t)

  -- of so many elements
  pub element_contents : Scope → Inits → TypeTree → ℕ → List ℤ
  element_contents scope NoInits t n = repeat n (zeros t)
  element_contents scope (MoreInits x rest) t zero = []
  element_contents scope (MoreInits x rest) t (suc n) = contents scope x t ++ element_contents scope rest t n

  pub member_contents : Scope → Inits → MemberTrees → List ℤ
  member_contents scope xs no_member = []
  member_contents scope NoInits (more_members a t ms) = zeros t ++ member_contents scope NoInits ms
  member_contents scope (MoreInits x rest) (more_members a t ms) = contents scope x t ++ member_contents scope rest ms

abbrev pub initial : Scope → Option Init → TypeTree → List ℤ
initial scope None t = zeros t
initial scope (Some x) t = contents scope x t
