-- Declarations as lists of numbers, which lets their list be the value of a struct. No definition of what names mean needs
-- this file.
use Rattle.std.specs.Prelude.{ℕ, ℤ, ◌≡◌, ◌⊎◌, List, [], Option, Some, None, refl}
use Rattle.std.proofs.Common.{inl, inr}
use Rattle.std.specs.Coded.{Coded, code_by, coded_list, coded_option, coded×, coded⊎, coded_ℕ, coded_ℤ}
use Rattle.csub_types.specs.declared.kind.IntKind.{IntKind}
use Rattle.csub_objects.specs.Types.{Name, TypeTree, number_type, array_type, struct_type, loose_type, number_kind, MemberTrees, no_member}
use Rattle.csub_objects.specs.Codes.{type_code}
use Rattle.csub_scopes.specs.Scopes.{Meaning, global_object, local_object, enum_constant, a_function, untyped, Declared, Tagged}

-- a kind is told by its type
abbrev kind_code : Coded IntKind
kind_code = code_by TypeTree type_code number_type number_kind (λ _. refl)

abbrev struct_members : TypeTree → MemberTrees
struct_members (number_type k) = no_member
struct_members (array_type t n) = no_member
struct_members (struct_type tag ms) = ms
struct_members (loose_type t) = no_member

-- members are told by their struct
abbrev members_code : Coded MemberTrees
members_code = code_by TypeTree type_code (struct_type []) struct_members (λ _. refl)

abbrev Parts : Type 0
Parts = TypeTree ⊎ ((ℕ × TypeTree) ⊎ (ℤ ⊎ (List TypeTree × Option IntKind)))

abbrev parts : Meaning → Option Parts
parts (global_object t) = Some (inl t)
parts (local_object k t) = Some (inr (inl (k, t)))
parts (enum_constant v) = Some (inr (inr (inl v)))
parts (a_function params result) = Some (inr (inr (inr (params, result))))
parts untyped = None

abbrev whole : Option Parts → Meaning
whole None = untyped
whole (Some (inl t)) = global_object t
whole (Some (inr (inl p))) = local_object p.0 p.1
whole (Some (inr (inr (inl v)))) = enum_constant v
whole (Some (inr (inr (inr p)))) = a_function p.0 p.1

pub whole_parts : (m : Meaning) → whole (parts m) ≡ m
whole_parts (global_object t) = refl
whole_parts (local_object k t) = refl
whole_parts (enum_constant v) = refl
whole_parts (a_function params result) = refl
whole_parts untyped = refl

abbrev meaning_code : Coded Meaning
meaning_code =
    code_by (Option Parts)
    (coded_option (coded⊎ type_code (coded⊎ (coded× coded_ℕ type_code) (coded⊎ coded_ℤ (coded× (coded_list type_code) (coded_option kind_code))))))
    parts whole whole_parts

abbrev pub names_code : Coded (List Declared)
names_code =
    coded_list (code_by (Name × (ℕ × Meaning)) (coded× (coded_list coded_ℕ) (coded× coded_ℕ meaning_code))
    (λ d. (d.name, (d.depth, d.means))) (λ p. record { name = p.0; depth = p.1.0; means = p.1.1 }) (λ _. refl))

abbrev pub tags_code : Coded (List Tagged)
tags_code =
    coded_list (code_by (Name × Option MemberTrees) (coded× (coded_list coded_ℕ) (coded_option members_code)) (λ d. (d.tag, d.members))
    (λ p. record { tag = p.0; members = p.1 }) (λ _. refl))
