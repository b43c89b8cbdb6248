-- How many slots are before a member.
use Rattle.std.proofs.Common.{◌≡◌, ℕ, ◌+◌, ◌≤◌, Bool, true, false, Option, Some, None, option_map, bytes_eq, if◌then◌else◌, refl, arith}
use Rattle.csub_objects.specs.Types.{Name, TypeTree, number_type, array_type, struct_type, loose_type, MemberTrees, no_member, more_members}
use Rattle.csub_objects.specs.Types.{cells, member_cells, find_cell, first_cell, IsCappedSome}
use Rattle.csub_flat.specs.Flatten.{cell_or}
use Rattle.csub_flat.specs.Fits.{MayStand}
use Rattle.csub_flat.proofs.LawsSized.{stands_few}

-- the first cell of a member is within the struct
cell_within : (name : Name) (ms : MemberTrees) (n : ℕ) → find_cell name ms ≡ Some n → n ≤ member_cells ms
cell_within name no_member n e = cc
cell_within name (more_members x t rest) n e = pick (bytes_eq x name) e (λ m f. cell_within name rest m f)
  where
    later : (o : Option ℕ) → ((m : ℕ) → o ≡ Some m → m ≤ member_cells rest) → option_map (λ m. cells t + m) o ≡ Some n → n ≤ cells t + member_cells rest
    later None found g = cc
    later (Some m) found g = let is : cells t + m ≡ n = cc in let below = found m refl in omega arith

    pick : (b : Bool) → (if b then Some 0 else option_map (λ m. cells t + m) (find_cell name rest)) ≡ Some n → ((m : ℕ) → find_cell name rest ≡ Some m → m ≤ member_cells rest)
        → n ≤ cells t + member_cells rest
    pick true g found = let is : ◌≡◌ {A = ℕ} 0 n = cc in omega arith
    pick false g found = later (find_cell name rest) found g

first_within : (name : Name) (t : TypeTree) (n : ℕ) → first_cell name t ≡ Some n → n ≤ cells t
first_within name (number_type k) n e = cc
first_within name (array_type t m) n e = cc
first_within name (struct_type tag ms) n e = cell_within name ms n e
first_within name (loose_type t) n e = cc

-- so its number isn't capped
pub uncapped : (name : Name) (t : TypeTree) (c : ℕ) → MayStand t → IsCappedSome c (first_cell name t) → (c ≡ cell_or (first_cell name t)) × (c ≤ 65536)
uncapped name t c may h = pick (first_cell name t) refl h
  where
    pick : (o : Option ℕ) → first_cell name t ≡ o → IsCappedSome c o → (c ≡ cell_or o) × (c ≤ 65536)
    pick None e k = absurd k
    pick (Some n) e k =
        let within = first_within name t n e in let most = stands_few t may in
        let is = k.exact (omega arith) in (is, omega arith)
