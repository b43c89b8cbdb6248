-- Members by their numbers.
use Rattle.std.proofs.Common.{◌≡◌, ℕ, zero, suc, ◌<◌, ◌≤◌, List, [], ◌∷◌, length, map, get_or, Some, None, refl, arith}
use Rattle.csub_objects.specs.declared.types.Member.{Member}
use Rattle.csub_objects.specs.Meaning.{type_tree, member_tree}
use Rattle.csub_objects.specs.Types.{members_of}
use Rattle.csub_objects.specs.Parts.{member_at}

pub member_at_within : (ms : List Member) (i : ℕ) (d : Member) → i < length ms
    → member_at (members_of (map member_tree ms)) i ≡ Some (type_tree (get_or ms i d).ctype)
member_at_within [] i d h = absurd (omega arith)
member_at_within (m ∷ ms) zero d h = refl
member_at_within (m ∷ ms) (suc i) d h = member_at_within ms i d (omega arith)

pub member_at_past : (ms : List Member) (i : ℕ) → length ms ≤ i → member_at (members_of (map member_tree ms)) i ≡ None
member_at_past [] i h = refl
member_at_past (m ∷ ms) zero h = absurd (omega arith)
member_at_past (m ∷ ms) (suc i) h = member_at_past ms i (omega arith)
