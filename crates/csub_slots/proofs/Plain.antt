-- Types without the kinds of their numbers have the same parts at the same places.
use Rattle.std.proofs.Common.{ℕ, ◌+◌, ◌*◌, ◌≡◌, List, [], ◌∷◌, Bool, true, false, Option, Some, None, nat_lt, bytes_eq}
use Rattle.std.proofs.Common.{if◌then◌else◌, refl, sym, ◌∙◌, ap}
use Rattle.csub_objects.specs.Types.{Name, TypeTree, number_type, array_type, struct_type, loose_type, MemberTrees, no_member, more_members}
use Rattle.csub_objects.specs.Types.{cells, member_cells}
use Rattle.csub_objects.specs.Paths.{Inner, element_at, member_of, Inside, inside_at, moved, inside, inside_member}
use Rattle.csub_flat.specs.Frames.{plain, plain_members}

mutual
  pub plain_cells : (t : TypeTree) → cells (plain t) ≡ cells t
  plain_cells (number_type k) = refl
  plain_cells (array_type t n) = ap (λ c. n * c) (plain_cells t)
  plain_cells (struct_type tag ms) = plain_member_cells ms
  plain_cells (loose_type t) = refl

  plain_member_cells : (ms : MemberTrees) → member_cells (plain_members ms) ≡ member_cells ms
  plain_member_cells no_member = refl
  plain_member_cells (more_members x t rest) =
      ap (λ c. c + member_cells (plain_members rest)) (plain_cells t) ∙ ap (λ c. cells t + c) (plain_member_cells rest)

-- a part of a plain type
abbrev pub plained : Option Inside → Option Inside
plained None = None
plained (Some x) = Some (inside_at x.at (plain x.ctype))

plained-moved : (k : ℕ) (o : Option Inside) → plained (moved k o) ≡ moved k (plained o)
plained-moved k None = refl
plained-moved k (Some x) = refl

plained_if : (b : Bool) (o r : Option Inside) → plained (if b then o else r) ≡ (if b then plained o else plained r)
plained_if true o r = refl
plained_if false o r = refl

-- the same, behind as many cells
moved_plain : (k l : ℕ) (o r : Option Inside) → k ≡ l → o ≡ plained r → moved k o ≡ plained (moved l r)
moved_plain k l o r e f = ap (λ n. moved n o) e ∙ ap (moved l) f ∙ sym (plained-moved l r)

mutual
  pub inside_plain : (t : TypeTree) (p : List Inner) → inside (plain t) p ≡ plained (inside t p)
  inside_plain t [] = refl
  inside_plain (number_type k) (i ∷ p) = refl
  inside_plain (loose_type t) (i ∷ p) = refl
  inside_plain (array_type t n) (element_at i ∷ p) =
      let there = moved_plain (i * cells (plain t)) (i * cells t) (inside (plain t) p) (inside t p) (ap (λ c. i * c) (plain_cells t)) (inside_plain t p) in
      ap (λ o. if nat_lt i n then o else None) there ∙ sym (plained_if (nat_lt i n) (moved (i * cells t) (inside t p)) None)
  inside_plain (array_type t n) (member_of b ∷ p) = refl
  inside_plain (struct_type tag ms) (element_at i ∷ p) = refl
  inside_plain (struct_type tag ms) (member_of b ∷ p) = member_plain ms b p

  member_plain : (ms : MemberTrees) (b : Name) (p : List Inner) → inside_member (plain_members ms) b p ≡ plained (inside_member ms b p)
  member_plain no_member b p = refl
  member_plain (more_members a t rest) b p =
      let later = moved_plain (cells (plain t)) (cells t) (inside_member (plain_members rest) b p) (inside_member rest b p) (plain_cells t)
      (member_plain rest b p) in
      ap (λ o. if bytes_eq a b then o else moved (cells (plain t)) (inside_member (plain_members rest) b p)) (inside_plain t p)
      ∙ ap (λ o. if bytes_eq a b then plained (inside t p) else o) later
      ∙ sym (plained_if (bytes_eq a b) (inside t p) (moved (cells t) (inside_member rest b p)))
