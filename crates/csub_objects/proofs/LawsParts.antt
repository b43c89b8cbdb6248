-- Where the parts of an object lie in it, for crates above.
use Rattle.std.proofs.Common.{◌≡◌, ◌∙◌, ℕ, zero, suc, ◌+◌, ◌*◌, ◌<◌, ◌≤◌, List, ◌++◌, take, drop, Bool, true, false, Option, Some, None, option_map, if◌then◌else◌, refl, sym, ap, subst, arith}
use Rattle.std.specs.List.{repeat}
use Rattle.std.specs.Str.{bytes_eq}
use Rattle.std.proofs.Math.Seq.{take-append_seam, drop-append-add}
use Rattle.csub_types.specs.declared.kind.IntKind.{IntKind}
use Rattle.csub_objects.specs.Types.{Name, TypeTree, number_type, array_type, struct_type, loose_type, MemberTrees, no_member, more_members}
use Rattle.csub_objects.specs.Types.{cells, member_cells, kinds, member_kinds, find_member, find_cell, member_type, IsSized}
use Rattle.csub_objects.specs.Types.{levels, member_levels, HasArrays, HaveArrays}
use Rattle.csub_objects.specs.Parts.{MembersLieAtFirstCells, ElementsLieInOrder, PartsAreSized}
use Rattle.csub_objects.proofs.LawsTypes.{length-kinds}

some_same : {X : Type 0} (x y : X) → Some x ≡ Some y → x ≡ y
some_same x y e = cc

-- a first part of a list, and what stands behind it
first_part : (t : TypeTree) (after : List IntKind) → take (cells t) (kinds t ++ after) ≡ kinds t
first_part t after = ap (λ n. take n (kinds t ++ after)) (sym (length-kinds t)) ∙ take-append_seam (kinds t) after

behind : (t : TypeTree) (n : ℕ) (after : List IntKind) → drop (cells t + n) (kinds t ++ after) ≡ drop n after
behind t n after = ap (λ m. drop (m + n) (kinds t ++ after)) (sym (length-kinds t)) ∙ drop-append-add (kinds t) after n

-- the same as LiesAt, of members
record LiesIn (u : TypeTree) (n : ℕ) (ms : MemberTrees) : Type 0 where
  pub within : n + cells u ≤ member_cells ms
  pub same : take (cells u) (drop n (member_kinds ms)) ≡ kinds u

lies_first : (x : Name) (t : TypeTree) (rest : MemberTrees) → LiesIn t 0 (more_members x t rest)
lies_first x t rest = record { within = omega arith; same = first_part t (member_kinds rest) }

lies_later : (x : Name) (t u : TypeTree) (n : ℕ) (rest : MemberTrees) → LiesIn u n rest → LiesIn u (cells t + n) (more_members x t rest)
lies_later x t u n rest h =
    record {
      within = let below = h.within in omega arith;
      same = ap (λ xs. take (cells u) xs) (behind t n (member_kinds rest)) ∙ h.same;
    }

later_found : (x : Name) (t : TypeTree) (rest : MemberTrees) (u : TypeTree) (n : ℕ) (o : Option ℕ) → ((m : ℕ) → o ≡ Some m → LiesIn u m rest)
    → option_map (λ m. cells t + m) o ≡ Some n → LiesIn u n (more_members x t rest)
later_found x t rest u n None found k = absurd (cc)
later_found x t rest u n (Some m) found k =
    subst (λ j. LiesIn u j (more_members x t rest)) (some_same (cells t + m) n k) (lies_later x t u m rest (found m refl))

by_name : (name x : Name) (t : TypeTree) (rest : MemberTrees) (u : TypeTree) (n : ℕ)
    → ((m : ℕ) → find_member name rest ≡ Some u → find_cell name rest ≡ Some m → LiesIn u m rest)
    → (b : Bool) → (if b then Some t else find_member name rest) ≡ Some u
    → (if b then Some 0 else option_map (λ m. cells t + m) (find_cell name rest)) ≡ Some n → LiesIn u n (more_members x t rest)
by_name name x t rest u n found true h k =
    subst (λ v. LiesIn v n (more_members x t rest)) (some_same t u h)
    (subst (λ m. LiesIn t m (more_members x t rest)) (some_same 0 n k) (lies_first x t rest))
by_name name x t rest u n found false h k = later_found x t rest u n (find_cell name rest) (λ m e. found m h e) k

find_lies : (name : Name) (ms : MemberTrees) (u : TypeTree) (n : ℕ) → find_member name ms ≡ Some u → find_cell name ms ≡ Some n → LiesIn u n ms
find_lies name no_member u n h k = absurd (cc)
find_lies name (more_members x t rest) u n h k = by_name name x t rest u n (λ m a b. find_lies name rest u m a b) (bytes_eq x name) h k

pub members_lie : MembersLieAtFirstCells
members_lie name (number_type k) u n h e = absurd (cc)
members_lie name (array_type t m) u n h e = absurd (cc)
members_lie name (struct_type tag ms) u n h e = let lies = find_lies name ms u n h e in record { within = lies.within; same = lies.same }
members_lie name (loose_type t) u n h e = absurd (cc)

-- elements, one after the other
elements_same : (t : TypeTree) (i n : ℕ) → i < n → take (cells t) (drop (i * cells t) (repeat n (kinds t))) ≡ kinds t
elements_same t i zero h = absurd (omega arith)
elements_same t zero (suc n) h =
    let none : 0 * cells t ≡ 0 = omega arith in
    ap (λ m. take (cells t) (drop m (repeat (suc n) (kinds t)))) none ∙ first_part t (repeat n (kinds t))
elements_same t (suc i) (suc n) h =
    let next : suc i * cells t ≡ cells t + i * cells t = omega arith in
    ap (λ m. take (cells t) (drop m (repeat (suc n) (kinds t)))) next
    ∙ ap (λ xs. take (cells t) xs) (behind t (i * cells t) (repeat n (kinds t))) ∙ elements_same t i n (omega arith)

elements_within : (c i n : ℕ) → i < n → i * c + c ≤ n * c
elements_within c i zero h = absurd (omega arith)
elements_within c zero (suc n) h =
    let none : 0 * c ≡ 0 = omega arith in let more : suc n * c ≡ c + n * c = omega arith in omega arith
elements_within c (suc i) (suc n) h =
    let less : suc i * c ≡ c + i * c = omega arith in
    let more : suc n * c ≡ c + n * c = omega arith in
    let rest = elements_within c i n (omega arith) in omega arith

pub elements_lie : ElementsLieInOrder
elements_lie t i n h = record { within = elements_within (cells t) i n h; same = elements_same t i n h }

-- limits of parts
record Limits (u : TypeTree) (ms : MemberTrees) : Type 0 where
  pub levels : levels u ≤ member_levels ms
  pub cells : cells u ≤ member_cells ms
  pub arrays : HaveArrays ms → HasArrays u

limits_by : (name x : Name) (t : TypeTree) (rest : MemberTrees) (u : TypeTree) → (find_member name rest ≡ Some u → Limits u rest)
    → (b : Bool) → (if b then Some t else find_member name rest) ≡ Some u → Limits u (more_members x t rest)
limits_by name x t rest u found true h =
    subst (λ v. Limits v (more_members x t rest)) (some_same t u h)
    (record { levels = omega arith; cells = omega arith; arrays = λ a. a.0 })
limits_by name x t rest u found false h =
    let limits = found h in
    record { levels = let l = limits.levels in omega arith; cells = let c = limits.cells in omega arith; arrays = λ a. limits.arrays a.1 }

find_limits : (name : Name) (ms : MemberTrees) (u : TypeTree) → find_member name ms ≡ Some u → Limits u ms
find_limits name no_member u h = absurd (cc)
find_limits name (more_members x t rest) u h = limits_by name x t rest u (λ e. find_limits name rest u e) (bytes_eq x name) h

element_sized : (t : TypeTree) (n : ℕ) → IsSized (array_type t n) → IsSized t
element_sized t n h =
    let some : 0 < n = h.arrays.0 in
    let fewer = elements_within (cells t) 0 n some in
    let all : n * cells t ≤ 65536 = h.cells in
    let none : 0 * cells t ≡ 0 = omega arith in
    record { arrays = h.arrays.3; cells = omega arith; levels = h.levels }

member_sized : (name : Name) (t u : TypeTree) → member_type name t ≡ Some u → IsSized t → IsSized u
member_sized name (number_type k) u e h = absurd (cc)
member_sized name (array_type t m) u e h = absurd (cc)
member_sized name (struct_type tag ms) u e h =
    let limits = find_limits name ms u e in
    let c = limits.cells in let l = limits.levels in
    let most : member_cells ms ≤ 65536 = h.cells in let high : member_levels ms + 1 ≤ 32 = h.levels in
    record { arrays = limits.arrays h.arrays; cells = omega arith; levels = omega arith }
member_sized name (loose_type t) u e h = absurd (cc)

pub parts_sized : PartsAreSized
parts_sized = (element_sized, member_sized)
