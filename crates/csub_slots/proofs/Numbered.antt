-- The cells of an object are numbered: its parts lie within it, and two leaves of it are apart.
use Rattle.std.proofs.Common.{ℕ, suc, ◌+◌, ◌*◌, ◌/◌, ◌≡◌, ◌<◌, ◌≤◌, List, [], ◌∷◌, ◌++◌, Bool, true, false}
use Rattle.std.proofs.Common.{Option, Some, None, nat_lt, bytes_eq, if◌then◌else◌, refl, sym, ◌∙◌, ap, subst, arith, add_assoc, zero-add}
use Rattle.std.proofs.lemmas.Bool.{ltb-true}
use Rattle.std.proofs.lemmas.Nat.{div-mul-add}
use Rattle.std.proofs.Math.Nat.{mul-le-mul_right, suc-mul}
use Rattle.csub_objects.specs.Types.{Name, TypeTree, number_type, array_type, struct_type, loose_type, MemberTrees, no_member, more_members}
use Rattle.csub_objects.specs.Types.{cells, member_cells, HasArrays, HaveArrays}
use Rattle.csub_objects.specs.Paths.{Inner, element_at, member_of, Inside, inside_at, moved, inside, inside_member}
use Rattle.program_laws.proofs.LawsNames.{same_name}
use Rattle.csub_slots.specs.Layout.{into}

-- a type with one cell, which has no parts: a number, or an array parameter
abbrev pub IsLeaf : TypeTree → Type 0
IsLeaf (number_type k) = Unit {0}
IsLeaf (array_type t n) = ⊥
IsLeaf (struct_type tag ms) = ⊥
IsLeaf (loose_type t) = Unit {0}

-- what is moved is found before
pub unmoved : (k : ℕ) (o : Option Inside) (x : Inside) → moved k o ≡ Some x
    → (y : Inside) × (o ≡ Some y) × (x.at ≡ k + y.at) × (x.ctype ≡ y.ctype)
unmoved k None x e = cc
unmoved k (Some y) x e =
    let is : inside_at (k + y.at) y.ctype ≡ x = cc in
    (y, refl, ap (λ (z : Inside). z.at) (sym is), ap (λ (z : Inside). z.ctype) (sym is))

chosen : (b : Bool) (o : Option Inside) (x : Inside) → (if b then o else None) ≡ Some x → (b ≡ true) × (o ≡ Some x)
chosen true o x e = (refl, e)
chosen false o x e = cc

-- a place in an element is within the array, and tells which element it is
row_within : (i n c a w : ℕ) → i < n → a + w ≤ c → i * c + a + w ≤ n * c
row_within i n c a w h g =
    let one : suc i ≤ n = omega arith in
    let many : suc i * c ≤ n * c = mul-le-mul_right c one in
    let more : suc i * c ≡ i * c + c = suc-mul i c in omega arith

row_same : (i j c a b : ℕ) → a < c → b < c → i * c + a ≡ j * c + b → i ≡ j
row_same i j c a b h g e = sym (div-mul-add i c a h) ∙ ap (λ n. n / c) e ∙ div-mul-add j c b g

-- the part that is the whole object
whole : (t : TypeTree) (x : Inside) → Some (inside_at 0 t) ≡ Some x → x.at + cells x.ctype ≤ cells t
whole t x e =
    let is : inside_at 0 t ≡ x = cc in
    let first : 0 + cells t ≤ cells t = omega arith in subst (λ (y : Inside). y.at + cells y.ctype ≤ cells t) is first

as_wide : (k n : ℕ) (x y : Inside) → x.at ≡ k + y.at → x.ctype ≡ y.ctype → k + y.at + cells y.ctype ≤ n → x.at + cells x.ctype ≤ n
as_wide k n x y e f h = let g = ap cells f in omega arith

-- a member is this one or one of the rest
member_step : (c : Bool) (t : TypeTree) (rest : MemberTrees) (o r : Option Inside) (x : Inside)
    → ((y : Inside) → o ≡ Some y → y.at + cells y.ctype ≤ cells t) → ((y : Inside) → r ≡ Some y → y.at + cells y.ctype ≤ member_cells rest)
    → (if c then o else moved (cells t) r) ≡ Some x → x.at + cells x.ctype ≤ cells t + member_cells rest
member_step true t rest o r x h g e = let i = h x e in omega arith
member_step false t rest o r x h g e =
    let u = unmoved (cells t) r x e in let i = g u.0 u.1 in
    as_wide (cells t) (cells t + member_cells rest) x u.0 u.2 u.3 (omega arith)

mutual
  -- a part lies within its object
  pub within : (t : TypeTree) (p : List Inner) (x : Inside) → inside t p ≡ Some x → x.at + cells x.ctype ≤ cells t
  within t [] x e = whole t x e
  within (number_type k) (i ∷ p) x e = cc
  within (loose_type t) (i ∷ p) x e = cc
  within (array_type t n) (element_at i ∷ p) x e =
      let c = chosen (nat_lt i n) (moved (i * cells t) (inside t p)) x e in
      let u = unmoved (i * cells t) (inside t p) x c.1 in
      let row = row_within i n (cells t) u.0.at (cells u.0.ctype) (ltb-true i n c.0) (within t p u.0 u.1) in
      as_wide (i * cells t) (n * cells t) x u.0 u.2 u.3 row
  within (array_type t n) (member_of b ∷ p) x e = cc
  within (struct_type tag ms) (element_at i ∷ p) x e = cc
  within (struct_type tag ms) (member_of b ∷ p) x e = within_member ms b p x e

  within_member : (ms : MemberTrees) (b : Name) (p : List Inner) (x : Inside) → inside_member ms b p ≡ Some x → x.at + cells x.ctype ≤ member_cells ms
  within_member no_member b p x e = cc
  within_member (more_members a t rest) b p x e =
      member_step (bytes_eq a b) t rest (inside t p) (inside_member rest b p) x (within t p) (within_member rest b p) e

leaf_one : (t : TypeTree) → IsLeaf t → cells t ≡ 1
leaf_one (number_type k) h = refl
leaf_one (loose_type t) h = refl
leaf_one (array_type t n) h = absurd h
leaf_one (struct_type tag ms) h = absurd h

-- a leaf of an object is one of its cells
pub below : (t : TypeTree) (p : List Inner) (x : Inside) → inside t p ≡ Some x → IsLeaf x.ctype → x.at < cells t
below t p x e h = let g = within t p x e in let i = leaf_one x.ctype h in omega arith

leaf_along : (a b : TypeTree) → a ≡ b → IsLeaf a → IsLeaf b
leaf_along a b e h = subst IsLeaf e h

whole_leaf : (t : TypeTree) (x : Inside) → Some (inside_at 0 t) ≡ Some x → IsLeaf x.ctype → IsLeaf t
whole_leaf t x e h = let is : inside_at 0 t ≡ x = cc in subst (λ (y : Inside). IsLeaf y.ctype → IsLeaf t) is (λ l. l) h

-- two members: both this one, both of the rest, or one of each, which can't be at one place
apart_step : (s r : Bool) (a b c : Name) (p q : List Inner) (t : TypeTree) (rest : MemberTrees) (x y : Inside)
    → (s ≡ true → a ≡ b) → (r ≡ true → a ≡ c)
    → ((u v : Inside) → inside t p ≡ Some u → inside t q ≡ Some v → IsLeaf u.ctype → IsLeaf v.ctype → u.at ≡ v.at → p ≡ q)
    → ((u v : Inside) → inside_member rest b p ≡ Some u → inside_member rest c q ≡ Some v
    → IsLeaf u.ctype → IsLeaf v.ctype → u.at ≡ v.at → (b ≡ c) × (p ≡ q))
    → ((u : Inside) → inside t p ≡ Some u → IsLeaf u.ctype → u.at < cells t)
    → ((u : Inside) → inside t q ≡ Some u → IsLeaf u.ctype → u.at < cells t)
    → (if s then inside t p else moved (cells t) (inside_member rest b p)) ≡ Some x
    → (if r then inside t q else moved (cells t) (inside_member rest c q)) ≡ Some y → IsLeaf x.ctype → IsLeaf y.ctype → x.at ≡ y.at
    → (b ≡ c) × (p ≡ q)
apart_step true true a b c p q t rest x y sb sc here there bp bq e f h g i = (sym (sb refl) ∙ sc refl, here x y e f h g i)
apart_step false false a b c p q t rest x y sb sc here there bp bq e f h g i =
    let u = unmoved (cells t) (inside_member rest b p) x e in
    let v = unmoved (cells t) (inside_member rest c q) y f in
    there u.0 v.0 u.1 v.1 (leaf_along x.ctype u.0.ctype u.3 h) (leaf_along y.ctype v.0.ctype v.3 g) (omega arith)
apart_step true false a b c p q t rest x y sb sc here there bp bq e f h g i =
    let v = unmoved (cells t) (inside_member rest c q) y f in let k = bp x e h in absurd (omega arith)
apart_step false true a b c p q t rest x y sb sc here there bp bq e f h g i =
    let u = unmoved (cells t) (inside_member rest b p) x e in let k = bq y f g in absurd (omega arith)

mutual
  -- two leaves of an object are one where their cell is one
  pub apart : (t : TypeTree) (p q : List Inner) (x y : Inside)
      → inside t p ≡ Some x → inside t q ≡ Some y → IsLeaf x.ctype → IsLeaf y.ctype → x.at ≡ y.at → p ≡ q
  apart (number_type k) [] [] x y e f h g i = refl
  apart (number_type k) [] (j ∷ q) x y e f h g i = cc
  apart (number_type k) (j ∷ p) q x y e f h g i = cc
  apart (loose_type t) [] [] x y e f h g i = refl
  apart (loose_type t) [] (j ∷ q) x y e f h g i = cc
  apart (loose_type t) (j ∷ p) q x y e f h g i = cc
  apart (array_type t n) [] q x y e f h g i = absurd (whole_leaf (array_type t n) x e h)
  apart (array_type t n) (member_of b ∷ p) q x y e f h g i = cc
  apart (array_type t n) (element_at j ∷ p) [] x y e f h g i = absurd (whole_leaf (array_type t n) y f g)
  apart (array_type t n) (element_at j ∷ p) (member_of b ∷ q) x y e f h g i = cc
  apart (array_type t n) (element_at j ∷ p) (element_at k ∷ q) x y e f h g i =
      let c = chosen (nat_lt j n) (moved (j * cells t) (inside t p)) x e in
      let u = unmoved (j * cells t) (inside t p) x c.1 in
      let d = chosen (nat_lt k n) (moved (k * cells t) (inside t q)) y f in
      let v = unmoved (k * cells t) (inside t q) y d.1 in
      let lu = leaf_along x.ctype u.0.ctype u.3 h in
      let lv = leaf_along y.ctype v.0.ctype v.3 g in
      let both : j * cells t + u.0.at ≡ k * cells t + v.0.at = sym u.2 ∙ i ∙ v.2 in
      let same = row_same j k (cells t) u.0.at v.0.at (below t p u.0 u.1 lu) (below t q v.0 v.1 lv) both in
      let left : u.0.at ≡ v.0.at = let m = ap (λ z. z * cells t) same in omega arith in
      let rest = apart t p q u.0 v.0 u.1 v.1 lu lv left in
      ap (λ z. element_at z ∷ p) same ∙ ap (λ (z : List Inner). element_at k ∷ z) rest
  apart (struct_type tag ms) [] q x y e f h g i = absurd (whole_leaf (struct_type tag ms) x e h)
  apart (struct_type tag ms) (element_at j ∷ p) q x y e f h g i = cc
  apart (struct_type tag ms) (member_of b ∷ p) [] x y e f h g i = absurd (whole_leaf (struct_type tag ms) y f g)
  apart (struct_type tag ms) (member_of b ∷ p) (element_at k ∷ q) x y e f h g i = cc
  apart (struct_type tag ms) (member_of b ∷ p) (member_of c ∷ q) x y e f h g i =
      let r = apart_member ms b c p q x y e f h g i in
      ap (λ z. member_of z ∷ p) r.0 ∙ ap (λ (z : List Inner). member_of c ∷ z) r.1

  apart_member : (ms : MemberTrees) (b c : Name) (p q : List Inner) (x y : Inside)
      → inside_member ms b p ≡ Some x → inside_member ms c q ≡ Some y → IsLeaf x.ctype → IsLeaf y.ctype → x.at ≡ y.at → (b ≡ c) × (p ≡ q)
  apart_member no_member b c p q x y e f h g i = cc
  apart_member (more_members a t rest) b c p q x y e f h g i =
      apart_step (bytes_eq a b) (bytes_eq a c) a b c p q t rest x y (same_name a b) (same_name a c) (λ u v k l m n. apart t p q u v k l m n)
      (λ u v k l m n. apart_member rest b c p q u v k l m n) (below t p) (below t q) e f h g i

moved-moved : (a b : ℕ) (o : Option Inside) → moved a (moved b o) ≡ moved (a + b) o
moved-moved a b None = refl
moved-moved a b (Some x) = ap (λ n. let r : Option Inside = Some (inside_at n x.ctype) in r) (sym (add_assoc a b x.at))

pub moved_zero : (o : Option Inside) → moved 0 o ≡ o
moved_zero None = refl
moved_zero (Some x) = ap (λ n. let r : Option Inside = Some (inside_at n x.ctype) in r) (zero-add x.at)

-- a part of what is moved
pub into-moved : (k : ℕ) (o : Option Inside) (q : List Inner) → into (moved k o) q ≡ moved k (into o q)
into-moved k None q = refl
into-moved k (Some x) q = sym (moved-moved k x.at (inside x.ctype q))

into_if : (b : Bool) (o r : Option Inside) (q : List Inner) → into (if b then o else r) q ≡ (if b then into o q else into r q)
into_if true o r q = refl
into_if false o r q = refl

mutual
  -- a part of a part
  pub inside-append : (t : TypeTree) (p q : List Inner) → inside t (p ++ q) ≡ into (inside t p) q
  inside-append t [] q = sym (moved_zero (inside t q))
  inside-append (number_type k) (i ∷ p) q = refl
  inside-append (loose_type t) (i ∷ p) q = refl
  inside-append (array_type t n) (element_at i ∷ p) q =
      ap (λ o. if nat_lt i n then moved (i * cells t) o else None) (inside-append t p q)
      ∙ ap (λ o. if nat_lt i n then o else None) (sym (into-moved (i * cells t) (inside t p) q))
      ∙ sym (into_if (nat_lt i n) (moved (i * cells t) (inside t p)) None q)
  inside-append (array_type t n) (member_of b ∷ p) q = refl
  inside-append (struct_type tag ms) (element_at i ∷ p) q = refl
  inside-append (struct_type tag ms) (member_of b ∷ p) q = member-append ms b p q

  member-append : (ms : MemberTrees) (b : Name) (p q : List Inner) → inside_member ms b (p ++ q) ≡ into (inside_member ms b p) q
  member-append no_member b p q = refl
  member-append (more_members a t rest) b p q =
      ap (λ o. if bytes_eq a b then o else moved (cells t) (inside_member rest b (p ++ q))) (inside-append t p q)
      ∙ ap (λ o. if bytes_eq a b then into (inside t p) q else moved (cells t) o) (member-append rest b p q)
      ∙ ap (λ o. if bytes_eq a b then into (inside t p) q else o) (sym (into-moved (cells t) (inside_member rest b p) q))
      ∙ sym (into_if (bytes_eq a b) (inside t p) (moved (cells t) (inside_member rest b p)) q)

arrays_chosen : (b : Bool) (k : ℕ) (o r : Option Inside) (x : Inside)
    → ((y : Inside) → o ≡ Some y → HasArrays y.ctype) → ((y : Inside) → r ≡ Some y → HasArrays y.ctype)
    → (if b then o else moved k r) ≡ Some x → HasArrays x.ctype
arrays_chosen true k o r x f g e = f x e
arrays_chosen false k o r x f g e = let u = unmoved k r x e in subst HasArrays (sym u.3) (g u.0 u.1)

mutual
  -- a type with right arrays has parts with such alone, so none is an array parameter
  pub arrays_inside : (t : TypeTree) (p : List Inner) (x : Inside) → HasArrays t → inside t p ≡ Some x → HasArrays x.ctype
  arrays_inside t [] x h e = let is : inside_at 0 t ≡ x = cc in subst (λ (y : Inside). HasArrays y.ctype) is h
  arrays_inside (number_type k) (i ∷ p) x h e = cc
  arrays_inside (loose_type t) (i ∷ p) x h e = cc
  arrays_inside (array_type t n) (element_at i ∷ p) x h e =
      let c = chosen (nat_lt i n) (moved (i * cells t) (inside t p)) x e in
      let u = unmoved (i * cells t) (inside t p) x c.1 in subst HasArrays (sym u.3) (arrays_inside t p u.0 h.3 u.1)
  arrays_inside (array_type t n) (member_of b ∷ p) x h e = cc
  arrays_inside (struct_type tag ms) (element_at i ∷ p) x h e = cc
  arrays_inside (struct_type tag ms) (member_of b ∷ p) x h e = arrays_member ms b p x h e

  arrays_member : (ms : MemberTrees) (b : Name) (p : List Inner) (x : Inside) → HaveArrays ms → inside_member ms b p ≡ Some x → HasArrays x.ctype
  arrays_member no_member b p x h e = cc
  arrays_member (more_members a t rest) b p x h e =
      arrays_chosen (bytes_eq a b) (cells t) (inside t p) (inside_member rest b p) x (λ y g. arrays_inside t p y h.0 g)
      (λ y g. arrays_member rest b p y h.1 g) e
