-- Places of objects, by parameters and locals.
use Rattle.std.proofs.Common.{◌≡◌, ◌≤◌, ◌∙◌, ℕ, zero, suc, ◌+◌, ◌-◌, ◌*◌, ◌&&◌, nat_lt, List, [], ◌∷◌, ◌++◌, map, sum_by, Bool, true, false, Option, Some, None, nat_eq, if◌then◌else◌, refl, ap, sym, subst, arith, bytes_eq}
use Rattle.std.specs.Option.{option_or}
use Rattle.std.proofs.lemmas.List.Sums.{sum_by-cons}
use Rattle.csub_objects.specs.declared.types.Member.{Member}
use Rattle.csub_semantics.specs.declared.function.Function.{Function}
use Rattle.csub_types.specs.declared.kind.IntKind.TheVariants.{Int}
use Rattle.csub_objects.specs.Types.{Name, TypeTree, number_type, array_type, struct_type, loose_type}
use Rattle.csub_objects.specs.Types.{MemberTrees, no_member, more_members, cells, member_cells}
use Rattle.csub_objects.specs.Meaning.{member_tree}
use Rattle.csub_flat.specs.Flatten.{temp_slot, slot_or}
use Rattle.csub_semantics.specs.Syntax.{LocalTree, FunctionTree, local_tree, function_tree}
use Rattle.csub_validity.specs.Valid.{parameter_object, objects_of, frame_cells}
use Rattle.csub_objects.specs.Paths.{Inside, inside_at, moved}
use Rattle.csub_flat.specs.Frames.{plain, plain_members, objects_size, place_in, as_object, frame_size}

pub same_objects : (ps : List Member) → map parameter_object (map member_tree ps) ≡ map as_object ps
same_objects [] = refl
same_objects (p ∷ ps) = ap (λ os. as_object p ∷ os) (same_objects ps)

pub size-append : (os us : List LocalTree) → objects_size (os ++ us) ≡ objects_size os + objects_size us
size-append [] us = omega arith
size-append (o ∷ os) us = let a = size-append os us in omega arith

pub moved-moved : (i j : ℕ) (o : Option Inside) → moved i (moved j o) ≡ moved (i + j) o
moved-moved i j None = refl
moved-moved i j (Some x) = ap (λ n. let r : Option Inside = Some (inside_at n x.ctype) in r) (omega arith)

pub moved_none : (o : Option Inside) → o ≡ moved 0 o
moved_none None = refl
moved_none (Some x) = ap (λ n. let r : Option Inside = Some (inside_at n x.ctype) in r) (omega arith)

pub place_in-append : (os us : List LocalTree) (a : Name) (n : ℕ) → place_in (os ++ us) a n ≡ option_or (place_in os a n) (moved (objects_size os) (place_in us a n))
place_in-append [] us a n = moved_none (place_in us a n)
place_in-append (o ∷ os) us a n = pick (bytes_eq o.name a && nat_eq o.number n) (place_in-append os us a n)
  where
    either : (p : Option Inside) → moved (cells o.ctype) (option_or p (moved (objects_size os) (place_in us a n))) ≡ option_or (moved (cells o.ctype) p) (moved (objects_size (o ∷ os)) (place_in us a n))
    either None = moved-moved (cells o.ctype) (objects_size os) (place_in us a n)
    either (Some x) = refl

    pick : (b : Bool) → place_in (os ++ us) a n ≡ option_or (place_in os a n) (moved (objects_size os) (place_in us a n))
        → (if b then Some (inside_at 0 (plain o.ctype)) else moved (cells o.ctype) (place_in (os ++ us) a n))
        ≡ option_or (if b then Some (inside_at 0 (plain o.ctype)) else moved (cells o.ctype) (place_in os a n)) (moved (objects_size (o ∷ os)) (place_in us a n))
    pick true later = refl
    pick false later = ap (moved (cells o.ctype)) later ∙ either (place_in os a n)

-- the slots of a function's objects
pub size_objects : (f : Function) → objects_size (objects_of (function_tree f)) ≡ objects_size (map as_object f.params.items) + objects_size (map local_tree f.locals.items)
size_objects f =
    size-append (map parameter_object (map member_tree f.params.items)) (map local_tree f.locals.items)
    ∙ ap (λ n. n + objects_size (map local_tree f.locals.items)) (ap objects_size (same_objects f.params.items))

-- they are its cells
size_sum : (os : List LocalTree) → objects_size os ≡ sum_by (λ o. cells o.ctype) os
size_sum [] = refl
size_sum (o ∷ os) = let rest = size_sum os in let sum = sum_by-cons (λ (u : LocalTree). cells u.ctype) o os in omega arith

pub size_cells : (f : FunctionTree) → frame_size f ≡ frame_cells f
size_cells f = ap (λ n. n + f.temps) (size_sum (objects_of f))

-- the slot of a temporary
pub slot_of_temporary : (f : FunctionTree) (n first : ℕ) → 1 ≤ n → n ≤ f.temps → first ≡ objects_size (objects_of f) → first + (n - 1) ≡ temp_slot f n
slot_of_temporary f zero first low high is = absurd (omega arith)
slot_of_temporary f (suc n) first low high is =
    let t : nat_lt n f.temps ≡ true = grind arith in
    let sum : first + (suc n - 1) ≡ objects_size (objects_of f) + n = omega arith in
    sum ∙ sym (ap (λ b. slot_or (if b then Some (inside_at (objects_size (objects_of f) + n) (number_type Int)) else None)) t)

-- ---- room for objects

mutual
  plain_cells : (t : TypeTree) → cells (plain t) ≡ cells t
  plain_cells (number_type k) = refl
  plain_cells (array_type t n) = ap (λ c. n * c) (plain_cells t)
  plain_cells (struct_type tag ms) = plain_members_cells ms
  plain_cells (loose_type t) = refl

  plain_members_cells : (ms : MemberTrees) → member_cells (plain_members ms) ≡ member_cells ms
  plain_members_cells no_member = refl
  plain_members_cells (more_members x t rest) = let a = plain_cells t in let b = plain_members_cells rest in omega arith

place_room : (os : List LocalTree) (a : Name) (n : ℕ) (x : Inside) → place_in os a n ≡ Some x → x.at + cells x.ctype ≤ objects_size os
place_room [] a n x e = cc
place_room (o ∷ rest) a n x e = pick (bytes_eq o.name a && nat_eq o.number n) e (λ y f. place_room rest a n y f)
  where
    later : (p : Option Inside) → ((y : Inside) → p ≡ Some y → y.at + cells y.ctype ≤ objects_size rest) → moved (cells o.ctype) p ≡ Some x → x.at + cells x.ctype ≤ cells o.ctype + objects_size rest
    later None found g = cc
    later (Some y) found g =
        let is : inside_at (cells o.ctype + y.at) y.ctype ≡ x = cc in let below = found y refl in
        subst (λ (z : Inside). z.at + cells z.ctype ≤ cells o.ctype + objects_size rest) is (omega arith)

    pick : (b : Bool) → (if b then Some (inside_at 0 (plain o.ctype)) else moved (cells o.ctype) (place_in rest a n)) ≡ Some x
        → ((y : Inside) → place_in rest a n ≡ Some y → y.at + cells y.ctype ≤ objects_size rest) → x.at + cells x.ctype ≤ cells o.ctype + objects_size rest
    pick true g found =
        let is : inside_at 0 (plain o.ctype) ≡ x = cc in let same = plain_cells o.ctype in
        subst (λ (z : Inside). z.at + cells z.ctype ≤ cells o.ctype + objects_size rest) is (omega arith)
    pick false g found = later (place_in rest a n) found g

-- an object of a function lies in its frame
pub object_room : (f : FunctionTree) (a : Name) (n s : ℕ) (t : TypeTree) → place_in (objects_of f) a n ≡ Some (inside_at s (plain t)) → slot_or (place_in (objects_of f) a n) + cells t ≤ frame_size f
object_room f a n s t e =
    let at = ap slot_or e in let room = place_room (objects_of f) a n (inside_at s (plain t)) e in let same = plain_cells t in omega arith
