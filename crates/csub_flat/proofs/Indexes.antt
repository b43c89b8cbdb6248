-- The slots of globals, one after another.
use Rattle.std.proofs.Common.{◌≡◌, ◌<◌, ◌≤◌, ◌∙◌, ℕ, zero, suc, ◌+◌, ◌&&◌, nat_eq, List, [], ◌∷◌, ◌++◌, map, take, drop, length, get_or, sum_by, Bool, true, false, cond, Option, Some, None, if◌then◌else◌, is_some, refl, ap, sym, subst, arith, add-one, bytes_eq}
use Rattle.std.specs.Option.{option_map, option_or}
use Rattle.std.specs.Ordering.{nat_cmp}
use Rattle.std.specs.Cmp.Lexicographic.{slice_cmp, texts_ties}
use Rattle.std.specs.BTreeMap.{BTreeMap, get, is_at}
use Rattle.std.proofs.lemmas.List.{take-append-drop}
use Rattle.std.proofs.lemmas.List.Sums.{sum_by-cons}
use Rattle.csub_semantics.specs.declared.types.GlobalVar.{GlobalVar}
use Rattle.csub_objects.specs.Types.{Name, cells}
use Rattle.csub_objects.specs.Meaning.{type_tree}
use Rattle.csub_semantics.specs.Types.{GlobalTree, global_tree}
use Rattle.csub_semantics.specs.Syntax.{LocalTree}
use Rattle.program_laws.proofs.LawsNames.{same_name}
use Rattle.csub_objects.specs.Paths.{Inside, inside_at, moved}
use Rattle.csub_flat.specs.Frames.{plain, objects_size, place_in, global_object}
use Rattle.csub_flat.specs.Globals.{AreSlotsOf}
use Rattle.csub_flat.proofs.Slots.{place_in-append, size-append}

-- a global as an object
abbrev pub as_global : GlobalVar → LocalTree
as_global g = global_object (global_tree g)

pub same_globals : (gs : List GlobalVar) → map global_object (map global_tree gs) ≡ map as_global gs
same_globals [] = refl
same_globals (g ∷ gs) = ap (λ os. as_global g ∷ os) (same_globals gs)

-- the slots of globals are their cells
pub size_globals : (gs : List GlobalTree) → objects_size (map global_object gs) ≡ sum_by (λ g. cells g.ctype) gs
size_globals [] = refl
size_globals (g ∷ gs) = let rest = size_globals gs in let sum = sum_by-cons (λ (h : GlobalTree). cells h.ctype) g gs in omega arith

-- one element more of a list
one_more : {X : Type 0} (xs : List X) (i : ℕ) (x : X) → i < length xs → x ≡ get_or xs i x → take (suc i) xs ≡ take i xs ++ x ∷ []
one_more [] i x h e = absurd (omega arith)
one_more (y ∷ ys) zero x h e = ap (λ z. z ∷ []) (sym e)
one_more (y ∷ ys) (suc i) x h e = ap (λ zs. y ∷ zs) (one_more ys i x (omega arith) e)

objects_append : (gs hs : List GlobalVar) → map global_object (map global_tree (gs ++ hs)) ≡ map global_object (map global_tree gs) ++ map global_object (map global_tree hs)
objects_append [] hs = refl
objects_append (g ∷ gs) hs = ap (λ os. global_object (global_tree g) ∷ os) (objects_append gs hs)

-- the slot of a name among globals
abbrev slot_in : List GlobalVar → Name → Option ℕ
slot_in gs a = option_map (λ (x : Inside). x.at) (place_in (map global_object (map global_tree gs)) a 0)

-- what one global more adds
slot_more : (gs : List GlobalVar) (i s : ℕ) (g : GlobalVar) (a : Name) → i < length gs → g ≡ get_or gs i g → objects_size (map global_object (map global_tree (take i gs))) ≡ s → slot_in (take (i + 1) gs) a ≡ option_or (slot_in (take i gs) a) (cond (bytes_eq g.name a) (Some s) None)
slot_more gs i s g a h e size =
    let before = map global_object (map global_tree (take i gs)) in
    ap (λ (n : ℕ). slot_in (take n gs) a) (add-one i)
    ∙ ap (λ (hs : List GlobalVar). slot_in hs a) (one_more gs i g h e)
    ∙ ap (λ (os : List LocalTree). option_map (λ (x : Inside). x.at) (place_in os a 0)) (objects_append (take i gs) (g ∷ []))
    ∙ ap (option_map (λ (x : Inside). x.at)) (place_in-append before (global_object (global_tree g) ∷ []) a 0)
    ∙ either (place_in before a 0) (bytes_eq g.name a) size
  where
    either : (o : Option Inside) (b : Bool) {k : ℕ} → k ≡ s
        → option_map (λ (x : Inside). x.at) (option_or o (moved k (if b && nat_eq 0 0 then Some (inside_at 0 (plain (type_tree g.ctype))) else None)))
        ≡ option_or (option_map (λ (x : Inside). x.at) o) (cond b (Some s) None)
    either (Some x) b k = refl
    either None true k = ap (λ (n : ℕ). Some n) (let z : _ = k in omega (arith, z))
    either None false k = refl

-- the map's order tells names apart as their equality does
at_name : (a b : Name) → is_at (slice_cmp nat_cmp a) b ≡ bytes_eq a b
at_name a b = sym (texts_ties a b)

is_none : {X : Type 0} (o : Option X) → is_some o ≡ false → o ≡ None
is_none None e = refl
is_none (Some x) e = cc

-- the slots so far, and those with one global more
module _ (gs : List GlobalVar) (i s : ℕ) (g : GlobalVar) (inside : i < length gs) (is : g ≡ get_or gs i g) (size : objects_size (map global_object (map global_tree (take i gs))) ≡ s) (m : BTreeMap Name ℕ) (so_far : AreSlotsOf (map global_object (map global_tree (take i gs))) m) where
  -- a name that is there keeps its slot
  pub name_again : is_some (get (slice_cmp nat_cmp) m g.name) ≡ true → AreSlotsOf (map global_object (map global_tree (take (i + 1) gs))) m
  name_again there a = pick (bytes_eq g.name a) refl (get (slice_cmp nat_cmp) m a) refl ∙ sym (slot_more gs i s g a inside is size)
    where
      pick : (b : Bool) → bytes_eq g.name a ≡ b → (o : Option ℕ) → get (slice_cmp nat_cmp) m a ≡ o → get (slice_cmp nat_cmp) m a ≡ option_or (slot_in (take i gs) a) (cond b (Some s) None)
      pick b e (Some j) f = f ∙ ap (λ (o : Option ℕ). option_or o (cond b (Some s) None)) (sym f ∙ so_far a)
      pick true e None f = let t : is_some (get (slice_cmp nat_cmp) m a) ≡ true = subst (λ n. is_some (get (slice_cmp nat_cmp) m n) ≡ true) (same_name g.name a e) there in let u = sym (ap is_some f) ∙ t in cc
      pick false e None f = f ∙ ap (λ (o : Option ℕ). option_or o None) (sym f ∙ so_far a)

  -- a new name gets the next slot
  pub name_added : (n : BTreeMap Name ℕ) → is_some (get (slice_cmp nat_cmp) m g.name) ≡ false → ((q : Name) → get (slice_cmp nat_cmp) n q ≡ cond (is_at (slice_cmp nat_cmp g.name) q) (Some s) (get (slice_cmp nat_cmp) m q)) → AreSlotsOf (map global_object (map global_tree (take (i + 1) gs))) n
  name_added n new updates a =
      updates a ∙ ap (λ b. cond b (Some s) (get (slice_cmp nat_cmp) m a)) (at_name g.name a)
      ∙ pick (bytes_eq g.name a) refl
      ∙ sym (slot_more gs i s g a inside is size)
    where
      pick : (b : Bool) → bytes_eq g.name a ≡ b → cond b (Some s) (get (slice_cmp nat_cmp) m a) ≡ option_or (slot_in (take i gs) a) (cond b (Some s) None)
      pick true e =
          let none : get (slice_cmp nat_cmp) m a ≡ None = ap (get (slice_cmp nat_cmp) m) (sym (same_name g.name a e)) ∙ is_none (get (slice_cmp nat_cmp) m g.name) new in
          ap (λ (o : Option ℕ). option_or o (Some s)) (sym none ∙ so_far a)
      pick false e = so_far a ∙ alone (slot_in (take i gs) a)
        where
          alone : (o : Option ℕ) → o ≡ option_or o None
          alone None = refl
          alone (Some j) = refl

-- the slots of the first globals
module _ (gs : List GlobalVar) where
  abbrev pub size_to : ℕ → ℕ
  size_to i = objects_size (map global_object (map global_tree (take i gs)))

  pub size_next : (i : ℕ) (g : GlobalVar) → i < length gs → g ≡ get_or gs i g → size_to (i + 1) ≡ size_to i + cells (type_tree g.ctype)
  size_next i g inside is =
      ap size_to (add-one i) ∙ ap (λ (hs : List GlobalVar). objects_size (map global_object (map global_tree hs))) (one_more gs i g inside is)
      ∙ ap objects_size (objects_append (take i gs) (g ∷ [])) ∙ size-append (map global_object (map global_tree (take i gs))) (as_global g ∷ [])
      ∙ (let none : cells (type_tree g.ctype) + 0 ≡ cells (type_tree g.ctype) = omega arith in ap (λ n. size_to i + n) none)

  pub size_within : (i : ℕ) → size_to i ≤ objects_size (map global_object (map global_tree gs))
  size_within i =
      let all = ap (λ (hs : List GlobalVar). objects_size (map global_object (map global_tree hs))) (sym (take-append-drop i gs))
      ∙ ap objects_size (objects_append (take i gs) (drop i gs)) ∙ size-append (map global_object (map global_tree (take i gs))) (map global_object (map global_tree (drop i gs)))
      in omega arith
