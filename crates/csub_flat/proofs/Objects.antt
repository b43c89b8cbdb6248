-- The objects of a valid function have places in its frame.
use Rattle.std.proofs.Common.{ℕ, zero, suc, ◌+◌, ◌≡◌, ◌≤◌, ◌⊎◌, inl, inr, List, [], ◌∷◌, ◌++◌, map, Bool, true, false, cond, ◌&&◌, nat_eq, nat_lt, All, AllPairs, Option, Some, None, find, if◌then◌else◌, refl, sym, ◌∙◌, ap, subst, arith, bytes_eq}
use Rattle.std.specs.List.{flat_map}
use Rattle.std.specs.Option.{option_map}
use Rattle.std.proofs.lemmas.Bool.{eqb-true, eq-eqb, and_parts}
use Rattle.std.proofs.lemmas.List.Elements.{All-head, All-tail, All-nil, All-cons}
use Rattle.csub_types.specs.declared.kind.IntKind.{IntKind}
use Rattle.csub_types.specs.declared.kind.IntKind.TheVariants.{Int}
use Rattle.csub_objects.specs.Types.{Name, TypeTree, number_type, MemberTree, cells}
use Rattle.csub_semantics.specs.Types.{GlobalTree}
use Rattle.csub_semantics.specs.Globals.{global_of}
use Rattle.csub_semantics.specs.Trees.{OwnerTree, global_owner, local_owner, object, temporary}
use Rattle.csub_semantics.specs.Syntax.{LocalTree, FunctionTree}
use Rattle.csub_validity.specs.Valid.{objects_of, parameter_object, type_in, global_type, IsObject, AreOther}
use Rattle.program_laws.proofs.LawsNames.{same_name, name_itself}
use Rattle.csub_objects.specs.Paths.{Inside, inside_at, moved}
use Rattle.csub_flat.specs.Frames.{plain, objects_size, place_in, global_object}
use Rattle.csub_flat.specs.Fits.{HasPlace}

-- x stands in the list
abbrev pub Has : {X : Type 0} → List X → X → Type 0
Has [] x = ⊥
Has (y ∷ ys) x = (y ≡ x) ⊎ Has ys x

module _ {X : Type 0} where
  pub has_right : (xs ys : List X) (x : X) → Has ys x → Has (xs ++ ys) x
  has_right [] ys x h = h
  has_right (z ∷ zs) ys x h = inr (has_right zs ys x h)

  pub has_left : (xs ys : List X) (x : X) → Has xs x → Has (xs ++ ys) x
  has_left [] ys x h = absurd h
  has_left (z ∷ zs) ys x (inl same) = inl same
  has_left (z ∷ zs) ys x (inr there) = inr (has_left zs ys x there)

  pub has_map : {Y : Type 0} (f : X → Y) (xs : List X) (x : X) → Has xs x → Has (map f xs) (f x)
  has_map f [] x h = absurd h
  has_map f (z ∷ zs) x (inl same) = inl (ap f same)
  has_map f (z ∷ zs) x (inr there) = inr (has_map f zs x there)

  pub has_flat_map : {Y : Type 0} (f : Y → List X) (ys : List Y) (y : Y) (x : X) → Has ys y → Has (f y) x → Has (flat_map f ys) x
  has_flat_map f [] y x h k = absurd h
  has_flat_map f (z ∷ zs) y x (inl same) k = has_left (f z) (flat_map f zs) x (subst (λ w. Has (f w) x) (sym same) k)
  has_flat_map f (z ∷ zs) y x (inr there) k = has_right (f z) (flat_map f zs) x (has_flat_map f zs y x there k)

  pub has_found : (test : X → Bool) (xs : List X) (x : X) → find test xs ≡ Some x → Has xs x × (test x ≡ true)
  has_found test [] x e = cc
  has_found test (y ∷ ys) x e = pick (test y) refl e (λ g. has_found test ys x g)
    where
      pick : (b : Bool) → test y ≡ b → cond b (Some y) (find test ys) ≡ Some x → (find test ys ≡ Some x → Has ys x × (test x ≡ true)) → Has (y ∷ ys) x × (test x ≡ true)
      pick true t e later = let same : y ≡ x = cc in (inl same, subst (λ z. test z ≡ true) same t)
      pick false t e later = let h = later e in (inr h.0, h.1)

  pub all_has : (Q : X → Type 0) (xs : List X) → ((x : X) → Has xs x → Q x) → All Q xs
  all_has Q [] h = All-nil Q
  all_has Q (x ∷ xs) h = All-cons Q x xs (h x (inl refl)) (all_has Q xs (λ y g. h y (inr g)))

  pub has_all : (Q : X → Type 0) (xs : List X) → All Q xs → (x : X) → Has xs x → Q x
  has_all Q [] h x g = absurd g
  has_all Q (y ∷ ys) h x (inl same) = subst Q same (All-head Q y ys h)
  has_all Q (y ∷ ys) h x (inr there) = has_all Q ys (All-tail Q y ys h) x there

module _ {X : Type 0} (R : X → X → Type 0) (x : X) (xs : List X) where
  pairs_head : AllPairs R (x ∷ xs) → All (R x) xs
  pairs_head h k d below = h 0 (suc k) d (omega arith) (omega (arith, below))

  pairs_tail : AllPairs R (x ∷ xs) → AllPairs R xs
  pairs_tail h i j d less below = h (suc i) (suc j) d (omega (arith, less)) (omega (arith, below))

-- an object has a place, where no two have one name and one number
pub member_place : (os : List LocalTree) (o : LocalTree) → AllPairs AreOther os → Has os o → (s : ℕ) × (place_in os o.name o.number ≡ Some (inside_at s (plain o.ctype)))
member_place [] o pairs h = absurd h
member_place (p ∷ rest) o pairs h =
    pick (pairs_head AreOther p rest pairs) (bytes_eq p.name o.name && nat_eq p.number o.number) refl h (λ g. member_place rest o (pairs_tail AreOther p rest pairs) g)
  where
    pick : All (AreOther p) rest → (b : Bool) → (bytes_eq p.name o.name && nat_eq p.number o.number) ≡ b → Has (p ∷ rest) o → (Has rest o → (s : ℕ) × (place_in rest o.name o.number ≡ Some (inside_at s (plain o.ctype))))
        → (s : ℕ) × ((if b then Some (inside_at 0 (plain p.ctype)) else moved (cells p.ctype) (place_in rest o.name o.number)) ≡ Some (inside_at s (plain o.ctype)))
    pick others true t (inl same) later = (0, ap (λ (q : LocalTree). let r : Option Inside = Some (inside_at 0 (plain q.ctype)) in r) same)
    pick others true t (inr there) later =
        let q = and_parts (bytes_eq p.name o.name) (nat_eq p.number o.number) t in
        absurd (has_all (AreOther p) rest others o there (same_name p.name o.name q.0) (eqb-true p.number o.number q.1))
    pick others false t (inl same) later =
        let e : (bytes_eq p.name o.name && nat_eq p.number o.number) ≡ true = subst (λ (q : LocalTree). (bytes_eq p.name q.name && nat_eq p.number q.number) ≡ true) same (let u = name_itself p.name in let v = eq-eqb p.number p.number refl in rw (u, v) refl) in
        cc
    pick others false t (inr there) later = let w = later there in (cells p.ctype + w.0, ap (moved (cells p.ctype)) w.1)

-- where a type is found, there is a place
pub type_place : (os : List LocalTree) (a : Name) (n : ℕ) (t : TypeTree) → type_in os a n ≡ Some t → (s : ℕ) × (place_in os a n ≡ Some (inside_at s (plain t)))
type_place [] a n t e = cc
type_place (o ∷ rest) a n t e = pick (bytes_eq o.name a && nat_eq o.number n) e (λ g. type_place rest a n t g)
  where
    pick : (b : Bool) → option_map (λ (u : LocalTree). u.ctype) (cond b (Some o) (find (λ (u : LocalTree). bytes_eq u.name a && nat_eq u.number n) rest)) ≡ Some t → (type_in rest a n ≡ Some t → (s : ℕ) × (place_in rest a n ≡ Some (inside_at s (plain t))))
        → (s : ℕ) × ((if b then Some (inside_at 0 (plain o.ctype)) else moved (cells o.ctype) (place_in rest a n)) ≡ Some (inside_at s (plain t)))
    pick true e later = let same : o.ctype ≡ t = cc in (0, ap (λ (u : TypeTree). let r : Option Inside = Some (inside_at 0 (plain u)) in r) same)
    pick false e later = let w = later e in (cells o.ctype + w.0, ap (moved (cells o.ctype)) w.1)

-- what type a name and a number were found with
pub type_found : (os : List LocalTree) (a : Name) (n : ℕ) (t : TypeTree) → type_in os a n ≡ Some t → (o : LocalTree) × Has os o × (o.name ≡ a) × (o.number ≡ n) × (o.ctype ≡ t)
type_found os a n t e = pick (find (λ (u : LocalTree). bytes_eq u.name a && nat_eq u.number n) os) refl e
  where
    pick : (r : Option LocalTree) → find (λ (u : LocalTree). bytes_eq u.name a && nat_eq u.number n) os ≡ r → option_map (λ (u : LocalTree). u.ctype) r ≡ Some t → (o : LocalTree) × Has os o × (o.name ≡ a) × (o.number ≡ n) × (o.ctype ≡ t)
    pick None f g = cc
    pick (Some o) f g =
        let h = has_found (λ (u : LocalTree). bytes_eq u.name a && nat_eq u.number n) os o f in
        let q = and_parts (bytes_eq o.name a) (nat_eq o.number n) h.1 in
        let same : o.ctype ≡ t = cc in
        (o, h.0, same_name o.name a q.0, eqb-true o.number n q.1, same)

-- and a place among the globals
global_has : (globals : List GlobalTree) (a : Name) (t : TypeTree) → global_type globals a ≡ Some t → (s : ℕ) × (place_in (map global_object globals) a 0 ≡ Some (inside_at s (plain t)))
global_has [] a t e = cc
global_has (g ∷ rest) a t e = pick (bytes_eq g.name a) e (λ h. global_has rest a t h)
  where
    pick : (b : Bool) → option_map (λ (u : GlobalTree). u.ctype) (cond b (Some g) (global_of rest a)) ≡ Some t → (global_type rest a ≡ Some t → (s : ℕ) × (place_in (map global_object rest) a 0 ≡ Some (inside_at s (plain t))))
        → (s : ℕ) × ((if b && nat_eq 0 0 then Some (inside_at 0 (plain g.ctype)) else moved (cells g.ctype) (place_in (map global_object rest) a 0)) ≡ Some (inside_at s (plain t)))
    pick true e later = let same : g.ctype ≡ t = cc in (0, ap (λ (u : TypeTree). let r : Option Inside = Some (inside_at 0 (plain u)) in r) same)
    pick false e later = let w = later e in (cells g.ctype + w.0, ap (moved (cells g.ctype)) w.1)

module _ (globals : List GlobalTree) (f : FunctionTree) where
  abbrev gs : List LocalTree
  gs = map global_object globals

  pub object_place : (owner : OwnerTree) (t : TypeTree) → IsObject globals (objects_of f) owner t → HasPlace gs f (object owner t)
  object_place (global_owner a) t h = global_has globals a t h
  object_place (local_owner a n) t h = type_place (objects_of f) a n t h

  pub local_place : (owner : OwnerTree) (t : TypeTree) → AllPairs AreOther (objects_of f) → IsObject [] f.locals owner t → HasPlace gs f (object owner t)
  local_place (global_owner a) t pairs h = cc
  local_place (local_owner a n) t pairs h =
      let w = type_found f.locals a n t h in
      let o = w.0 in
      let m = member_place (objects_of f) o pairs (has_right (map parameter_object f.params) f.locals o w.1) in (
        m.0,
        ap (λ (b : Name). place_in (objects_of f) b n) (sym w.2) ∙ ap (place_in (objects_of f) o.name) (sym w.3) ∙ m.1 ∙ ap (λ (u : TypeTree). let r : Option Inside = Some (inside_at m.0 (plain u)) in r) w.4,
      )

  pub parameter_place : (p : MemberTree) → AllPairs AreOther (objects_of f) → Has f.params p → HasPlace gs f (object (local_owner p.name 1) p.ctype)
  parameter_place p pairs h = member_place (objects_of f) (parameter_object p) pairs (has_left (map parameter_object f.params) f.locals (parameter_object p) (has_map parameter_object f.params p h))

  pub temporary_has : (n : ℕ) (k : IntKind) → 1 ≤ n → n ≤ f.temps → HasPlace gs f (temporary n k)
  temporary_has zero k low high = absurd (omega arith)
  temporary_has (suc n) k low high =
      let lt : nat_lt n f.temps ≡ true = grind arith in
      (objects_size (objects_of f) + n, ap (λ b. if b then Some (inside_at (objects_size (objects_of f) + n) (number_type Int)) else None) lt)
