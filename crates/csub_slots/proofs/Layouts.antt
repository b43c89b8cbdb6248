-- Objects have slots of their own, in a frame and among globals and live frames.
use Rattle.std.proofs.Common.{ℕ, zero, suc, ◌+◌, ◌≡◌, ◌<◌, ◌≤◌, ◌⊎◌, inl, inr, List, [], ◌∷◌, length, Bool, true, false, ◌&&◌, nat_eq, nat_lt, Some, None, if◌then◌else◌, refl, sym, ◌∙◌, ap, arith, bytes_eq}
use Rattle.std.proofs.lemmas.Bool.{eqb-true, and_parts, ltb-true}
use Rattle.csub_types.specs.declared.kind.IntKind.TheVariants.{Int}
use Rattle.csub_objects.specs.Types.{Name, number_type, cells}
use Rattle.csub_semantics.specs.Syntax.{LocalTree, FunctionTree}
use Rattle.csub_validity.specs.Valid.{objects_of}
use Rattle.csub_semantics.specs.Cells.{Root, global_root, local_root, temp_root, of_frame}
use Rattle.program_laws.proofs.LawsNames.{same_name}
use Rattle.csub_flat.proofs.LawsOrder.{in_order}
use Rattle.csub_objects.specs.Paths.{Inside, inside_at, moved}
use Rattle.csub_flat.specs.Frames.{plain, objects_size, place_in, temporary_place, frame_place, frame_size, global_place}
use Rattle.csub_slots.specs.Layout.{Layout, rank, live_size, live}
use Rattle.csub_slots.proofs.Numbered.{unmoved}
use Rattle.csub_slots.proofs.Plain.{plain_cells}

-- two places have no slot in common
abbrev pub Apart : Inside → Inside → Type 0
Apart x y = (x.at + cells x.ctype ≤ y.at) ⊎ (y.at + cells y.ctype ≤ x.at)

-- objects are below the count of slots, and no two overlap
pub record IsLayout (layout : Layout) (count : ℕ) : Type 0 where
  pub within : (r : Root) (x : Inside) → layout r ≡ Some x → x.at + cells x.ctype ≤ count
  pub apart : (r q : Root) (x y : Inside) → layout r ≡ Some x → layout q ≡ Some y → (r ≡ q) ⊎ Apart x y

-- an object is within the slots of all
pub place_within : (os : List LocalTree) (a : Name) (n : ℕ) (x : Inside) → place_in os a n ≡ Some x → x.at + cells x.ctype ≤ objects_size os
place_within [] a n x e = cc
place_within (o ∷ rest) a n x e = pick (bytes_eq o.name a && nat_eq o.number n) e (λ y g. place_within rest a n y g)
  where
    pick : (b : Bool) → (if b then Some (inside_at 0 (plain o.ctype)) else moved (cells o.ctype) (place_in rest a n)) ≡ Some x → ((y : Inside) → place_in rest a n ≡ Some y → y.at + cells y.ctype ≤ objects_size rest) → x.at + cells x.ctype ≤ objects_size (o ∷ rest)
    pick true g again =
        let is : inside_at 0 (plain o.ctype) ≡ x = cc in
        let c = ap (λ (z : Inside). cells z.ctype) is in let d = plain_cells o.ctype in let m = ap (λ (z : Inside). z.at) is in omega arith
    pick false g again =
        let u = unmoved (cells o.ctype) (place_in rest a n) x g in
        let w = again u.0 u.1 in
        let c = ap cells u.3 in let m = u.2 in omega arith

-- two names have places that are apart
pub places_apart : (os : List LocalTree) (a b : Name) (n m : ℕ) (x y : Inside) → place_in os a n ≡ Some x → place_in os b m ≡ Some y → ((a ≡ b) × (n ≡ m)) ⊎ Apart x y
places_apart [] a b n m x y e f = cc
places_apart (o ∷ rest) a b n m x y e f = pick (bytes_eq o.name a && nat_eq o.number n) refl (bytes_eq o.name b && nat_eq o.number m) refl e f (λ v z g h. places_apart rest a b n m v z g h)
  where
    at_head : (t : Inside) → Some (inside_at 0 (plain o.ctype)) ≡ Some t → (t.at ≡ 0) × (cells t.ctype ≡ cells o.ctype)
    at_head t g = let is : inside_at 0 (plain o.ctype) ≡ t = cc in (ap (λ (z : Inside). z.at) (sym is), ap (λ (z : Inside). cells z.ctype) (sym is) ∙ plain_cells o.ctype)

    same : (c : Name) (k : ℕ) → (bytes_eq o.name c && nat_eq o.number k) ≡ true → (o.name ≡ c) × (o.number ≡ k)
    same c k g = let p = and_parts (bytes_eq o.name c) (nat_eq o.number k) g in (same_name o.name c p.0, eqb-true o.number k p.1)

    pick : (c : Bool) → (bytes_eq o.name a && nat_eq o.number n) ≡ c → (d : Bool) → (bytes_eq o.name b && nat_eq o.number m) ≡ d
        → (if c then Some (inside_at 0 (plain o.ctype)) else moved (cells o.ctype) (place_in rest a n)) ≡ Some x
        → (if d then Some (inside_at 0 (plain o.ctype)) else moved (cells o.ctype) (place_in rest b m)) ≡ Some y
        → ((v z : Inside) → place_in rest a n ≡ Some v → place_in rest b m ≡ Some z → ((a ≡ b) × (n ≡ m)) ⊎ Apart v z) → ((a ≡ b) × (n ≡ m)) ⊎ Apart x y
    pick true s true t g h again = let p = same a n s in let q = same b m t in inl (sym p.0 ∙ q.0, sym p.1 ∙ q.1)
    pick true s false t g h again =
        let p = at_head x g in let u = unmoved (cells o.ctype) (place_in rest b m) y h in
        let i = p.0 in let j = p.1 in let k = u.2 in inr (inl (omega arith))
    pick false s true t g h again =
        let p = at_head y h in let u = unmoved (cells o.ctype) (place_in rest a n) x g in
        let i = p.0 in let j = p.1 in let k = u.2 in inr (inr (omega arith))
    pick false s false t g h again =
        let u = unmoved (cells o.ctype) (place_in rest a n) x g in
        let w = unmoved (cells o.ctype) (place_in rest b m) y h in
        shifted u.0 w.0 u.2 u.3 w.2 w.3 (again u.0 w.0 u.1 w.1)
      where
        shifted : (v z : Inside) → x.at ≡ cells o.ctype + v.at → x.ctype ≡ v.ctype → y.at ≡ cells o.ctype + z.at → y.ctype ≡ z.ctype → ((a ≡ b) × (n ≡ m)) ⊎ Apart v z → ((a ≡ b) × (n ≡ m)) ⊎ Apart x y
        shifted v z i j k l (inl r) = inl r
        shifted v z i j k l (inr (inl r)) = let p = ap cells j in inr (inl (omega arith))
        shifted v z i j k l (inr (inr r)) = let p = ap cells l in inr (inr (omega arith))

-- a temporary is behind the objects, and within the frame
pub record IsTemporary (before temps n : ℕ) (x : Inside) : Type 0 where
  pub at : x.at + 1 ≡ before + n
  pub first : 1 ≤ n
  pub last : n ≤ temps
  pub ctype : x.ctype ≡ number_type Int

pub temporary_within : (before temps n : ℕ) (x : Inside) → temporary_place before temps n ≡ Some x → IsTemporary before temps n x
temporary_within before temps zero x e = cc
temporary_within before temps (suc n) x e = pick (nat_lt n temps) refl e
  where
    pick : (b : Bool) → nat_lt n temps ≡ b → (if b then Some (inside_at (before + n) (number_type Int)) else None) ≡ Some x → IsTemporary before temps (suc n) x
    pick true t g =
        let is : inside_at (before + n) (number_type Int) ≡ x = cc in
        let m = ap (λ (z : Inside). z.at) is in let l = ltb-true n temps t in
        record { at = omega arith; first = omega arith; last = omega arith; ctype = ap (λ (z : Inside). z.ctype) (sym is) }
    pick false t g = cc

pub root_within : (f : FunctionTree) (r : Root) (x : Inside) → frame_place f r ≡ Some x → x.at + cells x.ctype ≤ frame_size f
root_within f (global_root a) x e = cc
root_within f (local_root h a n) x e = let w = place_within (objects_of f) a n x e in omega arith
root_within f (temp_root h n) x e =
    let t = temporary_within (objects_size (objects_of f)) f.temps n x e in
    let c = ap cells t.ctype in let m = t.at in let l = t.last in let i = t.first in omega arith

-- two roots of one frame are apart
pub roots_apart : (f : FunctionTree) (h : ℕ) (r q : Root) (x y : Inside) → of_frame h r ≡ true → of_frame h q ≡ true → frame_place f r ≡ Some x → frame_place f q ≡ Some y → (r ≡ q) ⊎ Apart x y
roots_apart f h (global_root a) q x y i j e g = cc
roots_apart f h r (global_root a) x y i j e g = cc
roots_apart f h (local_root k a n) (local_root l b m) x y i j e g = pick (places_apart (objects_of f) a b n m x y e g)
  where
    heights : k ≡ l
    heights = eqb-true k h i ∙ sym (eqb-true l h j)

    pick : ((a ≡ b) × (n ≡ m)) ⊎ Apart x y → (local_root k a n ≡ local_root l b m) ⊎ Apart x y
    pick (inl s) = let t = heights in let u = s.0 in let v = s.1 in inl cc
    pick (inr s) = inr s
roots_apart f h (local_root k a n) (temp_root l m) x y i j e g =
    let w = place_within (objects_of f) a n x e in
    let t = temporary_within (objects_size (objects_of f)) f.temps m y g in
    let u = t.at in let v = t.first in inr (inl (omega arith))
roots_apart f h (temp_root k n) (local_root l b m) x y i j e g =
    let w = place_within (objects_of f) b m y g in
    let t = temporary_within (objects_size (objects_of f)) f.temps n x e in
    let u = t.at in let v = t.first in inr (inr (omega arith))
roots_apart f h (temp_root k n) (temp_root l m) x y i j e g = pick (in_order n m)
  where
    here : IsTemporary (objects_size (objects_of f)) f.temps n x
    here = temporary_within (objects_size (objects_of f)) f.temps n x e

    there : IsTemporary (objects_size (objects_of f)) f.temps m y
    there = temporary_within (objects_size (objects_of f)) f.temps m y g

    pick : (n ≡ m) ⊎ (n < m) ⊎ (m < n) → (temp_root k n ≡ temp_root l m) ⊎ Apart x y
    pick (inl s) = let t : k ≡ l = eqb-true k h i ∙ sym (eqb-true l h j) in inl cc
    pick (inr (inl s)) = let a = here.at in let b = there.at in let c = ap cells here.ctype in inr (inl (omega arith))
    pick (inr (inr s)) = let a = here.at in let b = there.at in let c = ap cells there.ctype in inr (inr (omega arith))

-- globals are within their slots, and apart
global_within : (gs : List LocalTree) (r : Root) (x : Inside) → global_place gs r ≡ Some x → x.at + cells x.ctype ≤ objects_size gs
global_within gs (global_root a) x e = place_within gs a 0 x e
global_within gs (local_root h a n) x e = cc
global_within gs (temp_root h n) x e = cc

globals_apart : (gs : List LocalTree) (r q : Root) (x y : Inside) → global_place gs r ≡ Some x → global_place gs q ≡ Some y → (r ≡ q) ⊎ Apart x y
globals_apart gs (global_root a) (global_root b) x y e g = pick (places_apart gs a b 0 0 x y e g)
  where
    pick : ((a ≡ b) × (zero ≡ zero)) ⊎ Apart x y → (global_root a ≡ global_root b) ⊎ Apart x y
    pick (inl s) = inl (ap global_root s.0)
    pick (inr s) = inr s
globals_apart gs (global_root a) (local_root h b n) x y e g = cc
globals_apart gs (global_root a) (temp_root h n) x y e g = cc
globals_apart gs (local_root h a n) q x y e g = cc
globals_apart gs (temp_root h n) q x y e g = cc

module _ (gs : List LocalTree) where
  -- live frames: a root of the top frame, or of one below
  pub data InLive (f : FunctionTree) (below : List FunctionTree) (r : Root) (x : Inside) : Type 0 where
    on_top : (y : Inside) → of_frame (length below) r ≡ true → frame_place f r ≡ Some y → x.at ≡ live_size gs below + y.at → x.ctype ≡ y.ctype → InLive f below r x
    lower : of_frame (length below) r ≡ false → live gs below r ≡ Some x → InLive f below r x

  pub in_live : (f : FunctionTree) (below : List FunctionTree) (r : Root) (x : Inside) → live gs (f ∷ below) r ≡ Some x → InLive f below r x
  in_live f below r x e = pick (of_frame (length below) r) refl e
    where
      pick : (b : Bool) → of_frame (length below) r ≡ b → (if b then moved (live_size gs below) (frame_place f r) else live gs below r) ≡ Some x → InLive f below r x
      pick true t g = let u = unmoved (live_size gs below) (frame_place f r) x g in on_top u.0 t u.1 u.2 u.3
      pick false t g = lower t g

  pub live_within : (fs : List FunctionTree) (r : Root) (x : Inside) → live gs fs r ≡ Some x → x.at + cells x.ctype ≤ live_size gs fs
  live_within [] r x e = global_within gs r x e
  live_within (f ∷ below) r x e = pick (in_live f below r x e) (λ g. live_within below r x g)
    where
      pick : InLive f below r x → (live gs below r ≡ Some x → x.at + cells x.ctype ≤ live_size gs below) → x.at + cells x.ctype ≤ live_size gs (f ∷ below)
      pick (on_top y t g m c) again = let w = root_within f r y g in let d = ap cells c in omega arith
      pick (lower t g) again = let w = again g in omega arith

  pub live_apart : (fs : List FunctionTree) (r q : Root) (x y : Inside) → live gs fs r ≡ Some x → live gs fs q ≡ Some y → (r ≡ q) ⊎ Apart x y
  live_apart [] r q x y e g = globals_apart gs r q x y e g
  live_apart (f ∷ below) r q x y e g = pick (in_live f below r x e) (in_live f below q y g) (λ h k. live_apart below r q x y h k)
    where
      pick : InLive f below r x → InLive f below q y → (live gs below r ≡ Some x → live gs below q ≡ Some y → (r ≡ q) ⊎ Apart x y) → (r ≡ q) ⊎ Apart x y
      pick (on_top v t h m c) (on_top w u k n d) again = shifted (roots_apart f (length below) r q v w t u h k)
        where
          shifted : (r ≡ q) ⊎ Apart v w → (r ≡ q) ⊎ Apart x y
          shifted (inl s) = inl s
          shifted (inr (inl s)) = let i = ap cells c in inr (inl (omega arith))
          shifted (inr (inr s)) = let i = ap cells d in inr (inr (omega arith))
      pick (on_top v t h m c) (lower u k) again = let w = live_within below q y k in inr (inr (omega arith))
      pick (lower t h) (on_top w u k n d) again = let z = live_within below r x h in inr (inl (omega arith))
      pick (lower t h) (lower u k) again = again h k

  pub live_is_layout : (fs : List FunctionTree) → IsLayout (live gs fs) (live_size gs fs)
  live_is_layout fs = record { within = live_within fs; apart = live_apart fs }

-- a root of a frame is as high as the frame
pub rank_frame : (h : ℕ) (r : Root) → of_frame h r ≡ true → rank r ≡ h + 1
rank_frame h (global_root a) e = cc
rank_frame h (local_root i a n) e = ap (λ k. k + 1) (eqb-true i h e)
rank_frame h (temp_root i n) e = ap (λ k. k + 1) (eqb-true i h e)

-- a root with a place is no higher than the live frames
pub rank_live : (gs : List LocalTree) (fs : List FunctionTree) (r : Root) (x : Inside) → live gs fs r ≡ Some x → rank r ≤ length fs
rank_live gs [] (global_root a) x e = omega arith
rank_live gs [] (local_root h a n) x e = cc
rank_live gs [] (temp_root h n) x e = cc
rank_live gs (f ∷ below) r x e = pick (in_live gs f below r x e) (λ g. rank_live gs below r x g)
  where
    pick : InLive gs f below r x → (live gs below r ≡ Some x → rank r ≤ length below) → rank r ≤ length (f ∷ below)
    pick (on_top y t g m c) again = let k = rank_frame (length below) r t in omega arith
    pick (lower t g) again = let k = again g in omega arith
