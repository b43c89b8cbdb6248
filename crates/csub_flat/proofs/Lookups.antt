-- The slots of objects, as the code puts them into maps and looks them up.
use Rattle.std.proofs.Common.{◌≡◌, ◌<◌, ◌≤◌, ◌∙◌, ℕ, zero, suc, ◌+◌, ◌-◌, ◌&&◌, nat_eq, List, [], ◌∷◌, ◌++◌, map, take, length, get_or, Bool, true, false, cond, Option, Some, None, refl, ap, sym, subst, arith, add-one, bytes_eq}
use Rattle.std.specs.List.{AllZip, slice_get}
use Rattle.std.specs.Option.{option_map, option_and_then, unwrap_or}
use Rattle.std.specs.Ordering.{nat_cmp}
use Rattle.std.specs.Cmp.{unsigned_ties}
use Rattle.std.specs.Cmp.Lexicographic.{slice_cmp, texts_ties}
use Rattle.std.specs.BTreeMap.{BTreeMap, get, is_at}
use Rattle.std.specs.Map.{lookup}
use Rattle.std.proofs.lemmas.Bool.{eqb-true}
use Rattle.std.proofs.lemmas.List.{append-nil, length-map, take_all}
use Rattle.std.proofs.lemmas.Option.{slice_get-map, slice_get-get_or, same_Some}
use Rattle.csub_objects.specs.Types.{Name, cells}
use Rattle.csub_objects.specs.Paths.{Inside, inside_at, moved}
use Rattle.csub_semantics.specs.declared.function.Function.{Function}
use Rattle.csub_semantics.specs.Syntax.{LocalTree, FunctionTree, local_tree, function_tree}
use Rattle.csub_validity.specs.Valid.{objects_of}
use Rattle.csub_flat.specs.Frames.{plain, objects_size, place_in, as_object}
use Rattle.csub_flat.specs.Flatten.{slot_or}
use Rattle.csub_flat.specs.Objects.{ObjectSlots, slot_at, AreObjectSlots, IsFrameOf, AreFramesOf}
use Rattle.csub_flat.specs.declared.frame.Frame.{Frame}
use Rattle.csub_flat.proofs.Slots.{moved-moved, same_objects, size_objects}

-- ---- one slot more

-- what is at a name among the slots of a number
abbrev named_slot : Name → BTreeMap Name ℕ → Option ℕ
named_slot a named = get (slice_cmp nat_cmp) named a

-- the slots of a number, or none
held_at : (found : Option (BTreeMap Name ℕ)) (none held : BTreeMap Name ℕ) → none.entries ≡ [] → held ≡ unwrap_or found none → (q : Name) → named_slot q held ≡ option_and_then (named_slot q) found
held_at None none held empty is q = ap (named_slot q) is ∙ ap (lookup (is_at (slice_cmp nat_cmp q))) empty
held_at (Some named) none held empty is q = ap (named_slot q) is

pub put_at : (m : ObjectSlots) (new : List (ℕ × BTreeMap Name ℕ)) (found : Option (BTreeMap Name ℕ)) (none held named : BTreeMap Name ℕ) (b copy : Name) (k s : ℕ) → copy ≡ b
    → found ≡ get nat_cmp m k → none.entries ≡ [] → held ≡ unwrap_or found none
    → ((q : Name) → named_slot q named ≡ cond (is_at (slice_cmp nat_cmp copy) q) (Some s) (named_slot q held))
    → ((q : ℕ) → lookup (is_at (nat_cmp q)) new ≡ cond (is_at (nat_cmp k) q) (Some named) (get nat_cmp m q))
    → (a : Name) (n : ℕ) → option_and_then (named_slot a) (lookup (is_at (nat_cmp n)) new) ≡ cond (bytes_eq b a && nat_eq k n) (Some s) (slot_at m a n)
put_at m new found none held named b copy k s same is_found empty is_held inner outer a n =
    ap (option_and_then (named_slot a)) (outer n ∙ ap (λ t. cond t (Some named) (get nat_cmp m n)) (sym (unsigned_ties k n)))
    ∙ pick (nat_eq k n) refl (bytes_eq b a) (inner a ∙ ap (λ c. cond (is_at (slice_cmp nat_cmp c) a) (Some s) (named_slot a held)) same ∙ ap (λ t. cond t (Some s) (named_slot a held)) (sym (texts_ties b a)))
  where
    old : named_slot a held ≡ slot_at m a k
    old = held_at found none held empty is_held a ∙ ap (option_and_then (named_slot a)) is_found

    pick : (t : Bool) → nat_eq k n ≡ t → (u : Bool) → named_slot a named ≡ cond u (Some s) (named_slot a held)
        → option_and_then (named_slot a) (cond t (Some named) (get nat_cmp m n)) ≡ cond (u && t) (Some s) (slot_at m a n)
    pick true e true i = i
    pick true e false i = i ∙ old ∙ ap (slot_at m a) (eqb-true k n e)
    pick false e true i = refl
    pick false e false i = refl

-- an object before others
pub one_before : (o : LocalTree) (os : List LocalTree) (s slot : ℕ) (m new : ObjectSlots) → slot ≡ s + cells o.ctype
    → ((a : Name) (n : ℕ) → slot_at new a n ≡ cond (bytes_eq o.name a && nat_eq o.number n) (Some s) (slot_at m a n))
    → AreObjectSlots slot os m → AreObjectSlots s (o ∷ os) new
one_before o os s slot m new whole put before a n = put a n ∙ pick (bytes_eq o.name a && nat_eq o.number n)
  where
    later : slot_at m a n ≡ option_map (λ (x : Inside). x.at) (moved (s + cells o.ctype) (place_in os a n))
    later = before a n ∙ ap (λ k. option_map (λ (x : Inside). x.at) (moved k (place_in os a n))) whole

    pick : (b : Bool) → cond b (Some s) (slot_at m a n)
        ≡ option_map (λ (x : Inside). x.at) (moved s (cond b (Some (inside_at 0 (plain o.ctype))) (moved (cells o.ctype) (place_in os a n))))
    pick true = ap (λ (k : ℕ). Some k) (omega arith)
    pick false = later ∙ sym (ap (option_map (λ (x : Inside). x.at)) (moved-moved s (cells o.ctype) (place_in os a n)))

-- no object has a slot in an empty map
none_at : (k : ℕ) (m : ObjectSlots) → m.entries ≡ [] → AreObjectSlots k [] m
none_at k m empty a n = ap (λ es. option_and_then (named_slot a) (lookup (is_at (nat_cmp n)) es)) empty

-- ---- the slots of a function's objects

-- locals and then parameters were added
pub all_slots : (f : Function) (first before : ℕ) (none locals all : ObjectSlots) → none.entries ≡ []
    → first ≡ objects_size (objects_of (function_tree f)) → before ≡ objects_size (map as_object f.params.items)
    → ((os : List LocalTree) → AreObjectSlots first os none → AreObjectSlots (first - objects_size (map local_tree f.locals.items)) (map local_tree f.locals.items ++ os) locals)
    → ((os : List LocalTree) → AreObjectSlots before os locals → AreObjectSlots (before - objects_size (map as_object f.params.items)) (map as_object f.params.items ++ os) all)
    → AreObjectSlots 0 (objects_of (function_tree f)) all
all_slots f first before none locals all empty is_first is_before with_locals with_params =
    let size = size_objects f in
    let vs = map local_tree f.locals.items in
    let ps = map as_object f.params.items in
    let end : first - objects_size vs ≡ before = omega arith in
    let begin : before - objects_size ps ≡ 0 = omega arith in
    let own = subst (λ k. AreObjectSlots k (vs ++ []) locals) end (with_locals [] (none_at first none empty)) in
    let both = subst (λ k. AreObjectSlots k (ps ++ vs) all) begin (with_params vs (subst (λ os. AreObjectSlots before os locals) (append-nil vs) own)) in
    subst (λ os. AreObjectSlots 0 (os ++ vs) all) (sym (same_objects f.params.items)) both

-- the slot of what is found
pub slot_found : (o : Option Inside) (i : ℕ) → Some i ≡ option_map (λ (x : Inside). x.at) (moved 0 o) → i ≡ slot_or o
slot_found None i e = cc
slot_found (Some x) i e = let k : i ≡ 0 + x.at = cc in omega arith

pub slot_missing : (o : Option Inside) → ◌≡◌ {A = Option ℕ} None (option_map (λ (x : Inside). x.at) (moved 0 o)) → 0 ≡ slot_or o
slot_missing None e = refl
slot_missing (Some x) e = cc

-- ---- the frames of functions

-- the frame of the function with a number
pub frame_at : (fs : List Function) (frames : List Frame) (i : ℕ) (f : Function) (r : Frame) → AreFramesOf (map function_tree fs) frames
    → i < length fs → f ≡ get_or fs i f → r ≡ get_or frames i r → IsFrameOf (function_tree f) r
frame_at fs frames i f r h inside is_f is_r =
    let counted = h.count in
    let listed = length-map fs function_tree in
    let own = slice_get-map function_tree fs i ∙ ap (option_map function_tree) (slice_get-get_or fs i f inside ∙ ap (λ (g : Function). Some g) (sym is_f)) in
    h.each i (function_tree f) r own (slice_get-get_or frames i r (omega arith) ∙ ap (λ (q : Frame). Some q) (sym is_r))

-- one frame more
frame_pushed : (fs : List FunctionTree) (frames : List Frame) (f : FunctionTree) (r : Frame) → AllZip IsFrameOf fs frames → IsFrameOf f r → AllZip IsFrameOf (fs ++ f ∷ []) (frames ++ r ∷ [])
frame_pushed [] [] f r h is = (is, tt)
frame_pushed [] (q ∷ frames) f r h is = absurd h
frame_pushed (g ∷ fs) [] f r h is = absurd h
frame_pushed (g ∷ fs) (q ∷ frames) f r h is = (h.0, frame_pushed fs frames f r h.1 is)

one_more : (fs : List Function) (i : ℕ) (f : Function) → i < length fs → f ≡ get_or fs i f → map function_tree (take (suc i) fs) ≡ map function_tree (take i fs) ++ function_tree f ∷ []
one_more [] i f inside is = absurd (omega arith)
one_more (g ∷ fs) zero f inside is = ap (λ x. function_tree x ∷ []) (sym is)
one_more (g ∷ fs) (suc i) f inside is = ap (λ gs. function_tree g ∷ gs) (one_more fs i f (omega arith) is)

pub frames_more : (fs : List Function) (i : ℕ) (f : Function) (frames new : List Frame) (r : Frame) → i < length fs → f ≡ get_or fs i f → new ≡ frames ++ r ∷ []
    → AllZip IsFrameOf (map function_tree (take i fs)) frames → IsFrameOf (function_tree f) r → AllZip IsFrameOf (map function_tree (take (i + 1) fs)) new
frames_more fs i f frames new r inside is pushed before one =
    subst (λ n. AllZip IsFrameOf (map function_tree (take n fs)) new) (sym (add-one i))
    (subst (λ gs. AllZip IsFrameOf gs new) (sym (one_more fs i f inside is))
    (subst (AllZip IsFrameOf (map function_tree (take i fs) ++ function_tree f ∷ [])) (sym pushed) (frame_pushed (map function_tree (take i fs)) frames (function_tree f) r before one)))

-- and all of them
counted : (fs : List FunctionTree) (frames : List Frame) → AllZip IsFrameOf fs frames → length frames ≡ length fs
counted [] [] h = refl
counted [] (r ∷ frames) h = absurd h
counted (f ∷ fs) [] h = absurd h
counted (f ∷ fs) (r ∷ frames) h = ap suc (counted fs frames h.1)

placed_at : (fs : List FunctionTree) (frames : List Frame) → AllZip IsFrameOf fs frames → (i : ℕ) (f : FunctionTree) (r : Frame) → slice_get fs i ≡ Some f → slice_get frames i ≡ Some r → IsFrameOf f r
placed_at [] frames h i f r is_f is_r = absurd cc
placed_at (g ∷ fs) [] h i f r is_f is_r = absurd h
placed_at (g ∷ fs) (q ∷ frames) h zero f r is_f is_r = subst (λ x. IsFrameOf x r) (same_Some g f is_f) (subst (IsFrameOf g) (same_Some q r is_r) h.0)
placed_at (g ∷ fs) (q ∷ frames) h (suc i) f r is_f is_r = placed_at fs frames h.1 i f r is_f is_r

pub frames_all : (fs : List Function) (i : ℕ) (frames : List Frame) → length fs ≤ i → AllZip IsFrameOf (map function_tree (take i fs)) frames → AreFramesOf (map function_tree fs) frames
frames_all fs i frames end h =
    let all = subst (λ gs. AllZip IsFrameOf (map function_tree gs) frames) (take_all i fs end) h in
    record { count = counted (map function_tree fs) frames all; each = placed_at (map function_tree fs) frames all }
