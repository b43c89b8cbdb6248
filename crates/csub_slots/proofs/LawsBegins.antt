-- The slots of globals at the beginning of a run stand for its first cells.
use Rattle.std.proofs.Common.{ℕ, suc, ◌+◌, ◌≡◌, ◌<◌, ℤ, pos, List, [], ◌∷◌, ◌++◌, map, length, replicate, get_or, All, Bool, bytes_eq}
use Rattle.std.proofs.Common.{true, false, cond, ◌&&◌, nat_eq, Option, Some, None, slice_index_or, if◌then◌else◌, refl, sym, ◌∙◌, ap}
use Rattle.std.proofs.Common.{subst, arith, length-append}
use Rattle.std.specs.Option.{option_map, option_and_then}
use Rattle.std.specs.List.{slice_get}
use Rattle.std.proofs.lemmas.List.{get_or_append_left, get_or-append_right, get_or-map, length-map}
use Rattle.std.proofs.lemmas.List.Elements.{All-head, All-tail, All-nil, All-cons}
use Rattle.std.proofs.lemmas.Option.{slice_get-get_or}
use Rattle.csub_types.specs.declared.kind.IntKind.{IntKind}
use Rattle.csub_types.specs.declared.kind.IntKind.TheVariants.{Int}
use Rattle.csub_objects.specs.Types.{Name, TypeTree, number_type, array_type, struct_type, loose_type, kinds, cells, HasArrays, IsSized}
use Rattle.csub_objects.specs.Paths.{Inner, number_cell, Inside, inside_at, moved, inside}
use Rattle.csub_objects.proofs.LawsTypes.{length-kinds}
use Rattle.csub_semantics.specs.Types.{GlobalTree}
use Rattle.csub_semantics.specs.Globals.{global_of}
use Rattle.csub_semantics.specs.Syntax.{FunctionTree, ProgramTree}
use Rattle.csub_semantics.specs.Flows.{flow_of}
use Rattle.csub_semantics.specs.Cells.{Root, global_root, local_root, temp_root, Content, number}
use Rattle.csub_semantics.specs.Runs.{initial_content, initial_at, initial_cells}
use Rattle.csub_validity.specs.Valid.{AreOf, AreGlobals}
use Rattle.csub_flat.specs.Frames.{plain, objects_size, place_in, frame_size, global_object, globals_of}
use Rattle.csub_slots.specs.Layout.{Slot, empty, holding, Layout, into, slot_of, Holds, StandsFor, live_size, live}
use Rattle.csub_slots.specs.Begins.{opening_slots}
use Rattle.csub_slots.proofs.Numbered.{IsLeaf, unmoved, below, into-moved, moved_zero, arrays_inside}
use Rattle.csub_slots.proofs.Plain.{plained, inside_plain}
use Rattle.csub_slots.proofs.LawsFrames.{enter_stands}

-- a global has a number for each of its cells, and its arrays are right
record HasContents (g : GlobalTree) : Type 0 where
  numbers : AreOf (kinds g.ctype) g.initial
  arrays : HasArrays g.ctype

each_has : (globals : List GlobalTree) → All (λ g. AreOf (kinds g.ctype) g.initial) globals → All (λ g. IsSized g.ctype) globals
    → All HasContents globals
each_has [] h i = All-nil HasContents
each_has (g ∷ rest) h i =
    let Q : GlobalTree → Type 0 = λ g. AreOf (kinds g.ctype) g.initial in
    let R : GlobalTree → Type 0 = λ g. IsSized g.ctype in
    let sized = All-head R g rest i in
    All-cons HasContents g rest (record { numbers = All-head Q g rest h; arrays = sized.arrays }) (each_has rest (All-tail Q g rest h) (All-tail R g rest i))

all_have : (P : ProgramTree) → AreGlobals P.globals → All HasContents P.globals
all_have P h = each_has P.globals h.contents h.types

-- the numbers are as many as the cells
as_many : (ks : List IntKind) (vs : List ℤ) → AreOf ks vs → length vs ≡ length ks
as_many [] [] h = refl
as_many [] (v ∷ vs) h = absurd h
as_many (k ∷ ks) [] h = absurd h
as_many (k ∷ ks) (v ∷ vs) h = ap (λ n. suc n) (as_many ks vs h.1)

own_count : (g : GlobalTree) → HasContents g → length g.initial ≡ cells g.ctype
own_count g h = as_many (kinds g.ctype) g.initial h.numbers ∙ length-kinds g.ctype

own_size : (g : GlobalTree) → HasContents g → length (map holding g.initial) ≡ cells g.ctype
own_size g h = length-map g.initial holding ∙ own_count g h

-- the count of the globals' slots
opened_size : (globals : List GlobalTree) → All HasContents globals → length (opening_slots globals) ≡ objects_size (map global_object globals)
opened_size [] h = refl
opened_size (g ∷ rest) h =
    let one = own_size g (All-head HasContents g rest h) in
    let more = opened_size rest (All-tail HasContents g rest h) in
    let sum = length-append (map holding g.initial) (opening_slots rest) in omega arith

-- each number of a global is in its slot, and no other cell of the global holds anything
module _ (layout : Layout) (root : Root) (g : GlobalTree) (rest : List GlobalTree) (h : HasContents g) (path : List Inner) where
  -- what a cell of the global holds at first, by the part that is there
  abbrev content_at : Option Inside → Option Content
  content_at o = option_map number (option_and_then (slice_get g.initial) (option_and_then (λ (x : Inside). number_cell x.ctype x.at) o))

  abbrev slot_at : ℕ → Slot
  slot_at n = slice_index_or (opening_slots (g ∷ rest)) n empty

  own_slot : (n : ℕ) → n < cells g.ctype → slot_at n ≡ holding (get_or g.initial n (pos 0))
  own_slot n l =
      let count = own_count g h in let size = own_size g h in
      get_or_append_left (map holding g.initial) (opening_slots rest) empty n (omega arith) ∙ get_or-map holding g.initial n (pos 0) empty (omega arith)

  part_holds : (t : TypeTree) (n : ℕ) → HasArrays t → (IsLeaf t → n < cells g.ctype) → Holds layout root (plain t) (content_at (Some (inside_at n t))) (slot_at n)
  part_holds (number_type k) n a small =
      let count = own_count g h in
      let l : n < cells g.ctype = small tt in
      let there = slice_get-get_or g.initial n (pos 0) (omega arith) in
      subst (λ (o : Option ℤ). Holds layout root (number_type Int) (option_map number o) (slot_at n)) (sym there) (own_slot n l)
  part_holds (array_type t m) n a small = tt
  part_holds (struct_type tag ms) n a small = tt
  part_holds (loose_type t) n a small = absurd a

  own_place : into (Some (inside_at 0 (plain g.ctype))) path ≡ plained (inside g.ctype path)
  own_place = moved_zero (inside (plain g.ctype) path) ∙ inside_plain g.ctype path

  own_holds : (x : Inside) → into (Some (inside_at 0 (plain g.ctype))) path ≡ Some x → Holds layout root x.ctype (initial_content (Some g) path) (slot_at x.at)
  own_holds x e = by_part (inside g.ctype path) refl (sym own_place ∙ e)
    where
      by_part : (o : Option Inside) → inside g.ctype path ≡ o → plained o ≡ Some x → Holds layout root x.ctype (initial_content (Some g) path) (slot_at x.at)
      by_part None f i = cc
      by_part (Some z) f i =
          let is : inside_at z.at (plain z.ctype) ≡ x = cc in
          let here = part_holds z.ctype z.at (arrays_inside g.ctype path z h.arrays f) (below g.ctype path z f) in
          subst (λ (y : Inside). Holds layout root y.ctype (content_at (inside g.ctype path)) (slot_at y.at)) is
          (subst (λ (o : Option Inside). Holds layout root (plain z.ctype) (content_at o) (slot_at z.at)) (sym f) here)

  own_nothing : into (Some (inside_at 0 (plain g.ctype))) path ≡ None → initial_content (Some g) path ≡ None
  own_nothing e = by_part (inside g.ctype path) refl (sym own_place ∙ e)
    where
      by_part : (o : Option Inside) → inside g.ctype path ≡ o → plained o ≡ None → content_at (inside g.ctype path) ≡ None
      by_part None f i = ap content_at f
      by_part (Some z) f i = cc

-- the slots of the others stand behind its own
behind : (g : GlobalTree) (rest : List GlobalTree) (n : ℕ) → HasContents g
    → slice_index_or (opening_slots (g ∷ rest)) (cells g.ctype + n) empty ≡ slice_index_or (opening_slots rest) n empty
behind g rest n h =
    let one = own_size g h in
    get_or-append_right (map holding g.initial) (opening_slots rest) (cells g.ctype) (cells g.ctype + n) empty one (omega arith)
    ∙ ap (λ (m : ℕ). slice_index_or (opening_slots rest) m empty) (omega arith)

module _ (layout : Layout) (root : Root) (a : Name) (path : List Inner) where
  -- where a cell of a global is
  abbrev place : List GlobalTree → Option Inside
  place globals = into (place_in (map global_object globals) a 0) path

  opened_holds : (globals : List GlobalTree) → All HasContents globals → (x : Inside) → place globals ≡ Some x
      → Holds layout root x.ctype (initial_content (global_of globals a) path) (slice_index_or (opening_slots globals) x.at empty)
  opened_holds [] h x e = cc
  opened_holds (g ∷ rest) h x e = pick (bytes_eq g.name a) e (opened_holds rest (All-tail HasContents g rest h))
    where
      pick : (b : Bool)
          → into (if b && nat_eq 0 0 then Some (inside_at 0 (plain g.ctype)) else moved (cells g.ctype) (place_in (map global_object rest) a 0)) path
          ≡ Some x
          → ((y : Inside) → place rest ≡ Some y
          → Holds layout root y.ctype (initial_content (global_of rest a) path) (slice_index_or (opening_slots rest) y.at empty))
          → Holds layout root x.ctype (initial_content (cond b (Some g) (global_of rest a)) path) (slice_index_or (opening_slots (g ∷ rest)) x.at empty)
      pick true f later = own_holds layout root g rest (All-head HasContents g rest h) path x f
      pick false f later =
          let u = unmoved (cells g.ctype) (place rest) x (sym (into-moved (cells g.ctype) (place_in (map global_object rest) a 0) path) ∙ f) in
          let at : slice_index_or (opening_slots (g ∷ rest)) x.at empty ≡ slice_index_or (opening_slots rest) u.0.at empty =
          ap (λ n. slice_index_or (opening_slots (g ∷ rest)) n empty) u.2 ∙ behind g rest u.0.at (All-head HasContents g rest h) in
          subst (λ (t : TypeTree). Holds layout root t (initial_content (global_of rest a) path) (slice_index_or (opening_slots (g ∷ rest)) x.at empty)) (sym u.3)
          (subst (Holds layout root u.0.ctype (initial_content (global_of rest a) path)) (sym at) (later u.0 u.1))

  opened_nothing : (globals : List GlobalTree) → All HasContents globals → place globals ≡ None → initial_content (global_of globals a) path ≡ None
  opened_nothing [] h e = refl
  opened_nothing (g ∷ rest) h e = pick (bytes_eq g.name a) e (opened_nothing rest (All-tail HasContents g rest h))
    where
      pick : (b : Bool)
          → into (if b && nat_eq 0 0 then Some (inside_at 0 (plain g.ctype)) else moved (cells g.ctype) (place_in (map global_object rest) a 0)) path ≡ None
          → (place rest ≡ None → initial_content (global_of rest a) path ≡ None) → initial_content (cond b (Some g) (global_of rest a)) path ≡ None
      pick true f later = own_nothing layout root g rest (All-head HasContents g rest h) path f
      pick false f later = later (nowhere (place rest) (sym (into-moved (cells g.ctype) (place_in (map global_object rest) a 0) path) ∙ f))
        where
          nowhere : (o : Option Inside) → moved (cells g.ctype) o ≡ None → o ≡ None
          nowhere None n = refl
          nowhere (Some y) n = cc

-- the globals of a valid program have the slots that they begin with
pub opening_size : (P : ProgramTree) → AreGlobals P.globals → length (opening_slots P.globals) ≡ objects_size (globals_of P)
opening_size P h = opened_size P.globals (all_have P h)

-- the first slots stand for the first cells
opened_stands : (P : ProgramTree) → AreGlobals P.globals
    → StandsFor (live (globals_of P) []) (live_size (globals_of P) []) (initial_cells (flow_of P)) (opening_slots P.globals)
opened_stands P h = record {
  size = opening_size P h;
  holds = λ c x e. by_root c.root c.path x e;
  nothing = λ c e. by_none c.root c.path e;
}
  where
    by_root : (r : Root) (p : List Inner) (x : Inside) → slot_of (live (globals_of P) []) (record { root = r; path = p }) ≡ Some x
        → Holds (live (globals_of P) []) r x.ctype (initial_at (flow_of P) r p) (slice_index_or (opening_slots P.globals) x.at empty)
    by_root (global_root a) p x e = opened_holds (live (globals_of P) []) (global_root a) a p P.globals (all_have P h) x e
    by_root (local_root k a n) p x e = cc
    by_root (temp_root k n) p x e = cc

    by_none : (r : Root) (p : List Inner) → slot_of (live (globals_of P) []) (record { root = r; path = p }) ≡ None → initial_at (flow_of P) r p ≡ None
    by_none (global_root a) p e = opened_nothing (live (globals_of P) []) (global_root a) a p P.globals (all_have P h) e
    by_none (local_root k a n) p e = refl
    by_none (temp_root k n) p e = refl

-- with the frame of a function on top, whose slots are empty, they stand for them as well
pub begin_stands : (P : ProgramTree) (f : FunctionTree) → AreGlobals P.globals
    → StandsFor (live (globals_of P) (f ∷ [])) (live_size (globals_of P) (f ∷ [])) (initial_cells (flow_of P))
    (opening_slots P.globals ++ replicate (frame_size f) empty)
begin_stands P f h = enter_stands (globals_of P) f [] (initial_cells (flow_of P)) (opening_slots P.globals) (opened_stands P h)
