-- Frames come and go over slots as over named cells.
use Rattle.std.proofs.Common.{ℕ, ◌+◌, ◌-◌, ◌≡◌, ◌<◌, ◌≤◌, ℤ, List, [], ◌∷◌, ◌++◌, length, take, replicate, All}
use Rattle.std.proofs.Common.{Bool, true, false, Option, Some, None, if◌then◌else◌, refl, sym, ◌∙◌, ap, subst, arith, slice_index_or, slice_set}
use Rattle.std.proofs.Common.{length-append}
use Rattle.std.proofs.lemmas.List.{get_or_append_left, get_or-append_right, get_or-replicate, get_or-take, length-replicate, length-take}
use Rattle.std.proofs.lemmas.Bool.{eqb-true, eq-eqb}
use Rattle.std.proofs.lemmas.List.Elements.{All-head, All-tail}
use Rattle.csub_types.specs.declared.kind.IntKind.TheVariants.{Int}
use Rattle.csub_objects.specs.Types.{TypeTree, number_type, array_type, struct_type, loose_type, cells, MemberTree}
use Rattle.csub_semantics.specs.Trees.{NamedArg}
use Rattle.csub_semantics.specs.Syntax.{LocalTree, FunctionTree}
use Rattle.csub_semantics.specs.Cells.{Root, global_root, local_root, temp_root, Cell, Cells, Content, number, reference, written, of_frame, dropped}
use Rattle.csub_semantics.specs.Cells.{parameter_cell, entered}
use Rattle.csub_semantics.specs.Acts.{Store}
use Rattle.csub_semantics.specs.Runs.{put_result}
use Rattle.csub_validity.specs.Valid.{objects_of, IsParameter}
use Rattle.csub_objects.specs.Paths.{Inside, inside_at, moved}
use Rattle.csub_flat.specs.Frames.{plain, place_in, frame_place, frame_size, global_place}
use Rattle.csub_slots.specs.Layout.{into, Slot, Layout, empty, holding, slot_of, rank, Holds, StandsFor, live_size, live}
use Rattle.csub_flat.specs.Flatten.{slot_or, paired, temp_slot}
use Rattle.csub_flat.specs.Fits.{HasParam, FitsTemp}
use Rattle.csub_slots.specs.Acts.{FlatStore, flat_entered, flat_result}
use Rattle.csub_slots.specs.Like.{Like}
use Rattle.csub_slots.proofs.Layouts.{IsLayout, root_within, InLive, on_top, lower, in_live, live_is_layout, rank_frame, rank_live}
use Rattle.csub_slots.proofs.Numbered.{IsLeaf, below}
use Rattle.csub_slots.proofs.Places.{Placed, placed, slot_below, only_leaves, root_slot}
use Rattle.csub_slots.proofs.Writes.{content_stands, number_stands}
use Rattle.csub_slots.proofs.Copied.{frame_lives}
use Rattle.std.specs.Option.{option_map}

one_height : (h k : ℕ) (r : Root) → of_frame h r ≡ true → of_frame k r ≡ true → h ≡ k
one_height h k (global_root a) e g = cc
one_height h k (local_root i a n) e g = sym (eqb-true i h e) ∙ eqb-true i k g
one_height h k (temp_root i n) e g = sym (eqb-true i h e) ∙ eqb-true i k g

no_global : (gs : List LocalTree) (h : ℕ) (r : Root) → of_frame h r ≡ true → global_place gs r ≡ None
no_global gs h (global_root a) e = cc
no_global gs h (local_root i a n) e = refl
no_global gs h (temp_root i n) e = refl

nothing_held : (layout : Layout) (r : Root) (t : TypeTree) (o : Option Content) (slot : Slot) → o ≡ None → slot ≡ empty → Holds layout r t o slot
nothing_held layout r (number_type k) o slot e g = subst (λ p. Holds layout r (number_type k) p slot) (sym e) g
nothing_held layout r (array_type t n) o slot e g = tt
nothing_held layout r (struct_type tag ms) o slot e g = tt
nothing_held layout r (loose_type t) o slot e g = subst (λ p. Holds layout r (loose_type t) p slot) (sym e) g

-- what is held stays held where the arrays to which its root may refer keep their places
holds_by : (layout other : Layout) (r : Root) (t : TypeTree) (o : Option Content) (slot : Slot)
    → ((d : Cell) (x : Inside) → rank d.root ≤ rank r → slot_of layout d ≡ Some x → slot_of other d ≡ Some x)
    → Holds layout r t o slot → Holds other r t o slot
holds_by layout other r (number_type k) None slot same h = h
holds_by layout other r (number_type k) (Some (number v)) slot same h = h
holds_by layout other r (number_type k) (Some (reference d n)) slot same h = absurd h
holds_by layout other r (array_type t n) o slot same h = tt
holds_by layout other r (struct_type tag ms) o slot same h = tt
holds_by layout other r (loose_type t) None slot same h = h
holds_by layout other r (loose_type t) (Some (number v)) slot same h = absurd h
holds_by layout other r (loose_type t) (Some (reference d n)) slot same h =
    record { at = h.at; is = h.is; there = same d (inside_at h.at (array_type t n)) h.below h.there; below = h.below }

-- a parameter has one cell
parameter_leaf : (t : TypeTree) → IsParameter t → IsLeaf (plain t)
parameter_leaf (number_type k) h = tt
parameter_leaf (array_type t n) h = absurd h
parameter_leaf (struct_type tag ms) h = absurd h
parameter_leaf (loose_type t) h = tt

-- what arguments give to parameters, over named cells and over slots: each parameter of the frame at a height may hold its own
pub data AreGiven (layout : Layout) (h : ℕ) : List MemberTree → List NamedArg → List Content → List Slot → Type 0 where
  no_params : {args : List NamedArg} → AreGiven layout h [] args [] []
  no_args : {p : MemberTree} {params : List MemberTree} → AreGiven layout h (p ∷ params) [] [] []
  one_given : {p : MemberTree} {params : List MemberTree} {a : NamedArg} {args : List NamedArg} {c : Content} {cs : List Content} {v : Slot}
      {vs : List Slot} → Holds layout (local_root h p.name 1) (plain p.ctype) (Some c) v → AreGiven layout h params args cs vs
      → AreGiven layout h (p ∷ params) (a ∷ args) (c ∷ cs) (v ∷ vs)

module _ (gs : List LocalTree) where
  -- live frames have no root of a height above theirs
  live_none : (fs : List FunctionTree) (h : ℕ) (r : Root) → of_frame h r ≡ true → length fs ≤ h → live gs fs r ≡ None
  live_none [] h r e l = no_global gs h r e
  live_none (f ∷ below) h r e l = pick (of_frame (length below) r) refl (live_none below h r e (omega arith))
    where
      pick : (b : Bool) → of_frame (length below) r ≡ b → live gs below r ≡ None
          → (if b then moved (live_size gs below) (frame_place f r) else live gs below r) ≡ None
      pick true t again = let same = one_height h (length below) r e t in absurd (omega arith)
      pick false t again = again

  -- a root of no height of the top frame is where it was
  live_lower : (f : FunctionTree) (below : List FunctionTree) (c : Cell) → of_frame (length below) c.root ≡ false
      → slot_of (live gs (f ∷ below)) c ≡ slot_of (live gs below) c
  live_lower f below c e = ap (λ b. into (if b then moved (live_size gs below) (frame_place f c.root) else live gs below c.root) c.path) e

  no_slot : (fs : List FunctionTree) (c : Cell) → of_frame (length fs) c.root ≡ true → slot_of (live gs fs) c ≡ None
  no_slot fs c e = ap (λ (o : Option Inside). into o c.path) (live_none fs (length fs) c.root e (omega arith))

  -- a cell that has a place is no higher than the live frames
  pub rank_slot : (fs : List FunctionTree) (c : Cell) (x : Inside) → slot_of (live gs fs) c ≡ Some x → rank c.root ≤ length fs
  rank_slot fs c x e = let p = placed (live gs fs) c x e in rank_live gs fs c.root p.object p.here

  -- a cell keeps its place when a frame comes on top
  pub grown : (g : FunctionTree) (fs : List FunctionTree) (d : Cell) (x : Inside) → slot_of (live gs fs) d ≡ Some x
      → slot_of (live gs (g ∷ fs)) d ≡ Some x
  grown g fs d x e = by_height (of_frame (length fs) d.root) refl
    where
      by_height : (b : Bool) → of_frame (length fs) d.root ≡ b → slot_of (live gs (g ∷ fs)) d ≡ Some x
      by_height true t = let w = sym (no_slot fs d t) ∙ e in let f : ⊥ = cc in absurd f
      by_height false t = live_lower g fs d t ∙ e

  -- a cell no higher than the frames below keeps its place when the top frame goes
  kept : (f : FunctionTree) (below : List FunctionTree) (d : Cell) (x : Inside) → rank d.root ≤ length below
      → slot_of (live gs (f ∷ below)) d ≡ Some x → slot_of (live gs below) d ≡ Some x
  kept f below d x l e = by_height (of_frame (length below) d.root) refl
    where
      by_height : (b : Bool) → of_frame (length below) d.root ≡ b → slot_of (live gs below) d ≡ Some x
      by_height true t = let k = rank_frame (length below) d.root t in absurd (omega arith)
      by_height false t = sym (live_lower f below d t) ∙ e

  -- a frame comes on top, whose slots are empty
  pub enter_stands : (g : FunctionTree) (fs : List FunctionTree) (held : Cells) (slots : List Slot)
      → StandsFor (live gs fs) (live_size gs fs) held slots
      → StandsFor (live gs (g ∷ fs)) (live_size gs (g ∷ fs)) held (slots ++ replicate (frame_size g) empty)
  enter_stands g fs held slots stands = record {
    size = length-append slots new ∙ ap (λ n. n + length new) stands.size ∙ ap (λ n. live_size gs fs + n) (length-replicate (frame_size g) empty);
    holds = λ c x e. only_leaves (live gs (g ∷ fs)) c.root x.ctype (held c) (slice_index_or (slots ++ new) x.at empty)
        (λ leaf. by_root c x e leaf (of_frame (length fs) c.root) refl);
    nothing = λ c e. by_height c e (of_frame (length fs) c.root) refl;
  }
    where
      new : List Slot
      new = replicate (frame_size g) empty

      by_root : (c : Cell) (x : Inside) → slot_of (live gs (g ∷ fs)) c ≡ Some x → IsLeaf x.ctype → (b : Bool) → of_frame (length fs) c.root ≡ b
          → Holds (live gs (g ∷ fs)) c.root x.ctype (held c) (slice_index_or (slots ++ new) x.at empty)
      by_root c x e leaf true t = on (placed (live gs (g ∷ fs)) c x e)
        where
          on : Placed (live gs (g ∷ fs)) c x → Holds (live gs (g ∷ fs)) c.root x.ctype (held c) (slice_index_or (slots ++ new) x.at empty)
          on p = there (in_live gs g fs c.root p.object p.here)
            where
              there : InLive gs g fs c.root p.object → Holds (live gs (g ∷ fs)) c.root x.ctype (held c) (slice_index_or (slots ++ new) x.at empty)
              there (lower u k) = absurd (let w = sym t ∙ u in let f : ⊥ = cc in f)
              there (on_top y u h m d) =
                  let w = root_within g c.root y h in
                  let own = below p.object.ctype c.path p.place p.there (subst IsLeaf p.ctype leaf) in
                  let same = ap cells d in
                  let at = p.at in let sz = stands.size in
                  let above : live_size gs fs ≤ x.at = omega arith in
                  let inside : x.at - live_size gs fs < frame_size g = omega arith in
                  nothing_held (live gs (g ∷ fs)) c.root x.ctype (held c) (slice_index_or (slots ++ new) x.at empty) (stands.nothing c (no_slot fs c t))
                  (get_or-append_right slots new (live_size gs fs) x.at empty stands.size above
                  ∙ get_or-replicate (frame_size g) (x.at - live_size gs fs) empty empty inside)
      by_root c x e leaf false t =
          let f = sym (live_lower g fs c t) ∙ e in
          let under = slot_below (live gs fs) (live_size gs fs) (live_is_layout gs fs) c x f leaf in
          let sz = stands.size in
          let in_slots : x.at < length slots = omega arith in
          subst (Holds (live gs (g ∷ fs)) c.root x.ctype (held c)) (sym (get_or_append_left slots new empty x.at in_slots))
          (holds_by (live gs fs) (live gs (g ∷ fs)) c.root x.ctype (held c) (slice_index_or slots x.at empty) (λ d y l h. grown g fs d y h)
          (stands.holds c x f))

      by_height : (c : Cell) → slot_of (live gs (g ∷ fs)) c ≡ None → (b : Bool) → of_frame (length fs) c.root ≡ b → held c ≡ None
      by_height c e true t = stands.nothing c (no_slot fs c t)
      by_height c e false t = stands.nothing c (sym (live_lower g fs c t) ∙ e)

  -- the top frame goes with its cells
  pub leave_stands : (f : FunctionTree) (under : List FunctionTree) (held : Cells) (slots : List Slot)
      → StandsFor (live gs (f ∷ under)) (live_size gs (f ∷ under)) held slots
      → StandsFor (live gs under) (live_size gs under) (dropped (length under) held) (take (live_size gs under) slots)
  leave_stands f under held slots stands = record {
    size = let s = stands.size in let l : live_size gs under ≤ length slots = omega arith in grind (arith, length-take);
    holds = λ c x e. only_leaves (live gs under) c.root x.ctype (dropped (length under) held c) (slice_index_or (take (live_size gs under) slots) x.at empty)
        (λ leaf. by_root c x e leaf (of_frame (length under) c.root) refl);
    nothing = λ c e. by_height c e (of_frame (length under) c.root) refl;
  }
    where
      by_root : (c : Cell) (x : Inside) → slot_of (live gs under) c ≡ Some x → IsLeaf x.ctype → (b : Bool) → of_frame (length under) c.root ≡ b
          → Holds (live gs under) c.root x.ctype (if b then None else held c) (slice_index_or (take (live_size gs under) slots) x.at empty)
      by_root c x e leaf true t = absurd (let w = sym (no_slot under c t) ∙ e in let f : ⊥ = cc in f)
      by_root c x e leaf false t =
          let in_take = slot_below (live gs under) (live_size gs under) (live_is_layout gs under) c x e leaf in
          let high = rank_slot under c x e in
          subst (Holds (live gs under) c.root x.ctype (held c)) (sym (get_or-take (live_size gs under) slots x.at empty in_take))
          (holds_by (live gs (f ∷ under)) (live gs under) c.root x.ctype (held c) (slice_index_or slots x.at empty)
          (λ d y l h. kept f under d y (omega arith) h) (stands.holds c x (live_lower f under c t ∙ e)))

      by_height : (c : Cell) → slot_of (live gs under) c ≡ None → (b : Bool) → of_frame (length under) c.root ≡ b
          → (if b then None else held c) ≡ None
      by_height c e true t = refl
      by_height c e false t = stands.nothing c (live_lower f under c t ∙ e)

  -- parameters get what arguments give
  pub entered_stands : (g : FunctionTree) (fs : List FunctionTree) (f : FunctionTree) (params : List MemberTree) (args : List NamedArg)
      → (cs : List Content) (vs : List Slot) (held : Cells) (slots : List Slot) → AreGiven (live gs fs) (length fs) params args cs vs
      → All (HasParam gs g) params → StandsFor (live gs (g ∷ fs)) (live_size gs (g ∷ fs)) held slots
      → StandsFor (live gs (g ∷ fs)) (live_size gs (g ∷ fs)) (entered (length fs) params cs held)
      (flat_entered (live_size gs fs) (paired gs f g params args) vs slots)
  entered_stands g fs f params args cs vs held slots no_params fit stands = stands
  entered_stands g fs f params args cs vs held slots no_args fit stands = stands
  entered_stands g fs f params args cs vs held slots (one_given {p = p} {params = ps} {a = a} {args = rest} {c = c} {cs = ds} {v = v} {vs = ws} like given) fit stands =
      let Q : MemberTree → Type 0 = HasParam gs g in
      let here = All-head Q p ps fit in
      entered_stands g fs f ps rest ds ws (written held (parameter_cell (length fs) p.name) c)
      (slice_set slots (live_size gs fs + slot_or (place_in (objects_of g) p.name 1)) v) given (All-tail Q p ps fit)
      (subst at (sym (ap slot_or here.0.1)) (by_place here.0.0 here.0.1 (parameter_leaf p.ctype here.1)))
    where
      at : ℕ → Type 0
      at n =
          StandsFor (live gs (g ∷ fs)) (live_size gs (g ∷ fs)) (written held (parameter_cell (length fs) p.name) c)
          (slice_set slots (live_size gs fs + n) v)

      by_place : (s : ℕ) → place_in (objects_of g) p.name 1 ≡ Some (inside_at s (plain p.ctype)) → IsLeaf (plain p.ctype) → at s
      by_place s e leaf =
          let root = local_root (length fs) p.name 1 in
          let there = frame_lives gs g fs root (inside_at s (plain p.ctype)) (eq-eqb (length fs) (length fs) refl) e in
          let slot = root_slot (live gs (g ∷ fs)) root (inside_at (live_size gs fs + s) (plain p.ctype)) there in
          let own = holds_by (live gs fs) (live gs (g ∷ fs)) root (plain p.ctype) (Some c) v (λ d y l h. grown g fs d y h) like in
          content_stands (live gs (g ∷ fs)) (live_size gs (g ∷ fs)) (live_is_layout gs (g ∷ fs)) (parameter_cell (length fs) p.name)
          (inside_at (live_size gs fs + s) (plain p.ctype)) c v held slots slot leaf own stands

  -- a result goes into its temporary
  pub result_stands : (f : FunctionTree) (below : List FunctionTree) (temp : Option ℕ) (r : Option ℤ) (s : Store) (s' : FlatStore)
      → FitsTemp gs f temp → Like gs (f ∷ below) s s'
      → Like gs (f ∷ below) (put_result (length below) temp r s) (flat_result (live_size gs below) (option_map (temp_slot f) temp) r s')
  result_stands f below None r s s' fit like = like
  result_stands f below (Some n) None s s' fit like = like
  result_stands f below (Some n) (Some v) s s' fit like = record {
    input = like.input;
    output = like.output;
    cells = subst at (sym (ap slot_or fit.1)) (number_stands layout count is_layout cell (live_size gs below + fit.0) Int v s.cells s'.cells slot like.cells);
  }
    where
      layout : Layout
      layout = live gs (f ∷ below)

      count : ℕ
      count = live_size gs (f ∷ below)

      cell : Cell
      cell = record { root = temp_root (length below) n; path = [] }

      at : ℕ → Type 0
      at m = StandsFor layout count (written s.cells cell (number v)) (slice_set s'.cells (live_size gs below + m) (holding v))

      is_layout : IsLayout layout count
      is_layout = live_is_layout gs (f ∷ below)

      slot : slot_of layout cell ≡ Some (inside_at (live_size gs below + fit.0) (number_type Int))
      slot =
          let own = eq-eqb (length below) (length below) refl in
          let there = frame_lives gs f below (temp_root (length below) n) (inside_at fit.0 (number_type Int)) own fit.1 in
          root_slot layout (temp_root (length below) n) (inside_at (live_size gs below + fit.0) (number_type Int)) there
