-- A flat copy is like the tree whose names have places.
use Rattle.std.proofs.lemmas.Bool.{eq-eqb}
use Rattle.std.proofs.lemmas.List.Elements.{All-head, All-tail}
use Rattle.std.proofs.Common.{ℕ, ◌+◌, ◌≡◌, List, [], ◌∷◌, length, All, Bool, true, false, ◌&&◌, nat_eq, Option, Some, None, option_map, bytes_eq, if◌then◌else◌, refl, sym, ◌∙◌, ap, subst}
use Rattle.csub_types.specs.declared.kind.IntKind.{IntKind}
use Rattle.csub_types.specs.declared.kind.IntKind.TheVariants.{Int}
use Rattle.csub_objects.specs.Types.{Name, TypeTree, number_type, array_type, struct_type, loose_type, MemberTrees, no_member, more_members, IsNumber, IsSized}
use Rattle.csub_objects.specs.Types.{element_type, member_type, find_member, find_cell, cells}
use Rattle.csub_objects.specs.Paths.{Inside, inside_at, moved}
use Rattle.csub_semantics.specs.Trees.{NamedPlace, variable, element_place, member_place, NamedExpr, Variable, object, temporary, global_owner, local_owner}
use Rattle.csub_semantics.specs.Trees.{constant, reading, unary_operation, conversion, stepping, operation, conjunction, disjunction, choice}
use Rattle.csub_semantics.specs.Trees.{assignment, update, input_byte, output_byte, formatted, NamedExprs, no_expr, more_exprs}
use Rattle.csub_semantics.specs.Syntax.{LocalTree, FunctionTree}
use Rattle.csub_semantics.specs.Cells.{Root, global_root, local_root, temp_root, type_of, of_frame}
use Rattle.csub_validity.specs.Valid.{objects_of, place_type, IsNumberAt}
use Rattle.csub_flat.specs.Frames.{plain, objects_size, place_in, temporary_place, frame_place}
use Rattle.csub_flat.specs.Trees.{FlatVariable, frame_slot, global_slot, FlatPart, FlatPlace}
use Rattle.csub_flat.specs.Flatten.{slot_or, temp_slot, form_of, part_of, cell_or, element_part, member_part, local_variable, flat_variable, flat_place, flattened, flattened_row}
use Rattle.csub_flat.specs.Fits.{HasPlace, FitsPlace, FitsExpr, FitExprs}
use Rattle.csub_flat.proofs.LawsSized.{part_found, element_sized, member_sized, place_stands}
use Rattle.csub_slots.specs.Layout.{live_size, live}
use Rattle.csub_slots.proofs.Numbered.{unmoved}
use Rattle.csub_slots.proofs.Evals.{LikePlace, like_variable, like_element, like_member, LikeExpr, like_constant, like_reading, like_unary, like_conversion}
use Rattle.csub_slots.proofs.Evals.{like_stepping, like_operation, like_conjunction, like_disjunction, like_choice, like_assignment, like_update, like_input, like_output, like_formatted}
use Rattle.csub_slots.proofs.Evals.{LikeRow, like_none, like_more}
use Rattle.csub_slots.proofs.Memories.{IsWhole, SameVariable, same_frame, same_global, same_reference, SameElement, same_element, same_behind, SameMember, same_member}

module _ (gs : List LocalTree) where
  -- where a root of the top frame is, and where a global is
  pub frame_lives : (f : FunctionTree) (below : List FunctionTree) (r : Root) (x : Inside) → of_frame (length below) r ≡ true
      → frame_place f r ≡ Some x → live gs (f ∷ below) r ≡ Some (inside_at (live_size gs below + x.at) x.ctype)
  frame_lives f below r x t e = ap (λ b. if b then moved (live_size gs below) (frame_place f r) else live gs below r) t ∙ ap (moved (live_size gs below)) e

  global_lives : (fs : List FunctionTree) (a : Name) → live gs fs (global_root a) ≡ place_in gs a 0
  global_lives [] a = refl
  global_lives (f ∷ below) a = global_lives below a

-- what is at a place of a number
number_at : (o : Option TypeTree) → IsNumberAt o → (t : TypeTree) × (o ≡ Some t) × IsNumber t
number_at None n = absurd n
number_at (Some t) n = (t, refl, n)

-- no array parameter is a type that an object may have
plain_whole : (t u : TypeTree) → plain t ≡ plain u → IsWhole t → IsWhole u
plain_whole t (number_type k) e w = tt
plain_whole t (array_type u n) e w = tt
plain_whole t (struct_type tag ms) e w = tt
plain_whole (number_type k) (loose_type u) e w = cc
plain_whole (array_type t n) (loose_type u) e w = cc
plain_whole (struct_type tag ms) (loose_type u) e w = cc
plain_whole (loose_type t) (loose_type u) e w = w

sized_whole : (t : TypeTree) → IsSized t → IsWhole t
sized_whole (number_type k) h = tt
sized_whole (array_type t n) h = tt
sized_whole (struct_type tag ms) h = tt
sized_whole (loose_type t) h = absurd h.arrays

-- what has elements is an array, or an array parameter
array_has : (w t : TypeTree) (u : Unit {0}) → IsWhole t → element_type w ≡ Some t → SameElement w t u (element_part (Some t))
array_has (number_type k) t u h e = cc
array_has (array_type v n) t u h e =
    let is : v ≡ t = cc in subst (λ (x : TypeTree). SameElement (array_type x n) t u (element_part (Some t))) (sym is) (same_element h)
array_has (struct_type tag ms) t u h e = cc
array_has (loose_type v) t u h e =
    let is : v ≡ t = cc in subst (λ (x : TypeTree). SameElement (loose_type x) t u (element_part (Some t))) (sym is) (same_behind h)

-- a member that is found has a first cell
cell_found : (ms : MemberTrees) (a : Name) (t : TypeTree) → find_member a ms ≡ Some t → (k : ℕ) × (find_cell a ms ≡ Some k)
cell_found no_member a t e = cc
cell_found (more_members x u rest) a t e = pick (bytes_eq x a) e (λ g. cell_found rest a t g)
  where
    pick : (b : Bool) → (if b then Some u else find_member a rest) ≡ Some t → (find_member a rest ≡ Some t → (k : ℕ) × (find_cell a rest ≡ Some k))
        → (k : ℕ) × ((if b then Some 0 else option_map (λ n. cells u + n) (find_cell a rest)) ≡ Some k)
    pick true g later = (0, refl)
    pick false g later = let w = later g in (cells u + w.0, ap (option_map (λ n. cells u + n)) w.1)

-- what has members is a struct
struct_has : (w t : TypeTree) (a : Name) → IsWhole t → member_type a w ≡ Some t → SameMember w t a (member_part a (Some w))
struct_has (number_type k) t a h e = cc
struct_has (array_type v n) t a h e = cc
struct_has (struct_type tag ms) t a h e =
    let c = cell_found ms a t e in
    subst (λ (p : FlatPart). SameMember (struct_type tag ms) t a p)
    (sym (ap (λ (o : Option ℕ). part_of (cell_or o) (find_member a ms)) c.1 ∙ ap (part_of c.0) e))
    (same_member c.0 h e c.1)
struct_has (loose_type v) t a h e = cc

-- an object has a type that objects may have
abbrev pub HasSize : LocalTree → Type 0
HasSize g = IsSized g.ctype

-- no global of a program is an array parameter
global_whole : (gs : List LocalTree) (a : Name) (n s : ℕ) (t : TypeTree) → All HasSize gs → place_in gs a n ≡ Some (inside_at s (plain t)) → IsWhole t
global_whole [] a n s t sized e = cc
global_whole (g ∷ rest) a n s t sized e = pick (bytes_eq g.name a && nat_eq g.number n) e (λ k h. global_whole rest a n k t (All-tail HasSize g rest sized) h)
  where
    pick : (b : Bool) → (if b then Some (inside_at 0 (plain g.ctype)) else moved (cells g.ctype) (place_in rest a n)) ≡ Some (inside_at s (plain t))
        → ((k : ℕ) → place_in rest a n ≡ Some (inside_at k (plain t)) → IsWhole t) → IsWhole t
    pick true h later =
        let is : plain g.ctype ≡ plain t = let same : inside_at 0 (plain g.ctype) ≡ inside_at s (plain t) = cc in ap (λ (x : Inside). x.ctype) same in
        plain_whole g.ctype t is (sized_whole g.ctype (All-head HasSize g rest sized))
    pick false h later =
        let u = unmoved (cells g.ctype) (place_in rest a n) (inside_at s (plain t)) h in
        later u.0.at (u.1 ∙ ap (λ (w : TypeTree). let o : Option Inside = Some (inside_at u.0.at w) in o) (sym u.3))

module _ (gs : List LocalTree) (sized : All HasSize gs) (f : FunctionTree) (below : List FunctionTree) where
  abbrev pub Same : TypeTree → Variable → FlatVariable → Type 0
  Same t v v' = SameVariable (live gs (f ∷ below)) (length below) (live_size gs below) t v v'

  global_flat : (a : Name) (t : TypeTree) → (s : ℕ) × (place_in gs a 0 ≡ Some (inside_at s (plain t)))
      → Same t (object (global_owner a) t) (global_slot (slot_or (place_in gs a 0)) (form_of t))
  global_flat a t (s, p) =
      subst (λ (n : ℕ). Same t (object (global_owner a) t) (global_slot n (form_of t))) (sym (ap slot_or p))
      (same_global s (global_whole gs a 0 s t sized p) (global_lives gs (f ∷ below) a ∙ p))

  -- where an object of the frame is
  pub local_lives : (a : Name) (n s : ℕ) (t : TypeTree) → place_in (objects_of f) a n ≡ Some (inside_at s t)
      → live gs (f ∷ below) (local_root (length below) a n) ≡ Some (inside_at (live_size gs below + s) t)
  local_lives a n s t p = frame_lives gs f below (local_root (length below) a n) (inside_at s t) (eq-eqb (length below) (length below) refl) p

  local_at : (a : Name) (n s : ℕ) (t : TypeTree) → place_in (objects_of f) a n ≡ Some (inside_at s (plain t))
      → Same t (object (local_owner a n) t) (local_variable s t)
  local_at a n s (number_type k) p = same_frame s tt (local_lives a n s (plain (number_type k)) p)
  local_at a n s (array_type t m) p = same_frame s tt (local_lives a n s (plain (array_type t m)) p)
  local_at a n s (struct_type tag ms) p = same_frame s tt (local_lives a n s (plain (struct_type tag ms)) p)
  local_at a n s (loose_type t) p = same_reference t s refl (local_lives a n s (loose_type (plain t)) p)

  local_flat : (a : Name) (n : ℕ) (t : TypeTree) → (s : ℕ) × (place_in (objects_of f) a n ≡ Some (inside_at s (plain t)))
      → Same t (object (local_owner a n) t) (local_variable (slot_or (place_in (objects_of f) a n)) t)
  local_flat a n t (s, p) = subst (λ (m : ℕ). Same t (object (local_owner a n) t) (local_variable m t)) (sym (ap slot_or p)) (local_at a n s t p)

  temporary_flat : (n : ℕ) (k : IntKind) → (s : ℕ) × (temporary_place (objects_size (objects_of f)) f.temps n ≡ Some (inside_at s (number_type Int)))
      → Same (number_type k) (temporary n k) (frame_slot (temp_slot f n) (form_of (number_type k)))
  temporary_flat n k (s, p) =
      subst (λ (m : ℕ). Same (number_type k) (temporary n k) (frame_slot m (form_of (number_type k)))) (sym (ap slot_or p))
      (same_frame s tt (frame_lives gs f below (temp_root (length below) n) (inside_at s (number_type Int)) (eq-eqb (length below) (length below) refl) p))

  variable_flat : (v : Variable) → HasPlace gs f v → Same (type_of v) v (flat_variable gs f v)
  variable_flat (object (global_owner a) t) h = global_flat a t h
  variable_flat (object (local_owner a m) t) h = local_flat a m t h
  variable_flat (temporary m k) h = temporary_flat m k h

  abbrev pub LikeCopy : TypeTree → NamedPlace → FlatPlace → Type 0
  LikeCopy t p p' = LikePlace IsNumber Same SameElement SameMember t p p'

  mutual
    pub place_flat : (p : NamedPlace) (t : TypeTree) → FitsPlace gs f p → place_type p ≡ Some t → LikeCopy t p (flat_place gs f p)
    place_flat (variable v) t (h, stands) e =
        let is : type_of v ≡ t = cc in
        subst (λ (x : TypeTree). LikeCopy x (variable v) (variable (flat_variable gs f v))) is (like_variable (variable_flat v h))
    place_flat (element_place u p i) t (h, g) e =
        let w = part_found element_type (place_type p) t e in
        subst (λ (o : Option TypeTree). LikeCopy t (element_place u p i) (element_place (element_part o) (flat_place gs f p) (flattened gs f i))) (sym e)
        (like_element (array_has w.0 t u (sized_whole t (element_sized w.0 t w.2 (place_stands gs f p w.0 h w.1))) w.2) (place_flat p w.0 h w.1) (expr_flat i g))
    place_flat (member_place a p) t h e =
        let w = part_found (member_type a) (place_type p) t e in
        subst (λ (o : Option TypeTree). LikeCopy t (member_place a p) (member_place (member_part a o) (flat_place gs f p))) (sym w.1)
        (like_member (struct_has w.0 t a (sized_whole t (member_sized a w.0 t w.2 (place_stands gs f p w.0 h w.1))) w.2) (place_flat p w.0 h w.1))

    pub expr_flat : (e : NamedExpr) → FitsExpr gs f e → LikeExpr IsNumber Same SameElement SameMember e (flattened gs f e)
    expr_flat (constant k v) h = like_constant
    expr_flat (reading p) (n, h) = let q = number_at (place_type p) n in like_reading q.2 (place_flat p q.0 h q.1)
    expr_flat (unary_operation op k a) h = like_unary (expr_flat a h)
    expr_flat (conversion k a) h = like_conversion (expr_flat a h)
    expr_flat (stepping op p) (n, h) = let q = number_at (place_type p) n in like_stepping q.2 (place_flat p q.0 h q.1)
    expr_flat (operation op k a b) (h, g) = like_operation (expr_flat a h) (expr_flat b g)
    expr_flat (conjunction a b) (h, g) = like_conjunction (expr_flat a h) (expr_flat b g)
    expr_flat (disjunction a b) (h, g) = like_disjunction (expr_flat a h) (expr_flat b g)
    expr_flat (choice k c a b) (h, g, i) = like_choice (expr_flat c h) (expr_flat a g) (expr_flat b i)
    expr_flat (assignment p e) (n, h, g) = let q = number_at (place_type p) n in like_assignment q.2 (place_flat p q.0 h q.1) (expr_flat e g)
    expr_flat (update p op k e) (n, h, g) = let q = number_at (place_type p) n in like_update q.2 (place_flat p q.0 h q.1) (expr_flat e g)
    expr_flat input_byte h = like_input
    expr_flat (output_byte e) h = like_output (expr_flat e h)
    expr_flat (formatted pieces es) (few, h) = like_formatted (row_flat es h)

    row_flat : (es : NamedExprs) → FitExprs gs f es → LikeRow IsNumber Same SameElement SameMember es (flattened_row gs f es)
    row_flat no_expr h = like_none
    row_flat (more_exprs e rest) (h, g) = like_more (expr_flat e h) (row_flat rest g)
