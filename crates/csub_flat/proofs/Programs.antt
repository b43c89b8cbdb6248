-- Functions and points of a valid program by their numbers.
use Rattle.std.proofs.Common.{◌≡◌, ◌≤◌, ◌<◌, ◌+◌, ◌⊎◌, ◌∙◌, Result, Ok, Err, IfOk, ℕ, zero, suc, List, [], ◌∷◌, map, length, get_or, Some, All, inl, inr, refl, ap, sym, subst, arith}
use Rattle.std.specs.List.{slice_get}
use Rattle.std.specs.Option.{option_map}
use Rattle.std.proofs.lemmas.List.Elements.{All-map, at_read}
use Rattle.csub_objects.specs.Types.{Name}
use Rattle.csub_semantics.specs.Types.{global_tree}
use Rattle.csub_semantics.specs.Syntax.{FunctionTree, ProgramTree, ProgramParts, function_tree, program_tree}
use Rattle.csub_semantics.specs.declared.function.Function.{Function}
use Rattle.csub_semantics.specs.Globals.{named_globals}
use Rattle.csub_semantics.specs.Flows.{function_of}
use Rattle.csub_semantics.specs.Numbers.{name_at}
use Rattle.csub_validity.specs.Valid.{IsValid, frame_cells, most_cells}
use Rattle.flow_graph.proofs.LawsPlaces.{function_found}
use Rattle.csub_flat.specs.Frames.{objects_size, frame_size, global_object}
use Rattle.csub_semantics.specs.Labels.{LabelTree, PointLabel}
use Rattle.csub_flat.specs.Sites.{place_of, HasLabel}
use Rattle.program_laws.proofs.LawsFlows.{labelled_at}
use Rattle.csub_flat.specs.Fits.{FitsLabel}
use Rattle.csub_flat.specs.Trees.{FlatLabel}
use Rattle.csub_flat.specs.Copies.{IsFlat, IsCopyAt, first_in}
use Rattle.csub_flat.proofs.LawsOrder.{in_order}
use Rattle.csub_flat.proofs.Standing.{label_fits}
use Rattle.csub_flat.proofs.Objects.{Has, has_all}
use Rattle.csub_flat.proofs.Indexes.{size_globals}
use Rattle.csub_flat.proofs.Slots.{size_cells}

has_at : {X : Type 0} (xs : List X) (i : ℕ) (x : X) → slice_get xs i ≡ Some x → Has xs x
has_at [] i x e = cc
has_at (y ∷ ys) zero x e = inl (let s : y ≡ x = cc in s)
has_at (y ∷ ys) (suc i) x e = inr (has_at ys i x e)

-- an element of a map
pub at_place : {X Y : Type 0} (f : X → Y) (xs : List X) (n : ℕ) (x : X) → n < length xs → x ≡ get_or xs n x → slice_get (map f xs) n ≡ Some (f x)
at_place f [] n x h e = absurd (omega arith)
at_place f (y ∷ xs) zero x h e = ap (λ z. Some (f z)) (sym e)
at_place f (y ∷ xs) (suc n) x h e = at_place f xs n x (omega arith) e

-- the function with a number, whose name is known
pub named_at : (p : ProgramParts) (i : ℕ) (g : Function) (a : Name) → IsValid (program_tree p) → i < length p.functions → g ≡ get_or p.functions i g → name_at (program_tree p) i ≡ Some a → function_of (program_tree p) a ≡ Some (function_tree g)
named_at p i g a valid h e n =
    let P = program_tree p in
    let here = at_place function_tree p.functions i g h e in
    let both : Some (function_tree g).name ≡ Some a = sym (ap (option_map (λ (x : FunctionTree). x.name)) here) ∙ n in
    let same : (function_tree g).name ≡ a = cc in
    ap (function_of P) (sym same) ∙ function_found P.functions i (function_tree g) valid.distinct here

-- a function of a valid program has few slots
pub small_at : (p : ProgramParts) (i : ℕ) (g : Function) → IsValid (program_tree p) → i < length p.functions → g ≡ get_or p.functions i g → frame_size (function_tree g) ≤ 4096
small_at p i g valid h e =
    let fs = map function_tree p.functions in
    let few = has_all (λ (f : FunctionTree). frame_cells f ≤ most_cells) fs valid.frames (function_tree g) (has_at fs i (function_tree g) (at_place function_tree p.functions i g h e)) in
    let same = size_cells (function_tree g) in
    omega arith

-- what stands at a point fits its function
pub point_fits : (P : ProgramTree) (n : ℕ) (f : FunctionTree) (l : LabelTree) → IsValid P → function_of P (place_of P n).function ≡ Some f → HasLabel P n l → FitsLabel P f l
point_fits P n f l valid d h =
    let here = place_of P n in
    let x = labelled_at P here.function here.point (record { tree = l; globals = named_globals P.globals l }) h in
    let function : x.stands.function ≡ f = let both = sym x.stands.defined ∙ d in cc in
    let label : x.stands.node.label ≡ l = ap (λ (y : PointLabel). y.tree) x.is in
    subst (λ (g : FunctionTree). FitsLabel P g l) function (subst (FitsLabel P x.stands.function) label (label_fits P valid here.function here.point x.stands))

pub copied : {A E : Type 0} (seen : A → FlatLabel) (P : ProgramTree) (n : ℕ) (f : FunctionTree) (l : LabelTree) → function_of P (place_of P n).function ≡ Some f → HasLabel P n l → FitsLabel P f l → (r : Result A E) → IfOk r (λ made. IsFlat P f l (seen made)) → IfOk r (λ made. IsCopyAt P n (seen made))
copied seen P n f l d h fit (Ok made) copy = record { function = f; label = l; defined = d; labelled = h; fits = fit; copy = copy }
copied seen P n f l d h fit (Err e) copy = tt

-- one function more
pub most_more : (functions : List Function) (i old new : ℕ) (f : Function) → i < length functions → f ≡ get_or functions i f → ((k : ℕ) (d : Function) → k < i → frame_size (function_tree (get_or functions k d)) ≤ old) → old ≤ new → frame_size (function_tree f) ≤ new
    → (k : ℕ) (d : Function) → k < i + 1 → frame_size (function_tree (get_or functions k d)) ≤ new
most_more functions i old new f inside is before grows fits k d less = pick (in_order k i)
  where
    pick : (k ≡ i) ⊎ (k < i) ⊎ (i < k) → frame_size (function_tree (get_or functions k d)) ≤ new
    pick (inl same) =
        let here : f ≡ get_or functions i d = at_read functions (λ y. f ≡ y) i f inside is refl d in
        subst (λ x. frame_size (function_tree x) ≤ new) (here ∙ ap (λ j. get_or functions j d) (sym same)) fits
    pick (inr (inl l)) = let b = before k d l in omega arith
    pick (inr (inr l)) = absurd (omega arith)

pub most_of_all : (functions : List Function) (i most : ℕ) → length functions ≤ i → ((k : ℕ) (d : Function) → k < i → frame_size (function_tree (get_or functions k d)) ≤ most) → All (λ f. frame_size f ≤ most) (map function_tree functions)
most_of_all functions i most l each = All-map (λ f. frame_size f ≤ most) function_tree functions (λ k d below. each k d (omega arith))

pub size_at : (functions : List Function) (i : ℕ) (g : Function) (most : ℕ) → All (λ f. frame_size f ≤ most) (map function_tree functions) → i < length functions → g ≡ get_or functions i g → frame_size (function_tree g) ≤ most
size_at functions i g most all h e = has_all (λ f. frame_size f ≤ most) (map function_tree functions) all (function_tree g) (has_at (map function_tree functions) i (function_tree g) (at_place function_tree functions i g h e))

pub first_none : (functions : List Function) → length functions ≡ 0 → 0 ≡ first_in (map function_tree functions)
first_none [] h = refl
first_none (f ∷ rest) h = absurd (omega arith)

pub first_some : (functions : List Function) (g : Function) → 0 < length functions → g ≡ get_or functions 0 g → frame_size (function_tree g) ≡ first_in (map function_tree functions)
first_some [] g h e = absurd (omega arith)
first_some (f ∷ rest) g h e = ap (λ (x : Function). frame_size (function_tree x)) e

-- a valid program has few globals
pub few_globals : (p : ProgramParts) → IsValid (program_tree p) → objects_size (map global_object (map global_tree p.globals)) ≤ 65536
few_globals p valid = let few = valid.globals.few in let same = size_globals (map global_tree p.globals) in omega arith
