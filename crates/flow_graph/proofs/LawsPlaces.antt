-- Where the points of a program stand: each at one number, at which it is found by its function's name and its place.
use Rattle.std.proofs.Common.{◌≡◌, Bool, true, false, cond, List, [], ◌∷◌, ◌∙◌, zero, suc, arith, map, length, refl, ap, sym, ℕ, ◌+◌, ◌⊎◌, inl, inr, get_or, Some, ⊎_elim, bytes_eq}
use Rattle.std.specs.Prelude.{◌≢◌, AllPairs}
use Rattle.std.specs.List.{slice_get, range_with_len}
use Rattle.std.proofs.lemmas.List.{length-map}
use Rattle.std.proofs.lemmas.Option.{slice_get-map, slice_get_within, same_Some, slice_get-get_or}
use Rattle.csub_semantics.specs.Points.{PointTree, point_eq}
use Rattle.csub_semantics.specs.Syntax.{FunctionTree, ProgramTree}
use Rattle.csub_semantics.specs.Successors.{Node}
use Rattle.csub_semantics.specs.Flows.{function_nodes, PlacedNode, placed, points_of, point_list, edge_list, function_in, node_in, node_of}
use Rattle.csub_semantics.specs.Numbers.{Site, site_of, site_at}
use Rattle.csub_core.specs.Valid.{IsValid}
use Rattle.program_laws.proofs.LawsNames.{same_name, name_itself, same_point, point_itself}
use Rattle.flow_graph.specs.Graph.{Tables, IsGraphOf, point_count, edge_count, point_at, point_of}
use Rattle.flow_graph.specs.Numbers.{count_function}
use Rattle.flow_graph.proofs.LawsLists.{slice_get_cases_append, range_at, made_of, rest_of}
use Rattle.flow_graph.proofs.Distinct.{number_of, numbers, function_places}
use Rattle.flow_graph.proofs.Whole.{edges_listed}

-- a test that would show what is not so
fails : {P : Type 0} (b : Bool) → (b ≡ true → P) → (P → ⊥) → b ≡ false
fails true f h = absurd (h (f refl))
fails false f h = refl

-- a point of points with rising numbers is found by its name
node_found : (number : PointTree → ℕ) (ns : List (Node PointTree)) (a c k : ℕ) (n : Node PointTree) → numbers number ns ≡ range_with_len a c → slice_get ns k ≡ Some n → node_in ns n.point ≡ Some n
node_found number [] a c k n h e = absurd cc
node_found number (m ∷ ns) a zero k n h e = absurd cc
node_found number (m ∷ ns) a (suc c) zero n h e =
    let same = same_Some m n e in
    ap (λ b. cond b (Some m) (node_in ns n.point)) (ap (λ x. point_eq x.point n.point) same ∙ point_itself n.point) ∙ e
node_found number (m ∷ ns) a (suc c) (suc k) n h e =
    let here = range_at (λ x. number x.point) (m ∷ ns) a (suc c) 0 m h refl in
    let there = range_at (λ x. number x.point) (m ∷ ns) a (suc c) (suc k) n h e in
    let other = fails (point_eq m.point n.point) (λ t. same_point m.point n.point t) (λ same. let clash = ap number same in omega arith) in
    ap (λ b. cond b (Some m) (node_in ns n.point)) other ∙ node_found number ns (a + 1) c k n (ap rest_of h) e

-- where a point of a program stands
pub record IsPointOf (fs : List FunctionTree) (m : PlacedNode) : Type 0 where
  pub place : ℕ
  pub function : FunctionTree
  pub there : slice_get fs place ≡ Some function
  pub name : m.function ≡ function.name
  pub index : ℕ
  pub node : slice_get (function_nodes function) index ≡ Some m.node

-- a point of the list stands in a function
pub point_placed : (fs : List FunctionTree) (n : ℕ) (m : PlacedNode) → slice_get (points_of fs) n ≡ Some m → IsPointOf fs m
point_placed [] n m e = absurd cc
point_placed (f ∷ rest) n m e =
    ⊎_elim
    (λ h. let made = made_of (placed f.name) (slice_get (function_nodes f) n) m (sym (slice_get-map (placed f.name) (function_nodes f) n) ∙ h) in
    record {
      place = 0;
      function = f;
      there = refl;
      name = sym (ap (λ (x : PlacedNode). x.function) made.gives);
      index = n;
      node = made.is ∙ ap (λ (x : PlacedNode). Some x.node) made.gives;
    })
    (λ h. let later = point_placed rest h.0 m h.2 in record { place = suc later.place; function = later.function; there = later.there; name = later.name; index = later.index; node = later.node })
    (slice_get_cases_append (map (placed f.name) (function_nodes f)) (points_of rest) n m e)

-- a function is found by its name
pub function_found : (fs : List FunctionTree) (k : ℕ) (f : FunctionTree) → AllPairs (λ f g. f.name ≢ g.name) fs → slice_get fs k ≡ Some f → function_in fs f.name ≡ Some f
function_found [] k f d e = absurd cc
function_found (g ∷ rest) zero f d e =
    let same = same_Some g f e in
    ap (λ b. cond b (Some g) (function_in rest f.name)) (ap (λ x. bytes_eq x.name f.name) same ∙ name_itself f.name) ∙ e
function_found (g ∷ rest) (suc k) f d e =
    let within = slice_get_within rest k f e in
    let is : get_or rest k f ≡ f = same_Some _ _ (sym (slice_get-get_or rest k f within) ∙ e) in
    let differ = d 0 (suc k) f (omega arith) (omega arith) in
    let other = fails (bytes_eq g.name f.name) (λ t. same_name g.name f.name t) (λ same. differ (same ∙ ap (λ (x : FunctionTree). x.name) (sym is))) in
    let later = function_found rest k f (λ i j x a b. d (suc i) (suc j) x (omega arith) (omega arith)) e in
    ap (λ b. cond b (Some g) (function_in rest f.name)) other ∙ later

-- the very point at a number
pub found : (fs : List FunctionTree) (n : ℕ) (m : PlacedNode) → AllPairs (λ f g. f.name ≢ g.name) fs → slice_get (points_of fs) n ≡ Some m → node_of (function_in fs m.function) m.node.point ≡ Some m.node
found fs n m d e =
    let is = point_placed fs n m e in
    let f = is.function in
    ap (λ x. node_of (function_in fs x) m.node.point) is.name
    ∙ ap (λ o. node_of o m.node.point) (function_found fs is.place f d is.there)
    ∙ node_found (number_of f.body) (function_nodes f) 0 (count_function f) is.index m.node (function_places f) is.node

abbrev Distinct : List FunctionTree → Type 0
Distinct fs = AllPairs (λ f g. f.name ≢ g.name) fs

first_differs : (f : FunctionTree) (rest : List FunctionTree) (n : ℕ) (o : FunctionTree) → Distinct (f ∷ rest) → slice_get rest n ≡ Some o → f.name ≢ o.name
first_differs f rest n o differ t =
    let within = slice_get_within rest n o t in
    let is : get_or rest n o ≡ o = same_Some _ _ (sym (slice_get-get_or rest n o within) ∙ t) in
    λ e. differ 0 (suc n) o (omega arith) (omega arith) (e ∙ sym (ap (λ (x : FunctionTree). x.name) is))

-- the points of a function, and where one of those of a program stands: among them or behind them
abbrev own_points : FunctionTree → List PlacedNode
own_points f = map (placed f.name) (function_nodes f)

abbrev StandsIn : FunctionTree → List FunctionTree → ℕ → PlacedNode → Type 0
StandsIn f rest k x = (slice_get (own_points f) k ≡ Some x) ⊎ ((l : ℕ) × (k ≡ length (own_points f) + l) × (slice_get (points_of rest) l ≡ Some x))

-- no two points of a program are the same
pub points_once : (fs : List FunctionTree) → Distinct fs → (i j : ℕ) (a b : PlacedNode) → slice_get (points_of fs) i ≡ Some a → slice_get (points_of fs) j ≡ Some b → site_of a ≡ site_of b → i ≡ j
points_once [] differ i j a b e g h = absurd cc
points_once (f ∷ rest) differ i j a b e g h =
    step (slice_get_cases_append (own_points f) (points_of rest) i a e) (slice_get_cases_append (own_points f) (points_of rest) j b g)
    (λ k l p q. points_once rest (λ k l x p q. differ (suc k) (suc l) x (omega arith) (omega arith)) k l a b p q h)
  where
    numbered : (k : ℕ) (x : PlacedNode) → slice_get (own_points f) k ≡ Some x → (x.function ≡ f.name) × (number_of f.body x.node.point ≡ k)
    numbered k x t =
        let made = made_of (placed f.name) (slice_get (function_nodes f) k) x (sym (slice_get-map (placed f.name) (function_nodes f) k) ∙ t) in
        let number = range_at (λ n. number_of f.body n.point) (function_nodes f) 0 (count_function f) k made.value (function_places f) made.is in
        (sym (ap (λ (y : PlacedNode). y.function) made.gives), ap (λ (y : PlacedNode). number_of f.body y.node.point) (sym made.gives) ∙ number ∙ omega arith)

    apart : (x y : PlacedNode) (k l : ℕ) → slice_get (own_points f) k ≡ Some x → slice_get (points_of rest) l ≡ Some y → x.function ≡ y.function → ⊥
    apart x y k l t u s =
        let is = point_placed rest l y u in
        first_differs f rest is.place is.function differ is.there (sym (numbered k x t).0 ∙ s ∙ is.name)

    step : StandsIn f rest i a → StandsIn f rest j b → ((k l : ℕ) → slice_get (points_of rest) k ≡ Some a → slice_get (points_of rest) l ≡ Some b → k ≡ l) → i ≡ j
    step (inl t) (inl u) later = sym (numbered i a t).1 ∙ ap (λ (s : Site). number_of f.body s.point) h ∙ (numbered j b u).1
    step (inl t) (inr u) later = absurd (apart a b i u.0 t u.2 (ap (λ (s : Site). s.function) h))
    step (inr t) (inl u) later = absurd (apart b a j t.0 u t.2 (sym (ap (λ (s : Site). s.function) h)))
    step (inr t) (inr u) later = t.1 ∙ ap (λ n. length (own_points f) + n) (later t.0 u.0 t.2 u.2) ∙ sym u.1

-- a valid program has one number for each point
pub site_one : (P : ProgramTree) → IsValid P → (n m : ℕ) (s : Site) → site_at P n ≡ Some s → site_at P m ≡ Some s → n ≡ m
site_one P valid n m s a b =
    let x = made_of site_of (slice_get (point_list P) n) s a in
    let y = made_of site_of (slice_get (point_list P) m) s b in
    points_once P.functions valid.distinct n m x.value y.value x.is y.is (x.gives ∙ sym y.gives)

-- a graph has as many points and edges as its program
pub points_counted : (g : Tables) (P : ProgramTree) → IsGraphOf g P → point_count g ≡ length (point_list P)
points_counted g P h = sym (length-map g.1 (point_at P)) ∙ ap length h.points ∙ length-map (point_list P) point_of

pub edges_counted : (g : Tables) (P : ProgramTree) → IsGraphOf g P → edge_count g ≡ length (edge_list P)
edges_counted g P h = edges_listed P g.1 h.points
