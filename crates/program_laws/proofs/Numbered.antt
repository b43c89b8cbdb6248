-- Where a point leads on along a way out, that is an edge of the program's list.
use Rattle.std.proofs.Common.{◌≡◌, ℕ, zero, suc, List, [], ◌∷◌, ◌++◌, ◌⊎◌, inl, inr, map, Bool, true, false, cond, Option, Some, None, find, refl, ap, sym, subst, bytes_eq}
use Rattle.std.specs.Option.{option_map}
use Rattle.std.specs.List.{slice_get, flat_map}
use Rattle.csub_objects.specs.Types.{Name}
use Rattle.csub_semantics.specs.Points.{PointTree, point_eq, ExitTree, exit_eq}
use Rattle.csub_semantics.specs.Syntax.{FunctionTree, ProgramTree}
use Rattle.csub_semantics.specs.Successors.{Way, Node}
use Rattle.csub_semantics.specs.Flows.{function_nodes, placed, points_of, point_list, Edge, edges_from, edge_list, function_of, node_of, node_in, way_of, way_in}
use Rattle.program_laws.proofs.LawsNames.{same_name, same_point, same_exit}
use Rattle.program_laws.specs.Numbered.{EdgesHaveNumbers}

-- x stands in the list
abbrev Has : {X : Type 0} → List X → X → Type 0
Has [] x = ⊥
Has (y ∷ ys) x = (y ≡ x) ⊎ Has ys x

module _ {X : Type 0} where
  has_place : (xs : List X) (x : X) → Has xs x → (k : ℕ) × (slice_get xs k ≡ Some x)
  has_place [] x h = absurd h
  has_place (y ∷ ys) x (inl same) = (zero, ap Some same)
  has_place (y ∷ ys) x (inr there) = let p = has_place ys x there in (suc p.0, p.1)

  has_left : (xs ys : List X) (x : X) → Has xs x → Has (xs ++ ys) x
  has_left [] ys x h = absurd h
  has_left (z ∷ zs) ys x (inl same) = inl same
  has_left (z ∷ zs) ys x (inr there) = inr (has_left zs ys x there)

  has_right : (xs ys : List X) (x : X) → Has ys x → Has (xs ++ ys) x
  has_right [] ys x h = h
  has_right (z ∷ zs) ys x h = inr (has_right zs ys x h)

  has_map : {Y : Type 0} (f : X → Y) (xs : List X) (x : X) → Has xs x → Has (map f xs) (f x)
  has_map f [] x h = absurd h
  has_map f (z ∷ zs) x (inl same) = inl (ap f same)
  has_map f (z ∷ zs) x (inr there) = inr (has_map f zs x there)

  -- what is found is in the list, and passes the test
  has_found : (test : X → Bool) (xs : List X) (x : X) → find test xs ≡ Some x → Has xs x × (test x ≡ true)
  has_found test [] x e = cc
  has_found test (y ∷ ys) x e = pick (test y) refl e (λ g. has_found test ys x g)
    where
      pick : (b : Bool) → test y ≡ b → cond b (Some y) (find test ys) ≡ Some x → (find test ys ≡ Some x → Has ys x × (test x ≡ true)) → Has (y ∷ ys) x × (test x ≡ true)
      pick true t e later = let same : y ≡ x = cc in (inl same, subst (λ z. test z ≡ true) same t)
      pick false t e later = let h = later e in (inr h.0, h.1)

has_flat : {X Y : Type 0} (f : X → List Y) (xs : List X) (x : X) (y : Y) → Has xs x → Has (f x) y → Has (flat_map f xs) y
has_flat f [] x y h g = absurd h
has_flat f (z ∷ zs) x y (inl same) g = has_left (f z) (flat_map f zs) y (subst (λ u. Has (f u) y) (sym same) g)
has_flat f (z ∷ zs) x y (inr there) g = has_right (f z) (flat_map f zs) y (has_flat f zs x y there g)

-- a point of a function of the program is one of the program's points
has_point : (fs : List FunctionTree) (g : FunctionTree) (n : Node PointTree) → Has fs g → Has (function_nodes g) n → Has (points_of fs) (placed g.name n)
has_point [] g n h k = absurd h
has_point (f ∷ rest) g n (inl same) k =
    has_left (map (placed f.name) (function_nodes f)) (points_of rest) (placed g.name n)
    (subst (λ (u : FunctionTree). Has (map (placed u.name) (function_nodes u)) (placed g.name n)) (sym same) (has_map (placed g.name) (function_nodes g) n k))
has_point (f ∷ rest) g n (inr there) k = has_right (map (placed f.name) (function_nodes f)) (points_of rest) (placed g.name n) (has_point rest g n there k)

-- where a way out leads
abbrev leads_to : Option (Way PointTree) → Option PointTree
leads_to o = option_map (λ w. w.to) o

-- the edge with these parts
abbrev edge : Name → PointTree → ExitTree → Edge
edge f p x = record { function = f; from = p; exit = x }

has_edge : (P : ProgramTree) (g : FunctionTree) (n : Node PointTree) (w : Way PointTree) → Has P.functions g → Has (function_nodes g) n → Has n.ways w → Has (edge_list P) (edge g.name n.point w.exit)
has_edge P g n w h k l =
    has_flat edges_from (point_list P) (placed g.name n) (edge g.name n.point w.exit) (has_point P.functions g n h k)
    (has_map (λ (u : Way PointTree). edge g.name n.point u.exit) n.ways w l)

from_way : (P : ProgramTree) (g : FunctionTree) (n : Node PointTree) (o : Option (Way PointTree)) (f : Name) (p q : PointTree) (x : ExitTree) → way_in n.ways x ≡ o → leads_to o ≡ Some q
    → Has P.functions g → Has (function_nodes g) n → g.name ≡ f → n.point ≡ p → Has (edge_list P) (edge f p x)
from_way P g n None f p q x e to h k s t = cc
from_way P g n (Some w) f p q x e to h k s t =
    let found = has_found (λ (w : Way PointTree). exit_eq w.exit x) n.ways w e in
    let u = same_exit w.exit x found.1 in
    let same : edge g.name n.point w.exit ≡ edge f p x = cc in
    subst (Has (edge_list P)) same (has_edge P g n w h k found.0)

from_node : (P : ProgramTree) (g : FunctionTree) (o : Option (Node PointTree)) (f : Name) (p q : PointTree) (x : ExitTree) → node_in (function_nodes g) p ≡ o → leads_to (way_of o x) ≡ Some q
    → Has P.functions g → g.name ≡ f → Has (edge_list P) (edge f p x)
from_node P g None f p q x e to h s = cc
from_node P g (Some n) f p q x e to h s =
    let found = has_found (λ (n : Node PointTree). point_eq n.point p) (function_nodes g) n e in
    from_way P g n (way_in n.ways x) f p q x refl to h found.0 s (same_point n.point p found.1)

from_function : (P : ProgramTree) (o : Option FunctionTree) (f : Name) (p q : PointTree) (x : ExitTree) → function_of P f ≡ o → leads_to (way_of (node_of o p) x) ≡ Some q → Has (edge_list P) (edge f p x)
from_function P None f p q x e to = cc
from_function P (Some g) f p q x e to =
    let found = has_found (λ (g : FunctionTree). bytes_eq g.name f) P.functions g e in
    from_node P g (node_in (function_nodes g) p) f p q x refl to found.0 (same_name g.name f found.1)

pub edges_have_numbers : (P : ProgramTree) → EdgesHaveNumbers P
edges_have_numbers P f p q x e = has_place (edge_list P) (edge f p x) (from_function P (function_of P f) f p q x refl e)
