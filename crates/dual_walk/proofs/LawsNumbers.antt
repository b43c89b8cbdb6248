-- What the numbers of a valid program stand for: its points, its ways out, its functions and its labels.
use Rattle.std.proofs.Common.{◌≡◌, ℕ, zero, suc, ◌+◌, ◌<◌, ◌≤◌, List, [], ◌∷◌, length, get_or, Bool, true, false, cond, Option, Some, None, find, option_map, refl, sym, ap, ◌∙◌, subst, subst₂, arith, bytes_eq}
use Rattle.std.specs.Prelude.{◌↔◌, slice_get}
use Rattle.std.specs.List.{flat_map}
use Rattle.std.proofs.lemmas.Option.{slice_get-get_or, slice_get-map, same_Some}
use Rattle.csub_objects.specs.Types.{Name}
use Rattle.csub_semantics.specs.Labels.{CallTree, call_of, PointLabel}
use Rattle.csub_semantics.specs.Points.{PointTree, entry, ExitTree, exit_eq}
use Rattle.csub_semantics.specs.Syntax.{FunctionTree, ProgramTree}
use Rattle.csub_semantics.specs.Successors.{Node, Way}
use Rattle.csub_semantics.specs.Flows.{points_of, point_list, Edge, edges_from, function_of, node_of, way_in, way_of, labelled, flow_of, start_name}
use Rattle.csub_semantics.specs.Numbers.{Site, site, site_of, site_at, edge_at}
use Rattle.csub_semantics.specs.Books.{SameLabel}
use Rattle.csub_validity.specs.Valid.{BeginsWithStart, IsValid}
use Rattle.program_laws.specs.Flows.{entry_label, IsFlow}
use Rattle.program_laws.proofs.LawsNames.{same_name, same_exit}
use Rattle.flow_graph.specs.Graph.{Tables, IsGraphOf, point_count, source_at}
use Rattle.flow_graph.proofs.LawsLists.{slice_get-left, slice_get-right, made_of}
use Rattle.flow_graph.proofs.LawsPlaces.{found, points_counted}
use Rattle.edge_label.specs.Numbers.{KeepsNumbers}
use Rattle.dual_walk.specs.Books.{LeavesFrom}
use Rattle.dual_walk.specs.LabelRows.{IsNumbered, AreNumbered}
use Rattle.dual_walk.specs.Callees.{Defines}
use Rattle.dual_walk.specs.Held.{AreAt}
use Rattle.dual_walk.proofs.LawsLists.{get_some}

-- the numbers of points are those below their count
pub site_within : (g : Tables) (P : ProgramTree) (n : ℕ) → IsGraphOf g P → n < point_count g → (s : Site) × (site_at P n ≡ Some s)
site_within g P n ok within =
    let x = get_some (point_list P) n (subst (λ k. n < k) (points_counted g P ok) within) in
    (site_of x.0, ap (option_map site_of) x.1)

-- the first point is the entry of `#start`
start_site : (fs : List FunctionTree) → BeginsWithStart fs → option_map site_of (slice_get (points_of fs) 0) ≡ Some (site start_name entry)
start_site [] h = absurd h
start_site (f ∷ rest) h = ap (λ n. Some (site n entry)) h.name

pub first_site : (P : ProgramTree) → IsValid P → site_at P 0 ≡ Some (site start_name entry)
first_site P valid = start_site P.functions valid.start

-- a way out has a number
flat_at : {A B : Type 0} (f : A → List B) (xs : List A) (n i : ℕ) (x : A) (y : B) → slice_get xs n ≡ Some x → slice_get (f x) i ≡ Some y → (k : ℕ) × (slice_get (flat_map f xs) k ≡ Some y)
flat_at f [] n i x y e h = absurd cc
flat_at f (z ∷ xs) zero i x y e h = (i, slice_get-left (f z) (flat_map f xs) i y (ap (λ w. slice_get (f w) i) (same_Some z x e) ∙ h))
flat_at f (z ∷ xs) (suc n) i x y e h =
    let r = flat_at f xs n i x y e h in
    (length (f z) + r.0, slice_get-right (f z) (flat_map f xs) (length (f z)) r.0 (length (f z) + r.0) refl refl ∙ r.1)

-- what is found stands in the list, and passes the test
pub found_at : {A : Type 0} (test : A → Bool) (xs : List A) (x : A) → find test xs ≡ Some x → (i : ℕ) × (slice_get xs i ≡ Some x) × (test x ≡ true)
found_at test [] x e = absurd cc
found_at {A} test (y ∷ ys) x e = pick (test y) refl e (found_at test ys x)
  where
    pick : (b : Bool) → test y ≡ b → cond b (Some y) (find test ys) ≡ Some x → (find test ys ≡ Some x → (i : ℕ) × (slice_get ys i ≡ Some x) × (test x ≡ true)) → (i : ℕ) × (slice_get (y ∷ ys) i ≡ Some x) × (test x ≡ true)
    pick true t e rest = (0, e, ap test (sym (same_Some y x e)) ∙ t)
    pick false t e rest = let r = rest e in (suc r.0, r.1, r.2)

-- where a point leads, by its own ways out
own_way : (o : Option (Node PointTree)) (n : Node PointTree) (x : ExitTree) (q : PointTree) → o ≡ Some n → option_map (λ (w : Way PointTree). w.to) (way_of o x) ≡ Some q → option_map (λ (w : Way PointTree). w.to) (way_in n.ways x) ≡ Some q
own_way o n x q is leads = sym (ap (λ a. option_map (λ (w : Way PointTree). w.to) (way_of a x)) is) ∙ leads

pub edge_of : (P : ProgramTree) → IsValid P → (n : ℕ) (f : Name) (p q : PointTree) (x : ExitTree) → site_at P n ≡ Some (site f p) → (flow_of P).succ f p x ≡ Some q → (e : ℕ) × (edge_at P e ≡ Some (record { function = f; from = p; exit = x }))
edge_of P valid n f p q x h leads =
    let m = made_of site_of (slice_get (point_list P) n) (site f p) h in
    let node = m.value in
    let same_name' : node.function ≡ f = ap (λ (s : Site). s.function) m.gives in
    let same_point' : node.node.point ≡ p = ap (λ (s : Site). s.point) m.gives in
    let there : node_of (function_of P f) p ≡ Some node.node = subst₂ (λ a b. node_of (function_of P a) b ≡ Some node.node) same_name' same_point' (found P.functions n node valid.distinct m.is) in
    let w = made_of (λ (w : Way PointTree). w.to) (way_in node.node.ways x) q (own_way (node_of (function_of P f) p) node.node x q there leads) in
    let at = found_at (λ (w : Way PointTree). exit_eq w.exit x) node.node.ways w.value w.is in
    let one_exit : w.value.exit ≡ x = same_exit w.value.exit x at.2 in
    let of = λ (u : Way PointTree). let y : Edge = record { function = node.function; from = node.node.point; exit = u.exit } in y in
    let there_too : slice_get (edges_from node) at.0 ≡ Some (of w.value) = slice_get-map of node.node.ways at.0 ∙ ap (option_map of) at.1 in
    let same : of w.value ≡ record { function = f; from = p; exit = x } = λ i. record { function = same_name' i; from = same_point' i; exit = one_exit i } in
    flat_at edges_from (point_list P) n at.0 node (record { function = f; from = p; exit = x }) m.is (there_too ∙ ap Some same)

-- the point that is an edge's source is the one that it leaves
leaves_from : (P : ProgramTree) (e n : ℕ) (s : Site) → site_at P n ≡ Some s → source_at P e ≡ Some s → LeavesFrom P e n
leaves_from P e n s at source =
    let edge = made_of (λ (x : Edge). site x.function x.from) (edge_at P e) s source in
    record { edge = edge.value; numbered = edge.is; from = at ∙ ap Some (sym edge.gives) }

-- the edges of a point, as the graph gives them: they are those that leave it
module _ (g : Tables) (n start end : ℕ) (edges : (P : ProgramTree) (s : Site) (e : ℕ) → IsGraphOf g P → site_at P n ≡ Some s → ((start ≤ e) × (e < end)) ↔ (source_at P e ≡ Some s)) (P : ProgramTree) (ok : IsGraphOf g P) where
  pub own_leaves : (e : ℕ) → n < point_count g → start ≤ e → e < end → LeavesFrom P e n
  own_leaves e within from upto =
      let at = site_within g P n ok within in
      leaves_from P e n at.0 at.1 ((edges P at.0 e ok at.1).0 (from, upto))

  pub leaves_own : (e : ℕ) → LeavesFrom P e n → (start ≤ e) × (e < end)
  leaves_own e l = (edges P (site l.edge.function l.edge.from) e ok l.from).1 (ap (option_map (λ (x : Edge). site x.function x.from)) l.numbered)

-- a function that has an entry is defined
pub defined_by : (P : ProgramTree) (g : Name) (l : PointLabel) → (flow_of P).label g entry ≡ Some l → Defines P g
defined_by P g l e = pick (function_of P g) refl e
  where
    pick : (o : Option FunctionTree) → function_of P g ≡ o → option_map (labelled P.globals) (node_of o entry) ≡ Some l → Defines P g
    pick None is e = absurd cc
    pick (Some f) is e = record { function = f; is = is }

pub callee_defined : (P : ProgramTree) → IsFlow (flow_of P) → (f : Name) (p : PointTree) (l : PointLabel) (k : CallTree) → (flow_of P).label f p ≡ Some l → call_of l.tree ≡ Some k → Defines P k.callee
callee_defined P ok f p l k e is = defined_by P k.callee entry_label (ok.called f p l k e is)

pub defined_name : (P : ProgramTree) (g : Name) (d : Defines P g) → d.function.name ≡ g
defined_name P g d = same_name d.function.name g (found_at (λ (f : FunctionTree). bytes_eq f.name g) P.functions d.function d.is).2

-- no point is led to
pub leads_none : (P : ProgramTree) (f : Name) (o : Option PointTree) → None ≡ option_map (site f) o → (q : PointTree) → o ≡ Some q → ⊥
leads_none P f o e q is = let both : ◌≡◌ {A = Option Site} None (Some (site f q)) = e ∙ ap (option_map (site f)) is in cc

-- a point is led to
pub record Led (P : ProgramTree) (f : Name) (o : Option PointTree) (n : ℕ) : Type 0 where
  pub to : PointTree
  pub leads : o ≡ Some to
  pub at : site_at P n ≡ Some (site f to)

pub leads_some : (P : ProgramTree) (f : Name) (o : Option PointTree) (n : ℕ) (s : Site) → site_at P n ≡ Some s → site_at P n ≡ option_map (site f) o → Led P f o n
leads_some P f None n s there e = let both : ◌≡◌ {A = Option Site} (Some s) None = sym there ∙ e in absurd (cc)
leads_some P f (Some q) n s there e = record { to = q; leads = refl; at = e }

-- a number stays one of its label
numbered_kept : (book book' : List PointLabel) (g : Tables) (n number : ℕ) → KeepsNumbers book book' → IsNumbered book g n number → IsNumbered book' g n number
numbered_kept book book' g n number keeps h = record { label = h.label; has = keeps number h.label h.has; labelled = h.labelled }

pub row_kept : (book book' : List PointLabel) (row : List ℕ) (g : Tables) → KeepsNumbers book book' → AreNumbered book row g → AreNumbered book' row g
row_kept book book' row g keeps h = record { points = h.points; each = λ n number at. numbered_kept book book' g n number keeps (h.each n number at) }

-- the number that a row has for a point
pub number_at : (book : List PointLabel) (row : List ℕ) (g : Tables) (n : ℕ) → AreNumbered book row g → n < point_count g → IsNumbered book g n (get_or row n 0)
number_at book row g n h within = let points = h.points in h.each n (get_or row n 0) (slice_get-get_or row n 0 (omega (arith, points, within)))

-- two points have one label exactly where those of their numbers are equal
pub same_labels : (g g' : Tables) (book : List PointLabel) (P P' : ProgramTree) (f : Name) (p p' : PointTree) (n n' number number' : ℕ) → IsGraphOf g P → IsGraphOf g' P'
    → AreAt P P' n n' f p p' → (h : IsNumbered book g n number) (h' : IsNumbered book g' n' number') → (h.label ≡ h'.label) ↔ SameLabel (flow_of P) (flow_of P') f p p'
same_labels g g' book P P' f p p' n n' number number' ok ok' at h h' = (
  λ e. record { label = h.label; old = here; new = there ∙ ap Some (sym e) },
  λ same. same_Some h.label same.label (sym here ∙ same.old) ∙ same_Some same.label h'.label (sym same.new ∙ there),
)
  where
    here : (flow_of P).label f p ≡ Some h.label
    here = h.labelled P (site f p) ok at.old

    there : (flow_of P').label f p' ≡ Some h'.label
    there = h'.labelled P' (site f p') ok' at.new
