-- What stands in a graph at a number.
use Rattle.std.proofs.Common.{◌≡◌, Bool, true, false, cond, List, [], ◌∷◌, ◌∙◌, zero, suc, arith, map, refl, ap, sym, subst, ℕ, ◌+◌, ◌-◌, ◌<◌, ◌≤◌, length, get_or, Option, Some, None, bytes_eq}
use Rattle.std.specs.List.{slice_get, find, sum_by}
use Rattle.std.specs.Option.{option_map, option_and_then}
use Rattle.std.proofs.lemmas.List.{length-map}
use Rattle.std.proofs.lemmas.List.Sums.{sum_by-cons}
use Rattle.std.proofs.lemmas.Simd.{map-map}
use Rattle.std.proofs.lemmas.Option.{slice_get-map, slice_get_within, same_Some, slice_get-get_or}
use Rattle.csub_semantics.specs.declared.types.GlobalVar.{GlobalVar}
use Rattle.csub_objects.specs.Types.{Name}
use Rattle.csub_semantics.specs.Globals.{named_globals}
use Rattle.csub_semantics.specs.Labels.{label_tree}
use Rattle.csub_semantics.specs.Points.{PointTree, entry, exit, point_tree, ExitTree, exit_tree, exit_eq}
use Rattle.csub_semantics.specs.Syntax.{FunctionTree, ProgramTree}
use Rattle.csub_semantics.specs.Successors.{Way}
use Rattle.csub_semantics.specs.Flows as flows
use Rattle.csub_semantics.specs.Flows.{PlacedNode, point_list, Edge, edge_list, labelled, flow_of}
use Rattle.csub_semantics.specs.Numbers.{Site, site, site_of, site_at, edge_at, name_at}
use Rattle.flow_graph.specs.declared.node.GraphWay.{GraphWay}
use Rattle.flow_graph.specs.declared.node.GraphPoint.{GraphPoint}
use Rattle.flow_graph.specs.declared.node.GraphFunction.{GraphFunction}
use Rattle.flow_graph.specs.Graph.{Tables, NamedPoint, NamedFunction, way_at, point_at, function_at, way_of, point_of, function_of, way_count, edge_count, point_count, function_count, IsGraphOf, firsts_of, sources_of, source_at}
use Rattle.flow_graph.proofs.LawsLists.{find-map, Made, made_of}
use Rattle.flow_graph.proofs.LawsPlaces.{found, point_placed, site_one, edges_counted}
use Rattle.program_laws.proofs.LawsNames.{same_exit}
use Rattle.program_laws.proofs.LawsWays.{found_by_exit, ways_differ}
use Rattle.flow_graph.proofs.EdgePlaces.{edge_place, firsts-length, sources-length, source}

-- an element that was read
pub at_read : {A : Type 0} (xs : List A) (n : ℕ) (x : A) → n < length xs → x ≡ get_or xs n x → slice_get xs n ≡ Some x
at_read xs n x h e = slice_get-get_or xs n x h ∙ ap Some (sym e)

pub read_point : {gs : List GlobalVar} (t : Tables) (fs : List GraphFunction) (ps : List GraphPoint) (n : ℕ) (p : GraphPoint) → (fs, ps, gs) ≡ t → n < point_count t → p ≡ get_or ps n p → slice_get t.1 n ≡ Some p
read_point t fs ps n p v h e = ap (λ (x : Tables). slice_get x.1 n) (sym v) ∙ at_read ps n p (subst (λ (x : Tables). n < length x.1) (sym v) h) e

pub read_function : {gs : List GlobalVar} (t : Tables) (fs : List GraphFunction) (ps : List GraphPoint) (n : ℕ) (f : GraphFunction) → (fs, ps, gs) ≡ t → n < function_count t → f ≡ get_or fs n f → slice_get t.0 n ≡ Some f
read_function t fs ps n f v h e = ap (λ (x : Tables). slice_get x.0 n) (sym v) ∙ at_read fs n f (subst (λ (x : Tables). n < length x.0) (sym v) h) e

-- an element at a place of a list
pub some_at : {A : Type 0} (xs : List A) (i : ℕ) → i < length xs → (x : A) × (slice_get xs i ≡ Some x)
some_at [] i h = absurd (omega arith)
some_at (x ∷ xs) zero h = (x, refl)
some_at (x ∷ xs) (suc i) h = some_at xs i (omega arith)

-- an edge by its source point, as the tables tell it
pub record EdgeRead (t : Tables) (k from : ℕ) : Type 0 where
  pub first : ℕ
  pub index : ℕ
  pub point : GraphPoint
  pub is_point : slice_get t.1 from ≡ Some point
  pub is_first : slice_get (firsts_of t.1 0) from ≡ Some first
  pub is_edge : first + index ≡ k
  pub within : index < way_count point

pub source_read : (t : Tables) (k from : ℕ) → slice_get (sources_of t.1 0) k ≡ Some from → EdgeRead t k from
source_read t k from there =
    let at_source = source t.1 0 0 k from there in
    let same : from ≡ at_source.place = at_source.is_from ∙ omega arith in
    let edge = at_source.is_edge in
    record {
      first = at_source.first;
      index = at_source.index;
      point = at_source.point;
      is_point = ap (slice_get t.1) same ∙ at_source.is_point;
      is_first = ap (slice_get (firsts_of t.1 0)) same ∙ at_source.is_first;
      is_edge = omega arith;
      within = at_source.within;
    }

pub edge_read : {gs : List GlobalVar} (t : Tables) (fs : List GraphFunction) (ps : List GraphPoint) (sources : List ℕ) (k from : ℕ) → (fs, ps, gs) ≡ t → sources ≡ sources_of ps 0 → k < edge_count t → from ≡ get_or sources k from → EdgeRead t k from
edge_read t fs ps sources k from v is h e =
    let long : length sources ≡ edge_count t = ap length is ∙ sources-length ps 0 ∙ ap edge_count v in
    let within : k < length sources = omega arith in
    source_read t k from (sym (ap (λ l. slice_get l k) (is ∙ ap (λ (x : Tables). sources_of x.1 0) v)) ∙ at_read sources k from within e)

-- the same edge, by what was read of it
pub record EdgeAt (t : Tables) (k from first : ℕ) (p : GraphPoint) : Type 0 where
  pub not_before : first ≤ k
  pub within : k - first < way_count p

pub edge_within : (t : Tables) (k from first : ℕ) (p : GraphPoint) → EdgeRead t k from → slice_get t.1 from ≡ Some p → slice_get (firsts_of t.1 0) from ≡ Some first → EdgeAt t k from first p
edge_within t k from first p r e f =
    let same_first = same_Some r.first first (sym r.is_first ∙ f) in
    let same_count = ap way_count (same_Some r.point p (sym r.is_point ∙ e)) in
    let edge = r.is_edge in
    let within = r.within in
    record { not_before = omega arith; within = omega arith }

module _ (P : ProgramTree) (t : Tables) (g : IsGraphOf t P) where
  -- the program has a point at each number of the graph
  pub point_made : (n : ℕ) (p : GraphPoint) → slice_get t.1 n ≡ Some p → Made point_of (slice_get (point_list P) n) (point_at P p)
  point_made n p e =
      made_of point_of (slice_get (point_list P) n) (point_at P p)
      (sym (slice_get-map point_of (point_list P) n) ∙ sym (ap (λ l. slice_get l n) g.points) ∙ slice_get-map (point_at P) t.1 n ∙ ap (option_map (point_at P)) e)

  pub point_is : (n : ℕ) (p : GraphPoint) (m : PlacedNode) → slice_get t.1 n ≡ Some p → slice_get (point_list P) n ≡ Some m → point_at P p ≡ point_of m
  point_is n p m e h =
      let made = point_made n p e in
      sym (ap point_of (same_Some m made.value (sym h ∙ made.is)) ∙ made.gives)

  pub function_looked : (n : ℕ) (p : GraphPoint) (s : Site) → slice_get t.1 n ≡ Some p → site_at P n ≡ Some s → name_at P p.function ≡ Some s.function
  function_looked n p s e h =
      let m = made_of site_of (slice_get (point_list P) n) s h in
      ap (λ (d : NamedPoint). d.function) (point_is n p m.value e m.is) ∙ ap (λ (x : Site). Some x.function) m.gives

  pub point_looked : (n : ℕ) (p : GraphPoint) (s : Site) → slice_get t.1 n ≡ Some p → site_at P n ≡ Some s → point_tree p.node.point ≡ s.point
  point_looked n p s e h =
      let m = made_of site_of (slice_get (point_list P) n) s h in
      ap (λ (d : NamedPoint). d.node.point) (point_is n p m.value e m.is) ∙ ap (λ (x : Site). x.point) m.gives

  pub label_looked : (n : ℕ) (p : GraphPoint) (s : Site) → slice_get t.1 n ≡ Some p → site_at P n ≡ Some s → (flow_of P).label s.function s.point ≡ Some (record { tree = label_tree p.node.label; globals = named_globals P.globals (label_tree p.node.label) })
  label_looked n p s e h =
      let m = made_of site_of (slice_get (point_list P) n) s h in
      ap (λ (x : Site). (flow_of P).label x.function x.point) (sym m.gives)
      ∙ ap (option_map (labelled P.globals)) (found P.functions n m.value g.valid.distinct m.is)
      ∙ ap (λ l. Some (record { tree = l; globals = named_globals P.globals l })) (sym (ap (λ (d : NamedPoint). d.node.label) (point_is n p m.value e m.is)))

  ways_led : (f : Name) (o : Option GraphWay) (u : Option (Way PointTree)) → option_map (way_at P) o ≡ option_map (way_of f) u → option_and_then (site_at P) (option_map (λ w. w.to) o) ≡ option_map (site f) (option_map (λ w. w.to) u)
  ways_led f None None e = refl
  ways_led f None (Some v) e = absurd cc
  ways_led f (Some w) None e = absurd cc
  ways_led f (Some w) (Some v) e = ap (λ (x : Way (Option Site)). x.to) (same_Some (way_at P w) (way_of f v) e)

  -- a way out by its exit label
  ways_same : (p : GraphPoint) (m : PlacedNode) (x : ExitTree) → point_at P p ≡ point_of m → option_map (way_at P) (find (λ w. exit_eq (exit_tree w.exit) x) p.node.ways.items) ≡ option_map (way_of m.function) (find (λ w. exit_eq w.exit x) m.node.ways)
  ways_same p m x is =
      let test = λ (w : Way (Option Site)). exit_eq w.exit x in
      sym (find-map (way_at P) test p.node.ways.items)
      ∙ ap (λ (d : NamedPoint). find test d.node.ways) is
      ∙ find-map (way_of m.function) test m.node.ways

  succ_is : (n : ℕ) (m : PlacedNode) (x : ExitTree) → slice_get (point_list P) n ≡ Some m → (flow_of P).succ m.function m.node.point x ≡ option_map (λ w. w.to) (find (λ w. exit_eq w.exit x) m.node.ways)
  succ_is n m x h = ap (λ o. option_map (λ (w : Way PointTree). w.to) (flows.way_of o x)) (found P.functions n m g.valid.distinct h)

  pub follow_looked : (n : ℕ) (p : GraphPoint) (s : Site) (o : Option GraphWay) (x : ExitTree) → slice_get t.1 n ≡ Some p → o ≡ find (λ w. exit_eq (exit_tree w.exit) x) p.node.ways.items → site_at P n ≡ Some s → option_and_then (site_at P) (option_map (λ w. w.to) o) ≡ option_map (site s.function) ((flow_of P).succ s.function s.point x)
  follow_looked n p s o x e is h =
      let m = made_of site_of (slice_get (point_list P) n) s h in
      let same = ap (option_map (way_at P)) is ∙ ways_same p m.value x (point_is n p m.value e m.is) in
      ways_led m.value.function o (find (λ w. exit_eq w.exit x) m.value.node.ways) same
      ∙ ap (option_map (site m.value.function)) (sym (succ_is n m.value x m.is))
      ∙ ap (λ (y : Site). option_map (site y.function) ((flow_of P).succ y.function y.point x)) m.gives

  -- functions
  pub function_is : (n : ℕ) (f : GraphFunction) → slice_get t.0 n ≡ Some f → Made function_of (slice_get P.functions n) (function_at P f)
  function_is n f e =
      made_of function_of (slice_get P.functions n) (function_at P f)
      (sym (slice_get-map function_of P.functions n) ∙ sym (ap (λ l. slice_get l n) g.functions) ∙ slice_get-map (function_at P) t.0 n ∙ ap (option_map (function_at P)) e)

  pub name_looked : (n : ℕ) (f : GraphFunction) → slice_get t.0 n ≡ Some f → name_at P n ≡ Some f.name
  name_looked n f e =
      let h = function_is n f e in
      ap (option_map (λ (x : FunctionTree). x.name)) h.is ∙ ap (λ (x : NamedFunction). Some x.name) h.gives

  pub start_looked : (n : ℕ) (f : GraphFunction) (h : Name) → slice_get t.0 n ≡ Some f → name_at P n ≡ Some h → site_at P f.start ≡ Some (site h entry)
  start_looked n f h e k =
      let is = function_is n f e in
      let name = same_Some f.name h (sym (name_looked n f e) ∙ k) in
      sym (ap (λ (x : NamedFunction). x.start) is.gives) ∙ ap (λ x. Some (site x entry)) (ap (λ (x : NamedFunction). x.name) is.gives ∙ name)

  pub exit_looked : (n : ℕ) (f : GraphFunction) (h : Name) → slice_get t.0 n ≡ Some f → name_at P n ≡ Some h → site_at P f.exit ≡ Some (site h exit)
  exit_looked n f h e k =
      let is = function_is n f e in
      let name = same_Some f.name h (sym (name_looked n f e) ∙ k) in
      sym (ap (λ (x : NamedFunction). x.exit) is.gives) ∙ ap (λ x. Some (site x exit)) (ap (λ (x : NamedFunction). x.name) is.gives ∙ name)

  names_same : map (λ (f : GraphFunction). f.name) t.0 ≡ map (λ (f : FunctionTree). f.name) P.functions
  names_same =
      sym (map-map (λ (x : NamedFunction). x.name) (function_at P) t.0) ∙ ap (map (λ (x : NamedFunction). x.name)) g.functions ∙ map-map (λ (x : NamedFunction). x.name) function_of P.functions

  named : (o : Option ℕ) → option_and_then (name_at P) o ≡ option_map (λ (f : GraphFunction). f.name) (option_and_then (slice_get t.0) o)
  named None = refl
  named (Some n) =
      sym (slice_get-map (λ (f : FunctionTree). f.name) P.functions n) ∙ sym (ap (λ l. slice_get l n) names_same) ∙ slice_get-map (λ (f : GraphFunction). f.name) t.0 n

  pub find_looked : (o : Option ℕ) (name : Name) → option_and_then (slice_get t.0) o ≡ find (λ f. bytes_eq f.name name) t.0 → option_and_then (name_at P) o ≡ option_map (λ g. g.name) (flows.function_of P name)
  find_looked o name e =
      named o
      ∙ ap (option_map (λ (f : GraphFunction). f.name)) e
      ∙ sym (find-map (λ (f : GraphFunction). f.name) (λ n. bytes_eq n name) t.0)
      ∙ ap (find (λ n. bytes_eq n name)) names_same
      ∙ find-map (λ (f : FunctionTree). f.name) (λ n. bytes_eq n name) P.functions

  -- edges
  counts_same : map way_count t.1 ≡ map (λ m. length m.node.ways) (point_list P)
  counts_same =
      counted t.1
      ∙ ap (map (λ (d : NamedPoint). length d.node.ways)) g.points
      ∙ counted' (point_list P)
    where
      counted : (ps : List GraphPoint) → map way_count ps ≡ map (λ (d : NamedPoint). length d.node.ways) (map (point_at P) ps)
      counted [] = refl
      counted (p ∷ ps) = ap (λ n. n ∷ map way_count ps) (sym (length-map p.node.ways.items (way_at P))) ∙ ap (λ l. length (map (way_at P) p.node.ways.items) ∷ l) (counted ps)

      counted' : (ms : List PlacedNode) → map (λ (d : NamedPoint). length d.node.ways) (map point_of ms) ≡ map (λ (m : PlacedNode). length m.node.ways) ms
      counted' [] = refl
      counted' (m ∷ ms) = ap (λ n. n ∷ map (λ (d : NamedPoint). length d.node.ways) (map point_of ms)) (length-map m.node.ways (way_of m.function)) ∙ ap (λ l. length m.node.ways ∷ l) (counted' ms)

  -- an edge of the graph is one of the program
  pub record EdgeIs (n i k : ℕ) (p : GraphPoint) (w : GraphWay) : Type 0 where
    pub node : PlacedNode
    pub taken : Way PointTree
    pub is_node : slice_get (point_list P) n ≡ Some node
    pub is_way : slice_get node.node.ways i ≡ Some taken
    pub same : point_of node ≡ point_at P p
    pub same_way : way_of node.function taken ≡ way_at P w
    pub edge : edge_at P k ≡ Some (record { function = node.function; from = node.node.point; exit = taken.exit })

  pub edge_is : (n i first k : ℕ) (p : GraphPoint) (w : GraphWay) → slice_get t.1 n ≡ Some p → slice_get (firsts_of t.1 0) n ≡ Some first → slice_get p.node.ways.items i ≡ Some w → first + i ≡ k → EdgeIs n i k p w
  edge_is n i first k p w e f h s =
      let m = point_made n p e in
      let node = m.value in
      let v =
      made_of (way_of node.function) (slice_get node.node.ways i) (way_at P w)
      (sym (slice_get-map (way_of node.function) node.node.ways i) ∙ ap (λ (d : NamedPoint). slice_get d.node.ways i) m.gives ∙ slice_get-map (way_at P) p.node.ways.items i ∙ ap (option_map (way_at P)) h) in
      let x : Edge = record { function = node.function; from = node.node.point; exit = v.value.exit } in
      let of = λ (u : Way PointTree). let y : Edge = record { function = node.function; from = node.node.point; exit = u.exit } in y in
      let there = slice_get-map of node.node.ways i ∙ ap (option_map of) v.is in
      let at_k : first + i ≡ 0 + k = omega arith in
      record {
        node = node;
        taken = v.value;
        is_node = m.is;
        is_way = v.is;
        same = m.gives;
        same_way = v.gives;
        edge = edge_place t.1 (point_list P) 0 n i first k p node x counts_same f m.is at_k there;
      }

  -- what is told of an edge
  pub record EdgeLooked (n : ℕ) (w : GraphWay) (e : Edge) : Type 0 where
    pub from : site_at P n ≡ Some (site e.function e.from)
    pub exit : exit_tree w.exit ≡ e.exit
    pub to : site_at P w.to ≡ option_map (site e.function) ((flow_of P).succ e.function e.from e.exit)

  pub edge_looked : (n i first k : ℕ) (p : GraphPoint) (w : GraphWay) (e : Edge) → slice_get t.1 n ≡ Some p → slice_get (firsts_of t.1 0) n ≡ Some first → slice_get p.node.ways.items i ≡ Some w → first + i ≡ k → edge_at P k ≡ Some e → EdgeLooked n w e
  edge_looked n i first k p w e a f h s edge =
      let is = edge_is n i first k p w a f h s in
      let node = is.node in
      let v = is.taken in
      let mine : Edge = record { function = node.function; from = node.node.point; exit = v.exit } in
      let same = same_Some mine e (sym is.edge ∙ edge) in
      let placed = point_placed P.functions n node is.is_node in
      let first_found = found_by_exit node.node.ways (ways_differ P g.valid placed.place placed.function placed.there placed.index node.node placed.node) i v is.is_way in
      record {
        from = ap (option_map site_of) is.is_node ∙ ap (λ (x : Edge). Some (site x.function x.from)) same;
        exit = sym (ap (λ (x : Way (Option Site)). x.exit) is.same_way) ∙ ap (λ (x : Edge). x.exit) same;
        to =
            sym (ap (λ (x : Way (Option Site)). x.to) is.same_way)
            ∙ ap (λ o. option_map (site node.function) (option_map (λ (u : Way PointTree). u.to) o)) (sym first_found)
            ∙ ap (option_map (site node.function)) (sym (succ_is n node v.exit is.is_node))
            ∙ ap (λ (x : Edge). option_map (site x.function) ((flow_of P).succ x.function x.from x.exit)) same;
      }

  passes : {A : Type 0} (test : A → Bool) (xs : List A) (x : A) → find test xs ≡ Some x → test x ≡ true
  passes test [] x e = absurd cc
  passes test (y ∷ xs) x e = by (test y) refl (passes test xs x) e
    where
      by : (b : Bool) → test y ≡ b → (find test xs ≡ Some x → test x ≡ true) → cond b (Some y) (find test xs) ≡ Some x → test x ≡ true
      by true t later e = ap test (sym (same_Some y x e)) ∙ t
      by false t later e = later e

  pub number_looked : (n i first k : ℕ) (p : GraphPoint) (w : GraphWay) (s : Site) (x : ExitTree) → slice_get t.1 n ≡ Some p → slice_get (firsts_of t.1 0) n ≡ Some first → slice_get p.node.ways.items i ≡ Some w → slice_get p.node.ways.items i ≡ find (λ w. exit_eq (exit_tree w.exit) x) p.node.ways.items → first + i ≡ k → site_at P n ≡ Some s → edge_at P k ≡ option_map (λ q. record { function = s.function; from = s.point; exit = x }) ((flow_of P).succ s.function s.point x)
  number_looked n i first k p w s x a f h is_first at_k is_site =
      let is = edge_is n i first k p w a f h at_k in
      let node = is.node in
      let v = is.taken in
      let exits : v.exit ≡ x = ap (λ (y : Way (Option Site)). y.exit) is.same_way ∙ same_exit (exit_tree w.exit) x (passes (λ (u : GraphWay). exit_eq (exit_tree u.exit) x) p.node.ways.items w (sym is_first ∙ h)) in
      let there = made_of (way_of node.function) (find (λ u. exit_eq u.exit x) node.node.ways) (way_at P w) (sym (ways_same p node x (sym is.same)) ∙ ap (option_map (way_at P)) (sym is_first ∙ h)) in
      let succ = succ_is n node x is.is_node ∙ ap (option_map (λ (u : Way PointTree). u.to)) there.is in
      let same = same_Some (site_of node) s (sym (ap (option_map site_of) is.is_node) ∙ is_site) in
      let of = λ (y : Site) (z : ExitTree). let e : Edge = record { function = y.function; from = y.point; exit = z } in e in
      is.edge
      ∙ ap (λ z. Some (of (site_of node) z)) exits
      ∙ ap (option_map (λ (q : PointTree). of (site_of node) x)) (sym succ)
      ∙ ap (λ y. option_map (λ (q : PointTree). of y x) ((flow_of P).succ y.function y.point x)) same

  -- the source of an edge of the graph is the point that has it
  edge_source : (n i k : ℕ) (p : GraphPoint) (w : GraphWay) → EdgeIs n i k p w → source_at P k ≡ site_at P n
  edge_source n i k p w is = ap (option_map (λ (x : Edge). site x.function x.from)) is.edge ∙ sym (ap (option_map site_of) is.is_node)

  source_site : (n i k : ℕ) (p : GraphPoint) (w : GraphWay) (s : Site) → EdgeIs n i k p w → source_at P k ≡ Some s → site_at P n ≡ Some s
  source_site n i k p w s is leaves = sym (edge_source n i k p w is) ∙ leaves

  -- an edge among those of a point leaves it, and each edge that leaves a point is among its own
  pub among_leaves : (n first k : ℕ) (p : GraphPoint) (s : Site) → slice_get t.1 n ≡ Some p → slice_get (firsts_of t.1 0) n ≡ Some first → site_at P n ≡ Some s → first ≤ k → k < first + way_count p → source_at P k ≡ Some s
  among_leaves n first k p s e f at from upto =
      let within : k - first < way_count p = omega arith in
      let way = some_at p.node.ways.items (k - first) within in
      let sum : first + (k - first) ≡ k = omega arith in
      edge_source n (k - first) k p way.0 (edge_is n (k - first) first k p way.0 e f way.1 sum) ∙ at

  pub leaves_among : (n first k : ℕ) (p : GraphPoint) (s : Site) → slice_get t.1 n ≡ Some p → slice_get (firsts_of t.1 0) n ≡ Some first → site_at P n ≡ Some s → source_at P k ≡ Some s → EdgeAt t k n first p
  leaves_among n first k p s e f at leaves =
      let edge = made_of (λ (x : Edge). site x.function x.from) (edge_at P k) s leaves in
      let below = slice_get_within (edge_list P) k edge.value edge.is in
      let counted = edges_counted t P g in
      let long = sources-length t.1 0 in
      let from = some_at (sources_of t.1 0) k (omega arith) in
      let read = source_read t k from.0 from.1 in
      let way = some_at read.point.node.ways.items read.index read.within in
      let at_from = source_site from.0 read.index k read.point way.0 s (edge_is from.0 read.index read.first k read.point way.0 read.is_point read.is_first way.1 read.is_edge) leaves in
      let same = site_one P g.valid from.0 n s at_from at in
      edge_within t k n first p (subst (EdgeRead t k) same read) e f

-- the edges of a point are among all
pub first_within : (ps : List GraphPoint) (e n first : ℕ) (p : GraphPoint) → slice_get (firsts_of ps e) n ≡ Some first → slice_get ps n ≡ Some p → first + way_count p ≤ e + sum_by way_count ps
first_within [] e n first p f h = absurd cc
first_within (q ∷ ps) e zero first p f h =
    let same_first = same_Some e first f in
    let same : way_count q ≡ way_count p = ap way_count (same_Some q p h) in
    let all = sum_by-cons way_count q ps in
    omega arith
first_within (q ∷ ps) e (suc n) first p f h =
    let all = sum_by-cons way_count q ps in
    let later = first_within ps (e + way_count q) n first p f h in
    omega arith

pub read_first : {gs : List GlobalVar} (t : Tables) (fs : List GraphFunction) (ps : List GraphPoint) (firsts : List ℕ) (n first : ℕ) → (fs, ps, gs) ≡ t → firsts ≡ firsts_of ps 0 → n < point_count t → first ≡ get_or firsts n first → slice_get (firsts_of t.1 0) n ≡ Some first
read_first t fs ps firsts n first v is h e =
    let long : length firsts ≡ point_count t = ap length is ∙ firsts-length ps 0 ∙ ap point_count v in
    let within : n < length firsts = omega arith in
    sym (ap (λ l. slice_get l n) (is ∙ ap (λ (x : Tables). firsts_of x.1 0) v)) ∙ at_read firsts n first within e

pub none_made : {A : Type 0} {B : Type 0} {C : Type 0} (f : A → B) (h : A → C) (o : Option A) → None ≡ option_map f o → None ≡ option_map h o
none_made f h None e = refl
none_made f h (Some x) e = absurd cc
