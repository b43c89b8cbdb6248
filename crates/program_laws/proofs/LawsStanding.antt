-- Where a frame may stand: at a point of a function of the program.
use Rattle.std.proofs.Common.{◌≡◌, List, [], ◌∷◌, Bool, true, false, cond, Option, Some, None, option_map, refl, ap, ◌∙◌, bytes_eq}
use Rattle.std.specs.List.{AllByRecursion}
use Rattle.std.proofs.lemmas.List.Elements.{recursion_from_All}
use Rattle.csub_objects.specs.Types.{Name}
use Rattle.csub_semantics.specs.Labels.{enters, CallTree}
use Rattle.csub_semantics.specs.Syntax.{FunctionTree, ProgramTree}
use Rattle.csub_semantics.specs.Points.{PointTree, entry, at, point_eq, ExitTree, next}
use Rattle.csub_semantics.specs.Successors.{Way, Node, way, enter_list}
use Rattle.csub_semantics.specs.Flows.{start_name, to_exit, function_nodes, function_in, function_of, node_in, node_of, way_in, way_of, cases_in, cases_of, labelled, flow_of}
use Rattle.csub_validity.specs.Valid.{IsDefinedAs, AreStmts, no_loop, BeginsWithStart, IsValid}
use Rattle.program_laws.specs.Flows.{entry_label}
use Rattle.program_laws.proofs.Lists.{each_weaker, found_each}
use Rattle.program_laws.proofs.LawsNames.{same_name, same_point, point_itself}
use Rattle.program_laws.proofs.LawsNodes.{IsNode, LeadsBy, function_are}

-- a point is found in a list
pub record IsPoint (ns : List (Node PointTree)) (p : PointTree) : Type 0 where
  pub node : Node PointTree
  pub found : node_in ns p ≡ Some node

one_more : (n : Node PointTree) (ns : List (Node PointTree)) (p : PointTree) → IsPoint ns p → IsPoint (n ∷ ns) p
one_more n ns p h = pick (point_eq n.point p) refl
  where
    pick : (b : Bool) → point_eq n.point p ≡ b → IsPoint (n ∷ ns) p
    pick true e = record { node = n; found = ap (λ b. cond b (Some n) (node_in ns p)) e }
    pick false e = record { node = h.node; found = ap (λ b. cond b (Some n) (node_in ns p)) e ∙ h.found }

-- each point of a list is found there
pub each_found : (ns : List (Node PointTree)) → AllByRecursion (λ (n : Node PointTree). IsPoint ns n.point) ns
each_found [] = tt
each_found (n ∷ ns) = (record { node = n; found = ap (λ b. cond b (Some n) (node_in ns n.point)) (point_itself n.point) }, each_weaker (λ (m : Node PointTree). IsPoint ns m.point) (λ (m : Node PointTree). IsPoint (n ∷ ns) m.point) (λ m h. one_more n ns m.point h) ns (each_found ns))

-- a function of the program has this name, and this point
pub record Stands (P : ProgramTree) (g : Name) (p : PointTree) : Type 0 where
  pub function : FunctionTree
  pub node : Node PointTree
  pub defined : function_of P g ≡ Some function
  pub found : node_in (function_nodes function) p ≡ Some node

module _ (P : ProgramTree) (g : Name) (p : PointTree) where
  -- what the flow of a program says of a point, by what is found
  pub label_at : (s : Stands P g p) → (flow_of P).label g p ≡ Some (labelled P.globals s.node)
  label_at s = ap (λ o. option_map (labelled P.globals) (node_of o p)) s.defined ∙ ap (option_map (labelled P.globals)) s.found

  -- where a way out leads
  pub succ_at : (s : Stands P g p) (x : ExitTree) → (flow_of P).succ g p x ≡ option_map (λ (w : Way PointTree). w.to) (way_in s.node.ways x)
  succ_at s x = ap (λ o. option_map (λ (w : Way PointTree). w.to) (way_of (node_of o p) x)) s.defined ∙ ap (λ o. option_map (λ (w : Way PointTree). w.to) (way_of o x)) s.found

  -- the values of its cases
  pub cases_at : (s : Stands P g p) → (flow_of P).cases g p ≡ cases_in s.node.ways
  cases_at s = ap (λ o. cases_of (node_of o p)) s.defined ∙ ap cases_of s.found

  -- to go on along a way out
  pub goes_on : (s : Stands P g p) (x : ExitTree) (l : LeadsBy (IsPoint (function_nodes s.function)) x s.node.ways) → (flow_of P).succ g p x ≡ Some l.0.to
  goes_on s x l = succ_at s x ∙ ap (option_map (λ (w : Way PointTree). w.to)) l.1

  -- and to stand there
  pub stands_next : (s : Stands P g p) (x : ExitTree) (l : LeadsBy (IsPoint (function_nodes s.function)) x s.node.ways) → Stands P g l.0.to
  stands_next s x l = record { function = s.function; node = l.2.node; defined = s.defined; found = l.2.found }

  module _ (valid : IsValid P) where
    abbrev HasValidBody : FunctionTree → Type 0
    HasValidBody f = AreStmts P f no_loop f.body

    bodies : AllByRecursion HasValidBody P.functions
    bodies = recursion_from_All HasValidBody P.functions valid.bodies

    -- the function that stands there has the name, and the point is this point
    pub name_is : (s : Stands P g p) → s.function.name ≡ g
    name_is s = same_name s.function.name g (found_each (λ (f : FunctionTree). bytes_eq f.name g) HasValidBody P.functions s.function s.defined bodies).1

    pub point_is : (s : Stands P g p) → s.node.point ≡ p
    point_is s = same_point s.node.point p (found_each (λ (n : Node PointTree). point_eq n.point p) (λ (n : Node PointTree). IsPoint (function_nodes s.function) n.point) (function_nodes s.function) s.node s.found (each_found (function_nodes s.function))).1

    -- what the point may be
    pub node_is : (s : Stands P g p) → IsNode P s.function (IsPoint (function_nodes s.function)) s.node.point s.node.label s.node.ways
    node_is s =
        let body = (found_each (λ (f : FunctionTree). bytes_eq f.name g) HasValidBody P.functions s.function s.defined bodies).0 in
        let each = function_are (IsPoint (function_nodes s.function)) P s.function body (each_found (function_nodes s.function)) in
        (found_each (λ (n : Node PointTree). point_eq n.point p) (λ n. IsNode P s.function (IsPoint (function_nodes s.function)) n.point n.label n.ways) (function_nodes s.function) s.node s.found each).0

abbrev entry_node : FunctionTree → Node PointTree
entry_node f = record { point = entry; label = enters; span = f.span; ways = way next (enter_list f.body 0 at to_exit) ∷ [] }

-- a function that is defined
abbrev pub Defined : ProgramTree → Name → Type 0
Defined P g = (f : FunctionTree) × (function_of P g ≡ Some f)

module _ (P : ProgramTree) (g : Name) where
  -- it has an entry, with the label of every entry
  pub at_entry : Defined P g → Stands P g entry
  at_entry d = record { function = d.0; node = entry_node d.0; defined = d.1; found = refl }

  pub entry_is : Defined P g → (flow_of P).label g entry ≡ Some entry_label
  entry_is d = ap (λ o. option_map (labelled P.globals) (node_of o entry)) d.1

  -- a callee that validity asks for is defined, and so is `#start`
  pub callee_defined : (c : CallTree) → IsDefinedAs (function_of P g) c → Defined P g
  callee_defined c h = pick (function_of P g) refl h
    where
      pick : (o : Option FunctionTree) → function_of P g ≡ o → IsDefinedAs o c → Defined P g
      pick None e h = absurd h
      pick (Some f) e h = (f, e)

pub start_defined : (fs : List FunctionTree) → BeginsWithStart fs → (f : FunctionTree) × (function_in fs start_name ≡ Some f)
start_defined [] h = absurd h
start_defined (f ∷ rest) h = (f, ap (λ n. cond (bytes_eq n start_name) (Some f) (function_in rest start_name)) h.name)
