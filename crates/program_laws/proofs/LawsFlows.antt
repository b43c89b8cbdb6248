-- A valid program has what lockstep asks of it.
use Rattle.std.proofs.Common.{◌≡◌, ◌⊎◌, inl, inr, ℤ, List, [], ◌∷◌, true, Option, Some, None, IsTrue, option_map, All, refl, sym, ap, ◌∙◌, subst, bytes_eq}
use Rattle.std.specs.List.{list_any}
use Rattle.std.specs.Ordering.{int_eq}
use Rattle.std.proofs.lemmas.List.Elements.{All-nil, All-cons}
use Rattle.csub_semantics.specs.declared.label.EndRule.{EndRule}
use Rattle.csub_objects.specs.Types.{Name}
use Rattle.csub_semantics.specs.Types.{GlobalTree}
use Rattle.csub_semantics.specs.Globals.{global_of, globals_of, found_first, ordered, label_names}
use Rattle.csub_semantics.specs.Labels.{exits, CallTree, call_of, PointLabel}
use Rattle.csub_semantics.specs.Syntax.{FunctionTree, ProgramTree}
use Rattle.csub_semantics.specs.Points.{PointTree, entry, exit, ExitTree, on_case, on_default}
use Rattle.csub_semantics.specs.Successors.{Way, Node}
use Rattle.csub_semantics.specs.Flows.{start_name, function_nodes, function_of, node_in, node_of, way_in, way_of, cases_of, labelled, flow_of}
use Rattle.csub_validity.specs.Valid.{IsValid}
use Rattle.program_laws.specs.Flows.{entry_label, IsFlow}
use Rattle.program_laws.specs.Numbered.{EdgesHaveNumbers}
use Rattle.program_laws.proofs.Numbered.{edges_have_numbers}
use Rattle.program_laws.proofs.LawsNames.{same_name}
use Rattle.program_laws.proofs.Lists.{passes_found}
use Rattle.program_laws.proofs.LawsStanding.{IsPoint, Stands, label_at, succ_at, cases_at, goes_on, point_is, node_is, entry_is, callee_defined, start_defined}
use Rattle.program_laws.proofs.LawsWays.{AreCases, call_goes_on, exit_ends, leads_by_case, are_cases}
use Rattle.program_laws.proofs.LawsSwitches.{has}

-- a global is the one of its name among these
abbrev IsNamed : List GlobalTree → GlobalTree → Type 0
IsNamed globals g = global_of globals g.name ≡ Some g

-- what is found by a name is the global of that name
found_named : (globals : List GlobalTree) (a : Name) (g : GlobalTree) → global_of globals a ≡ Some g → IsNamed globals g
found_named globals a g e = subst (λ n. global_of globals n ≡ Some g) (sym (same_name g.name a (passes_found (λ (h : GlobalTree). bytes_eq h.name a) globals g e))) e

named_are : (globals : List GlobalTree) (names : List Name) → All (IsNamed globals) (globals_of globals names)
named_are globals [] = All-nil (IsNamed globals)
named_are globals (a ∷ names) = pick (global_of globals a) refl (named_are globals names)
  where
    pick : (o : Option GlobalTree) → global_of globals a ≡ o → All (IsNamed globals) (globals_of globals names) → All (IsNamed globals) (found_first o (globals_of globals names))
    pick None e rest = rest
    pick (Some g) e rest = All-cons (IsNamed globals) g (globals_of globals names) (found_named globals a g e) rest

module _ (P : ProgramTree) (g : Name) (p : PointTree) where
  stands_or_not : Stands P g p ⊎ (node_of (function_of P g) p ≡ None)
  stands_or_not = function (function_of P g) refl
    where
      function : (o : Option FunctionTree) → function_of P g ≡ o → Stands P g p ⊎ (node_of o p ≡ None)
      function None d = inr refl
      function (Some f) d = point (node_in (function_nodes f) p) refl
        where
          point : (o : Option (Node PointTree)) → node_in (function_nodes f) p ≡ o → Stands P g p ⊎ (o ≡ None)
          point None at = inr refl
          point (Some n) at = inl (record { function = f; node = n; defined = d; found = at })

  -- where there is a label there is a point with it
  pub record Labelled (l : PointLabel) : Type 0 where
    pub stands : Stands P g p
    pub is : labelled P.globals stands.node ≡ l

  -- the label of a flow is that of such a point
  pub labelled_at : (l : PointLabel) → (flow_of P).label g p ≡ Some l → Labelled l
  labelled_at l e = pick stands_or_not
    where
      pick : Stands P g p ⊎ (node_of (function_of P g) p ≡ None) → Labelled l
      pick (inl s) = record { stands = s; is = let both : ◌≡◌ {A = Option PointLabel} (Some (labelled P.globals s.node)) (Some l) = sym (label_at P g p s) ∙ e in cc }
      pick (inr n) = let none : ◌≡◌ {A = Option PointLabel} None (Some l) = sym (ap (option_map (labelled P.globals)) n) ∙ e in cc

  -- where there is a way out there is a point with it
  record Leaving (x : ExitTree) : Type 0 where
    stands : Stands P g p
    along : Way PointTree
    is : way_in stands.node.ways x ≡ Some along

  leaving_at : (x : ExitTree) (q : PointTree) → (flow_of P).succ g p x ≡ Some q → Leaving x
  leaving_at x q e = pick stands_or_not
    where
      pick : Stands P g p ⊎ (node_of (function_of P g) p ≡ None) → Leaving x
      pick (inl s) = out (way_in s.node.ways x) refl (sym (succ_at P g p s x) ∙ e)
        where
          out : (o : Option (Way PointTree)) → way_in s.node.ways x ≡ o → option_map (λ (w : Way PointTree). w.to) o ≡ Some q → Leaving x
          out None w e = cc
          out (Some w) is e = record { stands = s; along = w; is = is }
      pick (inr n) = let none : ◌≡◌ {A = Option PointTree} None (Some q) = sym (ap (λ o. option_map (λ (w : Way PointTree). w.to) (way_of o x)) n) ∙ e in cc

module _ (P : ProgramTree) (valid : IsValid P) where
  called : (g : Name) (p : PointTree) (l : PointLabel) (c : CallTree) → (flow_of P).label g p ≡ Some l → call_of l.tree ≡ Some c → (flow_of P).label c.callee entry ≡ Some entry_label
  called g p l c e is =
      let h = labelled_at P g p l e in
      let n = h.stands.node in
      let label : call_of n.label ≡ Some c = ap (λ (m : PointLabel). call_of m.tree) h.is ∙ is in
      let leads = call_goes_on P h.stands.function (IsPoint (function_nodes h.stands.function)) n.point n.label n.ways c (node_is P g p valid h.stands) label in
      entry_is P c.callee (callee_defined P c.callee c leads.0)

  exited : (g : Name) (p : PointTree) (l : PointLabel) (rule : EndRule) → (flow_of P).label g p ≡ Some l → l.tree ≡ exits rule → p ≡ exit
  exited g p l rule e is =
      let h = labelled_at P g p l e in
      let n = h.stands.node in
      let label : n.label ≡ exits rule = ap (λ (m : PointLabel). m.tree) h.is ∙ is in
      sym (point_is P g p valid h.stands) ∙ (exit_ends P h.stands.function (IsPoint (function_nodes h.stands.function)) n.point n.label n.ways rule (node_is P g p valid h.stands) label).0

  cased_at : (g : Name) (p : PointTree) (s : Stands P g p) → AreCases s.node.ways
  cased_at g p s = are_cases P s.function (IsPoint (function_nodes s.function)) s.node.point s.node.label s.node.ways (node_is P g p valid s)

  -- each case value of a switch has its way out
  pub case_leads : (g : Name) (p : PointTree) (v : ℤ) → has v ((flow_of P).cases g p) ≡ true → (q : PointTree) × ((flow_of P).succ g p (on_case v) ≡ Some q)
  case_leads g p v e = pick (stands_or_not P g p)
    where
      pick : Stands P g p ⊎ (node_of (function_of P g) p ≡ None) → (q : PointTree) × ((flow_of P).succ g p (on_case v) ≡ Some q)
      pick (inl s) =
          let leads = leads_by_case P s.function (IsPoint (function_nodes s.function)) s.node.point s.node.label s.node.ways (node_is P g p valid s) v (ap (has v) (sym (cases_at P g p s)) ∙ e) in
          (leads.0.to, goes_on P g p s (on_case v) leads)
      pick (inr n) = let none : has v [] ≡ true = ap (λ o. has v (cases_of o)) (sym n) ∙ e in absurd cc

  -- a valid program has what lockstep asks of it
  pub is_flow : IsFlow (flow_of P)
  is_flow = record {
    starts = entry_is P start_name (start_defined P.functions valid.start);
    called = called;
    leaves = exited;
    cased = λ g p q v e. let h = leaving_at P g p (on_case v) q e in subst (λ vs. IsTrue (list_any (λ w. int_eq w v) vs)) (sym (cases_at P g p h.stands)) ((cased_at g p h.stands).cased v h.along h.is);
    defaulted = λ g p q vs e. let h = leaving_at P g p (on_default vs) q e in (cased_at g p h.stands).defaulted vs h.along h.is ∙ sym (cases_at P g p h.stands);
    named = λ g p l e. let h = labelled_at P g p l e in subst (λ (m : PointLabel). All (IsNamed P.globals) m.globals) h.is (named_are P.globals (ordered [] (label_names h.stands.node.label)));
  }

-- each way out along which a point leads on is an edge with a number
pub edges_numbered : (P : ProgramTree) → EdgesHaveNumbers P
edges_numbered P = edges_have_numbers P
