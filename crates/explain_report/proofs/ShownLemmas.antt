-- Why the facts that are found show the danger of an edge, and why there are such facts.
use Rattle.std.proofs.Common.{◌≡◌, ℕ, ◌<◌, Bool, IsTrue, List, length, get_or, Option, Some, None, option_map, All, refl, sym, ap, ◌∙◌, subst, subst₂, ◌⊎◌, inl, inr, arith}
use Rattle.std.specs.Prelude.{slice_get, MatchOption}
use Rattle.std.proofs.lemmas.List.{length-map}
use Rattle.std.proofs.lemmas.Option.{slice_get_within, slice_get-get_or, same_Some}
use Rattle.csub_objects.specs.Types.{Name}
use Rattle.csub_semantics.specs.Labels.{CallTree, call_of}
use Rattle.csub_semantics.specs.Points.{PointTree, exit, ExitTree}
use Rattle.csub_semantics.specs.Syntax.{FunctionTree, ProgramTree}
use Rattle.csub_semantics.specs.Flows.{Edge, edge_list, point_list, flow_of}
use Rattle.csub_semantics.specs.Numbers.{Site, site, site_of, site_at, edge_at, name_at}
use Rattle.csub_semantics.specs.Books.{SameLabel, Together, CallsAt, Reached, Dangerous, Closed}
use Rattle.csub_semantics.proofs.LawsLabels.{call_or_none}
use Rattle.edge_trace.specs.Rows.{has}
use Rattle.flow_graph.specs.Graph.{Tables, IsGraphOf, point_count, edge_count, function_count, function_at, function_of}
use Rattle.flow_graph.proofs.LawsLists.{made_of}
use Rattle.flow_graph.proofs.LawsPlaces.{points_counted, edges_counted, site_one}
use Rattle.dual_walk.specs.declared.fact.Fact.{Fact}
use Rattle.dual_walk.specs.declared.fact.Why.{Why}
use Rattle.dual_walk.specs.declared.fact.Why.TheVariants.{Start, Step, Call, Over}
use Rattle.call_walk.specs.declared.answer.WalkResult.{WalkResult}
use Rattle.dual_walk.specs.Books.{IsNamed, StepsAlong}
use Rattle.call_walk.specs.Walks.{IsWalk}
use Rattle.dual_walk.specs.Held.{HasPair, IsHeld, IsWithin}
use Rattle.dual_walk.specs.Books.{AreReasoned}
use Rattle.explain_report.specs.Explanations.{ComesBackBy, Shows}
use Rattle.explain_report.specs.Dangers.{AreWithin, AreNamed, ArePartners, LeadsToNone, LeadsToNoneAt, IsEdgeWithin, IsTellable}
use Rattle.call_walk.proofs.LawsWalks.{held_reached, reached_held}
use Rattle.explain_report.proofs.ReachLemmas.{next_held}

-- ---- numbers of a program are numbers of its graph

module _ (g : Tables) (P : ProgramTree) (ok : IsGraphOf g P) where
  site_within : (n : ℕ) (s : Site) → site_at P n ≡ Some s → n < point_count g
  site_within n s e =
      let made = made_of site_of (slice_get (point_list P) n) s e in
      let l = slice_get_within (point_list P) n made.value made.is in
      omega (arith, points_counted g P ok)

  name_within : (f : ℕ) (name : Name) → name_at P f ≡ Some name → f < function_count g
  name_within f name e =
      let made = made_of (λ (h : FunctionTree). h.name) (slice_get P.functions f) name e in
      let l = slice_get_within P.functions f made.value made.is in
      let counted : function_count g ≡ length P.functions = sym (length-map g.0 (function_at P)) ∙ ap length ok.functions ∙ length-map P.functions function_of in
      omega arith

  edge_within : (e : ℕ) (edge : Edge) → edge_at P e ≡ Some edge → e < edge_count g
  edge_within e edge is =
      let l = slice_get_within (edge_list P) e edge is in
      omega (arith, edges_counted g P ok)

module _ (g g' : Tables) (P P' : ProgramTree) (ok : IsGraphOf g P) (ok' : IsGraphOf g' P') where
  named_within : (c : Fact) → IsNamed P P' c → IsWithin g g' c
  named_within c n = record {
    function = name_within g P ok c.function n.name n.function;
    old = site_within g P ok c.old (site n.name n.point) n.old;
    new = site_within g' P' ok' c.new (site n.name n.other) n.new;
  }

  module _ (facts : List Fact) (book : AreReasoned P P' facts) where
    pub reasoned_within : AreWithin g g' facts
    reasoned_within = record { each = λ i c e. named_within c (book.each i c e).named }

    pub reasoned_points : All (λ c. c.new < point_count g') facts
    reasoned_points k d l = (reasoned_within.each k (get_or facts k d) (slice_get-get_or facts k d l)).new

    pub reasoned_tellable : All (IsTellable g) facts
    reasoned_tellable k d l =
        let c = get_or facts k d in
        let x = book.each k c (slice_get-get_or facts k d l) in
        record { function = (reasoned_within.each k c (slice_get-get_or facts k d l)).function; edge = edge c.why _ x.along }
      where
        edge : (why : Why) (earlier : List Fact) → StepsAlong P earlier why → IsEdgeWithin g why
        edge Start earlier h = tt
        edge (Step j e) earlier h = edge_within g P ok e h.2.edge h.2.numbered
        edge (Call j) earlier h = tt
        edge (Over j m) earlier h = tt

-- a walk's facts are a book
pub walk_reasoned : (P P' : ProgramTree) (walked : WalkResult) → IsWalk P P' walked → AreReasoned P P' walked.facts.items
walk_reasoned P P' walked walk = record { each = walk.reasons }

pub reasoned_named : (P P' : ProgramTree) (facts : List Fact) → AreReasoned P P' facts → AreNamed P P' facts
reasoned_named P P' facts book = record { each = λ i c e. (book.each i c e).named }

-- ---- what shows the danger of an edge

module _ (P P' : ProgramTree) (walked : WalkResult) (walk : IsWalk P P' walked) (g g' : Tables) (ok : IsGraphOf g P) (ok' : IsGraphOf g' P')
    (closed : Closed (flow_of P) (flow_of P') (Reached (flow_of P) (flow_of P')) (Dangerous (flow_of P) (flow_of P')))
    (edge : Edge) (danger : Dangerous (flow_of P) (flow_of P') edge.function edge.from edge.exit) (from to : ℕ) (is_from : site_at P from ≡ Some (site edge.function edge.from))
    (is_to : site_at P to ≡ option_map (site edge.function) ((flow_of P).succ edge.function edge.from edge.exit)) (partners : List Bool) (are : ArePartners walked.facts.items to partners) where
  abbrev facts : List Fact
  facts = walked.facts.items

  to_at : site_at P to ≡ Some (site edge.function danger.to)
  to_at = is_to ∙ ap (option_map (site edge.function)) danger.leads

  comes_back : (h : Name) → CallsAt (flow_of P) edge.function edge.from h → IsHeld P P' facts h exit exit
  comes_back h at = reached_held P P' walked walk h exit exit (danger.returns h at)

  -- a fact of the edge's source from which no partner follows
  pub record Parting : Type 0 where
    pub place : ℕ
    pub fact : Fact
    pub stands : slice_get facts place ≡ Some fact
    pub old : fact.old ≡ from
    pub new : site_at P' fact.new ≡ Some (site edge.function danger.other)
    pub leads : LeadsToNone P' partners edge.function danger.other edge.exit

  pub some_parting : Parting
  some_parting =
      let h = reached_held P P' walked walk edge.function edge.from danger.other danger.reached in
      record {
        place = h.place;
        fact = h.fact;
        stands = h.stands;
        old = site_one P ok.valid h.fact.old from (site edge.function edge.from) h.at.old is_from;
        new = h.at.new;
        leads = record { none = none };
      }
    where
      none : (q' : PointTree) (n' : ℕ) → (flow_of P').succ edge.function danger.other edge.exit ≡ Some q' → site_at P' n' ≡ Some (site edge.function q') → IsTrue (has partners n') → ⊥
      none q' n' leads at flagged =
          let pair = (are n').0 flagged in
          let held : IsHeld P P' facts edge.function danger.to q' = record {
            place = pair.place;
            fact = pair.fact;
            stands = pair.stands;
            at = record { old = ap (site_at P) pair.old ∙ to_at; new = ap (site_at P') pair.new ∙ at };
          } in
          danger.none q' leads (closed.same edge.function danger.to q' (held_reached P P' walked walk edge.function danger.to q' held))

  module _ (k : ℕ) (c : Fact) (back : Option ℕ) (stands : slice_get facts k ≡ Some c) (old : c.old ≡ from) (leads : LeadsToNoneAt g' partners c.new edge.exit)
      (comes : MatchOption back ((h : Name) → CallsAt (flow_of P) edge.function edge.from h → IsHeld P P' facts h exit exit → ⊥) (λ place. ComesBackBy P P' facts edge.function edge.from (Some place))) where
    named : IsNamed P P' c
    named = (walk.reasons k c stands).named

    old_at : site_at P c.old ≡ Some (site edge.function edge.from)
    old_at = ap (site_at P) old ∙ is_from

    new_at : site_at P' c.new ≡ Some (site edge.function named.other)
    new_at = named.new ∙ ap (λ (s : Site). Some (site s.function named.other)) (same_Some (site named.name named.point) (site edge.function edge.from) (sym named.old ∙ old_at))

    here : IsHeld P P' facts edge.function edge.from named.other
    here = record { place = k; fact = c; stands = stands; at = record { old = old_at; new = new_at } }

    label : SameLabel (flow_of P) (flow_of P') edge.function edge.from named.other
    label = closed.same edge.function edge.from named.other (held_reached P P' walked walk edge.function edge.from named.other here)

    parts : (q' : PointTree) → (flow_of P').succ edge.function named.other edge.exit ≡ Some q' → SameLabel (flow_of P) (flow_of P') edge.function danger.to q' → ⊥
    parts q' leads' same =
        let both : Together (flow_of P) (flow_of P') edge.function edge.from named.other edge.exit danger.to q' = record { old = danger.leads; new = leads'; same = same } in
        let h = next_held P P' walked walk ok.valid edge.function edge.from named.other danger.to q' edge.exit label.label label.old here comes_back both in
        let is : h.fact.old ≡ to = site_one P ok.valid h.fact.old to (site edge.function danger.to) h.at.old to_at in
        let pair : HasPair facts to h.fact.new = record { place = h.place; fact = h.fact; stands = h.stands; old = is; new = refl } in
        (leads P' edge.function named.other ok' new_at).none q' h.fact.new leads' h.at.new ((are h.fact.new).1 pair)

    returns : (o : Option ℕ) → MatchOption o ((h : Name) → CallsAt (flow_of P) edge.function edge.from h → IsHeld P P' facts h exit exit → ⊥) (λ place. ComesBackBy P P' facts edge.function edge.from (Some place))
        → ComesBackBy P P' facts edge.function edge.from o
    returns None never = pick (call_or_none (call_of label.label.tree))
      where
        pick : ((d : CallTree) × (call_of label.label.tree ≡ Some d)) ⊎ (call_of label.label.tree ≡ None) → ComesBackBy P P' facts edge.function edge.from None
        pick (inl d) =
            let at : CallsAt (flow_of P) edge.function edge.from d.0.callee = record { label = label.label; labelled = label.old; call = d.0; is = d.1; callee = refl } in
            absurd (never d.0.callee at (comes_back d.0.callee at))
        pick (inr none) = record { label = label.label; labelled = label.old; none = none }
    returns (Some place) by = by

    pub shown_by : (other : PointTree) × Shows P P' facts edge k back other
    shown_by = (
      named.other,
      record {
        fact = c;
        stands = stands;
        old = old_at;
        new = new_at;
        to = danger.to;
        leads = danger.leads;
        parts = parts;
        returns = returns back comes;
      },
    )

-- the same, by what the calls that look for the facts give: seen are the facts, marks the partners, and x is the edge's way out
module _ (P P' : ProgramTree) (walked : WalkResult) (walk : IsWalk P P' walked) (g g' : Tables) (ok : IsGraphOf g P) (ok' : IsGraphOf g' P')
    (closed : Closed (flow_of P) (flow_of P') (Reached (flow_of P) (flow_of P')) (Dangerous (flow_of P) (flow_of P')))
    (e : ℕ) (edge : Edge) (numbered : edge_at P e ≡ Some edge) (among : IsTrue (has walked.danger e)) (from to : ℕ) (x : ExitTree) (is_from : site_at P from ≡ Some (site edge.function edge.from)) (exit_is : x ≡ edge.exit)
    (is_to : site_at P to ≡ option_map (site edge.function) ((flow_of P).succ edge.function edge.from edge.exit))
    (seen : List Fact) (same : seen ≡ walked.facts.items) (marks partners : List Bool) (marked : marks ≡ partners) (are : ArePartners seen to partners) where
  dangerous : Dangerous (flow_of P) (flow_of P') edge.function edge.from edge.exit
  dangerous = (walk.danger e edge numbered).0 among

  are_partners : ArePartners walked.facts.items to marks
  are_partners = subst₂ (λ s m. ArePartners s to m) same (sym marked) are

  -- there is a fact of the edge's source from which no partner follows
  pub parting_there : ((i : ℕ) (c : Fact) (Q : ProgramTree) (f : Name) (q : PointTree) → slice_get seen i ≡ Some c → c.old ≡ from → IsGraphOf g' Q → site_at Q c.new ≡ Some (site f q) → LeadsToNone Q marks f q x → ⊥) → ⊥
  parting_there none =
      let h = some_parting P P' walked walk g g' ok ok' closed edge dangerous from to is_from is_to marks are_partners in
      none h.place h.fact P' edge.function dangerous.other (ap (λ s. slice_get s h.place) same ∙ h.stands) h.old ok' h.new (subst (LeadsToNone P' marks edge.function dangerous.other) (sym exit_is) h.leads)

  -- such a fact and that of the callee's exits show the danger
  pub shown_there : (k : ℕ) (back : Option ℕ) → (c : Fact) × (slice_get seen k ≡ Some c) × (c.old ≡ from) × LeadsToNoneAt g' marks c.new x
      → MatchOption back ((h : Name) → CallsAt (flow_of P) edge.function edge.from h → IsHeld P P' seen h exit exit → ⊥) (λ place. ComesBackBy P P' seen edge.function edge.from (Some place))
      → (other : PointTree) × Shows P P' walked.facts.items edge k back other
  shown_there k back found comes =
      shown_by P P' walked walk g g' ok ok' closed edge dangerous from to is_from is_to marks are_partners k found.0 back
      (ap (λ s. slice_get s k) (sym same) ∙ found.1) found.2 (subst (LeadsToNoneAt g' marks found.0.new) exit_is found.3)
      (subst (λ s. MatchOption back ((h : Name) → CallsAt (flow_of P) edge.function edge.from h → IsHeld P P' s h exit exit → ⊥) (λ place. ComesBackBy P P' s edge.function edge.from (Some place))) same comes)

-- the points of facts that are seen
pub points_seen : (g g' : Tables) (whole seen : List Fact) → AreWithin g g' whole → seen ≡ whole → All (λ c. c.new < point_count g') seen
points_seen g g' whole seen within same k d l = (within.each k (get_or seen k d) (ap (λ s. slice_get s k) (sym same) ∙ slice_get-get_or seen k d l)).new
