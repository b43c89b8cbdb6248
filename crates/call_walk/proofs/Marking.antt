-- Dangerous edges, marks in a row, and what both make of held facts.
use Rattle.std.proofs.Common.{◌≡◌, ℕ, ◌+◌, ◌<◌, ◌≤◌, List, length, set, Some, None, Bool, true, false, IsTrue, refl, sym, ap, ◌∙◌, subst, subst₂, ◌↔◌, ◌⊎◌, inl, inr, arith, get_or-set_same, get_or-set_other}
use Rattle.std.specs.Prelude.{slice_get}
use Rattle.std.proofs.lemmas.Bool.{cases_lt, cases_eq}
use Rattle.std.proofs.lemmas.Option.{slice_get_within, same_Some}
use Rattle.csub_objects.specs.Types.{Name}
use Rattle.csub_semantics.specs.Labels.{CallTree, call_of, PointLabel}
use Rattle.csub_semantics.specs.Points.{PointTree, exit, ExitTree, next}
use Rattle.csub_semantics.specs.Syntax.{ProgramTree}
use Rattle.csub_semantics.specs.Flows.{Edge, edge_list, flow_of}
use Rattle.csub_semantics.specs.Numbers.{Site, site, edge_at}
use Rattle.csub_semantics.specs.Books.{Together, CallsAt, IsNoCallAt, Reached, Dangerous}
use Rattle.csub_semantics.proofs.LawsLabels.{call_or_none}
use Rattle.csub_validity.specs.Valid.{IsValid}
use Rattle.edge_trace.specs.Rows.{has}
use Rattle.dual_walk.specs.declared.fact.Fact.{Fact}
use Rattle.dual_walk.specs.declared.callees.Callee.{Callee}
use Rattle.dual_walk.specs.Books.{IsNamed, LeavesFrom, AreReasoned}
use Rattle.dual_walk.specs.Held.{AreAt, HasPair, IsHeld}
use Rattle.dual_walk.specs.Callees.{IsCallee}
use Rattle.dual_walk.proofs.LawsReaching.{one_callee, reached_step, reached_over}
use Rattle.dual_walk.proofs.LawsFacts.{book_of, fact_held, held_named, held_reached, held_same, pair_held, held_pair}
use Rattle.call_walk.specs.declared.answer.WalkResult.{WalkResult}
use Rattle.call_walk.specs.Walks.{IsWalk}
use Rattle.call_walk.specs.Danger.{ComesBack, GoesOn, Stops, IsStopped, IsStoppedBefore, Marks}
use Rattle.call_walk.proofs.LawsCalls.{call_leads_by_next}

-- a callee comes back where the pair of its exits has a place
pub back_at : (P P' : ProgramTree) → IsValid P → IsValid P' → (facts : List Fact) (f : Name) (p : PointTree) (k : Callee) → IsCallee P P' f p k → (HasPair facts k.exit.old k.exit.new → ComesBack P P' facts f p) × (ComesBack P P' facts f p → HasPair facts k.exit.old k.exit.new)
back_at P P' valid valid' facts f p k a =
    (λ h g called. subst (λ n. IsHeld P P' facts n exit exit) (one_callee (flow_of P) f p a.name g a.calls called) (pair_held P P' facts k.exit.old k.exit.new a.name exit exit a.numbers.exits h), λ h. held_pair P P' facts k.exit.old k.exit.new a.name exit exit valid valid' a.numbers.exits (h a.name a.calls))

-- the successors are held where their numbers are
pub goes_at : (P P' : ProgramTree) → IsValid P → IsValid P' → (facts : List Fact) (f : Name) (p p' q q' : PointTree) (x : ExitTree) (n n' : ℕ) → (flow_of P).succ f p x ≡ Some q → (flow_of P').succ f p' x ≡ Some q' → AreAt P P' n n' f q q' → (HasPair facts n n' → GoesOn P P' facts f p p' x) × (GoesOn P P' facts f p p' x → HasPair facts n n')
goes_at P P' valid valid' facts f p p' q q' x n n' leads leads' at = (λ h. record { to = q; to' = q'; leads = leads; leads' = leads'; held = pair_held P P' facts n n' f q q' at h }, back)
  where
    back : GoesOn P P' facts f p p' x → HasPair facts n n'
    back g =
        let old : g.to ≡ q = same_Some g.to q (sym g.leads ∙ leads) in
        let new : g.to' ≡ q' = same_Some g.to' q' (sym g.leads' ∙ leads') in
        held_pair P P' facts n n' f q q' valid valid' at (subst₂ (λ a b. IsHeld P P' facts f a b) old new g.held)

-- the same set, said otherwise
pub marks_as : (a d : List Bool) (E F : ℕ → Type 0) → ((e : ℕ) → E e → F e) → ((e : ℕ) → F e → E e) → Marks a d E → Marks a d F
marks_as a d E F to from h = record { sound = λ e x. go e (h.sound e x); kept = h.kept; marked = λ e x. h.marked e (from e x) }
  where
    go : (e : ℕ) → IsTrue (has a e) ⊎ E e → IsTrue (has a e) ⊎ F e
    go e (inl x) = inl x
    go e (inr x) = inr (to e x)

-- one set, and then another
pub marks_then : (a b c : List Bool) (E F : ℕ → Type 0) → Marks a b E → Marks b c F → Marks a c (λ e. E e ⊎ F e)
marks_then a b c E F h k = record { sound = λ e x. go e (k.sound e x); kept = λ e x. k.kept e (h.kept e x); marked = marked_case }
  where
    first : (e : ℕ) → IsTrue (has a e) ⊎ E e → IsTrue (has a e) ⊎ (E e ⊎ F e)
    first e (inl x) = inl x
    first e (inr x) = inr (inl x)

    go : (e : ℕ) → IsTrue (has b e) ⊎ F e → IsTrue (has a e) ⊎ (E e ⊎ F e)
    go e (inl x) = first e (h.sound e x)
    go e (inr x) = inr (inr x)

    marked_case : (e : ℕ) → E e ⊎ F e → IsTrue (has c e)
    marked_case e (inl x) = k.kept e (h.marked e x)
    marked_case e (inr x) = k.marked e x

pub marks_none : (a : List Bool) (E : ℕ → Type 0) → ((e : ℕ) → E e → ⊥) → Marks a a E
marks_none a E no_edge = record { sound = λ e x. inl x; kept = λ e x. x; marked = λ e x. absurd (no_edge e x) }

-- one number
pub marks_one : (a d : List Bool) (edge : ℕ) → edge < length a → d ≡ set a edge true → Marks a d (λ e. e ≡ edge)
marks_one a d edge l is = record {
  sound = λ e x. sound_case e (subst (λ r. IsTrue (has r e)) is x) (cases_eq e edge);
  kept = λ e x. subst (λ r. IsTrue (has r e)) (sym is) (kept_case e x (cases_eq e edge));
  marked = λ e same. subst₂ (λ r n. IsTrue (has r n)) (sym is) (sym same) (get_or-set_same a edge true false l);
}
  where
    sound_case : (e : ℕ) → IsTrue (has (set a edge true) e) → (e ≡ edge) ⊎ (e ≡ edge → ⊥) → IsTrue (has a e) ⊎ (e ≡ edge)
    sound_case e x (inl same) = inr same
    sound_case e x (inr n) = inl (sym (get_or-set_other a edge e true false n) ∙ x)

    kept_case : (e : ℕ) → IsTrue (has a e) → (e ≡ edge) ⊎ (e ≡ edge → ⊥) → IsTrue (has (set a edge true) e)
    kept_case e x (inl same) = subst (λ n. IsTrue (has (set a edge true) n)) (sym same) (get_or-set_same a edge true false l)
    kept_case e x (inr n) = get_or-set_other a edge e true false n ∙ x

module _ (P P' : ProgramTree) (facts : List Fact) where
  -- an edge that leaves a fact's old point and leads on
  pub record Leads (c : Fact) (e : ℕ) : Type 0 where
    pub edge : Edge
    pub numbered : edge_at P e ≡ Some edge
    pub other : PointTree
    pub at : AreAt P P' c.old c.new edge.function edge.from other
    pub to : PointTree
    pub leads : (flow_of P).succ edge.function edge.from edge.exit ≡ Some to

  pub leaves_at : (c : Fact) (e : ℕ) (n : IsNamed P P' c) (l : LeavesFrom P e c.old) → AreAt P P' c.old c.new l.edge.function l.edge.from n.other
  leaves_at c e n l =
      let same : n.name ≡ l.edge.function = ap (λ (s : Site). s.function) (same_Some (site n.name n.point) (site l.edge.function l.edge.from) (sym n.old ∙ l.from)) in
      record { old = l.from; new = n.new ∙ ap (λ f. Some (site f n.other)) same }

  pub stops_yes : (c : Fact) (e : ℕ) (l : Leads c e) → (GoesOn P P' facts l.edge.function l.edge.from l.other l.edge.exit → ⊥) → Stops P P' facts c e
  stops_yes c e l h = record { edge = l.edge; numbered = l.numbered; other = l.other; at = l.at; to = l.to; leads = l.leads; stops = h }

  pub stops_no : (c : Fact) (e : ℕ) (l : Leads c e) → GoesOn P P' facts l.edge.function l.edge.from l.other l.edge.exit → Stops P P' facts c e → ⊥
  stops_no c e l goes s =
      let edge : l.edge ≡ s.edge = same_Some l.edge s.edge (sym l.numbered ∙ s.numbered) in
      let other : l.other ≡ s.other = ap (λ (t : Site). t.point) (same_Some (site l.edge.function l.other) (site s.edge.function s.other) (sym l.at.new ∙ s.at.new)) in
      s.stops (subst₂ (λ (x : Edge) o. GoesOn P P' facts x.function x.from o x.exit) edge other goes)

  -- one more fact
  pub before_more : (n e : ℕ) → IsStoppedBefore P P' facts n e → IsStoppedBefore P P' facts (n + 1) e
  before_more n e h = record { place = h.place; fact = h.fact; before = let b = h.before in omega arith; stands = h.stands; stopped = h.stopped }

  pub before_step : (n : ℕ) (c : Fact) (a d : List Bool) → slice_get facts n ≡ Some c → Marks a d (IsStopped P P' facts c) → ((e : ℕ) → (IsTrue (has a e) → IsStoppedBefore P P' facts n e) × (IsStoppedBefore P P' facts n e → IsTrue (has a e))) → (e : ℕ) → (IsTrue (has d e) → IsStoppedBefore P P' facts (n + 1) e) × (IsStoppedBefore P P' facts (n + 1) e → IsTrue (has d e))
  before_step n c a d stands m so_far e = (λ x. to (m.sound e x), λ h. from h (cases_lt h.place n))
    where
      to : IsTrue (has a e) ⊎ IsStopped P P' facts c e → IsStoppedBefore P P' facts (n + 1) e
      to (inl x) = before_more n e ((so_far e).0 x)
      to (inr s) = record { place = n; fact = c; before = omega arith; stands = stands; stopped = s }

      from : (h : IsStoppedBefore P P' facts (n + 1) e) → (h.place < n) ⊎ (n ≤ h.place) → IsTrue (has d e)
      from h (inl l) = m.kept e ((so_far e).1 (record { place = h.place; fact = h.fact; before = l; stands = h.stands; stopped = h.stopped }))
      from h (inr l) =
          let place : h.place ≡ n = let b = h.before in omega arith in
          let one : h.fact ≡ c = same_Some h.fact c (sym (subst (λ k. slice_get facts k ≡ Some h.fact) place h.stands) ∙ stands) in
          m.marked e (subst (λ f. IsStopped P P' facts f e) one h.stopped)

-- an edge is dangerous exactly where it stops at a fact, if the facts hold every reached pair
module _ (P P' : ProgramTree) (valid : IsValid P) (valid' : IsValid P') (facts : List Fact) (are : AreReasoned P P' facts) (all : (f : Name) (p p' : PointTree) → Reached (flow_of P) (flow_of P') f p p' → IsHeld P P' facts f p p') where
  -- successors with equal labels are reached
  next_reached : (f : Name) (p p' q q' : PointTree) (x : ExitTree) → IsHeld P P' facts f p p' → ComesBack P P' facts f p → Together (flow_of P) (flow_of P') f p p' x q q' → Reached (flow_of P) (flow_of P') f q q'
  next_reached f p p' q q' x h back both =
      let same = held_same P P' facts are valid valid' f p p' h in
      by_label same.label same.old (call_or_none (call_of same.label.tree))
    where
      by_label : (l : PointLabel) → (flow_of P).label f p ≡ Some l → ((c : CallTree) × (call_of l.tree ≡ Some c)) ⊎ (call_of l.tree ≡ None) → Reached (flow_of P) (flow_of P') f q q'
      by_label l e (inl c) =
          let at : CallsAt (flow_of P) f p c.0.callee = record { label = l; labelled = e; call = c.0; is = c.1; callee = refl } in
          let x_next : x ≡ next = call_leads_by_next P valid f p q l c.0 x e c.1 both.old in
          reached_over (flow_of P) (flow_of P') f p p' q q' c.0.callee (held_reached P P' facts are f p p' h) at (held_reached P P' facts are c.0.callee exit exit (back c.0.callee at)) (subst (λ y. Together (flow_of P) (flow_of P') f p p' y q q') x_next both)
      by_label l e (inr none) =
          let plain : IsNoCallAt (flow_of P) f p = record { label = l; labelled = e; none = none } in
          reached_step (flow_of P) (flow_of P') f p p' q q' x (held_reached P P' facts are f p p' h) plain both

  danger_from : (e : ℕ) (edge : Edge) → edge_at P e ≡ Some edge → IsStoppedBefore P P' facts (length facts) e → Dangerous (flow_of P) (flow_of P') edge.function edge.from edge.exit
  danger_from e edge numbered h =
      let s = h.stopped.stops in
      let same : s.edge ≡ edge = same_Some s.edge edge (sym s.numbered ∙ numbered) in
      subst (λ (x : Edge). Dangerous (flow_of P) (flow_of P') x.function x.from x.exit) same (record {
        to = s.to;
        leads = s.leads;
        other = s.other;
        reached = held_reached P P' facts are s.edge.function s.edge.from s.other (here);
        none = λ q' leads' alike. s.stops (record { to = s.to; to' = q'; leads = s.leads; leads' = leads'; held = all s.edge.function s.to q' (next_reached s.edge.function s.edge.from s.other s.to q' s.edge.exit here h.stopped.back (record { old = s.leads; new = leads'; same = alike })) });
        returns = λ g called. held_reached P P' facts are g exit exit (h.stopped.back g called);
      })
    where
      here : IsHeld P P' facts h.stopped.stops.edge.function h.stopped.stops.edge.from h.stopped.stops.other
      here = fact_held P P' facts h.place h.fact h.stopped.stops.edge.function h.stopped.stops.edge.from h.stopped.stops.other h.stands h.stopped.stops.at

  danger_to : (e : ℕ) (edge : Edge) → edge_at P e ≡ Some edge → Dangerous (flow_of P) (flow_of P') edge.function edge.from edge.exit → IsStoppedBefore P P' facts (length facts) e
  danger_to e edge numbered d =
      let h = all edge.function edge.from d.other d.reached in
      record {
        place = h.place;
        fact = h.fact;
        before = slice_get_within facts h.place h.fact h.stands;
        stands = h.stands;
        stopped = record {
          stops = record { edge = edge; numbered = numbered; other = d.other; at = h.at; to = d.to; leads = d.leads; stops = stops };
          back = λ g called. all g exit exit (d.returns g called);
        };
      }
    where
      stops : GoesOn P P' facts edge.function edge.from d.other edge.exit → ⊥
      stops g =
          let old : g.to ≡ d.to = same_Some g.to d.to (sym g.leads ∙ d.leads) in
          d.none g.to' g.leads' (held_same P P' facts are valid valid' edge.function d.to g.to' (subst (λ q. IsHeld P P' facts edge.function q g.to') old g.held))

  pub danger_iff : (e : ℕ) (edge : Edge) → edge_at P e ≡ Some edge → (IsStoppedBefore P P' facts (length facts) e → Dangerous (flow_of P) (flow_of P') edge.function edge.from edge.exit) × (Dangerous (flow_of P) (flow_of P') edge.function edge.from edge.exit → IsStoppedBefore P P' facts (length facts) e)
  danger_iff e edge numbered = (danger_from e edge numbered, danger_to e edge numbered)

-- facts that hold every reached pair, with a row that has the edges at which they stop
pub record IsMarked (P P' : ProgramTree) (facts : List Fact) (row : List Bool) : Type 0 where
  pub reasoned : AreReasoned P P' facts
  pub once : (i j : ℕ) (c d : Fact) → slice_get facts i ≡ Some c → slice_get facts j ≡ Some d → c.old ≡ d.old → c.new ≡ d.new → i ≡ j
  pub all : (f : Name) (p p' : PointTree) → Reached (flow_of P) (flow_of P') f p p' → IsHeld P P' facts f p p'
  pub edges : length row ≡ length (edge_list P)
  pub marked : (e : ℕ) → IsTrue (has row e) ↔ IsStoppedBefore P P' facts (length facts) e

-- are a walk
pub walk_of : (P P' : ProgramTree) → IsValid P → IsValid P' → (facts : List Fact) (result : WalkResult) → result.facts.items ≡ facts → IsMarked P P' facts result.danger → IsWalk P P' result
walk_of P P' valid valid' facts result is h = of (subst (λ l. IsMarked P P' l result.danger) (sym is) h)
  where
    of : IsMarked P P' result.facts.items result.danger → IsWalk P P' result
    of m = record {
      book = book_of P P' result.facts.items m.reasoned;
      reasons = m.reasoned.each;
      once = m.once;
      all = λ f p p' r. held_named P P' result.facts.items m.reasoned f p p' (m.all f p p' r);
      edges = m.edges;
      danger = λ e edge numbered.
          let d = danger_iff P P' valid valid' result.facts.items m.reasoned m.all e edge numbered in
          (λ x. d.0 ((m.marked e).0 x), λ x. (m.marked e).1 (d.1 x));
    }
