-- Along each edge that a run crosses its program leads on.
use Rattle.std.proofs.Common.{◌≡◌, ℕ, zero, suc, ◌+◌, ℤ, List, [], ◌∷◌, length, Option, Some, None, refl, subst}
use Rattle.std.specs.Prelude.{slice_get}
use Rattle.std.proofs.lemmas.Option.{same_Some}
use Rattle.csub_semantics.specs.Labels.{CallTree, call_of, PointLabel}
use Rattle.csub_semantics.specs.Points.{PointTree, ExitTree, next}
use Rattle.csub_semantics.specs.Syntax.{ProgramTree}
use Rattle.csub_semantics.specs.Flows.{Flow, Edge, flow_of}
use Rattle.csub_semantics.specs.Numbers.{edge_at}
use Rattle.csub_semantics.specs.Acts.{Store, Outcome, leaves, gives, pushes, pops, ends, act}
use Rattle.csub_semantics.specs.Runs.{Frame, Turn, goes, stops, lost, exit_at, cross, put_result, come_back_to, come_back, pop, follow, turn_at, turn_of, turn, Moment, running, ended, nowhere, after_turn, go_on, after, Results, results_at, run_of}
use Rattle.program_laws.proofs.LawsFlows.{edges_numbered}

-- the edge leads on
pub record Leads (P : Flow) (e : Edge) : Type 0 where
  pub to : PointTree
  pub leads : P.succ e.function e.from e.exit ≡ Some to

abbrev AllLead : Flow → List Edge → Type 0
AllLead P [] = Unit {0}
AllLead P (e ∷ es) = Leads P e × AllLead P es

-- so does the edge that a turn crosses
abbrev TurnLeads : Flow → Turn → Type 0
TurnLeads P (goes None at) = Unit {0}
TurnLeads P (goes (Some e) at) = Leads P e
TurnLeads P (stops t s) = Unit {0}
TurnLeads P lost = Unit {0}

module _ (P : Flow) where
  crossed : (top : Frame) (below : List Frame) (x : ExitTree) (r : Option ℤ) (s : Store) (o : Option PointTree) → P.succ top.function top.point x ≡ o → TurnLeads P (cross top below x r s o)
  crossed top below x r s None is = tt
  crossed top below x r s (Some q) is = record { to = q; leads = is }

  back_to : (f : Frame) (below : List Frame) (r : Option ℤ) (s : Store) (o : Option CallTree) → TurnLeads P (come_back_to f below r s o (P.succ f.function f.point next))
  back_to f below r s None = tt
  back_to f below r s (Some c) = crossed f below next f.result (put_result (length below) c.temp r s) (P.succ f.function f.point next) refl

  back : (f : Frame) (below : List Frame) (r : Option ℤ) (s : Store) (o : Option PointLabel) → TurnLeads P (come_back f below r s o (P.succ f.function f.point next))
  back f below r s None = tt
  back f below r s (Some l) = back_to f below r s (call_of l.tree)

  popped : (frames : List Frame) (r : Option ℤ) (s : Store) → TurnLeads P (pop P frames r s)
  popped [] r s = tt
  popped (f ∷ below) r s = back f below r s (P.label f.function f.point)

  followed : (top : Frame) (below : List Frame) (o : Outcome) → TurnLeads P (follow P top below o)
  followed top below (leaves x r s) = crossed top below x r s (P.succ top.function top.point x) refl
  followed top below (gives v s) =
      let x = exit_at (P.cases top.function top.point) v in crossed top below x top.result s (P.succ top.function top.point x) refl
  followed top below (pushes g s) = tt
  followed top below (pops r s) = popped below r s
  followed top below (ends t s) = tt

  labelled : (top : Frame) (below : List Frame) (s : Store) (o : Option PointLabel) → TurnLeads P (turn_at P top below s o)
  labelled top below s None = tt
  labelled top below s (Some l) = followed top below (act l.tree (length below + 1) top.result s)

  turned : (frames : List Frame) (s : Store) → TurnLeads P (turn_of P frames s)
  turned [] s = tt
  turned (top ∷ below) s = labelled top below s (P.label top.function top.point)

  -- and those that a run has crossed
  abbrev HaveLed : Moment → Type 0
  HaveLed (running es at) = AllLead P es
  HaveLed (ended es n t s) = AllLead P es
  HaveLed nowhere = Unit {0}

  added : (k : ℕ) (es : List Edge) (u : Turn) → AllLead P es → TurnLeads P u → HaveLed (after_turn k es u)
  added k es (goes None at) h l = h
  added k es (goes (Some e) at) h l = (l, h)
  added k es (stops t s) h l = h
  added k es lost h l = tt

  gone_on : (k : ℕ) (m : Moment) → HaveLed m → HaveLed (go_on P k m)
  gone_on k (running es at) h = added k es (turn P at) h (turned at.frames at.store)
  gone_on k (ended es n t s) h = h
  gone_on k nowhere h = tt

  led : (input : List ℕ) (k : ℕ) → HaveLed (after P input k)
  led input zero = tt
  led input (suc k) = gone_on k (after P input k) (led input k)

  in_results : (k : ℕ) (m : Moment) (r : Results) → HaveLed m → results_at k m ≡ Some r → AllLead P r.crossed
  in_results k (running es at) r h is = subst (λ (q : Results). AllLead P q.crossed) (same_Some _ r is) h
  in_results k (ended es n t s) r h is = subst (λ (q : Results). AllLead P q.crossed) (same_Some _ r is) h
  in_results k nowhere r h is = absurd cc

lead_at : (P : Flow) (es : List Edge) (k : ℕ) (e : Edge) → AllLead P es → slice_get es k ≡ Some e → Leads P e
lead_at P [] k e h is = absurd cc
lead_at P (d ∷ es) zero e h is = subst (Leads P) (same_Some d e is) h.0
lead_at P (d ∷ es) (suc k) e h is = lead_at P es k e h.1 is

-- so each edge that a run crosses has a number
pub crossed_numbered : (P : ProgramTree) (input : List ℕ) (budget : ℕ) (r : Results) → run_of (flow_of P) input budget ≡ Some r
    → (k : ℕ) (e : Edge) → slice_get r.crossed k ≡ Some e → (n : ℕ) × (edge_at P n ≡ Some e)
crossed_numbered P input budget r ran k e is =
    let l = lead_at (flow_of P) r.crossed k e (in_results (flow_of P) budget (after (flow_of P) input budget) r (led (flow_of P) input budget) ran) is in
    edges_numbered P e.function e.from l.to e.exit l.leads
