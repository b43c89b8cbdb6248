-- No turn of a valid program is lost.
use Rattle.std.proofs.Common.{◌≡◌, ◌≢◌, ℕ, zero, suc, ◌+◌, ℤ, List, [], ◌∷◌, length, Option, Some, IsSome, refl, sym, ap, ◌∙◌, subst}
use Rattle.csub_semantics.specs.declared.label.EndRule.{EndRule}
use Rattle.csub_semantics.specs.declared.label.EndRule.TheVariants.{Start}
use Rattle.csub_objects.specs.Types.{Name}
use Rattle.csub_semantics.specs.Labels.{CallTree, call_of}
use Rattle.csub_semantics.specs.Syntax.{ProgramTree}
use Rattle.csub_semantics.specs.Points.{PointTree, entry, ExitTree, next}
use Rattle.csub_semantics.specs.Flows.{Flow, Edge, start_name, end_rule, function_of, function_nodes, cases_in, flow_of}
use Rattle.csub_semantics.specs.Acts.{Store, Outcome, leaves, gives, pushes, pops, ends, act}
use Rattle.csub_semantics.specs.Runs.{Frame, Turn, goes, stops, lost, cross, put_result, come_back, come_back_to, pop, exit_at, follow, turn_at, turn_of, turn, Moment, running, ended, nowhere, after_turn, go_on, after, results_at}
use Rattle.csub_validity.specs.Valid.{IsDefinedAs, IsValid}
use Rattle.program_laws.specs.Outcomes.{Fits}
use Rattle.program_laws.specs.Lost.{NeverLost, HasResults}
use Rattle.program_laws.proofs.LawsNodes.{LeadsBy}
use Rattle.program_laws.proofs.LawsOutcomes.{fits, gives_by_switch, pushes_by_call, pops_by_exit}
use Rattle.program_laws.proofs.LawsStanding.{IsPoint, Stands, label_at, cases_at, goes_on, stands_next, name_is, node_is, at_entry, callee_defined, start_defined}
use Rattle.program_laws.proofs.LawsWays.{call_goes_on, exit_ends, leads_on, chooses_on}

module _ (P : ProgramTree) (valid : IsValid P) where
  -- the flow of the program
  abbrev pub F : Flow
  F = flow_of P

  -- where the points of a function lead
  abbrev pub Among : (g : Name) (p : PointTree) → Stands P g p → PointTree → Type 0
  Among g p s = IsPoint (function_nodes s.function)

  -- a call at a point: its callee is defined, and control goes on behind it
  called_at : (g : Name) (p : PointTree) (s : Stands P g p) (c : CallTree) → call_of s.node.label ≡ Some c → IsDefinedAs (function_of P c.callee) c × LeadsBy (Among g p s) next s.node.ways
  called_at g p s c is = call_goes_on P s.function (Among g p s) s.node.point s.node.label s.node.ways c (node_is P g p valid s) is

  -- a frame that waits for the function above it stands at a call
  pub record WaitsAt (f : Frame) : Type 0 where
    pub stands : Stands P f.function f.point
    pub call : CallTree
    pub calls_it : call_of stands.node.label ≡ Some call

  -- below a frame of a function: frames that wait, and below the lowest, which is of `#start`, none
  abbrev pub Waits : List Frame → Name → Type 0
  Waits [] g = g ≡ start_name
  Waits (f ∷ below) g = WaitsAt f × Waits below f.function

  -- the frames of a run that goes on: all stand at points of their functions
  abbrev pub AreReady : List Frame → Type 0
  AreReady [] = ⊥
  AreReady (f ∷ below) = Stands P f.function f.point × Waits below f.function

  -- a turn that isn't lost leaves such frames
  abbrev pub Keeps : Turn → Type 0
  Keeps (goes c at) = AreReady at.frames
  Keeps (stops t s) = Unit {0}
  Keeps lost = ⊥

  crosses : (top : Frame) (below : List Frame) (x : ExitTree) (r : Option ℤ) (t : Store) (s : Stands P top.function top.point) → LeadsBy (Among top.function top.point s) x s.node.ways → Waits below top.function → Keeps (cross top below x r t (F.succ top.function top.point x))
  crosses top below x r t s l w = subst (λ o. Keeps (cross top below x r t o)) (sym (goes_on P top.function top.point s x l)) (stands_next P top.function top.point s x l, w)

  -- a frame that waits goes on behind its call
  comes_back : (f : Frame) (below : List Frame) (r : Option ℤ) (t : Store) → WaitsAt f → Waits below f.function → Keeps (come_back f below r t (F.label f.function f.point) (F.succ f.function f.point next))
  comes_back f below r t h w =
      let along = F.succ f.function f.point next in
      subst (λ o. Keeps (come_back f below r t o along)) (sym (label_at P f.function f.point h.stands))
      (subst (λ call. Keeps (come_back_to f below r t call along)) (sym h.calls_it)
      (crosses f below next f.result (put_result (length below) h.call.temp r t) h.stands (called_at f.function f.point h.stands h.call h.calls_it).1 w))

  popped : (g : Name) (below : List Frame) (r : Option ℤ) (t : Store) → (g ≢ start_name) → Waits below g → Keeps (pop F below r t)
  popped g [] r t other w = absurd (other w)
  popped g (f ∷ below) r t other w = comes_back f below r t w.0 w.1

  module _ (top : Frame) (below : List Frame) (s : Stands P top.function top.point) (w : Waits below top.function) where
    pushed : (g : Name) (t : Store) → Fits s.node.label (pushes g t) → Keeps (follow F top below (pushes g t))
    pushed g t fit =
        let by = pushes_by_call s.node.label g t fit in
        let callee = callee_defined P by.0.callee by.0 (called_at top.function top.point s by.0 by.1).0 in
        (subst (λ n. Stands P n entry) (sym by.2) (at_entry P by.0.callee callee), (record { stands = s; call = by.0; calls_it = by.1 }, w))

    -- a frame of `#start` is never popped
    not_start : (rule : EndRule) → rule ≡ end_rule s.function.name s.function.result → (rule ≢ Start) → top.function ≢ start_name
    not_start rule is other e =
        let name : s.function.name ≡ start_name = name_is P top.function top.point valid s ∙ e in
        other (is ∙ ap (λ n. end_rule n s.function.result) name)

    pops_on : (r : Option ℤ) (t : Store) → Fits s.node.label (pops r t) → Keeps (pop F below r t)
    pops_on r t fit =
        let by = pops_by_exit s.node.label r t fit in
        let ends = exit_ends P s.function (Among top.function top.point s) s.node.point s.node.label s.node.ways by.0 (node_is P top.function top.point valid s) by.1 in
        popped top.function below r t (not_start by.0 ends.1 by.2) w

    -- a switch leads on by its value's case, or by Default
    chosen : (v : ℤ) (t : Store) → Fits s.node.label (gives v t) → Keeps (follow F top below (gives v t))
    chosen v t fit =
        let by = gives_by_switch s.node.label v t fit in
        let leads = chooses_on P s.function (Among top.function top.point s) s.node.point s.node.label s.node.ways by.0 (node_is P top.function top.point valid s) by.1 v in
        subst (λ vs. Keeps (cross top below (exit_at vs v) top.result t (F.succ top.function top.point (exit_at vs v)))) (sym (cases_at P top.function top.point s))
        (crosses top below (exit_at (cases_in s.node.ways) v) top.result t s leads w)

    followed : (o : Outcome) → Fits s.node.label o → Keeps (follow F top below o)
    followed (leaves x r t) fit =
        crosses top below x r t s (leads_on P s.function (Among top.function top.point s) s.node.point s.node.label s.node.ways x r t (node_is P top.function top.point valid s) fit) w
    followed (gives v t) fit = chosen v t fit
    followed (pushes g t) fit = pushed g t fit
    followed (pops r t) fit = pops_on r t fit
    followed (ends u t) fit = tt

  pub turn_keeps : (frames : List Frame) (t : Store) → AreReady frames → Keeps (turn_of F frames t)
  turn_keeps [] t h = absurd h
  turn_keeps (top ∷ below) t h =
      subst (λ o. Keeps (turn_at F top below t o)) (sym (label_at P top.function top.point h.0))
      (followed top below h.0 h.1 (act h.0.node.label (length below + 1) top.result t) (fits h.0.node.label (length below + 1) top.result t))

  -- and so does a moment that isn't nowhere
  abbrev pub Stays : Moment → Type 0
  Stays (running es at) = AreReady at.frames
  Stays (ended es n u t) = Unit {0}
  Stays nowhere = ⊥

  turned : (k : ℕ) (es : List Edge) (u : Turn) → Keeps u → Stays (after_turn k es u)
  turned k es (goes c at) h = h
  turned k es (stops u t) h = tt
  turned k es lost h = h

  gone_on : (k : ℕ) (m : Moment) → Stays m → Stays (go_on F k m)
  gone_on k (running es at) h = turned k es (turn F at) (turn_keeps at.frames at.store h)
  gone_on k (ended es n u t) h = tt
  gone_on k nowhere h = h

  -- at every moment of a run all frames stand where they may
  pub stays : (input : List ℕ) (k : ℕ) → Stays (after F input k)
  stays input zero = (at_entry P start_name (start_defined P.functions valid.start), refl)
  stays input (suc k) = gone_on k (after F input k) (stays input k)

  pub never : NeverLost P
  never input k e = subst Stays e (stays input k)

  result_at : (k : ℕ) (m : Moment) → Stays m → IsSome (results_at k m)
  result_at k (running es at) h = refl
  result_at k (ended es n u t) h = refl
  result_at k nowhere h = absurd h

  pub has_results : HasResults P
  has_results input budget = result_at budget (after F input budget) (stays input budget)
