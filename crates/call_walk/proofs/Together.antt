-- Over a closed claim both runs go in lockstep.
use Rattle.std.proofs.Common.{◌≡◌, ℕ, zero, suc, ◌+◌, List, [], ◌∷◌, Option, Some, None, refl, sym, ap, ◌∙◌, subst, subst₂}
use Rattle.std.specs.List.{AllZip}
use Rattle.std.proofs.lemmas.List.Elements.{All-head, All-tail}
use Rattle.csub_semantics.specs.declared.status.Status.{Status}
use Rattle.csub_semantics.specs.declared.status.Status.TheVariants.{Turns}
use Rattle.csub_objects.specs.Types.{Name}
use Rattle.csub_semantics.specs.Points.{entry}
use Rattle.csub_semantics.specs.Flows.{Flow, Edge, start_name}
use Rattle.csub_semantics.specs.Acts.{Store}
use Rattle.csub_semantics.specs.Runs.{Standing, Turn, goes, stops, lost, turn, Moment, running, ended, nowhere, crossing, after_turn, go_on, opening, after, Results, results_at, run_of}
use Rattle.csub_semantics.specs.Books.{Closed, IsImage}
use Rattle.program_laws.specs.Flows.{IsFlow}
use Rattle.call_walk.specs.Shared.{shared, Agree}
use Rattle.call_walk.specs.Lockstep.{Claim, Edges, CrossesNone, AlikeFrame, Alike, Beside, Lockstep, SameResults, SameRuns}
use Rattle.call_walk.proofs.Turns.{Both, olds, news, Joint, old_standing, new_standing, Waits, Ready, Misses, AreImages, GoesBeside, Match, Respects, turn_both}

module _ (P P' : Flow) (ok : IsFlow P) (ok' : IsFlow P') (C : Claim) (E : Edges) (closed : Closed P P' C E) where
  abbrev A : Store → Store → Type 0
  A s s' = Agree (shared P P') s s'

  module _ (keeps : Respects P P' A) where
    alike_below : (g : Name) (bs : List Both) → Waits P C E A g bs → AllZip (AlikeFrame C) (olds bs) (news bs)
    alike_below g [] w = tt
    alike_below g (b ∷ bs) w = (record { function = refl; result = refl; pair = w.0 }, alike_below b.function bs w.2)

    alike_all : (bs : List Both) → Ready P C E A bs → AllZip (AlikeFrame C) (olds bs) (news bs)
    alike_all [] r = absurd r
    alike_all (b ∷ bs) r = (record { function = refl; result = refl; pair = r.0 }, alike_below b.function bs r.1)

    split : (c : Option Edge) (es : List Edge) → CrossesNone E (crossing c es) → CrossesNone E es × Misses P C E A c
    split None es h = (h, tt)
    split (Some e) es h = (All-tail (λ d. E d.function d.from d.exit → ⊥) e es h, All-head (λ d. E d.function d.from d.exit → ⊥) e es h)

    more_images : (c c' : Option Edge) (es es' : List Edge) → AreImages P C E A c c' → AllZip (IsImage C) es es' → AllZip (IsImage C) (crossing c es) (crossing c' es')
    more_images None None es es' i h = h
    more_images None (Some e) es es' i h = absurd i
    more_images (Some e) None es es' i h = absurd i
    more_images (Some e) (Some e') es es' i h = (i, h)

    module _ (input : List ℕ) where
      -- both runs after k turns, where the old one goes on
      record At (k : ℕ) (es : List Edge) (at : Standing) : Type 0 where
        joint : Joint
        crossed : List Edge
        old : at ≡ old_standing joint
        runs : after P' input k ≡ running crossed (new_standing joint)
        ready : Ready P C E A joint.stack
        alike : A joint.old joint.new
        images : AllZip (IsImage C) es crossed

      -- what the next turns do
      match_at : (k : ℕ) (es : List Edge) (at : Standing) (a : At k es at) (t : Turn) → turn P at ≡ t → Match P C E A t (turn P' (new_standing a.joint))
      match_at k es at a t e =
          subst (λ u. Match P C E A u (turn P' (new_standing a.joint))) (ap (turn P) (sym a.old) ∙ e)
          (turn_both P P' ok ok' C E closed A keeps a.joint.stack a.joint.old a.joint.new a.alike a.ready)

      goes_at : (k : ℕ) (es : List Edge) (at : Standing) → At k es at → (c : Option Edge) (at1 : Standing) → turn P at ≡ goes c at1 → Misses P C E A c → At (suc k) (crossing c es) at1
      goes_at k es at a c at1 e miss = build (match_at k es at a (goes c at1) e miss)
        where
          build : GoesBeside P C E A c at1 (turn P' (new_standing a.joint)) → At (suc k) (crossing c es) at1
          build f = record {
            joint = f.joint;
            crossed = crossing f.image a.crossed;
            old = f.old;
            runs = ap (go_on P' k) a.runs ∙ ap (after_turn k a.crossed) f.new;
            ready = f.ready;
            alike = f.alike;
            images = more_images c f.image es a.crossed f.is_image a.images;
          }

      first : At zero [] (opening P input)
      first = record {
        joint = record { stack = record { function = start_name; old = entry; new = entry; result = None } ∷ []; old = (opening P input).store; new = (opening P' input).store };
        crossed = [];
        old = refl;
        runs = refl;
        ready = (closed.starts, tt);
        alike = keeps.opens input;
        images = tt;
      }

      runs_both : (k : ℕ) (es : List Edge) (at : Standing) → after P input k ≡ running es at → CrossesNone E es → At k es at
      runs_both zero es at e none =
          let e1 : ◌≡◌ {A = List Edge} [] es = cc in
          let e2 : opening P input ≡ at = cc in
          subst₂ (λ xs t. At zero xs t) e1 e2 first
      runs_both (suc k) es at e none = moment (after P input k) refl e (λ xs t. runs_both k xs t)
        where
          moment : (m : Moment) → after P input k ≡ m → go_on P k m ≡ running es at → ((xs : List Edge) (t : Standing) → after P input k ≡ running xs t → CrossesNone E xs → At k xs t) → At (suc k) es at
          moment (running es0 at0) em e ih = turned (turn P at0) refl e
            where
              turned : (t : Turn) → turn P at0 ≡ t → after_turn k es0 t ≡ running es at → At (suc k) es at
              turned (goes c at1) et e =
                  let e1 : crossing c es0 ≡ es = cc in
                  let e2 : at1 ≡ at = cc in
                  let parts = split c es0 (subst (λ xs. CrossesNone E xs) (sym e1) none) in
                  subst₂ (λ xs t. At (suc k) xs t) e1 e2 (goes_at k es0 at0 (ih es0 at0 em parts.0) c at1 et parts.1)
              turned (stops t st) et e = cc
              turned lost et e = cc
          moment (ended es0 n t s) em e ih = cc
          moment nowhere em e ih = cc

      -- both runs after k turns, where the old one has ended
      record Over (k : ℕ) (es : List Edge) (n : ℕ) (t : Status) (s : Store) : Type 0 where
        crossed : List Edge
        store : Store
        runs : after P' input k ≡ ended crossed n t store
        alike : A s store
        images : AllZip (IsImage C) es crossed

      stops_at : (k : ℕ) (es : List Edge) (at : Standing) → At k es at → (t : Status) (s : Store) → turn P at ≡ stops t s → Over (suc k) es (k + 1) t s
      stops_at k es at a t s e =
          let m = match_at k es at a (stops t s) e in
          record { crossed = a.crossed; store = m.0; runs = ap (go_on P' k) a.runs ∙ ap (after_turn k a.crossed) m.1; alike = m.2; images = a.images }

      -- beside a moment at which the old run has ended
      abbrev IsOver : ℕ → Moment → Type 0
      IsOver k (running es at) = Unit {0}
      IsOver k (ended es n t s) = Over k es n t s
      IsOver k nowhere = Unit {0}

      ended_both : (k : ℕ) (es : List Edge) (n : ℕ) (t : Status) (s : Store) → after P input k ≡ ended es n t s → CrossesNone E es → Over k es n t s
      ended_both zero es n t s e none = cc
      ended_both (suc k) es n t s e none = moment (after P input k) refl e (λ e0. ended_both k es n t s e0 none)
        where
          moment : (m : Moment) → after P input k ≡ m → go_on P k m ≡ ended es n t s → (after P input k ≡ ended es n t s → Over k es n t s) → Over (suc k) es n t s
          moment (running es0 at0) em e ih = turned (turn P at0) refl e
            where
              turned : (u : Turn) → turn P at0 ≡ u → after_turn k es0 u ≡ ended es n t s → Over (suc k) es n t s
              turned (goes c at1) eu e = cc
              turned (stops u st) eu e =
                  let e1 : es ≡ es0 = cc in
                  let none0 = subst (λ xs. CrossesNone E xs) e1 none in
                  subst (IsOver (suc k)) e (stops_at k es0 at0 (runs_both k es0 at0 em none0) u st eu)
              turned lost eu e = cc
          moment (ended es0 n0 t0 s0) em e ih =
              let o = ih (em ∙ e) in
              record { crossed = o.crossed; store = o.store; runs = ap (go_on P' k) o.runs; alike = o.alike; images = o.images }
          moment nowhere em e ih = cc

      beside : (k : ℕ) (es : List Edge) (at : Standing) → At k es at → Beside C P P' input k es at
      beside k es at a = record {
        crossed' = a.crossed;
        at' = new_standing a.joint;
        runs = a.runs;
        alike = subst (λ t. Alike C P P' t (new_standing a.joint)) (sym a.old) (record { frames = alike_all a.joint.stack a.ready; stores = a.alike });
        images = a.images;
        ends = λ t output h. let m = match_at k es at a (stops t h.store) h.is in record { store = m.0; is = m.1; written = sym (keeps.outputs h.store m.0 m.2) ∙ h.written };
      }

    pub in_lockstep : Lockstep P P' C E
    in_lockstep input k es at e none = beside input k es at (runs_both input k es at e none)

    abbrev Same : List ℕ → ℕ → Results → Type 0
    Same input budget r = CrossesNone E r.crossed → (r' : Results) × (run_of P' input budget ≡ Some r') × SameResults C r r'

    same_at : (input : List ℕ) (budget : ℕ) (m : Moment) → after P input budget ≡ m → (r : Results) → results_at budget m ≡ Some r → Same input budget r
    same_at input budget (running es at) em r e =
        let e1 : record { status = Turns; output = at.store.output; turns = budget; crossed = es } ≡ r = cc in
        subst (λ q. Same input budget q) e1 (λ none. build (runs_both input budget es at em none))
      where
        build : At input budget es at → (r' : Results) × (run_of P' input budget ≡ Some r') × SameResults C (record { status = Turns; output = at.store.output; turns = budget; crossed = es }) r'
        build a = (
          record { status = Turns; output = a.joint.new.output; turns = budget; crossed = a.crossed },
          ap (results_at budget) a.runs,
          record { status = refl; output = ap (λ (t : Standing). t.store.output) a.old ∙ keeps.outputs a.joint.old a.joint.new a.alike; turns = refl; images = a.images },
        )
    same_at input budget (ended es n t s) em r e =
        let e1 : record { status = t; output = s.output; turns = n; crossed = es } ≡ r = cc in
        subst (λ q. Same input budget q) e1 (λ none. build (ended_both input budget es n t s em none))
      where
        build : Over input budget es n t s → (r' : Results) × (run_of P' input budget ≡ Some r') × SameResults C (record { status = t; output = s.output; turns = n; crossed = es }) r'
        build o = (
          record { status = t; output = o.store.output; turns = n; crossed = o.crossed },
          ap (results_at budget) o.runs,
          record { status = refl; output = keeps.outputs s o.store o.alike; turns = refl; images = o.images },
        )
    same_at input budget nowhere em r e = cc

    pub same_runs : SameRuns P P' C E
    same_runs input budget r e none = same_at input budget (after P input budget) refl r e none
