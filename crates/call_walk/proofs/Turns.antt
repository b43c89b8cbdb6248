-- Over a closed claim: one turn of both runs.
use Rattle.std.proofs.Common.{◌≡◌, ℕ, suc, ◌+◌, ℤ, List, [], ◌∷◌, length, Option, Some, None, Bool, true, false, refl, sym, ap, ◌∙◌, subst, subst₂, ◌⊎◌, inl, inr, if◌then◌else◌}
use Rattle.std.specs.List.{list_any}
use Rattle.std.specs.Ordering.{int_eq}
use Rattle.csub_objects.specs.Types.{Name}
use Rattle.csub_semantics.specs.Labels.{call_of, PointLabel}
use Rattle.csub_semantics.specs.Points.{PointTree, entry, exit, ExitTree, next, on_case, on_default}
use Rattle.csub_semantics.specs.Flows.{Flow, Edge}
use Rattle.csub_semantics.specs.Acts.{Store, Outcome, act}
use Rattle.csub_semantics.specs.Runs.{Frame, Standing, Turn, goes, stops, lost, exit_at, edge_of, cross, put_result, come_back, come_back_to, pop, follow, turn_at, turn_of, opening}
use Rattle.csub_semantics.specs.Books.{SameLabel, CallsAt, GoesOn, Closed, IsImage}
use Rattle.program_laws.specs.Outcomes.{Fits}
use Rattle.program_laws.specs.Flows.{IsFlow}
use Rattle.program_laws.proofs.LawsOutcomes.{fits, leaves_no_call, gives_no_call, pushes_by_call, pops_by_exit}
use Rattle.call_walk.specs.Locality.{SameOutcome, both_leave, both_give, both_push, both_pop, both_end}
use Rattle.call_walk.specs.Lockstep.{Claim, Edges}

-- a frame of each run, at one height
pub record Both : Type 0 where
  pub function : Name
  pub old : PointTree
  pub new : PointTree
  pub result : Option ℤ

abbrev pub old_frame : Both → Frame
old_frame b = record { function = b.function; point = b.old; result = b.result }

abbrev pub new_frame : Both → Frame
new_frame b = record { function = b.function; point = b.new; result = b.result }

abbrev pub olds : List Both → List Frame
olds [] = []
olds (b ∷ bs) = old_frame b ∷ olds bs

abbrev pub news : List Both → List Frame
news [] = []
news (b ∷ bs) = new_frame b ∷ news bs

-- where both runs stand
pub record Joint : Type 0 where
  pub stack : List Both
  pub old : Store
  pub new : Store

abbrev pub old_standing : Joint → Standing
old_standing j = record { frames = olds j.stack; store = j.old }

abbrev pub new_standing : Joint → Standing
new_standing j = record { frames = news j.stack; store = j.new }

same_height : (bs : List Both) → length (olds bs) ≡ length (news bs)
same_height [] = refl
same_height (b ∷ bs) = ap suc (same_height bs)

module _ (P : Flow) (C : Claim) (E : Edges) (A : Store → Store → Type 0) where
  -- each frame below stands at a call of the function above it
  abbrev pub Waits : Name → List Both → Type 0
  Waits g [] = Unit {0}
  Waits g (b ∷ bs) = C b.function b.old b.new × CallsAt P b.function b.old g × Waits b.function bs

  abbrev pub Ready : List Both → Type 0
  Ready [] = ⊥
  Ready (b ∷ bs) = C b.function b.old b.new × Waits b.function bs

  abbrev pub Misses : Option Edge → Type 0
  Misses None = Unit {0}
  Misses (Some e) = E e.function e.from e.exit → ⊥

  abbrev pub AreImages : Option Edge → Option Edge → Type 0
  AreImages None None = Unit {0}
  AreImages None (Some e) = ⊥
  AreImages (Some e) None = ⊥
  AreImages (Some e) (Some e') = IsImage C e e'

  -- after a turn that goes on, the other turn goes on beside it
  pub record GoesBeside (crossed : Option Edge) (at : Standing) (other : Turn) : Type 0 where
    pub joint : Joint
    pub image : Option Edge
    pub old : at ≡ old_standing joint
    pub new : other ≡ goes image (new_standing joint)
    pub ready : Ready joint.stack
    pub alike : A joint.old joint.new
    pub is_image : AreImages crossed image

  -- what the new turn is, beside the old one
  abbrev pub Match : Turn → Turn → Type 0
  Match (goes c at) other = Misses c → GoesBeside c at other
  Match (stops t s) other = (s' : Store) × (other ≡ stops t s') × A s s'
  Match lost other = Unit {0}

-- what the acts of both programs keep of two stores
pub record Respects (P P' : Flow) (A : Store → Store → Type 0) : Type 0 where
  pub acts : (f : Name) (p p' : PointTree) (l : PointLabel) (n : ℕ) (r : Option ℤ) (s s' : Store) → P.label f p ≡ Some l → P'.label f p' ≡ Some l → A s s' → SameOutcome A (act l.tree n r s) (act l.tree n r s')
  pub puts : (h : ℕ) (t : Option ℕ) (r : Option ℤ) (s s' : Store) → A s s' → A (put_result h t r s) (put_result h t r s')
  pub opens : (input : List ℕ) → A (opening P input).store (opening P' input).store
  pub outputs : (s s' : Store) → A s s' → s.output ≡ s'.output

any_case : (b : Bool) (v : ℤ) (vs : List ℤ) → b ≡ true → (if b then on_case v else on_default vs) ≡ on_case v
any_case b v vs e = rw e

module _ (P P' : Flow) (ok : IsFlow P) (ok' : IsFlow P') (C : Claim) (E : Edges) (closed : Closed P P' C E) (A : Store → Store → Type 0) (keeps : Respects P P' A) where
  abbrev Matches : Turn → Turn → Type 0
  Matches t u = Match P C E A t u

  -- an exit that both points have is taken by both at one value
  same_exit : (f : Name) (p' q' : PointTree) (vs : List ℤ) (v : ℤ) → P'.succ f p' (exit_at vs v) ≡ Some q' → exit_at (P'.cases f p') v ≡ exit_at vs v
  same_exit f p' q' vs v = pick (list_any (λ w. int_eq w v) vs) refl
    where
      pick : (b : Bool) → list_any (λ w. int_eq w v) vs ≡ b → P'.succ f p' (if b then on_case v else on_default vs) ≡ Some q' → exit_at (P'.cases f p') v ≡ (if b then on_case v else on_default vs)
      pick true h e = any_case (list_any (λ w. int_eq w v) (P'.cases f p')) v (P'.cases f p') (ok'.cased f p' q' v e)
      pick false h e = ap (λ ws. exit_at ws v) (sym (ok'.defaulted f p' q' vs e)) ∙ ap (λ b. if b then on_case v else on_default vs) h

  -- the crossing of one edge: x in the old program, x' in the new one, which is x where both have it
  cross_both : (b : Both) (bs : List Both) (x : ExitTree) (r : Option ℤ) (s s' : Store) → A s s' → (to : Option PointTree) → ((q : PointTree) → to ≡ Some q → E b.function b.old x ⊎ GoesOn P' C b.function b.new x q) → C b.function b.old b.new → Waits P C E A b.function bs → (x' : ExitTree) → ((q' : PointTree) → P'.succ b.function b.new x ≡ Some q' → x' ≡ x) → Matches (cross (old_frame b) (olds bs) x r s to) (cross (new_frame b) (news bs) x' r s' (P'.succ b.function b.new x'))
  cross_both b bs x r s s' al None on cb w x' same = tt
  cross_both b bs x r s s' al (Some q) on cb w x' same = λ miss. pick miss (on q refl)
    where
      pick : (E b.function b.old x → ⊥) → E b.function b.old x ⊎ GoesOn P' C b.function b.new x q → GoesBeside P C E A (Some (edge_of (old_frame b) x)) (record { frames = record { function = b.function; point = q; result = r } ∷ olds bs; store = s }) (cross (new_frame b) (news bs) x' r s' (P'.succ b.function b.new x'))
      pick miss (inl e) = absurd (miss e)
      pick miss (inr g) = record {
        joint = record { stack = record { function = b.function; old = q; new = g.to; result = r } ∷ bs; old = s; new = s' };
        image = Some (edge_of (new_frame b) x);
        old = refl;
        new = ap (λ y. cross (new_frame b) (news bs) y r s' (P'.succ b.function b.new y)) (same g.to g.leads) ∙ ap (cross (new_frame b) (news bs) x r s') g.leads;
        ready = (g.claimed, w);
        alike = al;
        is_image = record { function = refl; exit = refl; pair = cb };
      }

  -- the return to the frame below
  pop_both : (g : Name) (bs : List Both) (r : Option ℤ) (s s' : Store) → A s s' → C g exit exit → Waits P C E A g bs → Matches (pop P (olds bs) r s) (pop P' (news bs) r s')
  pop_both g [] r s s' al cx w = tt
  pop_both g (b ∷ bs) r s s' al cx w =
      let at = w.1 in
      let to = P.succ b.function b.old next in
      let to' = P'.succ b.function b.new next in
      subst₂ (λ l l'. Matches (come_back (old_frame b) (olds bs) r s l to) (come_back (new_frame b) (news bs) r s' l' to')) (sym at.labelled) (sym new_label)
      (subst (λ call. Matches (come_back_to (old_frame b) (olds bs) r s call to) (come_back_to (new_frame b) (news bs) r s' call to')) (sym at.is) returned)
    where
      same : SameLabel P P' b.function b.old b.new
      same = closed.same b.function b.old b.new w.0

      new_label : P'.label b.function b.new ≡ Some w.1.label
      new_label = same.new ∙ sym same.old ∙ w.1.labelled

      returned : Matches (cross (old_frame b) (olds bs) next b.result (put_result (length (olds bs)) w.1.call.temp r s) (P.succ b.function b.old next)) (cross (new_frame b) (news bs) next b.result (put_result (length (news bs)) w.1.call.temp r s') (P'.succ b.function b.new next))
      returned =
          subst (λ n. Matches (cross (old_frame b) (olds bs) next b.result (put_result (length (olds bs)) w.1.call.temp r s) (P.succ b.function b.old next)) (cross (new_frame b) (news bs) next b.result (put_result n w.1.call.temp r s') (P'.succ b.function b.new next))) (same_height bs)
          (cross_both b bs next b.result (put_result (length (olds bs)) w.1.call.temp r s) (put_result (length (olds bs)) w.1.call.temp r s') (keeps.puts (length (olds bs)) w.1.call.temp r s s' al) (P.succ b.function b.old next) (λ q e. closed.over b.function b.old b.new q g w.0 w.1 cx e) w.0 w.2 next (λ q' e. refl))

  module _ (b : Both) (bs : List Both) (l : PointLabel) (old : P.label b.function b.old ≡ Some l) (new : P'.label b.function b.new ≡ Some l) (cb : C b.function b.old b.new) (w : Waits P C E A b.function bs) where
    steps_on : call_of l.tree ≡ None → (x : ExitTree) (q : PointTree) → P.succ b.function b.old x ≡ Some q → E b.function b.old x ⊎ GoesOn P' C b.function b.new x q
    steps_on none x q e = closed.steps b.function b.old b.new q x cb (record { label = l; labelled = old; none = none }) e

    follow_both : (o o' : Outcome) → SameOutcome A o o' → Fits l.tree o → Matches (follow P (old_frame b) (olds bs) o) (follow P' (new_frame b) (news bs) o')
    follow_both o o' (both_leave {x} {r} {s} {s'} al) fit =
        cross_both b bs x r s s' al (P.succ b.function b.old x) (steps_on (leaves_no_call l.tree x r s fit) x) cb w x (λ q' e. refl)
    follow_both o o' (both_give {v} {s} {s'} al) fit =
        let x = exit_at (P.cases b.function b.old) v in
        cross_both b bs x b.result s s' al (P.succ b.function b.old x) (steps_on (gives_no_call l.tree v s fit) x) cb w (exit_at (P'.cases b.function b.new) v) (λ q' e. same_exit b.function b.new q' (P.cases b.function b.old) v e)
    follow_both o o' (both_push {g} {s} {s'} al) fit = λ miss. record {
      joint = record { stack = record { function = g; old = entry; new = entry; result = None } ∷ b ∷ bs; old = s; new = s' };
      image = None;
      old = refl;
      new = refl;
      ready =
          let by = pushes_by_call l.tree g s fit in
          let at : CallsAt P b.function b.old g = record { label = l; labelled = old; call = by.0; is = by.1; callee = sym by.2 } in
          (closed.enters b.function b.old b.new g cb at, (cb, at, w));
      alike = al;
      is_image = tt;
    }
    follow_both o o' (both_pop {r} {s} {s'} al) fit =
        let by = pops_by_exit l.tree r s fit in
        pop_both b.function bs r s s' al (subst₂ (λ p p'. C b.function p p') (ok.leaves b.function b.old l by.0 old by.1) (ok'.leaves b.function b.new l by.0 new by.1) cb) w
    follow_both o o' (both_end {t} {s} {s'} al) fit = (s', refl, al)

  -- the act of the top frames, where n frames stand below them
  abbrev acted : (b : Both) → SameLabel P P' b.function b.old b.new → Store → ℕ → Outcome
  acted b same s n = act same.label.tree (n + 1) b.result s

  -- one turn of each
  pub turn_both : (bs : List Both) (s s' : Store) → A s s' → Ready P C E A bs → Matches (turn_of P (olds bs) s) (turn_of P' (news bs) s')
  turn_both [] s s' al ready = tt
  turn_both (b ∷ bs) s s' al ready =
      subst₂ (λ l l'. Matches (turn_at P (old_frame b) (olds bs) s l) (turn_at P' (new_frame b) (news bs) s' l')) (sym same.old) (sym same.new) followed
    where
      same : SameLabel P P' b.function b.old b.new
      same = closed.same b.function b.old b.new ready.0

      followed : Matches (follow P (old_frame b) (olds bs) (acted b same s (length (olds bs)))) (follow P' (new_frame b) (news bs) (acted b same s' (length (news bs))))
      followed =
          subst (λ n. Matches (follow P (old_frame b) (olds bs) (acted b same s (length (olds bs)))) (follow P' (new_frame b) (news bs) (acted b same s' n))) (same_height bs)
          (follow_both b bs same.label same.old same.new ready.0 ready.1 (acted b same s (length (olds bs))) (acted b same s' (length (olds bs))) (keeps.acts b.function b.old b.new same.label (length (olds bs) + 1) b.result s s' same.old same.new al) (fits same.label.tree (length (olds bs) + 1) b.result s))
