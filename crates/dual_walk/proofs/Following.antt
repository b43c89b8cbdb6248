-- What has been followed, as facts are added.
use Rattle.std.proofs.Common.{◌≡◌, ℕ, ◌+◌, ◌<◌, ◌≤◌, List, [], ◌∷◌, ◌++◌, length, get_or, set, replicate, Some, sym, ap, ◌∙◌, subst, subst₂, ◌⊎◌, inl, inr, arith}
use Rattle.std.specs.Prelude.{slice_get}
use Rattle.std.proofs.lemmas.Bool.{cases_lt}
use Rattle.std.proofs.lemmas.List.{length-replicate}
use Rattle.std.proofs.lemmas.Option.{slice_get_within, same_Some}
use Rattle.csub_objects.specs.Types.{Name}
use Rattle.csub_semantics.specs.Points.{PointTree, exit, ExitTree, next}
use Rattle.csub_semantics.specs.Syntax.{ProgramTree}
use Rattle.csub_semantics.specs.Flows.{flow_of}
use Rattle.csub_semantics.specs.Numbers.{site, site_at}
use Rattle.csub_semantics.specs.Books.{IsNoCallAt, SameLabel}
use Rattle.csub_validity.specs.Valid.{IsValid}
use Rattle.flow_graph.specs.Graph.{Tables, IsGraphOf, point_count}
use Rattle.flow_graph.proofs.LawsPlaces.{site_one}
use Rattle.dual_walk.specs.declared.fact.Fact.{Fact}
use Rattle.dual_walk.specs.declared.callees.Callee.{Callee}
use Rattle.dual_walk.specs.declared.pairs.Pairs.{Pairs}
use Rattle.dual_walk.specs.Held.{AreAt, HasPair, IsHeld, Extends, IsClosedUnder}
use Rattle.dual_walk.specs.Books.{IsNamed, LeavesFrom}
use Rattle.dual_walk.specs.Rows.{Lists}
use Rattle.dual_walk.specs.Callees.{IsCallee}
use Rattle.dual_walk.specs.Moments.{IsMoment, WaitsFor, AreWaiting, IsCalledAt, IsPassed, HoldsNext, PassesOver, LeadsOn, ComesBackAt, IsDone, AreDone, IsFollowed, AreResumed}
use Rattle.dual_walk.proofs.LawsReaching.{one_callee, calls_or_not}
use Rattle.dual_walk.proofs.LawsNumbers.{edge_of}
use Rattle.dual_walk.proofs.LawsFacts.{extends_more, get_extends, get_back, extends_long, at_named, held_extends, fact_held, held_same, held_pair}
use Rattle.dual_walk.proofs.RowLemmas.{lists_long, lists_cases, lists_none}

-- more facts hold as much
pub holds_extends : (P P' : ProgramTree) {a b : List Fact} (c : Fact) (x : ExitTree) → Extends a b → HoldsNext P P' a c x → HoldsNext P P' b c x
holds_extends P P' c x e h f p p' q q' at both = held_extends P P' e f q q' (h f p p' q q' at both)

pub waiting_extends : (g g' : Tables) {a b : List Fact} (waiting : List (List ℕ)) → Extends a b → AreWaiting g g' a waiting → AreWaiting g g' b waiting
waiting_extends g g' {a} {b} waiting e w = record {
  points = w.points;
  below = λ n j h. let l = w.below n j h in let m = extends_long e in omega (arith, l, m);
  sound = λ P P' ok ok' n j h. let s = w.sound P P' ok ok' n j h in record { fact = s.fact; stands = get_extends e j s.fact s.stands; function = s.function; point = s.point; other = s.other; at = s.at; callee = s.callee; calls = s.calls; exit = s.exit };
}

-- one more call waits
pub waiting_push : (g g' : Tables) (facts : List Fact) (waiting waiting' : List (List ℕ)) (n at : ℕ) → AreWaiting g g' facts waiting → n < length waiting → at < length facts → waiting' ≡ set waiting n (get_or waiting n [] ++ at ∷ []) → ((P P' : ProgramTree) → IsGraphOf g P → IsGraphOf g' P' → WaitsFor P P' facts n at) → AreWaiting g g' facts waiting'
waiting_push g g' facts waiting waiting' n at w within stands is own = record {
  points = lists_long waiting waiting' n at within is ∙ w.points;
  below = λ m j h. below_case m j (lists_cases waiting waiting' n at within is m j h);
  sound = λ P P' ok ok' m j h. sound_case P P' ok ok' m j (lists_cases waiting waiting' n at within is m j h);
}
  where
    below_case : (m j : ℕ) → Lists waiting m j ⊎ ((m ≡ n) × (j ≡ at)) → j < length facts
    below_case m j (inl h) = w.below m j h
    below_case m j (inr h) = omega (arith, h.1)

    sound_case : (P P' : ProgramTree) → IsGraphOf g P → IsGraphOf g' P' → (m j : ℕ) → Lists waiting m j ⊎ ((m ≡ n) × (j ≡ at)) → WaitsFor P P' facts m j
    sound_case P P' ok ok' m j (inl h) = w.sound P P' ok ok' m j h
    sound_case P P' ok ok' m j (inr h) = subst₂ (λ a b. WaitsFor P P' facts a b) (sym h.0) (sym h.1) (own P P' ok ok')

-- calls wait no longer
pub waiting_fewer : (g g' : Tables) (facts : List Fact) (waiting waiting' : List (List ℕ)) → AreWaiting g g' facts waiting → length waiting' ≡ length waiting → ((n j : ℕ) → Lists waiting' n j → Lists waiting n j) → AreWaiting g g' facts waiting'
waiting_fewer g g' facts waiting waiting' w long fewer = record {
  points = long ∙ w.points;
  below = λ n j h. w.below n j (fewer n j h);
  sound = λ P P' ok ok' n j h. w.sound P P' ok ok' n j (fewer n j h);
}

-- a fact at a moment
module _ (g g' : Tables) (pairs : Pairs) (ok : IsMoment g g' pairs) (P P' : ProgramTree) (graph : IsGraphOf g P) (graph' : IsGraphOf g' P') (i : ℕ) (c : Fact) (stands : slice_get pairs.facts.items i ≡ Some c) where
  pub moment_named : IsNamed P P' c
  moment_named = ((ok.book.reasoned P P' graph graph').each i c stands).named

  pub moment_same : (f : Name) (p p' : PointTree) → AreAt P P' c.old c.new f p p' → SameLabel (flow_of P) (flow_of P') f p p'
  moment_same f p p' at = held_same P P' pairs.facts.items (ok.book.reasoned P P' graph graph') graph.valid graph'.valid f p p' (fact_held P P' pairs.facts.items i c f p p' stands at)

  pub call_waits : (k : Callee) → IsCalledAt g g' pairs.facts.items i k → WaitsFor P P' pairs.facts.items k.exit.old i
  call_waits k called =
      let n = moment_named in
      let is = called P P' n.name n.point n.other c graph graph' stands (at_named P P' c n) in
      record { fact = c; stands = stands; function = n.name; point = n.point; other = n.other; at = at_named P P' c n; callee = is.name; calls = is.calls; exit = is.numbers.exits.old }

  -- a call that may be passed over
  pub call_over : (k : Callee) (m : ℕ) (d : Fact) → IsCalledAt g g' pairs.facts.items i k → slice_get pairs.facts.items m ≡ Some d → d.old ≡ k.exit.old → d.new ≡ k.exit.new → PassesOver P P' pairs.facts.items i m
  call_over k m d called at o n' =
      let n = moment_named in
      let is = called P P' n.name n.point n.other c graph graph' stands (at_named P P' c n) in
      record {
        call = c;
        stands = stands;
        back = d;
        stands' = at;
        comes = record {
          function = n.name;
          point = n.point;
          other = n.other;
          at = at_named P P' c n;
          callee = is.name;
          calls = is.calls;
          exits = record { old = ap (site_at P) o ∙ is.numbers.exits.old; new = ap (site_at P') n' ∙ is.numbers.exits.new };
        };
      }

-- a call that waits, or has been passed over
pub waited : (P P' : ProgramTree) → IsValid P → (facts : List Fact) (waiting : List (List ℕ)) (at : ℕ) (c : Fact) (k : Callee) → ((f : Name) (p p' : PointTree) → AreAt P P' c.old c.new f p p' → IsCallee P P' f p k) → Lists waiting k.exit.old at ⊎ HoldsNext P P' facts c next → IsPassed P P' facts c → IsFollowed P P' facts waiting at c
waited P P' valid facts waiting at c k called own passed = record {
  leads = λ f p p' is. let a = called f p p' is in record {
    steps = λ x q q' plain both. absurd (calls_or_not (flow_of P) f p a.name plain a.calls);
    waits = λ n g calls exits.
        let same : site_at P k.exit.old ≡ Some (site g exit) = a.numbers.exits.old ∙ ap (λ h. Some (site h exit)) (one_callee (flow_of P) f p a.name g a.calls calls) in
        subst (λ m. Lists waiting m at ⊎ HoldsNext P P' facts c next) (site_one P valid k.exit.old n (site g exit) same exits) own;
  };
  overs = passed;
}

-- a fact that is no call
pub stepped : (P P' : ProgramTree) (after : List Fact) (waiting : List (List ℕ)) (at : ℕ) (c : Fact) → ((f : Name) (p p' : PointTree) → AreAt P P' c.old c.new f p p' → IsNoCallAt (flow_of P) f p) → ((x : ExitTree) → HoldsNext P P' after c x) → IsFollowed P P' after waiting at c
stepped P P' after waiting at c plain held = record {
  leads = λ f p p' is. let none = plain f p p' is in record {
    steps = λ x q q' no_call both. held x f p p' q q' is both;
    waits = λ n g calls exits. absurd (calls_or_not (flow_of P) f p g none calls);
  };
  overs = λ m d at' back. absurd (calls_or_not (flow_of P) back.function back.point back.callee (plain back.function back.point back.other back.at) back.calls);
}

-- one more fact has been followed
module _ (P P' : ProgramTree) (before mid after : List Fact) (waiting waiting' waiting'' : List (List ℕ)) (at : ℕ) (from : Fact) (first : Extends before mid) (second : Extends mid after) (within : at < length before) (stands : slice_get before at ≡ Some from) (kept : (n j : ℕ) → Lists waiting n j → Lists waiting' n j) (done : IsDone P P' before waiting at) (own : IsFollowed P P' mid waiting' at from) (resumed : AreResumed P P' after waiting' waiting'' from) where
  both : Extends before after
  both = extends_more first second

  is_from : (j : ℕ) (c : Fact) → at ≤ j → j < at + 1 → slice_get after j ≡ Some c → from ≡ c
  is_from j c l h e =
      let same : j ≡ at = omega arith in
      same_Some from c (sym stands ∙ get_back both at c within (subst (λ n. slice_get after n ≡ Some c) same e))

  earlier : (j : ℕ) (c : Fact) → j < at → slice_get after j ≡ Some c → slice_get before j ≡ Some c
  earlier j c l e = get_back both j c (omega arith) e

  pub done_more : IsDone P P' after waiting'' (at + 1)
  done_more = record {
    leads = λ j c f p p' l e is. leads_case j c f p p' l e is (cases_lt j at);
    overs = λ j m c d lj lm ej em back. overs_case j m c d lj lm ej em back (cases_lt m at) (cases_lt j at);
  }
    where
      -- a call that waited still waits or is passed over
      waits_on : (k j : ℕ) (c : Fact) (facts : List Fact) → Extends facts after → slice_get after j ≡ Some c → Lists waiting' k j ⊎ HoldsNext P P' facts c next → Lists waiting'' k j ⊎ HoldsNext P P' after c next
      waits_on k j c facts more e (inl h) = resumed.left k j c h e
      waits_on k j c facts more e (inr h) = inr (holds_extends P P' c next more h)

      kept_on : (k j : ℕ) (c : Fact) (facts : List Fact) → Lists waiting k j ⊎ HoldsNext P P' facts c next → Lists waiting' k j ⊎ HoldsNext P P' facts c next
      kept_on k j c facts (inl h) = inl (kept k j h)
      kept_on k j c facts (inr h) = inr h

      leads_case : (j : ℕ) (c : Fact) (f : Name) (p p' : PointTree) → j < at + 1 → slice_get after j ≡ Some c → AreAt P P' c.old c.new f p p' → (j < at) ⊎ (at ≤ j) → LeadsOn P P' after waiting'' j c f p p'
      leads_case j c f p p' l e is (inl h) =
          let then = done.leads j c f p p' h (earlier j c h e) is in record {
            steps = λ x q q' plain t. held_extends P P' both f q q' (then.steps x q q' plain t);
            waits = λ k g calls exits. waits_on k j c before both e (kept_on k j c before (then.waits k g calls exits));
          }
      leads_case j c f p p' l e is (inr h) =
          let one = is_from j c h l e in
          let now = own.leads f p p' (subst (λ (d : Fact). AreAt P P' d.old d.new f p p') (sym one) is) in
          let same : at ≡ j = omega arith in record {
            steps = λ x q q' plain t. held_extends P P' second f q q' (now.steps x q q' plain t);
            waits = λ k g calls exits. waits_on k j c mid second e (subst₂ (λ n (d : Fact). Lists waiting' k n ⊎ HoldsNext P P' mid d next) same one (now.waits k g calls exits));
          }

      overs_case : (j m : ℕ) (c d : Fact) → j < at + 1 → m < at + 1 → slice_get after j ≡ Some c → slice_get after m ≡ Some d → ComesBackAt P P' c d → (m < at) ⊎ (at ≤ m) → (j < at) ⊎ (at ≤ j) → HoldsNext P P' after c next
      overs_case j m c d lj lm ej em back (inl hm) (inl hj) = holds_extends P P' c next both (done.overs j m c d hj hm (earlier j c hj ej) (earlier m d hm em) back)
      overs_case j m c d lj lm ej em back (inl hm) (inr hj) =
          let one = is_from j c hj lj ej in
          let there = get_extends first m d (get_back both m d (omega arith) em) in
          holds_extends P P' c next second
          (subst (λ (b : Fact). HoldsNext P P' mid b next) one (own.overs m d there (subst (λ (b : Fact). ComesBackAt P P' b d) (sym one) back)))
      overs_case j m c d lj lm ej em back (inr hm) hj = over_or_none ((leads_case j c back.function back.point back.other lj ej back.at hj).waits from.old back.callee back.calls exits.old)
        where
          exits : AreAt P P' from.old from.new back.callee exit exit
          exits = subst (λ (b : Fact). AreAt P P' b.old b.new back.callee exit exit) (sym (is_from m d hm lm em)) back.exits

          over_or_none : Lists waiting'' from.old j ⊎ HoldsNext P P' after c next → HoldsNext P P' after c next
          over_or_none (inl h) = absurd (resumed.none back.callee j exits h)
          over_or_none (inr h) = h

-- where no edge leaves the old point of a fact, nothing follows
pub no_way : (P P' : ProgramTree) → IsValid P → (facts : List Fact) (c : Fact) → ((e : ℕ) → LeavesFrom P e c.old → ⊥) → (x : ExitTree) → HoldsNext P P' facts c x
no_way P P' valid facts c none x f p p' q q' at both =
    let e = edge_of P valid c.old f p q x at.old both.old in
    absurd (none e.0 (record { edge = record { function = f; from = p; exit = x }; numbered = e.1; from = at.old }))

-- where all facts have been followed, nothing more follows
pub done_closed : (P P' : ProgramTree) (facts : List Fact) (waiting : List (List ℕ)) (n : ℕ) → length facts ≤ n → IsDone P P' facts waiting n → IsClosedUnder P P' facts
done_closed P P' facts waiting n long done = record {
  steps = λ f p p' q q' x h plain t. (done.leads h.place h.fact f p p' (below h.place h.fact h.stands) h.stands h.at).steps x q q' plain t;
  over = λ f g p p' q q' h calls e t.
      let back : ComesBackAt P P' h.fact e.fact = record { function = f; point = p; other = p'; at = h.at; callee = g; calls = calls; exits = e.at } in
      done.overs h.place e.place h.fact e.fact (below h.place h.fact h.stands) (below e.place e.fact e.stands) h.stands e.stands back f p p' q q' h.at t;
}
  where
    below : (i : ℕ) (c : Fact) → slice_get facts i ≡ Some c → i < n
    below i c e = let w = slice_get_within facts i c e in omega (arith, w)

-- while facts are added
pub done_extends : (P P' : ProgramTree) {a b : List Fact} (waiting : List (List ℕ)) (n : ℕ) → Extends a b → n ≤ length a → IsDone P P' a waiting n → IsDone P P' b waiting n
done_extends P P' {a} {b} waiting n grows upto done = record {
  leads = λ j c f p p' l e is. let then = done.leads j c f p p' l (before j c l e) is in record {
    steps = λ x q q' plain t. held_extends P P' grows f q q' (then.steps x q q' plain t);
    waits = λ k g calls exits. waits_on k j c (then.waits k g calls exits);
  };
  overs = λ j m c d lj lm ej em back. holds_extends P P' c next grows (done.overs j m c d lj lm (before j c lj ej) (before m d lm em) back);
}
  where
    before : (j : ℕ) (c : Fact) → j < n → slice_get b j ≡ Some c → slice_get a j ≡ Some c
    before j c l e = get_back grows j c (omega arith) e

    waits_on : (k j : ℕ) (c : Fact) → Lists waiting k j ⊎ HoldsNext P P' a c next → Lists waiting k j ⊎ HoldsNext P P' b c next
    waits_on k j c (inl h) = inl h
    waits_on k j c (inr h) = inr (holds_extends P P' c next grows h)

pub passed_by : (P P' : ProgramTree) (facts : List Fact) (c : Fact) → HoldsNext P P' facts c next → IsPassed P P' facts c
passed_by P P' facts c h m d at back = h

pub none_back : (P P' : ProgramTree) → IsValid P → IsValid P' → (facts : List Fact) (c : Fact) (k : Callee) → ((f : Name) (p p' : PointTree) → AreAt P P' c.old c.new f p p' → IsCallee P P' f p k) → (HasPair facts k.exit.old k.exit.new → ⊥) → IsPassed P P' facts c
none_back P P' valid valid' facts c k called none m d at back =
    let a = called back.function back.point back.other back.at in
    let one = one_callee (flow_of P) back.function back.point a.name back.callee a.calls back.calls in
    let held : IsHeld P P' facts a.name exit exit = subst (λ h. IsHeld P P' facts h exit exit) (sym one) (fact_held P P' facts m d back.callee exit exit at back.exits) in
    absurd (none (held_pair P P' facts k.exit.old k.exit.new a.name exit exit valid valid' a.numbers.exits held))

-- no call waits, and nothing has been followed
pub waiting_none : (g g' : Tables) (facts : List Fact) (waiting : List (List ℕ)) (c : ℕ) → waiting ≡ replicate c [] → c ≡ point_count g → AreWaiting g g' facts waiting
waiting_none g g' facts waiting c is count = record {
  points = ap length is ∙ length-replicate c [] ∙ count;
  below = λ n j h. absurd (none n j h);
  sound = λ P P' ok ok' n j h. absurd (none n j h);
}
  where
    none : (n j : ℕ) → Lists waiting n j → ⊥
    none n j h = lists_none c n j (subst (λ l. Lists l n j) is h)

pub done_none : (g g' : Tables) (facts : List Fact) (waiting : List (List ℕ)) → AreDone g g' facts waiting 0
done_none g g' facts waiting = record {
  each = λ P P' ok ok'. record {
    leads = λ j c f p p' l e is. absurd (omega arith);
    overs = λ j m c d l k ej em back. absurd (omega arith);
  };
}
