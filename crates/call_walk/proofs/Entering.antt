-- Callees that are entered: why their entries are facts, and that then every reached pair is held.
use Rattle.std.proofs.Common.{◌≡◌, ◌+◌, ◌<◌, ◌≤◌, ℕ, List, length, Some, refl, subst, ◌⊎◌, inl, inr, arith}
use Rattle.std.specs.Prelude.{slice_get}
use Rattle.std.proofs.lemmas.Bool.{cases_lt}
use Rattle.std.proofs.lemmas.Option.{slice_get_within}
use Rattle.csub_objects.specs.Types.{Name}
use Rattle.csub_semantics.specs.Points.{PointTree, entry}
use Rattle.csub_semantics.specs.Syntax.{ProgramTree}
use Rattle.csub_semantics.specs.Flows.{flow_of, start_name}
use Rattle.csub_semantics.specs.Books.{CallsAt, Reached, enter_callee}
use Rattle.dual_walk.specs.declared.fact.Fact.{Fact}
use Rattle.dual_walk.specs.declared.fact.Why.TheVariants.{Call}
use Rattle.dual_walk.specs.declared.callees.Callee.{Callee}
use Rattle.dual_walk.specs.Books.{IsNamed, named_facts, IsExplained}
use Rattle.dual_walk.specs.Held.{AreAt, HasPair, IsHeld, Extends, IsClosedUnder}
use Rattle.dual_walk.specs.Callees.{IsCallee}
use Rattle.dual_walk.proofs.LawsReaching.{one_callee, every_reached}
use Rattle.dual_walk.proofs.LawsFacts.{by_names, get_named, at_named, get_back, held_extends, pair_held}
use Rattle.call_walk.specs.Danger.{AreEntered}

module _ (P P' : ProgramTree) where
  -- into a callee
  pub call_explained : (facts : List Fact) (at : ℕ) (from : Fact) (k : Callee) (n : IsNamed P P' from) → slice_get facts at ≡ Some from → IsCallee P P' n.name n.point k → IsExplained P P' facts (record { function = k.function; old = k.entry.old; new = k.entry.new; why = Call at })
  call_explained facts at from k n stands called =
      let c : Fact = record { function = k.function; old = k.entry.old; new = k.entry.new; why = Call at } in
      let named : IsNamed P P' (record { function = k.function; old = k.entry.old; new = k.entry.new; why = Call at }) = record { name = called.name; point = entry; other = entry; function = called.numbers.function; old = called.numbers.entries.old; new = called.numbers.entries.new } in
      record {
        named = named;
        justified = by_names P P' (named_facts P P' facts) c named (enter_callee at) (n.name, n.point, n.other, get_named P P' facts at from n.name n.point n.other stands n (at_named P P' from n), called.calls, refl);
        along = tt;
      }

  -- the entries of a callee are held where the pair of their numbers is
  pub entries_held : (facts : List Fact) (f g : Name) (p : PointTree) (k : Callee) → IsCallee P P' f p k → HasPair facts k.entry.old k.entry.new → CallsAt (flow_of P) f p g → IsHeld P P' facts g entry entry
  entries_held facts f g p k a has calls =
      subst (λ h. IsHeld P P' facts h entry entry) (one_callee (flow_of P) f p a.name g a.calls calls) (pair_held P P' facts k.entry.old k.entry.new a.name entry entry a.numbers.entries has)

  -- one more fact has been entered
  pub entered_more : (before after : List Fact) (n : ℕ) → Extends before after → n < length before → AreEntered P P' before n
      → ((c : Fact) (f g : Name) (p p' : PointTree) → slice_get before n ≡ Some c → AreAt P P' c.old c.new f p p' → CallsAt (flow_of P) f p g → IsHeld P P' after g entry entry)
      → AreEntered P P' after (n + 1)
  entered_more before after n grows within so_far this = record { each = λ j c f g p p' l e at calls. pick j c f g p p' l e at calls (cases_lt j n) }
    where
      pick : (j : ℕ) (c : Fact) (f g : Name) (p p' : PointTree) → j < n + 1 → slice_get after j ≡ Some c → AreAt P P' c.old c.new f p p' → CallsAt (flow_of P) f p g → (j < n) ⊎ (n ≤ j) → IsHeld P P' after g entry entry
      pick j c f g p p' l e at calls (inl h) = held_extends P P' grows g entry entry (so_far.each j c f g p p' h (get_back grows j c (omega arith) e) at calls)
      pick j c f g p p' l e at calls (inr h) =
          let same : j ≡ n = omega arith in
          this c f g p p' (get_back grows n c within (subst (λ i. slice_get after i ≡ Some c) same e)) at calls

  -- where all facts have been entered and nothing more follows, every reached pair is held
  pub all_held : (facts : List Fact) (n : ℕ) → length facts ≤ n → IsHeld P P' facts start_name entry entry → AreEntered P P' facts n → IsClosedUnder P P' facts
      → (f : Name) (p p' : PointTree) → Reached (flow_of P) (flow_of P') f p p' → IsHeld P P' facts f p p'
  all_held facts n long starts entered closed = every_reached (flow_of P) (flow_of P') (IsHeld P P' facts) starts
      (λ f p p' q q' x h plain t. closed.steps f p p' q q' x h plain t)
      (λ f p p' g h calls. let w = slice_get_within facts h.place h.fact h.stands in entered.each h.place h.fact f g p p' (omega (arith, w, long)) h.stands h.at calls)
      (λ f p p' q q' g h calls e t. closed.over f g p p' q q' h calls e t)
