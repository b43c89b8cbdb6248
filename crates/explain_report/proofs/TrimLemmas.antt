-- A part of a book is a book.
use Rattle.std.proofs.Common.{◌≡◌, ℕ, List, take, Some, option_map, sym, ap, ◌∙◌, subst, subst₂}
use Rattle.std.specs.Prelude.{slice_get}
use Rattle.std.proofs.lemmas.Option.{slice_get-map, same_Some}
use Rattle.csub_semantics.specs.Syntax.{ProgramTree}
use Rattle.csub_semantics.specs.Flows.{flow_of}
use Rattle.csub_semantics.specs.Numbers.{site_at, edge_at, name_at}
use Rattle.csub_semantics.specs.Books as books
use Rattle.csub_semantics.specs.Books.{Together, Justified}
use Rattle.flow_graph.proofs.LawsLists.{made_of}
use Rattle.dual_walk.specs.declared.fact.Fact.{Fact}
use Rattle.dual_walk.specs.declared.fact.Why.{Why}
use Rattle.dual_walk.specs.declared.fact.Why.TheVariants.{Start, Step, Call, Over}
use Rattle.dual_walk.specs.Books.{name_in, point_in, exit_in, named_fact, named_facts, named_reason, LeavesFrom, StepsAlong, IsExplained}
use Rattle.explain_report.specs.Trims.{SameReason, IsMoved, IsTrimmed}
use Rattle.dual_walk.specs.Books.{AreReasoned}
use Rattle.dual_walk.proofs.LawsLists.{get_take}
use Rattle.explain_report.proofs.Places.{take_get, zip_left, zip_right, places_before}

module _ (P P' : ProgramTree) where
  same_named : (c d : Fact) → c.function ≡ d.function → c.old ≡ d.old → c.new ≡ d.new → named_fact P P' c ≡ named_fact P P' d
  same_named c d function old new =
      ap (λ f. books.fact (name_in (name_at P f)) (point_in (site_at P c.old)) (point_in (site_at P' c.new))) function
      ∙ ap (λ n. books.fact (name_in (name_at P d.function)) (point_in (site_at P n)) (point_in (site_at P' c.new))) old
      ∙ ap (λ n. books.fact (name_in (name_at P d.function)) (point_in (site_at P d.old)) (point_in (site_at P' n))) new

  module _ (facts kept : List Fact) (wanted : List ℕ) (t : IsTrimmed facts wanted kept) where
    -- an earlier fact of the list stands earlier in the part
    record StandsBefore (i k : ℕ) (d : Fact) : Type 0 where
      fact : Fact
      stands : slice_get (take i kept) k ≡ Some fact
      old : fact.old ≡ d.old
      named : named_fact P P' fact ≡ named_fact P P' d

    stands_before : (i place k j : ℕ) (d : Fact) → slice_get t.places i ≡ Some place → slice_get t.places k ≡ Some j → slice_get (take place facts) j ≡ Some d → StandsBefore i k d
    stands_before i place k j d at ak e =
        let g = get_take place facts j d e in
        let z = zip_right (IsMoved facts t.places) t.places kept k j t.moved ak in
        let same : z.2.fact ≡ d = same_Some z.2.fact d (sym z.2.stands ∙ g.1) in
        let moved = λ (f : Fact → ℕ). ap f same in
        record {
          fact = z.0;
          stands = take_get i kept k z.0 (places_before t.places t.rising i k place j at ak g.0) z.1;
          old = z.2.old ∙ moved (λ c. c.old);
          named = same_named z.0 d (z.2.function ∙ moved (λ c. c.function)) (z.2.old ∙ moved (λ c. c.old)) (z.2.new ∙ moved (λ c. c.new));
        }

    named_stands : (i place k j : ℕ) (b : books.Fact) → slice_get t.places i ≡ Some place → slice_get t.places k ≡ Some j → slice_get (named_facts P P' (take place facts)) j ≡ Some b
        → slice_get (named_facts P P' (take i kept)) k ≡ Some b
    named_stands i place k j b at ak e =
        let made = made_of (named_fact P P') (slice_get (take place facts) j) b (sym (slice_get-map (named_fact P P') (take place facts) j) ∙ e) in
        let s = stands_before i place k j made.value at ak made.is in
        slice_get-map (named_fact P P') (take i kept) k ∙ ap (option_map (named_fact P P')) s.stands ∙ ap Some (s.named ∙ made.gives)

    justified_moved : (i place : ℕ) (b : books.Fact) → slice_get t.places i ≡ Some place → (why other : Why) → SameReason t.places why other
        → Justified (flow_of P) (flow_of P') (named_facts P P' (take place facts)) b (named_reason P why) → Justified (flow_of P) (flow_of P') (named_facts P P' (take i kept)) b (named_reason P other)
    justified_moved i place b at Start Start s h = h
    justified_moved i place b at (Step j e) (Step k d) s h =
        (h.0, h.1, named_stands i place k j _ at s.0 h.2, h.3, subst (λ n. Together (flow_of P) (flow_of P') b.function h.0 h.1 (exit_in (edge_at P n)) b.old b.new) (sym s.1) h.4)
    justified_moved i place b at (Call j) (Call k) s h = (h.0, h.1, h.2, named_stands i place k j _ at s h.3, h.4, h.5)
    justified_moved i place b at (Over j m) (Over k n) s h = (h.0, h.1, h.2, named_stands i place k j _ at s.0 h.3, named_stands i place n m _ at s.1 h.4, h.5, h.6)
    justified_moved i place b at why other s h = absurd s

    along_moved : (i place : ℕ) → slice_get t.places i ≡ Some place → (why other : Why) → SameReason t.places why other → StepsAlong P (take place facts) why → StepsAlong P (take i kept) other
    along_moved i place at Start Start s h = tt
    along_moved i place at (Step j e) (Step k d) s h =
        let b = stands_before i place k j h.0 at s.0 h.1 in
        (b.fact, b.stands, subst₂ (LeavesFrom P) (sym s.1) (sym b.old) h.2)
    along_moved i place at (Call j) (Call k) s h = tt
    along_moved i place at (Over j m) (Over k n) s h = tt
    along_moved i place at why other s h = absurd s

    pub trimmed_reasoned : AreReasoned P P' facts → AreReasoned P P' kept
    trimmed_reasoned ok = record { each = each }
      where
        moved : (i : ℕ) (c : Fact) → slice_get kept i ≡ Some c → (place : ℕ) × (slice_get t.places i ≡ Some place) × IsMoved facts t.places place c
        moved i c e = zip_left (IsMoved facts t.places) t.places kept i c t.moved e

        each : (i : ℕ) (c : Fact) → slice_get kept i ≡ Some c → IsExplained P P' (take i kept) c
        each i c e =
            let z = moved i c e in
            let x = ok.each z.0 z.2.fact z.2.stands in
            record {
              named =
                  record {
                    name = x.named.name;
                    point = x.named.point;
                    other = x.named.other;
                    function = ap (name_at P) z.2.function ∙ x.named.function;
                    old = ap (site_at P) z.2.old ∙ x.named.old;
                    new = ap (site_at P') z.2.new ∙ x.named.new;
                  };
              justified = subst (λ b. Justified (flow_of P) (flow_of P') (named_facts P P' (take i kept)) b (named_reason P c.why)) (sym (same_named c z.2.fact z.2.function z.2.old z.2.new))
                  (justified_moved i z.0 (named_fact P P' z.2.fact) z.1 z.2.fact.why c.why z.2.why x.justified);
              along = along_moved i z.0 z.1 z.2.fact.why c.why z.2.why x.along;
            }
