-- What the text of a walk means: its row has the dangerous edges, and its pairs are the reached ones, each once.
use Rattle.std.proofs.Common.{◌≡◌, ◌≢◌, ℕ, ◌<◌, List, length, Some, AllPairs, Contains, get_or, sym, ap, ◌∙◌, arith}
use Rattle.std.specs.Prelude.{slice_get}
use Rattle.std.specs.Option.{option_map}
use Rattle.std.proofs.lemmas.List.{length-map}
use Rattle.std.proofs.lemmas.Option.{slice_get-map, slice_get-get_or, get_or_from_slice_get}
use Rattle.csub_objects.specs.Types.{Name}
use Rattle.csub_semantics.specs.Points.{PointTree}
use Rattle.csub_semantics.specs.Syntax.{ProgramTree}
use Rattle.csub_semantics.specs.Flows.{flow_of}
use Rattle.csub_semantics.specs.Numbers.{site}
use Rattle.csub_semantics.specs.Books as books
use Rattle.csub_semantics.specs.Books.{Reached}
use Rattle.csub_validity.specs.Valid.{IsValid}
use Rattle.flow_graph.proofs.LawsPlaces.{site_one}
use Rattle.dual_walk.specs.declared.fact.Fact.{Fact}
use Rattle.call_walk.specs.declared.answer.WalkResult.{WalkResult}
use Rattle.dual_walk.specs.Books.{IsNamed, named_fact, named_facts}
use Rattle.call_walk.specs.Walks.{IsWalk}
use Rattle.explain_report.specs.WalkTexts.{walk_text}
use Rattle.explain_report.specs.Walks.{AreReachedPairs, IsWalkText}
use Rattle.dual_walk.proofs.LawsLists.{get_some}
use Rattle.dual_walk.proofs.LawsFacts.{named_as}

module _ (P P' : ProgramTree) where
  -- facts of the same names have the same numbers
  same_numbers : IsValid P → IsValid P' → (c d : Fact) → IsNamed P P' c → IsNamed P P' d → named_fact P P' c ≡ named_fact P P' d → (c.old ≡ d.old) × (c.new ≡ d.new)
  same_numbers valid valid' c d n m e =
      let same : books.fact n.name n.point n.other ≡ books.fact m.name m.point m.other = sym (named_as P P' c n) ∙ e ∙ named_as P P' d m in
      let old : site n.name n.point ≡ site m.name m.point = ap (λ (f : books.Fact). site f.function f.old) same in
      let new : site n.name n.other ≡ site m.name m.other = ap (λ (f : books.Fact). site f.function f.new) same in
      (site_one P valid c.old d.old (site m.name m.point) (n.old ∙ ap Some old) m.old, site_one P' valid' c.new d.new (site m.name m.other) (n.new ∙ ap Some new) m.new)

  named_at : (facts : List Fact) (i : ℕ) (c : Fact) (d : books.Fact) → slice_get facts i ≡ Some c → get_or (named_facts P P' facts) i d ≡ named_fact P P' c
  named_at facts i c d is =
      get_or_from_slice_get (named_facts P P' facts) i (named_fact P P' c) d (slice_get-map (named_fact P P') facts i ∙ ap (option_map (named_fact P P')) is)

  module _ (walked : WalkResult) (walk : IsWalk P P' walked) where
    abbrev facts : List Fact
    facts = walked.facts.items

    abbrev pairs : List books.Fact
    pairs = named_facts P P' facts

    pairs_counted : length pairs ≡ length facts
    pairs_counted = length-map facts (named_fact P P')

    apart : IsValid P → IsValid P' → AllPairs (λ c d. c ≢ d) pairs
    apart valid valid' i j d less within same =
        let later : j < length facts = omega (arith, pairs_counted) in
        let c = get_some facts i (omega arith) in
        let e = get_some facts j later in
        let numbers = same_numbers valid valid' c.0 e.0 (walk.reasons i c.0 c.1).named (walk.reasons j e.0 e.1).named (sym (named_at facts i c.0 d c.1) ∙ same ∙ named_at facts j e.0 d e.1) in
        let one : i ≡ j = walk.once i j c.0 e.0 c.1 e.1 numbers.0 numbers.1 in
        absurd (omega arith)

    held_reached : (f : Name) (p p' : PointTree) → Contains pairs (books.fact f p p') → Reached (flow_of P) (flow_of P') f p p'
    held_reached f p p' held = record {
      book = pairs;
      valid = walk.book;
      place = held.0;
      stands = slice_get-get_or pairs held.0 (books.fact f p p') held.1 ∙ ap Some held.2;
    }

    are_reached : IsValid P → IsValid P' → AreReachedPairs P P' pairs
    are_reached valid valid' = record { once = apart valid valid'; each = λ f p p'. (held_reached f p p', walk.all f p p') }

    pub walk_told : IsValid P → IsValid P' → (source text : List ℕ) → text ≡ walk_text P source walked.danger (length facts) → IsWalkText source P P' text
    walk_told valid valid' source text is = record {
      row = walked.danger;
      danger = record { edges = walk.edges; danger = walk.danger };
      pairs = pairs;
      reached = are_reached valid valid';
      is = is ∙ ap (walk_text P source walked.danger) (sym pairs_counted);
    }
