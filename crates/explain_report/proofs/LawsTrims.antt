-- Laws of parts of a walk's facts, for proofs above: the reasons of a book name earlier facts.
use Rattle.std.proofs.Common.{◌≡◌, ℕ, ◌<◌, List, take, Some, sym, ◌∙◌, ◌⊎◌, inl, inr, arith}
use Rattle.std.specs.Prelude.{slice_get, Contains}
use Rattle.std.proofs.lemmas.Option.{slice_get-map}
use Rattle.csub_semantics.specs.Syntax.{ProgramTree}
use Rattle.csub_semantics.specs.Flows.{flow_of}
use Rattle.csub_semantics.specs.Books as books
use Rattle.csub_semantics.specs.Books.{Justified}
use Rattle.flow_graph.proofs.LawsLists.{made_of}
use Rattle.dual_walk.specs.declared.fact.Fact.{Fact}
use Rattle.dual_walk.specs.declared.fact.Why.{Why}
use Rattle.dual_walk.specs.declared.fact.Why.TheVariants.{Start, Step, Call, Over}
use Rattle.dual_walk.specs.Books.{named_fact, named_facts, named_reason, AreReasoned}
use Rattle.dual_walk.proofs.LawsLists.{get_take}
use Rattle.explain_report.specs.Trims.{named_places, RestOnEarlier}
use Rattle.explain_report.proofs.Places.{one_place, two_places}

module _ (P P' : ProgramTree) where
  named_earlier : (facts : List Fact) (i j : ℕ) (b : books.Fact) → slice_get (named_facts P P' (take i facts)) j ≡ Some b → j < i
  named_earlier facts i j b e =
      let made = made_of (named_fact P P') (slice_get (take i facts) j) b (sym (slice_get-map (named_fact P P') (take i facts) j) ∙ e) in
      (get_take i facts j made.value made.is).0

  named_before : (facts : List Fact) (i : ℕ) (b : books.Fact) (why : Why) → Justified (flow_of P) (flow_of P') (named_facts P P' (take i facts)) b (named_reason P why) → (j : ℕ) → Contains (named_places why) j → j < i
  named_before facts i b Start h j k = absurd (omega (arith, k.1))
  named_before facts i b (Step a e) h j k = let l = named_earlier facts i a _ h.2 in omega (arith, one_place a j k)
  named_before facts i b (Call a) h j k = let l = named_earlier facts i a _ h.3 in omega (arith, one_place a j k)
  named_before facts i b (Over a m) h j k = pick (two_places a m j k)
    where
      pick : (j ≡ a) ⊎ (j ≡ m) → j < i
      pick (inl e) = let l = named_earlier facts i a _ h.3 in omega arith
      pick (inr e) = let l = named_earlier facts i m _ h.4 in omega arith

  pub reasoned_rest : (facts : List Fact) → AreReasoned P P' facts → RestOnEarlier facts
  reasoned_rest facts ok = record { earlier = λ i j c e k. named_before facts i (named_fact P P' c) c.why (ok.each i c e).justified j k }
