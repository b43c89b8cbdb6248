-- What `explain` writes of a test: how a walk reaches the edge for which it has to run again, and that the versions part there.
use Rattle.std.specs.Prelude.{ℕ, ◌≡◌, ◌<◌, ◌+◌, ◌⊎◌, List, [], ◌∷◌, ◌++◌, length, slice_get}
use Rattle.std.specs.Prelude.{Option, Some, None, Contains, codes}
use Rattle.std.specs.Fmt.{decimal}
use Rattle.line_text.specs.Lines.{text_of_lines}
use Rattle.line_text.specs.Words.{line_of_words}
use Rattle.csub_objects.specs.Types.{Name}
use Rattle.csub_semantics.specs.Points.{PointTree, exit}
use Rattle.csub_semantics.specs.Syntax.{ProgramTree}
use Rattle.csub_semantics.specs.Flows.{Edge, function_of, node_of, flow_of}
use Rattle.csub_semantics.specs.Numbers.{site, site_at, edge_at, name_at}
use Rattle.csub_semantics.specs.Books.{SameLabel, CallsAt, IsNoCallAt}
use Rattle.source_place.specs.Places.{place_of, place_text}
use Rattle.dual_walk.specs.declared.fact.Fact.{Fact}
use Rattle.dual_walk.specs.declared.fact.Why.{Why}
use Rattle.dual_walk.specs.declared.fact.Why.TheVariants.{Start, Step, Call, Over}
use Rattle.dual_walk.specs.Books.{AreReasoned, name_in, exit_in}
use Rattle.test_history.specs.Histories.{EntryParts}
use Rattle.test_select.specs.declared.choice.Choice.{Choice}
use Rattle.test_select.specs.declared.choice.Choice.TheVariants.{Selected, Left}
use Rattle.test_select.specs.SelectTexts.{choice_line}
use Rattle.explain_report.specs.WalkTexts.{exit_text, span_in, edge_line}
use Rattle.explain_report.specs.Trims.{named_places}

-- ---- what is shown

-- what is called at a point comes back by the fact at a place, which is of the exits of the callee; no place where nothing is called
abbrev pub ComesBackBy : ProgramTree → ProgramTree → List Fact → Name → PointTree → Option ℕ → Type 0
ComesBackBy P P' facts f p None = IsNoCallAt (flow_of P) f p
ComesBackBy P P' facts f p (Some j) =
    (g : Name) × (d : Fact) × CallsAt (flow_of P) f p g × (slice_get facts j ≡ Some d)
    × (site_at P d.old ≡ Some (site g exit)) × (site_at P' d.new ≡ Some (site g exit))

-- the facts show that an edge is dangerous: the one at place k is of its source and a new point from which no equal label follows by
-- the same way out; at a call the one at place `back` says that the callee comes back
pub record Shows (P P' : ProgramTree) (facts : List Fact) (edge : Edge) (k : ℕ) (back : Option ℕ) (other : PointTree) : Type 0 where
  pub fact : Fact
  pub stands : slice_get facts k ≡ Some fact
  pub old : site_at P fact.old ≡ Some (site edge.function edge.from)
  pub new : site_at P' fact.new ≡ Some (site edge.function other)
  pub to : PointTree
  pub leads : (flow_of P).succ edge.function edge.from edge.exit ≡ Some to
  pub parts : (q' : PointTree) → (flow_of P').succ edge.function other edge.exit ≡ Some q'
      → SameLabel (flow_of P) (flow_of P') edge.function to q' → ⊥
  pub returns : ComesBackBy P P' facts edge.function edge.from back

-- each fact is one of those that show the danger, or is named by the reason of a later one
pub record AreUsed (facts : List Fact) (k : ℕ) (back : Option ℕ) : Type 0 where
  pub each : (i : ℕ) → i < length facts → (i ≡ k) ⊎ (back ≡ Some i)
      ⊎ ((later : ℕ) × (c : Fact) × (i < later) × (slice_get facts later ≡ Some c) × Contains (named_places c.why) i)

-- ---- how it is told

-- a reason; facts are counted from 1, and an edge is told by its way out
abbrev pub reason_words : ProgramTree → Why → List (List ℕ)
reason_words P Start = codes "start" ∷ []
reason_words P (Step j e) = codes "step" ∷ decimal (j + 1) ∷ exit_text (exit_in (edge_at P e)) ∷ []
reason_words P (Call j) = codes "call" ∷ decimal (j + 1) ∷ []
reason_words P (Over j m) = codes "over" ∷ decimal (j + 1) ∷ decimal (m + 1) ∷ []

-- the line `K F P Q WHY` of the fact at place i: its number, the name of its function, and the numbers of both points
abbrev pub fact_line : ProgramTree → ℕ → Fact → List ℕ
fact_line P i c = line_of_words
    (decimal (i + 1) ∷ name_in (name_at P c.function) ∷ decimal c.old ∷ decimal c.new ∷ reason_words P c.why)

-- the lines of facts, the first of which has place i
abbrev pub fact_lines : ProgramTree → ℕ → List Fact → List (List ℕ)
fact_lines P i [] = []
fact_lines P i (c ∷ facts) = fact_line P i c ∷ fact_lines P (i + 1) facts

-- the place of a new point in its source, and `none` where there is no point
abbrev pub new_place : ProgramTree → List ℕ → Name → Option PointTree → List ℕ
new_place P' source' f None = codes "none"
new_place P' source' f (Some q') = place_text (place_of source' (span_in (node_of (function_of P' f) q')))

abbrev pub back_words : Option ℕ → List (List ℕ)
back_words None = []
back_words (Some j) = decimal (j + 1) ∷ []

-- the line `danger K EXIT NEW`, at a call `danger K J EXIT NEW`: the facts that show the danger, the way out, and where it leads in the
-- new version
abbrev pub parting_line : ProgramTree → List ℕ → Edge → ℕ → Option ℕ → PointTree → List ℕ
parting_line P' source' edge k back other = line_of_words
    (codes "danger" ∷ decimal (k + 1) ∷ back_words back
    ++ exit_text edge.exit ∷ new_place P' source' edge.function ((flow_of P').succ edge.function other edge.exit) ∷ [])

-- ---- the text of a test

-- the lines that explain an edge: its own, a book each fact of which is used, and the line of the danger that it shows
pub record IsExplanation (source source' : List ℕ) (P P' : ProgramTree) (e : ℕ) (lines : List (List ℕ)) : Type 0 where
  pub edge : Edge
  pub numbered : edge_at P e ≡ Some edge
  pub facts : List Fact
  pub book : AreReasoned P P' facts
  pub place : ℕ
  pub back : Option ℕ
  pub other : PointTree
  pub shows : Shows P P' facts edge place back other
  pub used : AreUsed facts place back
  pub is : lines ≡ edge_line P source e edge ∷ fact_lines P 0 facts ++ parting_line P' source' edge place back other ∷ []

-- the text of a test for which a choice was made: the line of the choice, and where the test is selected the explanation of its edge
abbrev pub IsExplainText : List ℕ → List ℕ → ProgramTree → ProgramTree → EntryParts → Choice → List ℕ → Type 0
IsExplainText source source' P P' entry Left text = text ≡ text_of_lines (choice_line entry Left ∷ [])
IsExplainText source source' P P' entry (Selected e) text =
    (lines : List (List ℕ)) × IsExplanation source source' P P' e lines × (text ≡ text_of_lines (choice_line entry (Selected e) ∷ lines))
