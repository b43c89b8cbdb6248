-- The text of a test, from its lines.
use Rattle.std.proofs.Common.{◌≡◌, ℕ, ◌<◌, Bool, IsTrue, List, [], ◌∷◌, ◌++◌, length, get_or, Some, refl, sym, ap, ◌∙◌, subst, append_assoc, arith}
use Rattle.std.specs.Prelude.{slice_get}
use Rattle.std.specs.List.{AllZip}
use Rattle.std.proofs.lemmas.Option.{slice_get-get_or, same_Some}
use Rattle.line_text.specs.Lines.{text_of_lines}
use Rattle.csub_semantics.specs.Syntax.{ProgramTree}
use Rattle.csub_semantics.specs.Flows.{Edge}
use Rattle.csub_semantics.specs.Numbers.{edge_at}
use Rattle.edge_trace.specs.Rows.{has}
use Rattle.dual_walk.specs.declared.fact.Fact.{Fact}
use Rattle.test_history.specs.Histories.{EntryParts}
use Rattle.test_select.specs.declared.choice.Choice.{Choice}
use Rattle.test_select.specs.declared.choice.Choice.TheVariants.{Selected, Left}
use Rattle.test_select.specs.Selection.{Chooses}
use Rattle.test_select.specs.SelectTexts.{choice_line}
use Rattle.explain_report.specs.declared.shown.Shown.{Shown}
use Rattle.explain_report.specs.WalkTexts.{edge_line}
use Rattle.explain_report.specs.Explanations.{fact_lines, parting_line, IsExplanation, IsExplainText}
use Rattle.explain_report.specs.Dangers.{Argues}
use Rattle.explain_report.proofs.Places.{zip_left}
use Rattle.explain_report.proofs.PartLemmas.{marked_within}

-- the choice that was read
pub choice_read : (choices : List Choice) (at n : ℕ) (d : Choice) → at < n → length choices ≡ n → slice_get choices at ≡ Some (get_or choices at d)
choice_read choices at n d within long = slice_get-get_or choices at d (omega arith)

-- a test that is selected crossed a dangerous edge
pub selected_danger : (danger : List Bool) (entries : List EntryParts) (choices : List Choice) (at e : ℕ) → AllZip (λ (entry : EntryParts) choice. Chooses entry.crossed danger choice) entries choices
    → slice_get choices at ≡ Some (Selected e) → IsTrue (has danger e)
selected_danger danger entries choices at e chosen is =
    let z = zip_left (λ (entry : EntryParts) choice. Chooses entry.crossed danger choice) entries choices at (Selected e) chosen is in
    z.2.second

pub selected_within : (danger : List Bool) (count e : ℕ) → length danger ≡ count → IsTrue (has danger e) → e < count
selected_within danger count e long among = let l = marked_within danger e among in omega arith

-- the lines of an explanation
module _ (source source' : List ℕ) (P P' : ProgramTree) (e : ℕ) (edge : Edge) (facts : List Fact) (shown : Shown) (argues : Argues P P' facts edge shown) where
  abbrev pub told_lines : List (List ℕ)
  told_lines = edge_line P source e edge ∷ fact_lines P 0 facts ++ parting_line P' source' edge shown.place shown.back argues.shows.0 ∷ []

  pub explains : edge_at P e ≡ Some edge → IsExplanation source source' P P' e told_lines
  explains numbered = record {
    edge = edge;
    numbered = numbered;
    facts = facts;
    book = argues.book;
    place = shown.place;
    back = shown.back;
    other = argues.shows.0;
    shows = argues.shows.1;
    used = argues.used;
    is = refl;
  }

-- the line of the choice, and what follows
module _ (source source' : List ℕ) (P P' : ProgramTree) (entries : List EntryParts) (choices : List Choice) (at : ℕ) (entry read : EntryParts) (choice made : Choice) (start text : List ℕ)
    (entry_is : slice_get entries at ≡ Some entry) (read_is : slice_get entries at ≡ Some read) (choice_is : slice_get choices at ≡ Some choice) (made_is : slice_get choices at ≡ Some made)
    (none : start ≡ []) (first : text ≡ start ++ choice_line read made ++ 10 ∷ []) where
  one_entry : read ≡ entry
  one_entry = same_Some read entry (sym read_is ∙ entry_is)

  one_choice : made ≡ choice
  one_choice = same_Some made choice (sym made_is ∙ choice_is)

  line_there : text ≡ choice_line entry made ++ 10 ∷ []
  line_there = first ∙ ap (λ s. s ++ choice_line read made ++ 10 ∷ []) none ∙ ap (λ r. choice_line r made ++ 10 ∷ []) one_entry

  pub left_told : made ≡ Left → IsExplainText source source' P P' entry choice text
  left_told is = subst (λ c. IsExplainText source source' P P' entry c text) (sym is ∙ one_choice) (line_there ∙ ap (λ c. choice_line entry c ++ 10 ∷ []) is)

  pub selected_told : (e : ℕ) (whole : List ℕ) → made ≡ Selected e → (lines : List (List ℕ)) × IsExplanation source source' P P' e lines × (whole ≡ text ++ text_of_lines lines) → IsExplainText source source' P P' entry choice whole
  selected_told e whole is h =
      let line = line_there ∙ ap (λ c. choice_line entry c ++ 10 ∷ []) is in
      subst (λ c. IsExplainText source source' P P' entry c whole) (sym is ∙ one_choice)
      (h.0, h.1, h.2 ∙ ap (λ t. t ++ text_of_lines h.0) line ∙ append_assoc (choice_line entry (Selected e)) (10 ∷ []) (text_of_lines h.0))
