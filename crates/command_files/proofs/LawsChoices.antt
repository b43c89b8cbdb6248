-- From the row of a walk to choices.
use Rattle.std.proofs.Common.{◌≡◌, ℕ, List, [], ◌∷◌, length, Bool, IsTrue, refl, arith, inl, inr}
use Rattle.std.specs.List.{AllZip}
use Rattle.std.proofs.lemmas.Option.{slice_get_cases}
use Rattle.csub_semantics.specs.Syntax.{ProgramTree}
use Rattle.csub_semantics.specs.Flows.{edge_list}
use Rattle.edge_trace.specs.Rows.{has}
use Rattle.edge_trace.proofs.Laws.{has-within}
use Rattle.call_walk.specs.declared.answer.WalkResult.{WalkResult}
use Rattle.call_walk.specs.Walks.{IsWalk}
use Rattle.test_history.specs.Histories.{EntryParts}
use Rattle.test_select.specs.declared.choice.Choice.{Choice}
use Rattle.test_select.specs.declared.choice.Choice.TheVariants.{Selected, Left}
use Rattle.test_select.specs.Selection.{Chooses}
use Rattle.command_files.specs.Choices.{CrossesDanger, IsChoice}

module _ (P P' : ProgramTree) (walked : WalkResult) (is : IsWalk P P' walked) where
  -- a dangerous edge that was crossed is in both rows
  in_row : (crossed : List Bool) (e : ℕ) → CrossesDanger P P' crossed e → IsTrue (has walked.danger e)
  in_row crossed e crosses = (is.danger e crosses.edge crosses.numbered).1 crosses.danger

  crosses_danger : (crossed : List Bool) (e : ℕ) → IsTrue (has crossed e) → IsTrue (has walked.danger e) → CrossesDanger P P' crossed e
  crosses_danger crossed e first second = elim ((slice_get_cases (edge_list P) e).1) [
    | inl h ↦ record { crosses = first; edge = h.0; numbered = h.2; danger = (is.danger e h.0 h.2).0 second }
    | inr h ↦ absurd (omega (arith, h.0, has-within walked.danger e second, is.edges))
  ]

  choice_is : (entry : EntryParts) (choice : Choice) → Chooses entry.crossed walked.danger choice → IsChoice P P' entry choice
  choice_is entry (Selected e) chosen = (
    crosses_danger entry.crossed e chosen.first chosen.second,
    λ d below crosses. chosen.least d below crosses.crosses (in_row entry.crossed d crosses),
  )
  choice_is entry Left chosen = λ e crosses. chosen e crosses.crosses (in_row entry.crossed e crosses)

  pub choices_are : (entries : List EntryParts) (choices : List Choice) → AllZip (λ (entry : EntryParts) (choice : Choice). Chooses entry.crossed walked.danger choice) entries choices → AllZip (IsChoice P P') entries choices
  choices_are [] [] each = tt
  choices_are [] (c ∷ choices) each = absurd each
  choices_are (e ∷ entries) [] each = absurd each
  choices_are (e ∷ entries) (c ∷ choices) each = (choice_is e c each.0, choices_are entries choices each.1)

-- as many choices as entries
pub many_choices : (R : EntryParts → Choice → Type 0) (entries : List EntryParts) (choices : List Choice) → AllZip R entries choices → length choices ≡ length entries
many_choices R [] [] each = refl
many_choices R [] (c ∷ choices) each = absurd each
many_choices R (e ∷ entries) [] each = absurd each
many_choices R (e ∷ entries) (c ∷ choices) each = grind (arith, many_choices R entries choices each.1)
