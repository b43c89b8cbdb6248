-- Which tests ran again, and that none differs exactly where all tests of a recorded suite behave the same.
use Rattle.std.proofs.Common.{◌≡◌, ◌↔◌, ◌+◌, ℕ, List, [], ◌∷◌, length, Bool, true, false, not, nat_lt, Option, Some, Result, Ok, Err, IfOk, All, refl, sym, ap, ap₂, ◌∙◌, subst, arith, cond}
use Rattle.std.specs.Prelude.{count_by}
use Rattle.std.specs.List.{AllZip}
use Rattle.std.specs.declared.alloc.AllocError.{AllocError}
use Rattle.std.proofs.lemmas.Bool.{ltb-false}
use Rattle.std.proofs.lemmas.List.Sums.{sum_by-cons}
use Rattle.std.proofs.lemmas.List.Elements.{All-cons, All-head, All-tail, All-nil}
use Rattle.csub_semantics.specs.Syntax.{ProgramTree}
use Rattle.csub_semantics.specs.Flows.{flow_of}
use Rattle.csub_semantics.specs.Runs.{Results, run_of}
use Rattle.test_suite.specs.Tests.{TestParts, IsWithin}
use Rattle.test_history.specs.Histories.{EntryParts, HistoryParts, IsEntryWithin}
use Rattle.test_select.specs.declared.choice.Choice.{Choice}
use Rattle.test_select.specs.declared.choice.Choice.TheVariants.{Selected, Left}
use Rattle.test_select.specs.Selection.{is_selected}
use Rattle.rerun_report.specs.Reruns.{BehavesAs, behaves_as, IsSame, AllSame, outcomes, was_left, ran_again, differs as is_told_to_differ, differ_count}
use Rattle.rerun_report.specs.RerunTexts.{rerun_text}
use Rattle.rerun_report.specs.declared.text.RerunText.{RerunText}
use Rattle.rerun_report.proofs.LawsReruns.{behaves, behaves_test, differ_none}
use Rattle.test_history.specs.Entries.{IsEntry}
use Rattle.command_files.specs.Choices.{BehavesTheSame}
use Rattle.command_files.specs.Steps.{HasChosen}
use Rattle.command_runs.specs.Rerun.{IsRerun, IsFaithful, IsFaithfulToEach, selected_tests}
use Rattle.command_runs.specs.Steps.{HasReran}

-- ---- the selected tests

-- they are within the limits of a suite's tests
pub selected_within : (entries : List EntryParts) (choices : List Choice) → All IsEntryWithin entries → All IsWithin (selected_tests entries choices)
selected_within [] choices within = All-nil IsWithin
selected_within (e ∷ entries) [] within = All-nil IsWithin
selected_within (e ∷ entries) (Selected n ∷ choices) within =
    All-cons IsWithin e.test (selected_tests entries choices) (All-head IsEntryWithin e entries within).test (selected_within entries choices (All-tail IsEntryWithin e entries within))
selected_within (e ∷ entries) (Left ∷ choices) within = selected_within entries choices (All-tail IsEntryWithin e entries within)

-- they are as many as the selected choices
pub selected_count : (entries : List EntryParts) (choices : List Choice) → length choices ≡ length entries → length (selected_tests entries choices) ≡ count_by is_selected choices
selected_count [] [] many = refl
selected_count [] (c ∷ choices) many = cc
selected_count (e ∷ entries) [] many = cc
selected_count (e ∷ entries) (Selected n ∷ choices) many =
    let more : length (selected_tests entries choices) ≡ count_by is_selected choices = selected_count entries choices (omega (arith, many)) in
    let step : count_by is_selected (Selected n ∷ choices) ≡ 1 + count_by is_selected choices = sum_by-cons (λ (other : Choice). cond (is_selected other) 1 0) (Selected n) choices in
    omega (arith, more, step)
selected_count (e ∷ entries) (Left ∷ choices) many =
    let more : length (selected_tests entries choices) ≡ count_by is_selected choices = selected_count entries choices (omega (arith, many)) in
    let step : count_by is_selected (Left ∷ choices) ≡ 0 + count_by is_selected choices = sum_by-cons (λ (other : Choice). cond (is_selected other) 1 0) Left choices in
    omega (arith, more, step)

-- ---- their results

module _ (P P' : ProgramTree) where
  same_as : (t : TestParts) (e r : EntryParts) → IsEntry P t e → IsEntry P' e.test r → BehavesAs e r → BehavesTheSame P P' t
  same_as t e r is again same = record {
    old = is.results;
    new = again.results;
    run_old = is.run;
    run_new = subst (λ (q : TestParts). run_of (flow_of P') q.input q.budget ≡ Some again.results) is.test again.run;
    output = sym again.output ∙ sym same.output ∙ is.output;
    status = sym again.status ∙ sym same.status ∙ is.status;
    turns = sym again.turns ∙ sym same.turns ∙ is.turns;
  }

  one_result : (a b : Results) (o : Option Results) → o ≡ Some a → o ≡ Some b → a ≡ b
  one_result a b o first second = cc

  as_told : (t : TestParts) (e r : EntryParts) → IsEntry P t e → IsEntry P' e.test r → BehavesTheSame P P' t → BehavesAs e r
  as_told t e r is again same =
      let run_new = subst (λ (q : TestParts). run_of (flow_of P') q.input q.budget ≡ Some again.results) is.test again.run in
      let old : is.results ≡ same.old = one_result is.results same.old (run_of (flow_of P) t.input t.budget) is.run same.run_old in
      let new : again.results ≡ same.new = one_result again.results same.new (run_of (flow_of P') t.input t.budget) run_new same.run_new in
      record {
        output = is.output ∙ ap (λ (x : Results). x.output) old ∙ sym same.output ∙ ap (λ (x : Results). x.output) (sym new) ∙ sym again.output;
        status = is.status ∙ ap (λ (x : Results). x.status) old ∙ sym same.status ∙ ap (λ (x : Results). x.status) (sym new) ∙ sym again.status;
        turns = is.turns ∙ ap (λ (x : Results). x.turns) old ∙ sym same.turns ∙ ap (λ (x : Results). x.turns) (sym new) ∙ sym again.turns;
      }

  -- each test of a suite behaves the same, where those that were left do and the others behave as their entries tell
  all_behave : (tests : List TestParts) (entries : List EntryParts) (choices : List Choice) (results : List EntryParts) → AllZip (IsEntry P) tests entries
      → AllZip (λ test choice. choice ≡ Left → BehavesTheSame P P' test) tests choices → AllZip (IsEntry P') (selected_tests entries choices) results
      → AllSame entries choices results → All (BehavesTheSame P P') tests
  all_behave [] entries choices results each left ran same = All-nil (BehavesTheSame P P')
  all_behave (t ∷ tests) [] choices results each left ran same = absurd each
  all_behave (t ∷ tests) (e ∷ entries) [] results each left ran same = absurd left
  all_behave (t ∷ tests) (e ∷ entries) (Selected n ∷ choices) [] each left ran same = absurd ran
  all_behave (t ∷ tests) (e ∷ entries) (Selected n ∷ choices) (r ∷ results) each left ran same =
      All-cons (BehavesTheSame P P') t tests (same_as t e r each.0 ran.0 (All-head IsSame (ran_again e r) (outcomes entries choices results) same))
      (all_behave tests entries choices results each.1 left.1 ran.1 (All-tail IsSame (ran_again e r) (outcomes entries choices results) same))
  all_behave (t ∷ tests) (e ∷ entries) (Left ∷ choices) results each left ran same =
      All-cons (BehavesTheSame P P') t tests (left.0 refl)
      (all_behave tests entries choices results each.1 left.1 ran (All-tail IsSame (was_left e) (outcomes entries choices results) same))

  all_as_told : (tests : List TestParts) (entries : List EntryParts) (choices : List Choice) (results : List EntryParts) → AllZip (IsEntry P) tests entries
      → AllZip (IsEntry P') (selected_tests entries choices) results → All (BehavesTheSame P P') tests → AllSame entries choices results
  all_as_told [] [] choices results each ran behave = All-nil IsSame
  all_as_told [] (e ∷ entries) choices results each ran behave = absurd each
  all_as_told (t ∷ tests) [] choices results each ran behave = absurd each
  all_as_told (t ∷ tests) (e ∷ entries) [] results each ran behave = All-nil IsSame
  all_as_told (t ∷ tests) (e ∷ entries) (Selected n ∷ choices) [] each ran behave = absurd ran
  all_as_told (t ∷ tests) (e ∷ entries) (Selected n ∷ choices) (r ∷ results) each ran behave =
      All-cons IsSame (ran_again e r) (outcomes entries choices results) (as_told t e r each.0 ran.0 (All-head (BehavesTheSame P P') t tests behave))
      (all_as_told tests entries choices results each.1 ran.1 (All-tail (BehavesTheSame P P') t tests behave))
  all_as_told (t ∷ tests) (e ∷ entries) (Left ∷ choices) results each ran behave =
      All-cons IsSame (was_left e) (outcomes entries choices results) tt (all_as_told tests entries choices results each.1 ran (All-tail (BehavesTheSame P P') t tests behave))

  -- ---- which tests differ

  not_false : (b : Bool) → not b ≡ false → b ≡ true
  not_false true is = refl
  not_false false is = cc

  -- a test that ran again is told to differ exactly where it behaves otherwise
  told_again : (t : TestParts) (e r : EntryParts) → IsEntry P t e → IsEntry P' e.test r → (is_told_to_differ (ran_again e r) ≡ false) ↔ BehavesTheSame P P' t
  told_again t e r is again = (
    λ told. same_as t e r is again (behaves e r (not_false (behaves_as e r) told)),
    λ same. ap not (behaves_test e r (as_told t e r is again same)),
  )

  each_told : (tests : List TestParts) (entries : List EntryParts) (choices : List Choice) (results : List EntryParts) → AllZip (IsEntry P) tests entries
      → AllZip (λ test choice. choice ≡ Left → BehavesTheSame P P' test) tests choices → AllZip (IsEntry P') (selected_tests entries choices) results
      → AllZip (λ test outcome. (is_told_to_differ outcome ≡ false) ↔ BehavesTheSame P P' test) tests (outcomes entries choices results)
  each_told [] [] choices results each left ran = tt
  each_told [] (e ∷ entries) choices results each left ran = absurd each
  each_told (t ∷ tests) [] choices results each left ran = absurd each
  each_told (t ∷ tests) (e ∷ entries) [] results each left ran = absurd left
  each_told (t ∷ tests) (e ∷ entries) (Selected n ∷ choices) [] each left ran = absurd ran
  each_told (t ∷ tests) (e ∷ entries) (Selected n ∷ choices) (r ∷ results) each left ran = (told_again t e r each.0 ran.0, each_told tests entries choices results each.1 left.1 ran.1)
  each_told (t ∷ tests) (e ∷ entries) (Left ∷ choices) results each left ran = ((λ told. left.0 refl, λ same. refl), each_told tests entries choices results each.1 left.1 ran)

  faithful_to_each : (old bytes : List ℕ) (history : HistoryParts) (choices : List Choice) (results : List EntryParts) → HasChosen old bytes P P' history choices
      → AllZip (IsEntry P') (selected_tests history.entries choices) results → IsFaithfulToEach old bytes P P' (outcomes history.entries choices results)
  faithful_to_each old bytes history choices results has ran suite tests recorded reads is text =
      each_told tests history.entries choices results (has.recorded suite tests recorded reads is text) (has.chosen.safe suite tests recorded reads is text) ran

  -- ---- whether one differs

  none : (n : ℕ) → nat_lt 0 n ≡ false → n ≡ 0
  none n is = omega (arith, ltb-false 0 n is)

  no_more : (n : ℕ) → n ≡ 0 → nat_lt 0 n ≡ false
  no_more n is = ap (nat_lt 0) is

  faithful : (old bytes : List ℕ) (history : HistoryParts) (choices : List Choice) (results : List EntryParts) → HasChosen old bytes P P' history choices
      → AllZip (IsEntry P') (selected_tests history.entries choices) results → IsFaithful old bytes P P' (nat_lt 0 (differ_count history.entries choices results))
  faithful old bytes history choices results has ran suite tests recorded reads is text =
      let each = has.recorded suite tests recorded reads is text in
      let left = has.chosen.safe suite tests recorded reads is text in
      let count = differ_none history.entries choices results in (
        (λ told. all_behave tests history.entries choices results each left ran (count.0 (none (differ_count history.entries choices results) told))),
        (λ behave. no_more (differ_count history.entries choices results) (count.1 (all_as_told tests history.entries choices results each ran behave))),
      )

  pub rerun_is : (old bytes : List ℕ) (history : HistoryParts) (choices : List Choice) (told : RerunText) (differs : Bool) (text : List ℕ) → HasChosen old bytes P P' history choices
      → HasReran P' history.entries choices told → text ≡ told.bytes.items → differs ≡ nat_lt 0 told.differs → IsRerun old bytes P P' differs text
  rerun_is old bytes history choices told differs text has reran same is =
      let counted : differs ≡ nat_lt 0 (differ_count history.entries choices reran.results) = is ∙ ap (nat_lt 0) reran.count in
      record {
        history = history;
        choices = choices;
        chosen = has.chosen;
        results = reran.results;
        ran = reran.ran;
        is = same ∙ reran.text;
        told = counted;
        faithful = subst (IsFaithful old bytes P P') (sym counted) (faithful old bytes history choices reran.results has reran.ran);
        each = faithful_to_each old bytes history choices reran.results has reran.ran;
      }

  pub has_reran : (entries : List EntryParts) (choices : List Choice) (results : List EntryParts) (chosen : List Choice) (given : List EntryParts) (r : Result RerunText AllocError)
      → AllZip (IsEntry P') (selected_tests entries choices) results → chosen ≡ choices → given ≡ results
      → IfOk r (λ told. told.bytes.items ≡ rerun_text entries chosen given) → IfOk r (λ told. told.differs ≡ differ_count entries chosen given)
      → IfOk r (HasReran P' entries choices)
  has_reran entries choices results chosen given (Ok told) ran first second text count = record {
    results = results;
    ran = ran;
    text = text ∙ ap₂ (rerun_text entries) first second;
    count = count ∙ ap₂ (differ_count entries) first second;
  }
  has_reran entries choices results chosen given (Err e) ran first second text count = tt
