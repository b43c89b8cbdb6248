-- From what a machine shows to an entry.
use Rattle.std.proofs.Common.{◌≡◌, ◌↔◌, ℕ, List, length, Bool, IsTrue, Some, sym, ap, ◌∙◌, subst}
use Rattle.csub_semantics.specs.declared.status.Status.{Status}
use Rattle.csub_semantics.specs.Syntax.{ProgramParts, program_tree}
use Rattle.csub_semantics.specs.Flows.{flow_of, edge_list}
use Rattle.csub_semantics.specs.Numbers.{IsCrossed}
use Rattle.csub_semantics.specs.Runs.{run_of}
use Rattle.csub_machine.specs.Moments.{Seen, moment_of, output_of, turns_of, crossed_of, results_of}
use Rattle.edge_trace.specs.Rows.{has}
use Rattle.test_suite.specs.Tests.{TestParts}
use Rattle.test_history.specs.Histories.{EntryParts}
use Rattle.test_history.specs.Entries.{IsRowOf, IsEntry}

-- what a machine shows after a whole run of a test is the test's entry
pub entry_is : (program : ProgramParts) (asked copy : TestParts) (entry : EntryParts) (status : Status) (old new : Seen) (input : List ℕ) (budget turns : ℕ) (output : List ℕ) (row : List Bool)
    → old ≡ record { program = program; input = input; done = 0 }
    → input ≡ asked.input → budget ≡ asked.budget
    → new ≡ record old { done = budget }
    → run_of (flow_of (program_tree old.program)) old.input budget ≡ Some (results_of status new)
    → output ≡ output_of (moment_of new) → turns ≡ turns_of new.done (moment_of new)
    → length row ≡ length (edge_list (program_tree new.program))
    → ((e : ℕ) → IsTrue (has row e) ↔ IsCrossed (program_tree new.program) (crossed_of (moment_of new)) e)
    → copy ≡ asked
    → entry ≡ record { test = copy; status = status; turns = turns; output = output; crossed = row }
    → IsEntry (program_tree program) asked entry
entry_is program asked copy entry status old new input budget turns output row is inputs budgets later ran written done edges crossed copied made =
    let same : new.program ≡ program = ap (λ (s : Seen). s.program) later ∙ ap (λ (s : Seen). s.program) is in
    let begun = subst (λ (s : Seen). run_of (flow_of (program_tree s.program)) s.input budget ≡ Some (results_of status new)) is ran in
    let fed = subst (λ (bytes : List ℕ). run_of (flow_of (program_tree program)) bytes budget ≡ Some (results_of status new)) inputs begun in
    let whole = subst (λ (n : ℕ). run_of (flow_of (program_tree program)) asked.input n ≡ Some (results_of status new)) budgets fed in
    let rows : IsRowOf (program_tree new.program) (results_of status new) row = record { edges = edges; crossed = crossed } in
    let placed = subst (λ (p : ProgramParts). IsRowOf (program_tree p) (results_of status new) row) same rows in
    record {
      test = ap (λ (e : EntryParts). e.test) made ∙ copied;
      results = results_of status new;
      run = whole;
      status = ap (λ (e : EntryParts). e.status) made;
      turns = ap (λ (e : EntryParts). e.turns) made ∙ done;
      output = ap (λ (e : EntryParts). e.output) made ∙ written;
      crossed = subst (IsRowOf (program_tree program) (results_of status new)) (sym (ap (λ (e : EntryParts). e.crossed) made)) placed;
    }
