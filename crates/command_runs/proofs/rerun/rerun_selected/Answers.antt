use Rattle.std.proofs.Common.{◌≡◌, ◌∙◌, All, List, length, refl, sym, ap, subst}
use Rattle.std.specs.List.{AllZip}
use Rattle.csub_semantics.specs.Syntax.{program_tree}
use Rattle.test_suite.specs.Tests.{TestParts, IsWithin}
use Rattle.test_history.specs.Histories.{EntryParts, IsEntryWithin}
use Rattle.test_history.specs.Entries.{IsEntry}
use Rattle.command_runs.specs.Rerun.{selected_tests}
use Rattle.command_files.proofs.LawsEntries.{as_many}
use Rattle.command_runs.proofs.LawsReruns.{selected_within, selected_count, has_reran}
use Rattle.command_runs.proofs.rerun.rerun_selected.Goals as goal

pub run_all-requires-clause-within : goal.run_all-requires-clause-within
run_all-requires-clause-within g c = λ κs lives.
    subst (λ (tests : List TestParts). All IsWithin tests) (sym (c.deref.ensures.value ∙ c.in_ok-tests.ensures))
    (selected_within c.entries.result.now c.args.choices.now (subst (All IsEntryWithin) (sym c.entries.ensures.value) c.requires.within))

pub rerun_text-requires-clause-results : goal.rerun_text-requires-clause-results
rerun_text-requires-clause-results g c =
    let many : length c.args.choices.now ≡ length c.entries.result.now = c.requires.choices ∙ ap length (sym c.entries.ensures.value) in
    ap length c.deref-2.ensures.value
    ∙ as_many (program_tree c.args.program.now) c.deref.result.now c.in_ok-results.results.items c.in_ok-results.ensures
    ∙ ap length (c.deref.ensures.value ∙ c.in_ok-tests.ensures)
    ∙ selected_count c.entries.result.now c.args.choices.now many

pub returns : goal.returns
returns g c =
    let P = program_tree c.args.program.now in
    let results = c.in_ok-results.results.items in
    let tests : c.deref.result.now ≡ selected_tests c.args.history.now.entries c.args.choices.now =
    c.deref.ensures.value ∙ c.in_ok-tests.ensures ∙ ap (λ (entries : List EntryParts). selected_tests entries c.args.choices.now) c.entries.ensures.value in
    has_reran P P c.args.history.now.entries c.args.choices.now results c.args.choices.now c.deref-2.result.now c.rerun_text.result
    (subst (λ (each : List TestParts). AllZip (IsEntry P) each results) tests c.in_ok-results.ensures) refl c.deref-2.ensures.value
    c.rerun_text.ensures.text c.rerun_text.ensures.differs
