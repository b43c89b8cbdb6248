-- Why a test that is left may be left.
use Rattle.std.proofs.Common.{◌≡◌, ℕ, ◌<◌, List, [], ◌∷◌, length, get_or, Bool, All, refl, sym, ap, ◌∙◌, subst, arith, inl, inr}
use Rattle.std.specs.Prelude.{AllPairs, ◌≢◌}
use Rattle.std.specs.List.{AllZip}
use Rattle.std.proofs.Math.ListN.{get_or-eq_default}
use Rattle.std.proofs.lemmas.Bool.{cases_lt}
use Rattle.std.proofs.lemmas.List.Elements.{All-cons, All-head, All-tail, All-nil, All-contains_itself}
use Rattle.hex.specs.Hex.{IsBytes}
use Rattle.csub_semantics.specs.declared.status.Status.{Status}
use Rattle.csub_semantics.specs.declared.status.Status.TheVariants.{Exit, Trap, Turns}
use Rattle.csub_semantics.specs.Syntax.{ProgramTree}
use Rattle.csub_semantics.specs.Flows.{Edge, flow_of}
use Rattle.csub_semantics.specs.Runs.{Results}
use Rattle.csub_core.specs.Valid.{IsValid}
use Rattle.csub_semantics.specs.Books.{Reached, Dangerous}
use Rattle.program_laws.specs.Bounds.{RunsAreBounded, IsBounded, IsExitStatus}
use Rattle.program_laws.specs.Numbered.{EdgesHaveNumbers}
use Rattle.call_walk.specs.Lockstep.{SameRuns, CrossesNone}
use Rattle.csub_answers.specs.Accepted.{Accepted}
use Rattle.test_suite.specs.Tests.{TestParts}
use Rattle.test_suite.specs.Suites.{names_of as suite_names}
use Rattle.line_text.specs.Values.{IsDigest}
use Rattle.test_history.specs.Histories.{EntryParts, HistoryParts, IsByteStatus, IsEntryOfBytes, names_of}
use Rattle.test_history.specs.HistoryTexts.{history_text}
use Rattle.test_select.specs.declared.choice.Choice.{Choice}
use Rattle.test_select.specs.declared.choice.Choice.TheVariants.{Left}
use Rattle.test_history.specs.Entries.{IsRowOf, IsEntry}
use Rattle.test_history.specs.declared.version.Version.TheVariants.{Third}
use Rattle.command_files.specs.Record.{IsHistory, IsHistoryOf, IsHistoryFile, IsSuiteFile}
use Rattle.command_files.specs.Choices.{CrossesDanger, IsChoice, BehavesTheSame}
use Rattle.command_files.specs.Steps.{IsOnlyHistory, HasChosen}
use Rattle.command_files.proofs.LawsEntries.{history_within}

-- ---- what `record` writes of a source can be read back

bytes_from : (xs : List ℕ) → All (λ b. b < 256) xs → IsBytes xs
bytes_from xs all i = elim (cases_lt i (length xs)) [
  | inl within ↦ all i 0 within
  | inr past ↦ subst (λ b. b < 256) (sym (get_or-eq_default xs 0 past)) (omega arith)
]

byte_status : (status : Status) → IsExitStatus status → IsByteStatus status
byte_status (Exit n) byte = byte
byte_status (Trap trap) byte = tt
byte_status Turns byte = tt

entry_of_bytes : (P : ProgramTree) (t : TestParts) (e : EntryParts) → RunsAreBounded (flow_of P) → IsBytes t.input → IsEntry P t e → IsEntryOfBytes e
entry_of_bytes P t e bounded bytes is =
    let b : IsBounded t.budget is.results = bounded t.input t.budget is.results is.run in
    record {
      input = subst (λ (q : TestParts). IsBytes q.input) (sym is.test) bytes;
      status = subst IsByteStatus (sym is.status) (byte_status is.results.status b.status);
      output = subst IsBytes (sym is.output) (bytes_from is.results.output b.bytes);
    }

entries_of_bytes : (P : ProgramTree) (tests : List TestParts) (entries : List EntryParts) → RunsAreBounded (flow_of P) → All (λ (t : TestParts). IsBytes t.input) tests → AllZip (IsEntry P) tests entries → All IsEntryOfBytes entries
entries_of_bytes P [] [] bounded bytes each = All-nil IsEntryOfBytes
entries_of_bytes P [] (e ∷ entries) bounded bytes each = absurd each
entries_of_bytes P (t ∷ tests) [] bounded bytes each = absurd each
entries_of_bytes P (t ∷ tests) (e ∷ entries) bounded bytes each =
    All-cons IsEntryOfBytes e entries (entry_of_bytes P t e bounded (All-head (λ (q : TestParts). IsBytes q.input) t tests bytes) each.0)
    (entries_of_bytes P tests entries bounded (All-tail (λ (q : TestParts). IsBytes q.input) t tests bytes) each.1)

same_names : (P : ProgramTree) (tests : List TestParts) (entries : List EntryParts) → AllZip (IsEntry P) tests entries → names_of entries ≡ suite_names tests
same_names P [] [] each = refl
same_names P [] (e ∷ entries) each = absurd each
same_names P (t ∷ tests) [] each = absurd each
same_names P (t ∷ tests) (e ∷ entries) each =
    ap (λ (q : TestParts). q.name ∷ names_of entries) each.0.test ∙ ap (λ (names : List (List ℕ)). t.name ∷ names) (same_names P tests entries each.1)

-- the digest of the source is that of a history that was read
recorded_file : (P : ProgramTree) (old bytes : List ℕ) (found : HistoryParts) → IsValid P → RunsAreBounded (flow_of P) → IsHistoryFile Third old bytes P found
    → (suite : List ℕ) (tests : List TestParts) (recorded : HistoryParts) → IsSuiteFile suite tests → IsHistory old P tests recorded → bytes ≡ history_text recorded → IsHistoryFile Third old bytes P recorded
recorded_file P old bytes found valid bounded file suite tests recorded reads is text = record {
  text = text;
  short = file.short;
  readable =
      record {
        within = history_within P recorded.digest recorded.edges tests recorded.entries recorded valid bounded is.edges reads.says.within reads.suite.few is.entries refl;
        apart = subst (AllPairs (λ name other. name ≢ other)) (sym (same_names P tests recorded.entries is.entries)) reads.suite.apart;
        digest = subst IsDigest (file.digest ∙ sym is.digest) file.readable.digest;
        bytes = entries_of_bytes P tests recorded.entries bounded reads.says.bytes is.entries;
      };
  digest = is.digest;
  edges = is.edges;
}

-- ---- a test whose run crossed no dangerous edge

crosses_none : (P P' : ProgramTree) (results : Results) (row : List Bool) → EdgesHaveNumbers P → IsRowOf P results row → ((e : ℕ) → CrossesDanger P P' row e → ⊥)
    → CrossesNone (Dangerous (flow_of P) (flow_of P')) results.crossed
crosses_none P P' results row numbered is none k d within danger =
    let e : Edge = get_or results.crossed k d in
    let n = numbered e.function e.from danger.to e.exit danger.leads in
    none n.0 (record {
      crosses = (is.crossed n.0).1 (record { edge = e; numbered = n.1; among = All-contains_itself results.crossed k d within });
      edge = e;
      numbered = n.1;
      danger = danger;
    })

module _ (P P' : ProgramTree) (same : SameRuns (flow_of P) (flow_of P') (Reached (flow_of P) (flow_of P')) (Dangerous (flow_of P) (flow_of P'))) (numbered : EdgesHaveNumbers P) where
  behaves : (t : TestParts) (e : EntryParts) (choice : Choice) → IsEntry P t e → IsChoice P P' e choice → choice ≡ Left → BehavesTheSame P P' t
  behaves t e choice is chosen left =
      let none : IsChoice P P' e Left = subst (IsChoice P P' e) left chosen in
      let new = same t.input t.budget is.results is.run (crosses_none P P' is.results e.crossed numbered is.crossed none) in
      record {
        old = is.results;
        new = new.0;
        run_old = is.run;
        run_new = new.1;
        output = sym new.2.output;
        status = sym new.2.status;
        turns = sym new.2.turns;
      }

  all_behave : (tests : List TestParts) (entries : List EntryParts) (choices : List Choice) → AllZip (IsEntry P) tests entries → AllZip (IsChoice P P') entries choices
      → AllZip (λ test choice. choice ≡ Left → BehavesTheSame P P' test) tests choices
  all_behave [] [] [] each chosen = tt
  all_behave [] [] (c ∷ choices) each chosen = absurd chosen
  all_behave [] (e ∷ entries) choices each chosen = absurd each
  all_behave (t ∷ tests) [] choices each chosen = absurd each
  all_behave (t ∷ tests) (e ∷ entries) [] each chosen = absurd chosen
  all_behave (t ∷ tests) (e ∷ entries) (c ∷ choices) each chosen = (behaves t e c each.0 chosen.0, all_behave tests entries choices each.1 chosen.1)

-- ---- the choices

module _ (P P' : ProgramTree) (old bytes : List ℕ) (found : HistoryParts) (bounded : RunsAreBounded (flow_of P)) (valid : IsValid P)
    (alone : (Q : ProgramTree) → Accepted old Q → Q ≡ P) (only : IsOnlyHistory Third old bytes P found) where
  -- where the bytes are what `record` writes for the source and a suite, the entries are those of its tests
  recorded_entries : (suite : List ℕ) (tests : List TestParts) (recorded : HistoryParts) → IsSuiteFile suite tests → IsHistoryOf old tests recorded → bytes ≡ history_text recorded
      → AllZip (IsEntry P) tests found.entries
  recorded_entries suite tests recorded reads is text =
      let here : IsHistory old P tests recorded = subst (λ (Q : ProgramTree). IsHistory old Q tests recorded) (alone is.program is.accepted) is.is in
      let equal : found ≡ recorded = only.only recorded (recorded_file P old bytes found valid bounded only.file suite tests recorded reads here text) in
      subst (λ (h : HistoryParts). AllZip (IsEntry P) tests h.entries) (sym equal) here.entries

  pub has_chosen : (choices : List Choice) → SameRuns (flow_of P) (flow_of P') (Reached (flow_of P) (flow_of P')) (Dangerous (flow_of P) (flow_of P')) → EdgesHaveNumbers P
      → AllZip (IsChoice P P') found.entries choices → HasChosen old bytes P P' found choices
  has_chosen choices same numbered chosen = record {
    chosen =
        record {
          reads = only.file;
          chosen = chosen;
          safe = λ suite tests recorded reads is text. all_behave P P' same numbered tests found.entries choices (recorded_entries suite tests recorded reads is text) chosen;
        };
    recorded = recorded_entries;
  }
