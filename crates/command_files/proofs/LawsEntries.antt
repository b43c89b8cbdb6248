-- From entries to histories.
use Rattle.std.proofs.Common.{◌≡◌, ℕ, zero, suc, ◌≤◌, ◌<◌, List, [], ◌∷◌, length, refl, sym, ap, ap₂, ◌∙◌, subst, arith, All}
use Rattle.std.specs.Prelude.{◌≢◌, AllPairs}
use Rattle.std.specs.List.{AllZip}
use Rattle.std.proofs.lemmas.List.Elements.{All-cons, All-head, All-tail, All-nil}
use Rattle.hex.specs.Hex.{IsBytes}
use Rattle.line_text.specs.Values.{IsDigest}
use Rattle.line_text.proofs.LawsOfDigests.{IsDigest-sha256}
use Rattle.csub_semantics.specs.declared.status.Status.{Status}
use Rattle.csub_semantics.specs.declared.status.Status.TheVariants.{Exit, Trap, Turns}
use Rattle.csub_semantics.specs.Syntax.{ProgramTree}
use Rattle.csub_semantics.specs.Flows.{flow_of, edge_list}
use Rattle.csub_core.specs.Valid.{IsValid}
use Rattle.program_laws.specs.Bounds.{RunsAreBounded, IsBounded, IsExitStatus}
use Rattle.test_suite.specs.Tests.{TestParts, IsWithin}
use Rattle.test_suite.specs.Suites.{names_of as test_names}
use Rattle.test_history.specs.Histories.{EntryParts, HistoryParts, HaveRows, IsEntryWithin, IsHistoryWithin, IsByteStatus, IsEntryOfBytes, IsReadable, names_of}
use Rattle.test_history.specs.Entries.{IsEntry}
use Rattle.command_files.specs.Record.{IsHistory, IsSuiteFile}

-- the rows of entries have the program's number of edges
pub have_rows : (P : ProgramTree) (edges : ℕ) (tests : List TestParts) (entries : List EntryParts) → edges ≡ length (edge_list P) → AllZip (IsEntry P) tests entries → HaveRows edges entries
have_rows P edges [] [] is each = All-nil (λ (entry : EntryParts). length entry.crossed ≡ edges)
have_rows P edges [] (e ∷ entries) is each = absurd each
have_rows P edges (t ∷ tests) [] is each = absurd each
have_rows P edges (t ∷ tests) (e ∷ entries) is each =
    All-cons (λ (entry : EntryParts). length entry.crossed ≡ edges) e entries (each.0.crossed.edges ∙ sym is) (have_rows P edges tests entries is each.1)

-- as many entries as tests
pub as_many : (P : ProgramTree) (tests : List TestParts) (entries : List EntryParts) → AllZip (IsEntry P) tests entries → length entries ≡ length tests
as_many P [] [] each = refl
as_many P [] (e ∷ entries) each = absurd each
as_many P (t ∷ tests) [] each = absurd each
as_many P (t ∷ tests) (e ∷ entries) each = ap suc (as_many P tests entries each.1)

entry_within : (P : ProgramTree) (t : TestParts) (e : EntryParts) → RunsAreBounded (flow_of P) → IsWithin t → IsEntry P t e → IsEntryWithin e
entry_within P t e bounded within is =
    let b : IsBounded t.budget is.results = bounded t.input t.budget is.results is.run in
    record {
      test = subst IsWithin (sym is.test) within;
      turns = omega (arith, b.turns, is.turns, ap (λ (q : TestParts). q.budget) is.test);
      output = omega (arith, b.output, ap length is.output);
    }

pub entries_within : (P : ProgramTree) (tests : List TestParts) (entries : List EntryParts) → RunsAreBounded (flow_of P) → All IsWithin tests → AllZip (IsEntry P) tests entries → All IsEntryWithin entries
entries_within P [] [] bounded within each = All-nil IsEntryWithin
entries_within P [] (e ∷ entries) bounded within each = absurd each
entries_within P (t ∷ tests) [] bounded within each = absurd each
entries_within P (t ∷ tests) (e ∷ entries) bounded within each =
    All-cons IsEntryWithin e entries (entry_within P t e bounded (All-head IsWithin t tests within) each.0) (entries_within P tests entries bounded (All-tail IsWithin t tests within) each.1)

-- the history of a valid program and the tests of a suite is within the limits of its text
pub history_within : (P : ProgramTree) (digest : List ℕ) (edges : ℕ) (tests : List TestParts) (entries : List EntryParts) (history : HistoryParts) → IsValid P → RunsAreBounded (flow_of P) → edges ≡ length (edge_list P)
    → All IsWithin tests → length tests ≤ 8192 → AllZip (IsEntry P) tests entries → history ≡ record { digest = digest; edges = edges; entries = entries } → IsHistoryWithin history
history_within P digest edges tests entries history valid bounded is within few each made =
    subst IsHistoryWithin (sym made) (record {
      edges = omega (arith, is, valid.edges);
      few = omega (arith, few, as_many P tests entries each);
      entries = entries_within P tests entries bounded within each;
      rows = have_rows P edges tests entries is each;
    })

-- ---- histories that can be read back

-- a list of numbers below 256 is one of bytes
small_bytes : (bytes : List ℕ) → All (λ b. b < 256) bytes → IsBytes bytes
small_bytes [] small i = omega arith
small_bytes (b ∷ bytes) small zero = All-head (λ n. n < 256) b bytes small
small_bytes (b ∷ bytes) small (suc i) = small_bytes bytes (All-tail (λ n. n < 256) b bytes small) i

byte_status : (status : Status) → IsExitStatus status → IsByteStatus status
byte_status (Exit n) small = small
byte_status (Trap trap) small = tt
byte_status Turns small = tt

module _ (P : ProgramTree) (bounded : RunsAreBounded (flow_of P)) where
  -- what a run gives for a test whose input is of bytes is of bytes
  pub entry_of_bytes : (t : TestParts) (e : EntryParts) → IsBytes t.input → IsEntry P t e → IsEntryOfBytes e
  entry_of_bytes t e input is =
      let b : IsBounded t.budget is.results = bounded t.input t.budget is.results is.run in
      record {
        input = subst (λ (q : TestParts). IsBytes q.input) (sym is.test) input;
        status = byte_status e.status (subst IsExitStatus (sym is.status) b.status);
        output = subst IsBytes (sym is.output) (small_bytes is.results.output b.bytes);
      }

  entries_of_bytes : (tests : List TestParts) (entries : List EntryParts) → All (λ test. IsBytes test.input) tests → AllZip (IsEntry P) tests entries → All IsEntryOfBytes entries
  entries_of_bytes [] [] bytes each = All-nil IsEntryOfBytes
  entries_of_bytes [] (e ∷ entries) bytes each = absurd each
  entries_of_bytes (t ∷ tests) [] bytes each = absurd each
  entries_of_bytes (t ∷ tests) (e ∷ entries) bytes each =
      All-cons IsEntryOfBytes e entries (entry_of_bytes t e (All-head (λ (test : TestParts). IsBytes test.input) t tests bytes) each.0)
      (entries_of_bytes tests entries (All-tail (λ (test : TestParts). IsBytes test.input) t tests bytes) each.1)

-- the entries have the names of the tests
same_names : (P : ProgramTree) (tests : List TestParts) (entries : List EntryParts) → AllZip (IsEntry P) tests entries → names_of entries ≡ test_names tests
same_names P [] [] each = refl
same_names P [] (e ∷ entries) each = absurd each
same_names P (t ∷ tests) [] each = absurd each
same_names P (t ∷ tests) (e ∷ entries) each = ap₂ (λ (name : List ℕ) names. name ∷ names) (ap (λ (q : TestParts). q.name) each.0.test) (same_names P tests entries each.1)

-- the history of a suite's tests can be read back
pub history_readable : (P : ProgramTree) (source suite : List ℕ) (tests : List TestParts) (history : HistoryParts) → RunsAreBounded (flow_of P) → IsSuiteFile suite tests
    → IsHistory source P tests history → IsHistoryWithin history → IsReadable history
history_readable P source suite tests history bounded file is within = record {
  within = within;
  apart = subst (AllPairs (λ name other. name ≢ other)) (sym (same_names P tests history.entries is.entries)) file.suite.apart;
  digest = subst IsDigest (sym is.digest) (IsDigest-sha256 source);
  bytes = entries_of_bytes P bounded tests history.entries file.says.bytes is.entries;
}
