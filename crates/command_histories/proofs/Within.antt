-- What is carried is within the limits of a history's text, and can be read back.
use Rattle.std.proofs.Common.{◌≡◌, ℕ, List, [], ◌∷◌, length, All, inl, inr, refl, sym, ap, ap₂, ◌∙◌, subst, arith}
use Rattle.std.specs.Prelude.{◌≢◌, AllPairs}
use Rattle.std.specs.List.{AllZip, zip}
use Rattle.std.proofs.lemmas.List.Elements.{All-cons, All-head, All-tail, All-nil}
use Rattle.std.proofs.lemmas.Slice.Zip.{AllZip-long, length-zip}
use Rattle.hex.specs.Hex.{IsBytes}
use Rattle.line_text.specs.Values.{IsDigest}
use Rattle.line_text.proofs.LawsOfDigests.{IsDigest-sha256}
use Rattle.csub_semantics.specs.Syntax.{ProgramTree}
use Rattle.csub_semantics.specs.Flows.{flow_of, edge_list}
use Rattle.csub_core.specs.Valid.{IsValid}
use Rattle.program_laws.specs.Bounds.{RunsAreBounded}
use Rattle.test_suite.specs.Tests.{TestParts, IsWithin}
use Rattle.test_history.specs.Histories.{EntryParts, HistoryParts, IsEntryWithin, IsHistoryWithin, IsByteStatus, IsEntryOfBytes, IsReadable, names_of}
use Rattle.test_select.specs.declared.choice.Choice.{Choice}
use Rattle.edge_images.specs.declared.image.Image.{Image}
use Rattle.carry_history.specs.Carried.{Becomes, IsCarried}
use Rattle.command_files.proofs.LawsEntries.{entries_within, entry_of_bytes}

module _ (P : ProgramTree) (images : List Image) where
  -- what holds of whatever an entry of a kind becomes holds of all that entries of that kind become
  all_become : (R Q : EntryParts → Type 0) → ((entry after : EntryParts) (choice : Choice) → R entry → Becomes P images (entry, choice) after → Q after)
      → (entries : List EntryParts) (choices : List Choice) (afters : List EntryParts) → All R entries → AllZip (Becomes P images) (zip entries choices) afters → All Q afters
  all_become R Q each (entry ∷ entries) (choice ∷ choices) (after ∷ afters) are become =
      All-cons Q after afters (each entry after choice (All-head R entry entries are) become.0)
      (all_become R Q each entries choices afters (All-tail R entry entries are) become.1)
  all_become R Q each (entry ∷ entries) (choice ∷ choices) [] are become = absurd become
  all_become R Q each entries choices [] are become = All-nil Q
  all_become R Q each entries choices (after ∷ afters) are become = absurd become

  -- the test, the turns and the output are those of the entry, or a run gave them
  entry_within : RunsAreBounded (flow_of P) → (entry after : EntryParts) (choice : Choice) → IsEntryWithin entry → Becomes P images (entry, choice) after → IsEntryWithin after
  entry_within bounded entry after choice within (inl (stays, moved)) = record {
    test = subst IsWithin (sym moved.test) within.test;
    turns = omega (arith, within.turns, moved.turns, ap (λ (t : TestParts). t.budget) moved.test);
    output = omega (arith, within.output, ap length moved.output);
  }
  entry_within bounded entry after choice within (inr (goes, is)) =
      All-head IsEntryWithin after []
      (entries_within P (entry.test ∷ []) (after ∷ []) bounded (All-cons IsWithin entry.test [] within.test (All-nil IsWithin)) (is, tt))

  -- the row has the program's number of edges
  entry_row : (edges : ℕ) → edges ≡ length (edge_list P) → (entry after : EntryParts) (choice : Choice) → IsEntryWithin entry → Becomes P images (entry, choice) after → length after.crossed ≡ edges
  entry_row edges counted entry after choice within (inl (stays, moved)) = moved.crossed.edges ∙ sym counted
  entry_row edges counted entry after choice within (inr (goes, is)) = is.crossed.edges ∙ sym counted

  carried_within : (source : List ℕ) (choices : List Choice) (history after : HistoryParts) → IsValid P → RunsAreBounded (flow_of P) → length choices ≡ length history.entries → IsHistoryWithin history
      → IsCarried P source images choices history after → IsHistoryWithin after
  carried_within source choices history after valid bounded many within carried =
      let long = AllZip-long (Becomes P images) (zip history.entries choices) after.entries carried.entries in
      record {
        edges = omega (arith, carried.edges, valid.edges);
        few = omega (arith, within.few, many, long, length-zip history.entries choices);
        entries = all_become IsEntryWithin IsEntryWithin (entry_within bounded) history.entries choices after.entries within.entries carried.entries;
        rows =
            all_become IsEntryWithin (λ (entry : EntryParts). length entry.crossed ≡ after.edges) (entry_row after.edges carried.edges) history.entries choices after.entries within.entries carried.entries;
      }

  -- what stands for bytes is that of the entry, or a run gave it
  entry_bytes : RunsAreBounded (flow_of P) → (entry after : EntryParts) (choice : Choice) → IsEntryOfBytes entry → Becomes P images (entry, choice) after → IsEntryOfBytes after
  entry_bytes bounded entry after choice bytes (inl (stays, moved)) = record {
    input = subst (λ (t : TestParts). IsBytes t.input) (sym moved.test) bytes.input;
    status = subst IsByteStatus (sym moved.status) bytes.status;
    output = subst IsBytes (sym moved.output) bytes.output;
  }
  entry_bytes bounded entry after choice bytes (inr (goes, is)) = entry_of_bytes P bounded entry.test after bytes.input is

  -- an entry keeps its test
  same_test : (entry after : EntryParts) (choice : Choice) → Becomes P images (entry, choice) after → after.test ≡ entry.test
  same_test entry after choice (inl (stays, moved)) = moved.test
  same_test entry after choice (inr (goes, is)) = is.test

  same_names : (entries : List EntryParts) (choices : List Choice) (afters : List EntryParts) → length choices ≡ length entries
      → AllZip (Becomes P images) (zip entries choices) afters → names_of afters ≡ names_of entries
  same_names [] [] [] many become = refl
  same_names [] [] (after ∷ afters) many become = absurd become
  same_names [] (choice ∷ choices) afters many become = cc
  same_names (entry ∷ entries) [] afters many become = cc
  same_names (entry ∷ entries) (choice ∷ choices) [] many become = absurd become
  same_names (entry ∷ entries) (choice ∷ choices) (after ∷ afters) many become =
      ap₂ (λ (name : List ℕ) names. name ∷ names) (ap (λ (t : TestParts). t.name) (same_test entry after choice become.0))
      (same_names entries choices afters (omega (arith, many)) become.1)

  pub carried_readable : (source : List ℕ) (choices : List Choice) (history after : HistoryParts) → IsValid P → RunsAreBounded (flow_of P) → length choices ≡ length history.entries → IsReadable history
      → IsCarried P source images choices history after → IsReadable after
  carried_readable source choices history after valid bounded many readable carried = record {
    within = carried_within source choices history after valid bounded many readable.within carried;
    apart = subst (AllPairs (λ name other. name ≢ other)) (sym (same_names history.entries choices after.entries many carried.entries)) readable.apart;
    digest = subst IsDigest (sym carried.digest) (IsDigest-sha256 source);
    bytes = all_become IsEntryOfBytes IsEntryOfBytes (entry_bytes bounded) history.entries choices after.entries readable.bytes carried.entries;
  }
