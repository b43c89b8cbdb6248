-- Suites and histories: the history of a source's program and a suite, and files that hold them.
use Rattle.std.specs.Prelude.{ℕ, ◌≡◌, ◌≤◌, List, length}
use Rattle.std.specs.List.{AllZip}
use Rattle.sha2.specs.Sha256.{sha256}
use Rattle.csub_semantics.specs.Syntax.{ProgramTree}
use Rattle.csub_semantics.specs.Flows.{edge_list}
use Rattle.csub_answers.specs.Accepted.{Accepted}
use Rattle.test_suite.specs.Tests.{TestParts}
use Rattle.test_suite.specs.Suites.{SaysTests, IsSuite}
use Rattle.test_history.specs.Histories.{HistoryParts, IsReadable}
use Rattle.test_history.specs.HistoryTexts.{versioned_text, most_history_bytes}
use Rattle.test_history.specs.declared.version.Version.{Version}
use Rattle.test_history.specs.Entries.{IsEntry}

-- the history of a source with this program and of these tests: the SHA-256 digest (FIPS 180-4) of the source's bytes,
-- the number of the program's edges, and for each test in order an entry with what its run gives
pub record IsHistory (source : List ℕ) (P : ProgramTree) (tests : List TestParts) (history : HistoryParts) : Type 0 where
  pub digest : history.digest ≡ sha256 source
  pub edges : history.edges ≡ length (edge_list P)
  pub entries : AllZip (IsEntry P) tests history.entries

-- the history of an accepted source and a suite
pub record IsHistoryOf (source : List ℕ) (tests : List TestParts) (history : HistoryParts) : Type 0 where
  pub program : ProgramTree
  pub accepted : Accepted source program
  pub is : IsHistory source program tests history

-- the bytes are the suite of these tests
pub record IsSuiteFile (bytes : List ℕ) (tests : List TestParts) : Type 0 where
  pub says : SaysTests bytes tests
  pub suite : IsSuite tests

-- the bytes are the text, in a version of the format, of a history of this source, whose program is P
pub record IsHistoryFile (version : Version) (source bytes : List ℕ) (P : ProgramTree) (history : HistoryParts) : Type 0 where
  pub text : bytes ≡ versioned_text version history
  pub short : length bytes ≤ most_history_bytes
  pub readable : IsReadable history
  pub digest : history.digest ≡ sha256 source
  pub edges : history.edges ≡ length (edge_list P)
