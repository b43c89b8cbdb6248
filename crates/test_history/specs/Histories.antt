-- What a history is made of, and the limits of its parts.
use Rattle.std.specs.Prelude.{◌≡◌, ◌≢◌, ◌≤◌, ◌<◌, ⊤, ℕ, Bool, List, length, map, All, AllPairs}
use Rattle.hex.specs.Hex.{IsBytes}
use Rattle.csub_semantics.specs.Memory.{most_output}
use Rattle.csub_core.specs.Valid.{most_edges}
use Rattle.csub_semantics.specs.declared.status.Status.{Status}
use Rattle.csub_semantics.specs.declared.status.Status.TheVariants.{Exit, Trap, Turns}
use Rattle.line_text.specs.Values.{IsDigest}
use Rattle.test_suite.specs.Suites.{most_tests}
use Rattle.test_suite.specs.Tests.{TestParts, IsWithin}

-- an entry as contracts see it: a test, and what its run gave: how it ended, the number of its turns, the bytes of its
-- output, and the row of the edges that it crossed
pub record EntryParts : Type 0 where
  pub test : TestParts
  pub status : Status
  pub turns : ℕ
  pub output : List ℕ
  pub crossed : List Bool

-- a history as contracts see it: the SHA-256 digest of a source, the number of edges of its program, and the entries
pub record HistoryParts : Type 0 where
  pub digest : List ℕ
  pub edges : ℕ
  pub entries : List EntryParts

-- each entry has a row of so many edges
abbrev pub HaveRows : ℕ → List EntryParts → Type 0
HaveRows edges entries = All (λ entry. length entry.crossed ≡ edges) entries

-- what every history keeps: its digest has 32 bytes, and its entries have rows of its edges
pub record IsKept (digest : List ℕ) (edges : ℕ) (entries : List EntryParts) : Type 0 where
  pub size : length digest ≡ 32
  pub rows : HaveRows edges entries

-- the parts of an entry are within their limits
pub record IsEntryWithin (entry : EntryParts) : Type 0 where
  pub test : IsWithin entry.test
  pub turns : entry.turns ≤ entry.test.budget
  pub output : length entry.output ≤ most_output

-- the parts of a history are within the limits of its text
pub record IsHistoryWithin (history : HistoryParts) : Type 0 where
  pub edges : history.edges ≤ most_edges
  pub few : length history.entries ≤ most_tests
  pub entries : All IsEntryWithin history.entries
  pub rows : HaveRows history.edges history.entries

-- an exit status is a byte
abbrev pub IsByteStatus : Status → Type 0
IsByteStatus (Exit n) = n < 256
IsByteStatus (Trap trap) = ⊤
IsByteStatus Turns = ⊤

-- the numbers that stand for bytes in an entry are bytes
pub record IsEntryOfBytes (entry : EntryParts) : Type 0 where
  pub input : IsBytes entry.test.input
  pub status : IsByteStatus entry.status
  pub output : IsBytes entry.output

-- the names of the entries' tests, in their order
abbrev pub names_of : List EntryParts → List (List ℕ)
names_of entries = map (λ entry. entry.test.name) entries

-- a history that can be read back from its text: it is within the limits, no two tests have one name, and what stands for
-- bytes is bytes
pub record IsReadable (history : HistoryParts) : Type 0 where
  pub within : IsHistoryWithin history
  pub apart : AllPairs (λ name other. name ≢ other) (names_of history.entries)
  pub digest : IsDigest history.digest
  pub bytes : All IsEntryOfBytes history.entries
