-- The rules H1 to H14 of a history's lines, and the first line that breaks one.
use Rattle.std.specs.Prelude.{◌≡◌, ◌<◌, ◌+◌, ◌-◌, ◌*◌, ℕ, Bool, List, ◌∷◌, length, codes, None}
use Rattle.csub_semantics.specs.Memory.{most_output}
use Rattle.csub_core.specs.Valid.{most_edges}
use Rattle.csub_semantics.specs.declared.status.Status.{Status}
use Rattle.line_text.specs.Lines.{line_at, HasLine}
use Rattle.line_text.specs.Values.{value_line, HasNumber, HasBytes, HasDigest}
use Rattle.line_text.specs.Words.{line_of_words}
use Rattle.test_suite.specs.Suites.{most_tests}
use Rattle.test_suite.specs.Tests.{IsTestName, most_budget, most_input}
use Rattle.test_history.specs.declared.version.Version.{Version}
use Rattle.test_history.specs.Histories.{IsByteStatus}
use Rattle.test_history.specs.HistoryTexts.{version_line, crossed_line, status_words}

-- the rules of a history's lines
pub data Rule : Type 0 where
  h1 h2 h3 h4 h5 h6 h7 h8 h9 h10 h11 h12 h13 h14 : Rule

-- the number by which a refusal names a rule
abbrev pub number_of : Rule → ℕ
number_of h1 = 1
number_of h2 = 2
number_of h3 = 3
number_of h4 = 4
number_of h5 = 5
number_of h6 = 6
number_of h7 = 7
number_of h8 = 8
number_of h9 = 9
number_of h10 = 10
number_of h11 = 11
number_of h12 = 12
number_of h13 = 13
number_of h14 = 14

-- line n is that of a test's name
abbrev pub HasName : List ℕ → ℕ → List ℕ → Type 0
HasName text n name = IsTestName name × HasLine text n (value_line (codes "test") name)

-- what line 3 says: so many edges
abbrev pub SaysEdges : List ℕ → ℕ → Type 0
SaysEdges text edges = HasNumber text 3 (codes "edges") most_edges edges

-- what line 4 says: so many tests
abbrev pub SaysTests : List ℕ → ℕ → Type 0
SaysTests text tests = HasNumber text 4 (codes "tests") most_tests tests

-- line n is line k of an entry: the entries begin at line 5, each has seven lines, counted here from 0, and there are as
-- many as line 4 says
abbrev pub IsOfEntry : List ℕ → ℕ → ℕ → Type 0
IsOfEntry text k n = (tests entry : ℕ) × SaysTests text tests × (entry < tests) × (n ≡ 5 + 7 * entry + k)

-- line n follows the entries' lines by k more
abbrev pub IsAfterEntries : List ℕ → ℕ → ℕ → Type 0
IsAfterEntries text k n = (tests : ℕ) × SaysTests text tests × (n ≡ 5 + 7 * tests + k)

-- the lines at whose place a rule is asked
abbrev pub IsAsked : List ℕ → Rule → ℕ → Type 0
IsAsked text h1 n = n ≡ 1
IsAsked text h2 n = n ≡ 2
IsAsked text h3 n = n ≡ 3
IsAsked text h4 n = n ≡ 4
IsAsked text h5 n = IsOfEntry text 0 n
IsAsked text h6 n = IsOfEntry text 0 n
IsAsked text h7 n = IsOfEntry text 1 n
IsAsked text h8 n = IsOfEntry text 2 n
IsAsked text h9 n = IsOfEntry text 3 n
IsAsked text h10 n = IsOfEntry text 4 n
IsAsked text h11 n = IsOfEntry text 5 n
IsAsked text h12 n = IsOfEntry text 6 n
IsAsked text h13 n = IsAfterEntries text 0 n
IsAsked text h14 n = IsAfterEntries text 1 n

-- line n keeps the rule of a version, where only H1 and H12 differ; a line that is missing or lacks its newline keeps none but H14
abbrev pub Keeps : Version → List ℕ → Rule → ℕ → Type 0
-- `dejavu history` and the number of the version
Keeps version text h1 n = HasLine text n (version_line version)
-- `source` and 64 digits
Keeps version text h2 n = HasDigest text n (codes "source")
-- `edges` and a number up to 10,000
Keeps version text h3 n = (edges : ℕ) × HasNumber text n (codes "edges") most_edges edges
-- `tests` and a number up to 8,192
Keeps version text h4 n = (tests : ℕ) × HasNumber text n (codes "tests") most_tests tests
-- `test` and a name
Keeps version text h5 n = (name : List ℕ) × HasName text n name
-- that name stood in no earlier entry
Keeps version text h6 n = (name : List ℕ) → HasName text n name → (m : ℕ) → m < n → IsAsked text h5 m → ¬ HasName text m name
-- `budget` and a number up to 10,000,000
Keeps version text h7 n = (budget : ℕ) × HasNumber text n (codes "budget") most_budget budget
-- `input` and at most 16,384 bytes
Keeps version text h8 n = HasBytes text n (codes "input") most_input
-- `status` and `exit N` with N up to 255, `trap` and a trap's name, or `turns`
Keeps version text h9 n = (status : Status) × IsByteStatus status × HasLine text n (line_of_words (codes "status" ∷ status_words status))
-- `turns` and a number up to the budget, which stands three lines before
Keeps version text h10 n = (budget turns : ℕ) × HasNumber text (n - 3) (codes "budget") most_budget budget × HasNumber text n (codes "turns") budget turns
-- `output` and at most 16,384 bytes
Keeps version text h11 n = HasBytes text n (codes "output") most_output
-- `crossed` and what stands for some set of edges, of which there are as many as line 3 says
Keeps version text h12 n = (edges : ℕ) × (row : List Bool) × SaysEdges text edges × (length row ≡ edges)
    × HasLine text n (crossed_line version row)
-- `end` and 64 digits
Keeps version text h13 n = HasDigest text n (codes "end")
-- nothing follows: there is no such line
Keeps version text h14 n = line_at text n ≡ None

-- in a version, line n is the first that breaks a rule of its place, and r is the number of the least such rule
pub record IsFirstFault (version : Version) (text : List ℕ) (n r : ℕ) : Type 0 where
  pub rule : Rule
  pub number : r ≡ number_of rule
  pub asked : IsAsked text rule n
  pub broken : ¬ Keeps version text rule n
  pub least : (other : Rule) → IsAsked text other n → number_of other < r → Keeps version text other n
  pub earlier : (m : ℕ) (other : Rule) → m < n → IsAsked text other m → Keeps version text other m
