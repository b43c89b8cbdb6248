-- The rules C1 to C9 of a certificate's lines, and the first line that breaks the rule of its place.
use Rattle.std.specs.Prelude.{◌≡◌, ◌≤◌, ◌<◌, ◌+◌, ℕ, List, codes, None}
use Rattle.cert_text.specs.declared.bounds.Bounds.{Bounds}
use Rattle.cert_text.specs.declared.pair.Pair.{Pair}
use Rattle.cert_text.specs.Certificates.{IsBefore, IsBelow, most_pairs}
use Rattle.cert_text.specs.CertificateTexts.{title, edge_line, pair_line}
use Rattle.line_text.specs.Lines.{HasLine, line_at}
use Rattle.line_text.specs.Values.{HasNumber, HasDigest}

-- the rules of a certificate's lines
pub data Rule : Type 0 where
  c1 c2 c3 c4 c5 c6 c7 c8 c9 : Rule

-- the number by which a refusal names a rule
abbrev pub number_of : Rule → ℕ
number_of c1 = 1
number_of c2 = 2
number_of c3 = 3
number_of c4 = 4
number_of c5 = 5
number_of c6 = 6
number_of c7 = 7
number_of c8 = 8
number_of c9 = 9

-- what line 4 says: so many edges
abbrev pub SaysEdges : Bounds → List ℕ → ℕ → Type 0
SaysEdges bounds text edges = HasNumber text 4 (codes "dangerous") bounds.edges edges

-- what the line after those of the edges says: so many pairs
abbrev pub SaysPairs : Bounds → List ℕ → ℕ → ℕ → Type 0
SaysPairs bounds text edges pairs = SaysEdges bounds text edges × HasNumber text (5 + edges) (codes "pairs") most_pairs pairs

-- the lines at whose place a rule is asked: one rule at each place
abbrev pub IsAsked : Bounds → List ℕ → Rule → ℕ → Type 0
IsAsked bounds text c1 n = n ≡ 1
IsAsked bounds text c2 n = n ≡ 2
IsAsked bounds text c3 n = n ≡ 3
IsAsked bounds text c4 n = n ≡ 4
IsAsked bounds text c5 n = (edges : ℕ) × SaysEdges bounds text edges × (4 < n) × (n ≤ 4 + edges)
IsAsked bounds text c6 n = (edges : ℕ) × SaysEdges bounds text edges × (n ≡ 5 + edges)
IsAsked bounds text c7 n = (edges pairs : ℕ) × SaysPairs bounds text edges pairs × (5 + edges < n) × (n ≤ 5 + edges + pairs)
IsAsked bounds text c8 n = (edges pairs : ℕ) × SaysPairs bounds text edges pairs × (n ≡ 6 + edges + pairs)
IsAsked bounds text c9 n = (edges pairs : ℕ) × SaysPairs bounds text edges pairs × (n ≡ 7 + edges + pairs)

-- line n is that of an edge
abbrev pub HasEdge : Bounds → List ℕ → ℕ → ℕ → Type 0
HasEdge bounds text n edge = (edge < bounds.edges) × HasLine text n (edge_line edge)

-- line n is that of a pair
abbrev pub HasPair : Bounds → List ℕ → ℕ → Pair → Type 0
HasPair bounds text n pair = IsBelow bounds pair × HasLine text n (pair_line pair)

-- line n keeps a rule; a line that is missing or lacks its newline keeps none but C9
abbrev pub Keeps : Bounds → List ℕ → Rule → ℕ → Type 0
-- `dejavu certificate 1`
Keeps bounds text c1 n = HasLine text n title
-- `old` and 64 digits
Keeps bounds text c2 n = HasDigest text n (codes "old")
-- `new` and 64 digits
Keeps bounds text c3 n = HasDigest text n (codes "new")
-- `dangerous` and a number up to that of the old program's edges
Keeps bounds text c4 n = (edges : ℕ) × HasNumber text n (codes "dangerous") bounds.edges edges
-- `edge` and a number below that of the old program's edges, and above the one on the line before
Keeps bounds text c5 n = (edge : ℕ) × HasEdge bounds text n edge
    × ((m other : ℕ) → n ≡ m + 1 → IsAsked bounds text c5 m → HasEdge bounds text m other → other < edge)
-- `pairs` and a number up to 100,000,000
Keeps bounds text c6 n = (pairs : ℕ) × HasNumber text n (codes "pairs") most_pairs pairs
-- `pair` and the numbers of an old point and a new one, after the pair on the line before
Keeps bounds text c7 n = (pair : Pair) × HasPair bounds text n pair
    × ((m : ℕ) (other : Pair) → n ≡ m + 1 → IsAsked bounds text c7 m → HasPair bounds text m other → IsBefore other pair)
-- `end` and 64 digits
Keeps bounds text c8 n = HasDigest text n (codes "end")
-- nothing follows: there is no such line
Keeps bounds text c9 n = line_at text n ≡ None

-- line n is the first that breaks the rule of its place, and r is the number of that rule
pub record IsFirstFault (bounds : Bounds) (text : List ℕ) (n r : ℕ) : Type 0 where
  pub rule : Rule
  pub number : r ≡ number_of rule
  pub asked : IsAsked bounds text rule n
  pub broken : ¬ Keeps bounds text rule n
  pub earlier : (m : ℕ) (other : Rule) → m < n → IsAsked bounds text other m → Keeps bounds text other m
