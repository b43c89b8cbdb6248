-- What is read of a text, and what the parts of the reader answer of the rest.
use Rattle.std.specs.Prelude.{◌≡◌, ◌≤◌, ◌+◌, ⊤, ℕ, List, drop}
use Rattle.line_text.specs.Lines.{lines_of}
use Rattle.cert_text.specs.declared.bounds.Bounds.{Bounds}
use Rattle.cert_text.specs.declared.error.CertificateError.{CertificateError}
use Rattle.cert_text.specs.declared.error.CertificateError.TheVariants.{TooLong, Malformed, Sum, Old, New, Memory}
use Rattle.cert_text.specs.Rules.{Rule, IsAsked, Keeps, IsFirstFault, SaysEdges, SaysPairs}

-- n lines of the text are read, each keeps the rule of its place, and the rest holds the others
pub record IsReadTo (bounds : Bounds) (text : List ℕ) (n : ℕ) (rest : List ℕ) : Type 0 where
  pub lines : drop n (lines_of text) ≡ lines_of rest
  pub keeps : (m : ℕ) (rule : Rule) → m ≤ n → IsAsked bounds text rule m → Keeps bounds text rule m

-- the refusal of a text for its lines: the first fault, or want of memory
abbrev pub IsRefusalOf : Bounds → List ℕ → CertificateError → Type 0
IsRefusalOf bounds text (TooLong bytes) = ⊥
IsRefusalOf bounds text (Malformed n r) = IsFirstFault bounds text n r
IsRefusalOf bounds text (Sum found computed) = ⊥
IsRefusalOf bounds text (Old found computed) = ⊥
IsRefusalOf bounds text (New found computed) = ⊥
IsRefusalOf bounds text Memory = ⊤

-- the refusal of the rest of a text of which the first three lines are read
abbrev pub IsEdgesRefusal : Bounds → List ℕ → CertificateError → Type 0
IsEdgesRefusal bounds rest error = (text : List ℕ) → IsReadTo bounds text 3 rest → IsRefusalOf bounds text error

-- the same where also the lines of so many edges are read
abbrev pub IsPairsRefusal : Bounds → ℕ → List ℕ → CertificateError → Type 0
IsPairsRefusal bounds edges rest error =
    (text : List ℕ) → SaysEdges bounds text edges → IsReadTo bounds text (4 + edges) rest → IsRefusalOf bounds text error

-- the same where all lines before the last are read
abbrev pub IsEndRefusal : Bounds → ℕ → List ℕ → CertificateError → Type 0
IsEndRefusal bounds lines rest error =
    (text : List ℕ) (edges pairs : ℕ) → SaysPairs bounds text edges pairs → lines ≡ 5 + edges + pairs → IsReadTo bounds text lines rest
    → IsRefusalOf bounds text error
