-- Which words name a source.
use Rattle.std.specs.Prelude.{ℕ, ◌==◌, Bool, false, if◌then◌else◌, List, [], ◌∷◌, map, Option, Some, None, String}
use Rattle.std.specs.declared.alloc.Global.{Global}
use Rattle.std.specs.String.{string_bytes}

abbrev pub texts_of : List (String Global) → List (List ℕ)
texts_of words = map (λ word. string_bytes word) words

-- a word that begins with `-` and has more bytes is an option; the word `-` is plain
abbrev pub is_option : List ℕ → Bool
is_option [] = false
is_option (first ∷ []) = false
is_option (first ∷ second ∷ more) = first == 45

-- the name of a source: the words are one plain word
abbrev pub source_name : List (List ℕ) → Option (List ℕ)
source_name [] = None
source_name (word ∷ []) = if is_option word then None else Some word
source_name (word ∷ other ∷ more) = None
