-- What the answers of `parse` say.
use Rattle.std.specs.Prelude.{ℕ, ◌+◌, ◌≤◌, ◌<◌, List, ◌++◌, length, take}
use Rattle.csub_lex.specs.declared.token.Token.{Token}
use Rattle.csub_tree.specs.Units.{Source}
use Rattle.csub_tree.specs.Depth.{unit_depth}
use Rattle.csub_tree.specs.Spells.{Spells}
use Rattle.csub_parse.specs.declared.error.ParseError.{ParseError}
use Rattle.csub_parse.specs.declared.error.ParseError.TheVariants.{Syntax, Memory}

-- the tokens spell the unit, which is no deeper than this
abbrev pub Within : ℕ → Source → List Token → Type 0
Within d u ts = (unit_depth u ≤ d) × Spells u ts

-- no list that begins with the tokens 0 to k is spelled by such a unit
abbrev pub NoneBegins : ℕ → ℕ → List Token → Type 0
NoneBegins d k ts = (u : Source) (more : List Token) → Within d u (take (k + 1) ts ++ more) → ⊥

abbrev pub NoneSpells : ℕ → List Token → Type 0
NoneSpells d ts = (u : Source) → Within d u ts → ⊥

-- where each error comes; want of memory may come anywhere
abbrev pub HasCause : ℕ → List Token → ParseError → Type 0
HasCause d ts (Syntax k) = (k ≤ length ts) × (k < length ts → NoneBegins d k ts) × NoneSpells d ts
HasCause d ts Memory = Unit {0}
