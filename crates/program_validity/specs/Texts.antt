-- Units that a text spells.
use Rattle.std.specs.Prelude.{ℕ, ◌≤◌, List, [], length}
use Rattle.csub_lex.specs.declared.token.Token.{Token}
use Rattle.csub_lex.specs.Tokens.{Tokens}
use Rattle.csub_tree.specs.Units.{Source}
use Rattle.csub_tree.specs.Spells.{Spells}

-- the tokens of some source of at most 1,048,576 bytes spell the unit
pub record HasText (u : Source) : Type 0 where
  pub bytes : List ℕ
  pub short : length bytes ≤ 1048576
  pub tokens : List Token
  pub cut : Tokens [] bytes tokens
  pub spelled : Spells u tokens
