use Rattle.std.proofs.Common.{ℕ, List, [], ◌++◌, ◌≤◌, ◌-◌, length, take, drop}
use Rattle.csub_lex.specs.declared.token.Token.{Token}
use Rattle.csub_lex.specs.declared.error.LexKind.{LexKind}
use Rattle.csub_lex.specs.Tokens.{Tokens, Fault}
use Rattle.csub_lex.proofs.cut.lex.Given as goal

abbrev pub invariant-cuts : goal.invariant-cuts
invariant-cuts l = record {
  within : l.at ≤ length l.source;
  tokens : (more : List Token) → Tokens (take l.at l.source) (drop l.at l.source) more → Tokens [] l.source (l.tokens.items ++ more);
  fault : (kind : LexKind) (place : ℕ) → Fault (take l.at l.source) (drop l.at l.source) kind place → Fault [] l.source kind place;
}

abbrev pub decreases-cuts : goal.decreases-cuts
decreases-cuts l = length l.source - l.at
