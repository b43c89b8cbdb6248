use Rattle.std.proofs.Common.{◌≡◌, length}
use Rattle.csub_lex.specs.Finding.{characters_of}
use Rattle.csub_lex.proofs.Walks.{with_values}
use Rattle.csub_lex.proofs.quoted.characters_of.Given as goal

abbrev pub invariant-loop-rest : goal.invariant-loop-rest
invariant-loop-rest l = characters_of l.quote l.bytes ≡ with_values l.values.items (characters_of l.quote l.rest)

abbrev pub decreases-loop-rest : goal.decreases-loop-rest
decreases-loop-rest l = length l.rest
