use Rattle.std.proofs.Common.{◌≡◌, drop}
use Rattle.csub_lex.specs.declared.mark.TheConstants.{MARKS}
use Rattle.csub_lex.specs.Finding.{mark_among}
use Rattle.csub_lex.proofs.mark.mark_of.Given as goal

abbrev pub invariant-loop-mark : goal.invariant-loop-mark
invariant-loop-mark l = mark_among MARKS l.bytes ≡ mark_among (drop l.mark-index MARKS) l.bytes
