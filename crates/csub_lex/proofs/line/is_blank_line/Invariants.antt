use Rattle.std.proofs.Common.{◌≡◌, ◌≤◌, length, take}
use Rattle.csub_lex.specs.Lines.{blank_line}
use Rattle.csub_lex.proofs.line.is_blank_line.Given as goal

abbrev pub invariant-loop-end : goal.invariant-loop-end
invariant-loop-end l = record {
  within : l.end ≤ length l.before;
  open_still : blank_line l.before ≡ blank_line (take l.end l.before);
}

abbrev pub decreases-loop-end : goal.decreases-loop-end
decreases-loop-end l = l.end
