use Rattle.std.proofs.Common.{take, sym, ◌∙◌, arith}
use Rattle.csub_lex.proofs.Tail.{tail_none, tail_newline, tail_more, next}
use Rattle.csub_lex.proofs.place.tail_len.Goals as goal
use Rattle.csub_lex.proofs.place.tail_len.Goals.{then-byte-eq10, else-byte-eq10}

pub loop-byte-init : goal.loop-byte-init
loop-byte-init c = (omega arith, tail_none)

pub loop-byte-preserved : goal.loop-byte-preserved
loop-byte-preserved c =
    let s = c.args.bytes.now in
    let i = c.loop-byte.byte-index in
    let one = next s i c.loop-byte-test.true in
    elim c.if-byte-eq10.branch [
      | then-byte-eq10 w ↦ (omega (arith, w.column-is), w.column-is ∙ sym (rw (one, w.if-byte-eq10.true) (tail_newline (take i s))))
      | else-byte-eq10 w ↦ (omega (arith, w.column-is, c.loop-byte.invariant.0), w.column-is ∙ rw c.loop-byte.invariant.1 (sym (rw one (tail_more (take i s) _ w.if-byte-eq10.false))))
    ]
