use Rattle.std.proofs.Common.{◌∙◌, length, sym, arith}
use Rattle.test_history.proofs.BitsLemmas.{set_first, set_more, set_none}
use Rattle.test_history.proofs.bits.set_bits.Goals as goal
use Rattle.test_history.proofs.bits.set_bits.Goals.{then-has_bit, else-has_bit}

pub loop-edge-init : goal.loop-edge-init
loop-edge-init c = set_first c.args.bytes.now c.args.row.now c.requires.empty

pub loop-edge-preserved : goal.loop-edge-preserved
loop-edge-preserved c = elim c.if-has_bit.branch [
  | then-has_bit w ↦
      rw (w.row-is, w.set.ensures) (set_more c.args.bytes.now (length c.args.row.now) c.loop-edge.edge c.loop-edge.row c.loop-edge.invariant (omega (arith, c.edges-edge-end.ensures)) (sym c.has_bit.ensures ∙ w.if-has_bit.true))
  | else-has_bit w ↦
      rw w.row-is (set_none c.args.bytes.now (length c.args.row.now) c.loop-edge.edge c.loop-edge.row c.loop-edge.invariant (sym c.has_bit.ensures ∙ w.if-has_bit.false))
]
