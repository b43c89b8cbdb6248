use Rattle.std.proofs.Common.{◌≡◌, ◌+◌, get_or, Some, List, false, sym, ap, ◌∙◌, arith}
use Rattle.std.specs.Prelude.{◌==◌, ◌&&◌}
use Rattle.std.proofs.lemmas.Bool.{ne_eqb, and_left, and_right}
use Rattle.csub_lex.proofs.Walks.{close_here, close_past, close_none}
use Rattle.csub_lex.proofs.line.behind_close.Goals as goal
use Rattle.csub_lex.proofs.line.behind_close.Goals.{else-bytes-at-eq42-via-then-bytes-at-eq42+else-bytes-at-eq47, else-bytes-at-eq42-via-else-bytes-at-eq42}

pub returns-then-bytes-at-eq47 : goal.returns-then-bytes-at-eq47
returns-then-bytes-at-eq47 c =
    ap (λ (x : List _). Some x) c.from.ensures ∙ sym (c.loop-at.invariant.open_still ∙ close_here c.args.bytes.now c.loop-at.at c.loop-at-test.true c.if-bytes-at-eq42.true c.if-bytes-at-eq47.true)

pub loop-at-preserved : goal.loop-at-preserved
loop-at-preserved c =
    let bytes = c.args.bytes.now in
    let at = c.loop-at.at in
    let other : (get_or bytes at 0 == 42 && get_or bytes (at + 1) 0 == 47) ≡ false = elim c.else-bytes-at-eq42.branch [
      | else-bytes-at-eq42-via-then-bytes-at-eq42+else-bytes-at-eq47 w ↦ and_right (get_or bytes at 0 == 42) (get_or bytes (at + 1) 0 == 47) (ne_eqb (get_or bytes (at + 1) 0) 47 w.if-bytes-at-eq47.false)
      | else-bytes-at-eq42-via-else-bytes-at-eq42 w ↦ and_left (get_or bytes at 0 == 42) (get_or bytes (at + 1) 0 == 47) (ne_eqb (get_or bytes at 0) 42 w.if-bytes-at-eq42.false)
    ] in
    record {
      within = omega arith;
      open_still = c.loop-at.invariant.open_still ∙ close_past bytes at c.loop-at-test.true other;
    }

pub returns : goal.returns
returns c = sym (c.loop-at.invariant.open_still ∙ close_none c.args.bytes.now c.loop-at.at c.loop-at-test.false)
