use Rattle.std.proofs.Common.{◌≡◌, ◌≤◌, List, length, drop, sym, ap, ◌∙◌, subst}
use Rattle.csub_lex.specs.Bytes.{no_newline}
use Rattle.csub_lex.specs.Finding.{skipped, behind, mark_cut}
use Rattle.csub_lex.proofs.Choices.{behind_fits}
use Rattle.csub_lex.proofs.Gives.{up_to, line_after, line_is, mark_gives}
use Rattle.csub_lex.proofs.pieces.mark.Goals as goal

pub overflow_sub-result : goal.overflow_sub-result
overflow_sub-result c =
    let rest : c.behind_line-after.result.now ≡ behind no_newline (drop 2 c.args.bytes.now) = c.behind_line-after.ensures ∙ ap (behind no_newline) c.from.ensures in
    subst (λ (x : List _). length x ≤ length c.args.bytes.now) (sym rest) (behind_fits c.args.bytes.now (behind no_newline (drop 2 c.args.bytes.now)) (line_after c.args.bytes.now))

pub returns-then-opens : goal.returns-then-opens
returns-then-opens c =
    let bytes = c.args.bytes.now in
    let rest : c.behind_line-after.result.now ≡ behind no_newline (drop 2 bytes) = c.behind_line-after.ensures ∙ ap (behind no_newline) c.from.ensures in
    rw rest (up_to bytes (behind no_newline (drop 2 bytes)) skipped (mark_cut bytes) (line_after bytes) (line_is bytes (sym c.if-opens.ensures)))

pub returns-in-Some : goal.returns-in-Some
returns-in-Some c = mark_gives c.args.bytes.now c.in-Some.mark (length c.text.result.now) (sym c.in-Some.ensures) (ap length c.text.ensures) (sym c.if-opens.ensures) (sym c.if-opens-2.ensures)
