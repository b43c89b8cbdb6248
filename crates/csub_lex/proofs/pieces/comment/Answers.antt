use Rattle.std.proofs.Common.{◌≡◌, drop, Some, sym, ap, ◌∙◌}
use Rattle.csub_lex.specs.Finding.{skipped, comment_cut, behind_close}
use Rattle.csub_lex.proofs.Choices.{behind_fits}
use Rattle.csub_lex.proofs.Gives.{up_to, close_after, comment_is}
use Rattle.csub_lex.proofs.pieces.comment.Goals as goal

pub overflow_sub-result : goal.overflow_sub-result
overflow_sub-result c =
    let read : behind_close (drop 2 c.args.bytes.now) ≡ Some c.in-Some.after.now = sym (c.in-Some.ensures ∙ ap behind_close c.from.ensures) in
    behind_fits c.args.bytes.now c.in-Some.after.now (close_after c.args.bytes.now c.in-Some.after.now read)

pub returns-in-Some : goal.returns-in-Some
returns-in-Some c =
    let bytes = c.args.bytes.now in
    let after = c.in-Some.after.now in
    let read : behind_close (drop 2 bytes) ≡ Some after = sym (c.in-Some.ensures ∙ ap behind_close c.from.ensures) in
    up_to bytes after skipped (comment_cut bytes) (close_after bytes after read) (comment_is bytes after read)
