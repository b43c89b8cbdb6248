use Rattle.std.proofs.Common.{◌≡◌, drop, Some, sym, ap, ◌∙◌}
use Rattle.csub_lex.specs.Finding.{skipped, directive_cut, behind_include}
use Rattle.csub_lex.proofs.Choices.{behind_fits}
use Rattle.csub_lex.proofs.Gives.{up_to, include_after, directive_is}
use Rattle.csub_lex.proofs.pieces.directive.Goals as goal

pub overflow_sub-result : goal.overflow_sub-result
overflow_sub-result c =
    let read : behind_include (drop 1 c.args.bytes.now) ≡ Some c.in-Some.after.now = sym (c.in-Some.ensures ∙ ap behind_include c.from.ensures) in
    behind_fits c.args.bytes.now c.in-Some.after.now (include_after c.args.bytes.now c.in-Some.after.now read)

pub returns-in-Some : goal.returns-in-Some
returns-in-Some c =
    let bytes = c.args.bytes.now in
    let after = c.in-Some.after.now in
    let read : behind_include (drop 1 bytes) ≡ Some after = sym (c.in-Some.ensures ∙ ap behind_include c.from.ensures) in
    up_to bytes after skipped (directive_cut c.args.before.now (drop 1 bytes)) (include_after bytes after read) (directive_is c.args.before.now (drop 1 bytes) after (sym c.if-not-is_blank_line.ensures) read)
