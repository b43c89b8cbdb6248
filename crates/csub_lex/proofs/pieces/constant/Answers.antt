use Rattle.std.proofs.Common.{◌≡◌, drop, Some, sym, ap, ◌∙◌}
use Rattle.csub_lex.specs.Finding.{character_of}
use Rattle.csub_lex.proofs.Choices.{behind_fits}
use Rattle.csub_lex.proofs.Gives.{character_after, constant_gives}
use Rattle.csub_lex.proofs.pieces.constant.Goals as goal

pub overflow_sub-result : goal.overflow_sub-result
overflow_sub-result c =
    let read : character_of 39 (drop 1 c.args.bytes.now) ≡ Some (c.in-Some.value, c.in-Some.after.now) = sym (c.in-Some.ensures ∙ ap (character_of 39) c.from.ensures) in
    behind_fits c.args.bytes.now c.in-Some.after.now (character_after c.args.bytes.now c.in-Some.value c.in-Some.after.now read)

pub returns-then-begins_with : goal.returns-then-begins_with
returns-then-begins_with c =
    let read : character_of 39 (drop 1 c.args.bytes.now) ≡ Some (c.in-Some.value, c.in-Some.after.now) = sym (c.in-Some.ensures ∙ ap (character_of 39) c.from.ensures) in
    constant_gives c.args.bytes.now c.in-Some.value c.in-Some.after.now read (sym c.if-begins_with.ensures)
