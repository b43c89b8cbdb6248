use Rattle.std.proofs.Common.{◌≡◌, drop, Some, sym, ap, ◌∙◌}
use Rattle.csub_lex.specs.declared.token.TokenKind.TheVariants as kinds
use Rattle.csub_lex.specs.Finding.{took, text_cut, characters_of}
use Rattle.csub_lex.proofs.Choices.{behind_fits}
use Rattle.csub_lex.proofs.Gives.{up_to, string_after, string_is}
use Rattle.csub_lex.proofs.pieces.string.Goals as goal

pub overflow_sub-result : goal.overflow_sub-result
overflow_sub-result c =
    let read : characters_of 34 (drop 1 c.args.bytes.now) ≡ Some (c.in-Ok-Some.text, c.in-Ok-Some.after.now) = sym ((rw c.in-Ok-Some.field-0-is at c.in-Ok-Some.ensures) ∙ ap (characters_of 34) c.from.ensures) in
    behind_fits c.args.bytes.now c.in-Ok-Some.after.now (string_after c.args.bytes.now c.in-Ok-Some.text c.in-Ok-Some.after.now read)

pub returns-in-Ok-Some : goal.returns-in-Ok-Some
returns-in-Ok-Some c =
    let bytes = c.args.bytes.now in
    let text = c.in-Ok-Some.text in
    let after = c.in-Ok-Some.after.now in
    let read : characters_of 34 (drop 1 bytes) ≡ Some (text, after) = sym ((rw c.in-Ok-Some.field-0-is at c.in-Ok-Some.ensures) ∙ ap (characters_of 34) c.from.ensures) in
    up_to bytes after (took (kinds.Text text)) (text_cut (characters_of 34 (drop 1 bytes))) (string_after bytes text after read) (string_is (drop 1 bytes) text after read)
