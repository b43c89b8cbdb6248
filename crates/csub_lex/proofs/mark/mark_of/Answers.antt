use Rattle.std.proofs.Common.{◌≡◌, List, true, false, get_or, sym, ap, ◌∙◌, nat_eq}
use Rattle.std.specs.List.{starts_with}
use Rattle.csub_lex.specs.declared.token.Mark.TheVariants.{OpenBrace}
use Rattle.csub_lex.specs.Marks.{mark_text}
use Rattle.csub_lex.specs.declared.mark.TheConstants.{MARKS}
use Rattle.csub_lex.specs.Finding.{first_mark}
use Rattle.csub_lex.proofs.Walks.{mark_here, mark_past, mark_none}
use Rattle.csub_lex.proofs.mark.mark_of.Goals as goal

pub returns-then-starts_with : goal.returns-then-starts_with
unfolding first_mark
returns-then-starts_with c =
    let bytes = c.args.bytes.now in
    let i = c.loop-mark.mark-index in
    let spelled : c.text.result.now ≡ mark_text (get_or MARKS i OpenBrace) = c.text.ensures in
    let fits : starts_with nat_eq bytes (mark_text (get_or MARKS i OpenBrace)) ≡ true = ap (λ (x : List _). starts_with nat_eq bytes x) (sym spelled) ∙ sym c.if-starts_with.ensures.value in
    sym (c.loop-mark.invariant ∙ mark_here MARKS i OpenBrace bytes c.loop-mark-test.true fits)

pub loop-mark-preserved : goal.loop-mark-preserved
loop-mark-preserved c =
    let bytes = c.args.bytes.now in
    let i = c.loop-mark.mark-index in
    let spelled : c.text.result.now ≡ mark_text (get_or MARKS i OpenBrace) = c.text.ensures in
    let other : starts_with nat_eq bytes (mark_text (get_or MARKS i OpenBrace)) ≡ false = ap (λ (x : List _). starts_with nat_eq bytes x) (sym spelled) ∙ sym c.if-starts_with.ensures.value in
    c.loop-mark.invariant ∙ mark_past MARKS i OpenBrace bytes c.loop-mark-test.true other

pub returns : goal.returns
unfolding first_mark
returns c = sym (c.loop-mark.invariant ∙ mark_none MARKS c.loop-mark.mark-index c.args.bytes.now c.loop-mark-test.false)
