use Rattle.std.proofs.Common.{◌≡◌, List, true, false, get_or, sym, ap, ◌∙◌, nat_eq}
use Rattle.std.specs.Cmp.Lexicographic.{pointwise}
use Rattle.csub_lex.specs.declared.token.Key.TheVariants.{Auto}
use Rattle.csub_lex.specs.Words.{key_text}
use Rattle.csub_lex.specs.declared.key.TheConstants.{KEYS}
use Rattle.csub_lex.specs.Finding.{key_of}
use Rattle.csub_lex.proofs.Walks.{key_here, key_past, key_none}
use Rattle.csub_lex.proofs.key.key_of.Goals as goal

pub returns-then-eq : goal.returns-then-eq
unfolding key_of
returns-then-eq c =
    let text = c.args.text.now in
    let i = c.loop-key.key-index in
    let spelled : c.text.result.now ≡ key_text (get_or KEYS i Auto) = c.text.ensures in
    let same : pointwise nat_eq text (key_text (get_or KEYS i Auto)) ≡ true = ap (λ (x : List _). pointwise nat_eq text x) (sym spelled) ∙ sym c.if-eq.ensures in
    sym (c.loop-key.invariant ∙ key_here KEYS i Auto text c.loop-key-test.true same)

pub loop-key-preserved : goal.loop-key-preserved
loop-key-preserved c =
    let text = c.args.text.now in
    let i = c.loop-key.key-index in
    let spelled : c.text.result.now ≡ key_text (get_or KEYS i Auto) = c.text.ensures in
    let other : pointwise nat_eq text (key_text (get_or KEYS i Auto)) ≡ false = ap (λ (x : List _). pointwise nat_eq text x) (sym spelled) ∙ sym c.if-eq.ensures in
    c.loop-key.invariant ∙ key_past KEYS i Auto text c.loop-key-test.true other

pub returns : goal.returns
unfolding key_of
returns c = sym (c.loop-key.invariant ∙ key_none KEYS c.loop-key.key-index c.args.text.now c.loop-key-test.false)
