use Rattle.std.proofs.Common.{◌≡◌, List, sym, ap, ◌∙◌}
use Rattle.csub_lex.specs.Finding.{characters_of}
use Rattle.csub_lex.proofs.Walks.{with_values, shorter, one_more, none_more, all_read}
use Rattle.csub_lex.proofs.quoted.characters_of.Goals as goal

pub loop-rest-smaller : goal.loop-rest-smaller
loop-rest-smaller c = shorter c.args.quote c.loop-rest.rest.now c.in-Some.value c.in-Some.after.now (sym c.in-Some.ensures)

pub loop-rest-preserved : goal.loop-rest-preserved
loop-rest-preserved c =
    c.loop-rest.invariant ∙ one_more c.args.quote c.loop-rest.rest.now c.loop-rest.values.items c.in-Some.value c.in-Some.after.now (sym c.loop-rest-test.ensures) (sym c.in-Some.ensures)
    ∙ ap (λ (x : List _). with_values x (characters_of c.args.quote c.in-Some.after.now)) (sym c.in_ok-push-in-Some.ensures.items)

pub returns-in-None : goal.returns-in-None
returns-in-None c = sym (c.loop-rest.invariant ∙ none_more c.args.quote c.loop-rest.rest.now c.loop-rest.values.items (sym c.loop-rest-test.ensures) (sym c.in-None.ensures))

pub returns : goal.returns
returns c =
    let values : c.in_ok-text.text ≡ c.loop-rest.values.items = c.in_ok-text.ensures ∙ c.deref.ensures.value in
    rw (values, c.from.ensures) (sym (c.loop-rest.invariant ∙ all_read c.args.quote c.loop-rest.rest.now c.loop-rest.values.items (sym c.loop-rest-test.ensures)))
