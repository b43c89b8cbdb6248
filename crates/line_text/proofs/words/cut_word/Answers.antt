use Rattle.std.proofs.Common.{◌∙◌, ◌∷◌, take, sym, ap, arith}
use Rattle.std.proofs.lemmas.Grind.{common_steps}
use Rattle.line_text.specs.Words.{pieces}
use Rattle.line_text.proofs.CutLemmas.{none_found, found_lacks, split_none, split_found, split_first, some_before, rest_after}
use Rattle.line_text.proofs.words.cut_word.Goals as goal

pub returns-in-Some-eq0-clause-pieces : goal.returns-in-Some-eq0-clause-pieces
returns-in-Some-eq0-clause-pieces c = (_, split_first 32 c.in-Some-eq0.field-0 c.args.line.now c.in-Some-eq0.field-0-test c.in-Some-eq0.ensures)

pub returns-in-Some-clause-pieces : goal.returns-in-Some-clause-pieces
returns-in-Some-clause-pieces c =
    let left = rest_after 32 c.in-Some.place c.args.line.now c.in-Some.ensures in
    split_found 32 c.in-Some.place c.args.line.now c.in-Some.ensures
    ∙ ap (λ rest. take c.in-Some.place c.args.line.now ∷ pieces rest) (sym left)

pub returns-in-Some-clause-word : goal.returns-in-Some-clause-word
returns-in-Some-clause-word c = (some_before 32 c.in-Some.place c.args.line.now c.in-Some.place-test.1 c.in-Some.ensures, found_lacks 32 c.in-Some.place c.args.line.now c.in-Some.ensures)

pub returns-in-None-2-clause-pieces : goal.returns-in-None-2-clause-pieces
returns-in-None-2-clause-pieces c = split_none 32 c.args.line.now (none_found 32 c.args.line.now c.in-None.ensures)

pub returns-in-None-2-clause-word : goal.returns-in-None-2-clause-word
returns-in-None-2-clause-word c = (λ is. grind (arith, common_steps), none_found 32 c.args.line.now c.in-None.ensures)
