use Rattle.std.proofs.Common.{◌<◌, ◌∙◌, ◌∷◌, ◌+◌, true, take, drop, length, sym, ap, rules}
use Rattle.line_text.specs.Lines.{lines_of, line_with}
use Rattle.line_text.proofs.CutLemmas.{none_found, found_lacks, split_found, nothing_left, rest_after, one_line, more_lines}
use Rattle.line_text.proofs.lines.cut_line.Goals as goal

pub returns-in-None-clause-lines : goal.returns-in-None-clause-lines
returns-in-None-clause-lines c =
    let some : 0 < length c.args.text.now = search rules in
    one_line c.args.text.now _ (none_found 10 c.args.text.now c.in-None.ensures) some (nothing_left c.args.text.now)

pub returns-in-None-clause-line : goal.returns-in-None-clause-line
returns-in-None-clause-line c = none_found 10 c.args.text.now c.in-None.ensures

pub returns-in-Some-clause-lines : goal.returns-in-Some-clause-lines
returns-in-Some-clause-lines c =
    let parts = split_found 10 c.in-Some.place c.args.text.now c.in-Some.ensures in
    let left = rest_after 10 c.in-Some.place c.args.text.now c.in-Some.ensures in
    more_lines c.args.text.now (take c.in-Some.place c.args.text.now) (drop (c.in-Some.place + 1) c.args.text.now) parts
    ∙ ap (λ rest. line_with (take c.in-Some.place c.args.text.now) true ∷ lines_of rest) (sym left)

pub returns-in-Some-clause-line : goal.returns-in-Some-clause-line
returns-in-Some-clause-line c = found_lacks 10 c.in-Some.place c.args.text.now c.in-Some.ensures
