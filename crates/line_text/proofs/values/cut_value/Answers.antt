use Rattle.std.proofs.Common.{◌∷◌, [], Some, None}
use Rattle.std.proofs.lemmas.Bool.Decides.{Decides-eqb}
use Rattle.std.proofs.lemmas.Slice.Eq.{strip_prefix_is}
use Rattle.line_text.proofs.ValueLemmas.{no_prefix, value_cut, value_here}
use Rattle.line_text.proofs.values.cut_value.Goals as goal

pub returns-in_err-strip_prefix-clause-cut : goal.returns-in_err-strip_prefix-clause-cut
returns-in_err-strip_prefix-clause-cut c =
    let none = strip_prefix_is Decides-eqb c.in_ok-line.line.bytes.now c.args.word.now None c.in_err-strip_prefix.ensures.cases in
    rw c.from_residual-in_err-strip_prefix.ensures
    (λ value has. no_prefix c.args.text.now c.in_ok-line.line.bytes.now c.in_ok-line.line.is_ended _ c.args.word.now value c.in_ok-line.ensures.lines none has)

pub returns-clause-cut : goal.returns-clause-cut
returns-clause-cut c =
    let after = strip_prefix_is Decides-eqb c.in_ok-line.line.bytes.now c.args.word.now (Some c.in_ok-strip_prefix.field-0) c.in_ok-strip_prefix.ensures.cases in
    let bytes = strip_prefix_is Decides-eqb c.in_ok-strip_prefix.field-0.now (32 ∷ []) (Some c.in_ok-bytes.bytes) c.in_ok-bytes.ensures.cases in
    value_cut c.args.text.now c.in_ok-line.line.bytes.now c.in_ok-strip_prefix.field-0.now c.in_ok-bytes.bytes.now c.in_ok-line.line.rest.now c.args.word.now
    (rw c.if-not-line.false at c.in_ok-line.ensures.cut) after bytes

pub returns-clause-line : goal.returns-clause-line
returns-clause-line c =
    let after = strip_prefix_is Decides-eqb c.in_ok-line.line.bytes.now c.args.word.now (Some c.in_ok-strip_prefix.field-0) c.in_ok-strip_prefix.ensures.cases in
    let bytes = strip_prefix_is Decides-eqb c.in_ok-strip_prefix.field-0.now (32 ∷ []) (Some c.in_ok-bytes.bytes) c.in_ok-bytes.ensures.cases in
    value_here c.args.text.now c.in_ok-line.line.bytes.now c.in_ok-strip_prefix.field-0.now c.in_ok-bytes.bytes.now c.in_ok-line.line.rest.now c.in_ok-line.line.is_ended c.args.word.now
    c.in_ok-line.ensures.lines c.if-not-line.false after bytes
