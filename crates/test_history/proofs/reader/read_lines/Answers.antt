use Rattle.std.proofs.Common.{◌∙◌, sym, ap}
use Rattle.test_history.specs.Faults.{IsRefusalOf}
use Rattle.test_history.specs.HistoryTexts.{text_before_end}
use Rattle.line_text.proofs.LawsOfTexts.{passed_err, front_is}
use Rattle.test_history.proofs.WholeLemmas.{head_read, refusal_of, end_refusal, before_is}
use Rattle.test_history.proofs.reader.read_lines.Goals as goal

pub returns-in_err-entries-clause-refusal : goal.returns-in_err-entries-clause-refusal
returns-in_err-entries-clause-refusal c =
    let head = head_read c.args.version c.args.bytes.now c.in_ok-head.head.digest c.in_ok-head.head.edges c.in_ok-head.head.tests c.in_ok-head.head.rest.now c.in_ok-head.ensures.head in
    passed_err c.from_residual-in_err-entries.result (IsRefusalOf c.args.version c.args.bytes.now) c.in_err-entries.field-0.0 c.from_residual-in_err-entries.ensures.1
    (refusal_of c.args.version c.args.bytes.now c.in_err-entries.field-0.0 head.first (c.in_err-entries.ensures.refusal c.args.bytes.now head.bound head.says head.read))

pub returns-in-Ok-clause-before : goal.returns-in-Ok-clause-before
returns-in-Ok-clause-before c =
    let whole = before_is c.args.version c.args.bytes.now c.in_ok-head.head.digest c.in_ok-head.head.rest.now c.in_ok-entries.rest.now c.in_ok-head.head.edges c.in_ok-head.head.tests c.in_ok-entries.entries.items c.in_ok-head.ensures.head c.in_ok-entries.ensures.rest c.in_ok-entries.ensures.count in
    front_is c.args.bytes.now _ c.in_ok-entries.rest.now whole ∙ ap (text_before_end c.args.version) (sym c.new.ensures)

pub returns-in-Err-clause-refusal : goal.returns-in-Err-clause-refusal
returns-in-Err-clause-refusal c =
    rw c.refusal_after.ensures
    (end_refusal c.args.version c.args.bytes.now c.in_ok-head.head.digest c.in_ok-head.head.rest.now c.in_ok-entries.rest.now c.in_ok-head.head.edges c.in_ok-head.head.tests c.in_ok-entries.entries.items c.in-Err.fault c.in_ok-head.ensures.head c.in_ok-entries.ensures.rest
    c.in_ok-entries.ensures.good c.in_ok-entries.ensures.apart c.in_ok-entries.ensures.count c.in-Err.ensures.fault)
