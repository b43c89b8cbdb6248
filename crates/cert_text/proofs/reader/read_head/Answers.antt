use Rattle.cert_text.proofs.WholeLemmas.{title_read, old_read, title_fault, old_fault, new_fault}
use Rattle.cert_text.proofs.reader.read_head.Goals as goal

pub returns-in_default-clause-refusal : goal.returns-in_default-clause-refusal
returns-in_default-clause-refusal c = title_fault c.args.bounds c.args.bytes.now c.in_default.ensures

pub returns-in_default-read_digest_line-clause-refusal : goal.returns-in_default-read_digest_line-clause-refusal
returns-in_default-read_digest_line-clause-refusal c =
    old_fault c.args.bounds c.args.bytes.now c.in-Some.rest.now (title_read c.args.bounds c.args.bytes.now c.in-Some.rest.now c.in-Some.ensures) c.in_default-read_digest_line.ensures

pub returns-in_default-read_digest_line-2-clause-refusal : goal.returns-in_default-read_digest_line-2-clause-refusal
returns-in_default-read_digest_line-2-clause-refusal c =
    let one = title_read c.args.bounds c.args.bytes.now c.in-Some.rest.now c.in-Some.ensures in
    let two = old_read c.args.bounds c.args.bytes.now c.in-Some.rest.now c.in-Some-read_digest_line.old.rest.now c.in-Some-read_digest_line.old.digest one c.in-Some-read_digest_line.ensures.1 c.in-Some-read_digest_line.ensures.0 in
    new_fault c.args.bounds c.args.bytes.now c.in-Some-read_digest_line.old.rest.now two c.in_default-read_digest_line-2.ensures
