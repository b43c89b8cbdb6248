use Rattle.test_history.proofs.WholeLemmas.{head_is, version_read, source_read, edges_read, source_fault, edges_fault, tests_fault, no_version}
use Rattle.test_history.proofs.reader.read_head.Goals as goal

pub returns-in_default-clause-refusal : goal.returns-in_default-clause-refusal
returns-in_default-clause-refusal c =
    let one = version_read c.args.version c.args.bytes.now c.in_ok-rest.rest.now c.in_ok-rest.ensures.rest in
    ((λ version. no_version c.args.version c.args.bytes.now version one.1), source_fault c.args.version c.args.bytes.now c.in_ok-rest.rest.now one.0 c.in_default.ensures)

pub returns-in_default-read_number_line-clause-refusal : goal.returns-in_default-read_number_line-clause-refusal
returns-in_default-read_number_line-clause-refusal c =
    let one = version_read c.args.version c.args.bytes.now c.in_ok-rest.rest.now c.in_ok-rest.ensures.rest in
    let two = source_read c.args.version c.args.bytes.now c.in_ok-rest.rest.now c.in-Some.source.rest.now c.in-Some.source.digest one.0 c.in-Some.ensures.1 c.in-Some.ensures.0 in
    ((λ version. no_version c.args.version c.args.bytes.now version one.1), edges_fault c.args.version c.args.bytes.now c.in-Some.source.rest.now two c.in_default-read_number_line.ensures)

pub returns-in_default-read_number_line-2-clause-refusal : goal.returns-in_default-read_number_line-2-clause-refusal
returns-in_default-read_number_line-2-clause-refusal c =
    let one = version_read c.args.version c.args.bytes.now c.in_ok-rest.rest.now c.in_ok-rest.ensures.rest in
    let two = source_read c.args.version c.args.bytes.now c.in_ok-rest.rest.now c.in-Some.source.rest.now c.in-Some.source.digest one.0 c.in-Some.ensures.1 c.in-Some.ensures.0 in
    let three = edges_read c.args.version c.args.bytes.now c.in-Some.source.rest.now c.in-Some-read_number_line.rest.now c.in-Some-read_number_line.edges two c.in-Some-read_number_line.ensures.1 c.in-Some-read_number_line.ensures.0 in
    ((λ version. no_version c.args.version c.args.bytes.now version one.1), tests_fault c.args.version c.args.bytes.now c.in-Some-read_number_line.rest.now three.0 c.in_default-read_number_line-2.ensures)

pub returns-clause-head : goal.returns-clause-head
returns-clause-head c =
    head_is c.args.version c.args.bytes.now c.in_ok-rest.rest.now c.in-Some.source.rest.now c.in-Some-read_number_line.rest.now c.in-Some-read_number_line-2.rest.now c.in-Some.source.digest c.in-Some-read_number_line.edges c.in-Some-read_number_line-2.tests
    c.in_ok-rest.ensures.rest c.in-Some.ensures.1 c.in-Some-read_number_line.ensures.1 c.in-Some-read_number_line-2.ensures.1 c.in-Some.ensures.0 c.in-Some-read_number_line.ensures.0 c.in-Some-read_number_line-2.ensures.0
