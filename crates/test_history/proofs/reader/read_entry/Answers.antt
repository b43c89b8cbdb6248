use Rattle.std.proofs.Common.{◌≡◌, ◌∙◌, codes, refl, sym, ap, subst}
use Rattle.std.proofs.lemmas.Result.{IfErr-weaker}
use Rattle.test_suite.specs.Tests.{TestParts, most_budget}
use Rattle.line_text.specs.Values.{HasNumber}
use Rattle.test_history.proofs.EntryLemmas.{no_budget, no_input, budget_line, input_line, entry_is}
use Rattle.test_history.proofs.ReadLemmas.{no_name, old_name, name_line}
use Rattle.line_text.proofs.LawsOfTexts.{both_ok}
use Rattle.test_history.proofs.reader.read_entry.Goals as goal

pub returns-in_default-clause-fault : goal.returns-in_default-clause-fault
returns-in_default-clause-fault c = λ text at read. no_name c.args.version text c.args.edges _ c.args.text.now _ at refl read c.in_default.ensures

pub returns-then-not-branch-clause-fault : goal.returns-then-not-branch-clause-fault
returns-then-not-branch-clause-fault c = λ text at read.
    let has = rw c.if-not-branch.true at c.in_ok-is_new.ensures in
    old_name c.args.version text c.args.edges _ c.args.text.now c.in-Some.name.bytes.now c.in-Some.name.rest.now _ at refl read c.in-Some.ensures.1 c.in-Some.ensures.0 has

pub returns-in_default-read_number_line-clause-fault : goal.returns-in_default-read_number_line-clause-fault
returns-in_default-read_number_line-clause-fault c = λ text at read.
    let new = rw c.if-not-branch.false at c.in_ok-is_new.ensures in
    let one = name_line c.args.version text c.args.edges _ c.args.text.now c.in-Some.name.bytes.now c.in-Some.name.rest.now _ at refl read c.in-Some.ensures.1 c.in-Some.ensures.0 new.0 in
    no_budget c.args.version text c.args.edges _ _ at refl c.in-Some.name.rest.now one.0 c.in_default-read_number_line.ensures

pub returns-in_default-2-clause-fault : goal.returns-in_default-2-clause-fault
returns-in_default-2-clause-fault c = λ text at read.
    let new = rw c.if-not-branch.false at c.in_ok-is_new.ensures in
    let one = name_line c.args.version text c.args.edges _ c.args.text.now c.in-Some.name.bytes.now c.in-Some.name.rest.now _ at refl read c.in-Some.ensures.1 c.in-Some.ensures.0 new.0 in
    let two = budget_line c.args.version text c.args.edges _ _ at refl c.in-Some.name.rest.now c.in-Some-read_number_line.rest.now c.in-Some-read_number_line.budget one.0 c.in-Some-read_number_line.ensures.1 c.in-Some-read_number_line.ensures.0 in
    no_input c.args.version text c.args.edges _ _ at refl c.in-Some-read_number_line.rest.now two.0 (rw c.in_default-2.is at c.in_ok-input.ensures)

pub returns-clause-rest : goal.returns-clause-rest
returns-clause-rest c =
    let input = rw c.in-Some-2.is at c.in_ok-input.ensures in
    let same : c.new-test.result ≡ record { name = c.in-Some.name.bytes.now; budget = c.in-Some-read_number_line.budget; input = c.in-Some-2.input.items } = rw (c.new-test.ensures.parts, c.in_ok-new.ensures) refl in
    both_ok c.read_results.result c.read_results.ensures.rest c.read_results.ensures.test
    (λ read rest test. entry_is c.args.version c.args.text.now c.in-Some.name.rest.now c.in-Some-read_number_line.rest.now c.in-Some-2.rest.now read.1.now read.0 (record { name = c.in-Some.name.bytes.now; budget = c.in-Some-read_number_line.budget; input = c.in-Some-2.input.items })
    (test ∙ same) c.in-Some.ensures.1 c.in-Some-read_number_line.ensures.1 input.2 rest)

pub returns-clause-fault : goal.returns-clause-fault
returns-clause-fault c =
    let input = rw c.in-Some-2.is at c.in_ok-input.ensures in
    let new = rw c.if-not-branch.false at c.in_ok-is_new.ensures in
    let budget : c.new-test.result.budget ≡ c.in-Some-read_number_line.budget = ap (λ (t : TestParts). t.budget) c.new-test.ensures.parts in
    IfErr-weaker c.read_results.result _ _
    (λ fault results text at read.
    let one = name_line c.args.version text c.args.edges _ c.args.text.now c.in-Some.name.bytes.now c.in-Some.name.rest.now _ at refl read c.in-Some.ensures.1 c.in-Some.ensures.0 new.0 in
    let two = budget_line c.args.version text c.args.edges _ _ at refl c.in-Some.name.rest.now c.in-Some-read_number_line.rest.now c.in-Some-read_number_line.budget one.0 c.in-Some-read_number_line.ensures.1 c.in-Some-read_number_line.ensures.0 in
    let three = input_line c.args.version text c.args.edges _ _ at refl c.in-Some-read_number_line.rest.now c.in-Some-2.rest.now c.in-Some-2.input.items two.0 input.2 input.0 input.1 in
    results text _ _ at refl (subst (HasNumber text _ (codes "budget") most_budget) (sym budget) two.1) three)
    c.read_results.ensures.fault
