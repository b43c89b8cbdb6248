use Rattle.std.proofs.Common.{◌≡◌, ◌≤◌, ◌∙◌, ℕ, codes, subst, arith}
use Rattle.line_text.specs.Values.{HasNumber}
use Rattle.test_history.specs.Histories.{EntryParts}
use Rattle.test_history.proofs.EntryLemmas.{no_status, no_turns, no_output, no_crossed, status_line, turns_line, output_line, results_are}
use Rattle.test_history.proofs.reader.read_results.Goals as goal

pub returns-in_default-clause-fault : goal.returns-in_default-clause-fault
returns-in_default-clause-fault c = λ text names n at is says read. no_status c.args.version text c.args.edges names n at is c.args.text.now read c.in_default.ensures

pub returns-in_default-read_number_line-clause-fault : goal.returns-in_default-read_number_line-clause-fault
returns-in_default-read_number_line-clause-fault c = λ text names n at is says read.
    let four = status_line c.args.version text c.args.edges names n at is c.args.text.now c.in-Some.rest.now c.in-Some.status read c.in-Some.ensures.1 c.in-Some.ensures.0 in
    let limit : c.from.result ≡ c.args.test.budget = c.from.ensures ∙ c.budget.ensures in
    no_turns c.args.version text c.args.edges names n at is c.in-Some.rest.now c.args.test.budget says four
    (subst (λ b. (turns : ℕ) → ¬ HasNumber c.in-Some.rest.now 1 (codes "turns") b turns) limit c.in_default-read_number_line.ensures)

pub returns-in_default-2-clause-fault : goal.returns-in_default-2-clause-fault
returns-in_default-2-clause-fault c = λ text names n at is says read.
    let four = status_line c.args.version text c.args.edges names n at is c.args.text.now c.in-Some.rest.now c.in-Some.status read c.in-Some.ensures.1 c.in-Some.ensures.0 in
    let within : c.in-Some-read_number_line.turns ≤ c.args.test.budget = omega (arith, c.in-Some-read_number_line.ensures.0, c.from.ensures, c.budget.ensures) in
    let five = turns_line c.args.version text c.args.edges names n at is c.in-Some.rest.now c.in-Some-read_number_line.rest.now c.args.test.budget c.in-Some-read_number_line.turns says four c.in-Some-read_number_line.ensures.1 within in
    no_output c.args.version text c.args.edges names n at is c.in-Some-read_number_line.rest.now five (rw c.in_default-2.is at c.in_ok-output.ensures)

pub returns-in_default-3-clause-fault : goal.returns-in_default-3-clause-fault
returns-in_default-3-clause-fault c = λ text names n at is says read.
    let four = status_line c.args.version text c.args.edges names n at is c.args.text.now c.in-Some.rest.now c.in-Some.status read c.in-Some.ensures.1 c.in-Some.ensures.0 in
    let within : c.in-Some-read_number_line.turns ≤ c.args.test.budget = omega (arith, c.in-Some-read_number_line.ensures.0, c.from.ensures, c.budget.ensures) in
    let five = turns_line c.args.version text c.args.edges names n at is c.in-Some.rest.now c.in-Some-read_number_line.rest.now c.args.test.budget c.in-Some-read_number_line.turns says four c.in-Some-read_number_line.ensures.1 within in
    let output = rw c.in-Some-2.is at c.in_ok-output.ensures in
    let six = output_line c.args.version text c.args.edges names n at is c.in-Some-read_number_line.rest.now c.in-Some-2.rest.now c.in-Some-2.output.items five output.2 output.0 output.1 in
    no_crossed c.args.version text c.args.edges names n at is c.in-Some-2.rest.now six (rw c.in_default-3.is at c.in_ok-crossed.ensures)

pub returns-clause-good : goal.returns-clause-good
returns-clause-good c =
    let output = rw c.in-Some-2.is at c.in_ok-output.ensures in
    let crossed = rw c.in-Some-3.is at c.in_ok-crossed.ensures in
    let within : c.in-Some-read_number_line.turns ≤ c.args.test.budget = omega (arith, c.in-Some-read_number_line.ensures.0, c.from.ensures, c.budget.ensures) in
    rw c.new-entry.ensures (record {
      within = record { test = c.requires.within; turns = within; output = output.1 };
      row = crossed.0;
      bytes = record { input = c.requires.bytes; status = c.in-Some.ensures.0; output = output.0 };
    })

pub returns-clause-rest : goal.returns-clause-rest
returns-clause-rest c =
    let output = rw c.in-Some-2.is at c.in_ok-output.ensures in
    let crossed = rw c.in-Some-3.is at c.in_ok-crossed.ensures in
    let entry : EntryParts = record {
      test = c.args.test;
      status = c.in-Some.status;
      turns = c.in-Some-read_number_line.turns;
      output = c.in-Some-2.output.items;
      crossed = c.in-Some-3.crossed;
    } in
    rw c.new-entry.ensures
    (results_are c.args.version c.args.text.now c.in-Some.rest.now c.in-Some-read_number_line.rest.now c.in-Some-2.rest.now c.in-Some-3.rest.now entry c.in-Some.ensures.1
    c.in-Some-read_number_line.ensures.1 output.2 crossed.1)
