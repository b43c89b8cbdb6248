use Rattle.std.proofs.Common.{◌≡◌, rules}
use Rattle.csub_machine.specs.Moments.{output_of, moment_of}
use Rattle.suite_run.proofs.RunLemmas.{entry_is}
use Rattle.suite_run.proofs.run.run_one.Goals as goal

pub returns : goal.returns
returns c =
    let written : c.in_ok-output.output.items ≡ output_of (moment_of c.run-status.new.self) = search rules in
    let row : c.in_ok-crossed.crossed ≡ c.crossed.result.now = search rules in
    let made : c.new.result ≡ record { test = c.in_ok-copy.copy; status = c.run-status.result; turns = c.turns.result; output = c.in_ok-output.output.items; crossed = c.crossed.result.now } = search rules in
    entry_is c.args.program.now c.args.test.now c.in_ok-copy.copy c.new.result c.run-status.result c.in_ok-machine.machine c.run-status.new.self c.input.result.now c.budget.result c.turns.result c.in_ok-output.output.items c.crossed.result.now
    c.in_ok-machine.ensures c.input.ensures c.budget.ensures c.run-status.ensures.done c.run-status.ensures.results written c.turns.ensures c.crossed.ensures.edges c.crossed.ensures.crossed c.in_ok-copy.ensures made
