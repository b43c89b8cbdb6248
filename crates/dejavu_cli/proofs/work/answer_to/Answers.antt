use Rattle.std.proofs.Common.{ap}
use Rattle.command_words.specs.Shown.{command_shown}
use Rattle.command_words.specs.Words.{record_files, migrate_files, walk_files, select_files, rerun_files, explain_files, carry_files, order_files, certify_files, check_files, gen_numbers}
use Rattle.dejavu_cli.proofs.OpenLemmas.{generated, shown_as, shown_whole}
use Rattle.dejavu_cli.proofs.work.answer_to.Goals as goal

pub returns-in-Record-clause-answer : goal.returns-in-Record-clause-answer
returns-in-Record-clause-answer g c =
    shown_whole (g.S.Shelf.answers c.args.shelf.now) (g.S.Shelf.answers c.record.new.shelf)
    (command_shown c.args.command) (record_files c.in-Record.source.now c.in-Record.suite.now c.in-Record.workers) (ap command_shown c.in-Record.is)
    c.record.result c.whole.result c.record.ensures.answer c.whole.ensures

pub returns-in-Migrate-clause-answer : goal.returns-in-Migrate-clause-answer
returns-in-Migrate-clause-answer g c =
    shown_whole (g.S.Shelf.answers c.args.shelf.now) (g.S.Shelf.answers c.migrate.new.shelf)
    (command_shown c.args.command) (migrate_files c.in-Migrate.old.now c.in-Migrate.history.now) (ap command_shown c.in-Migrate.is)
    c.migrate.result c.whole-in-Migrate.result c.migrate.ensures.answer c.whole-in-Migrate.ensures

pub returns-in-Walk-clause-answer : goal.returns-in-Walk-clause-answer
returns-in-Walk-clause-answer g c =
    shown_whole (g.S.Shelf.answers c.args.shelf.now) (g.S.Shelf.answers c.walk.new.shelf)
    (command_shown c.args.command) (walk_files c.in-Walk.old.now c.in-Walk.new.now) (ap command_shown c.in-Walk.is)
    c.walk.result c.whole-in-Walk.result c.walk.ensures.answer c.whole-in-Walk.ensures

pub returns-in-Select-clause-answer : goal.returns-in-Select-clause-answer
returns-in-Select-clause-answer g c =
    shown_whole (g.S.Shelf.answers c.args.shelf.now) (g.S.Shelf.answers c.select.new.shelf)
    (command_shown c.args.command) (select_files c.in-Select.files.old.now c.in-Select.files.new.now c.in-Select.files.history.now) (ap command_shown c.in-Select.is)
    c.select.result c.whole-in-Select.result c.select.ensures.answer c.whole-in-Select.ensures

pub returns-in-Rerun-clause-answer : goal.returns-in-Rerun-clause-answer
returns-in-Rerun-clause-answer g c =
    shown_as (g.S.Shelf.answers c.args.shelf.now) (g.S.Shelf.answers c.rerun.new.shelf)
    (command_shown c.args.command) (rerun_files c.in-Rerun.files.old.now c.in-Rerun.files.new.now c.in-Rerun.files.history.now c.in-Rerun.workers) (ap command_shown c.in-Rerun.is)
    c.rerun.result c.rerun.ensures.answer

pub returns-in-Explain-clause-answer : goal.returns-in-Explain-clause-answer
returns-in-Explain-clause-answer g c =
    shown_whole (g.S.Shelf.answers c.args.shelf.now) (g.S.Shelf.answers c.explain.new.shelf)
    (command_shown c.args.command) (explain_files c.in-Explain.files.old.now c.in-Explain.files.new.now c.in-Explain.files.history.now c.in-Explain.test.now) (ap command_shown c.in-Explain.is)
    c.explain.result c.whole-in-Explain.result c.explain.ensures.answer c.whole-in-Explain.ensures

pub returns-in-Carry-clause-answer : goal.returns-in-Carry-clause-answer
returns-in-Carry-clause-answer g c =
    shown_whole (g.S.Shelf.answers c.args.shelf.now) (g.S.Shelf.answers c.carry.new.shelf)
    (command_shown c.args.command) (carry_files c.in-Carry.files.old.now c.in-Carry.files.new.now c.in-Carry.files.history.now c.in-Carry.workers) (ap command_shown c.in-Carry.is)
    c.carry.result c.whole-in-Carry.result c.carry.ensures.answer c.whole-in-Carry.ensures

pub returns-in-Order-clause-answer : goal.returns-in-Order-clause-answer
returns-in-Order-clause-answer g c =
    shown_whole (g.S.Shelf.answers c.args.shelf.now) (g.S.Shelf.answers c.order.new.shelf)
    (command_shown c.args.command) (order_files c.in-Order.files.old.now c.in-Order.files.new.now c.in-Order.files.history.now c.in-Order.workers) (ap command_shown c.in-Order.is)
    c.order.result c.whole-in-Order.result c.order.ensures.answer c.whole-in-Order.ensures

pub returns-in-Certify-clause-answer : goal.returns-in-Certify-clause-answer
returns-in-Certify-clause-answer g c =
    shown_whole (g.S.Shelf.answers c.args.shelf.now) (g.S.Shelf.answers c.certify.new.shelf)
    (command_shown c.args.command) (certify_files c.in-Certify.old.now c.in-Certify.new.now) (ap command_shown c.in-Certify.is)
    c.certify.result c.whole-in-Certify.result c.certify.ensures.answer c.whole-in-Certify.ensures

pub returns-in-Check-clause-answer : goal.returns-in-Check-clause-answer
returns-in-Check-clause-answer g c =
    shown_as (g.S.Shelf.answers c.args.shelf.now) (g.S.Shelf.answers c.check.new.shelf)
    (command_shown c.args.command) (check_files c.in-Check.old.now c.in-Check.new.now c.in-Check.certificate.now) (ap command_shown c.in-Check.is)
    c.check.result c.check.ensures.answer

pub returns-in-Gen-clause-answer : goal.returns-in-Gen-clause-answer
returns-in-Gen-clause-answer g c =
    shown_whole (g.S.Shelf.answers c.args.shelf.now) (g.S.Shelf.answers c.args.shelf.now)
    (command_shown c.args.command) (gen_numbers c.in-Gen.seed c.in-Gen.size) (ap command_shown c.in-Gen.is)
    c.generated_text.result c.whole-in-Gen.result (generated (g.S.Shelf.answers c.args.shelf.now) c.in-Gen.seed c.in-Gen.size c.generated_text.result c.generated_text.ensures) c.whole-in-Gen.ensures
