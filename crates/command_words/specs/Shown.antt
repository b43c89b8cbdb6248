-- What the code's commands show.
use Rattle.std.specs.Prelude.{ℕ, ◌≤◌, ◌<◌}
use Rattle.command_words.specs.declared.command.Command.{Command as Read}
use Rattle.command_words.specs.declared.command.Command.TheVariants as read
use Rattle.command_words.specs.Words.{Command, record_files, migrate_files, walk_files, select_files, rerun_files, explain_files}
use Rattle.command_words.specs.Words.{carry_files, order_files, certify_files, check_files, gen_numbers, most_workers}

abbrev pub command_shown : Read → Command
command_shown (read.Record source suite workers) = record_files source.now suite.now workers
command_shown (read.Migrate old history) = migrate_files old.now history.now
command_shown (read.Walk old new) = walk_files old.now new.now
command_shown (read.Select files) = select_files files.old.now files.new.now files.history.now
command_shown (read.Rerun files workers) = rerun_files files.old.now files.new.now files.history.now workers
command_shown (read.Explain files test) = explain_files files.old.now files.new.now files.history.now test.now
command_shown (read.Carry files workers) = carry_files files.old.now files.new.now files.history.now workers
command_shown (read.Order files workers) = order_files files.old.now files.new.now files.history.now workers
command_shown (read.Certify old new) = certify_files old.now new.now
command_shown (read.Check old new certificate) = check_files old.now new.now certificate.now
command_shown (read.Gen seed size) = gen_numbers seed size

-- a number of workers is one from 1 to 64
abbrev pub AreWorkers : ℕ → Type 0
AreWorkers workers = (0 < workers) × (workers ≤ most_workers)

-- its numbers are within their limits
abbrev pub HasNumbers : Read → Type 0
HasNumbers (read.Record source suite workers) = AreWorkers workers
HasNumbers (read.Rerun files workers) = AreWorkers workers
HasNumbers (read.Carry files workers) = AreWorkers workers
HasNumbers (read.Order files workers) = AreWorkers workers
HasNumbers (read.Gen seed size) = (seed ≤ 65535) × (0 < size) × (size ≤ 400)
HasNumbers command = Unit {0}
