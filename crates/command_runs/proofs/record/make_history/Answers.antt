use Rattle.std.proofs.Common.{sym, subst}
use Rattle.csub_semantics.specs.Syntax.{program_tree}
use Rattle.csub_semantics.specs.Flows.{flow_of}
use Rattle.test_history.specs.Histories.{HistoryParts, IsHistoryWithin}
use Rattle.command_files.specs.Record.{IsHistory}
use Rattle.command_files.proofs.LawsEntries.{have_rows, history_within, history_readable}
use Rattle.command_runs.proofs.record.make_history.Goals as goal

pub new-requires : goal.new-requires
new-requires g c =
    have_rows (program_tree c.args.program.now) c.edges.result c.args.tests.now c.in_ok-entries.entries.items
    (c.edges.ensures.listed (program_tree c.args.program.now) c.requires.graph) c.in_ok-entries.ensures

pub returns-clause-within : goal.returns-clause-within
returns-clause-within g c =
    history_within (program_tree c.args.program.now) c.digest_of.result c.edges.result c.args.tests.now c.in_ok-entries.entries.items c.new.result
    c.requires.graph.valid (c.bounds.ensures (flow_of (program_tree c.args.program.now)))
    (c.edges.ensures.listed (program_tree c.args.program.now) c.requires.graph) c.requires.within c.requires.count c.in_ok-entries.ensures c.new.ensures

pub returns-clause-readable : goal.returns-clause-readable
returns-clause-readable g c suite file =
    history_readable (program_tree c.args.program.now) c.args.source.now suite c.args.tests.now c.new.result (c.bounds.ensures (flow_of (program_tree c.args.program.now))) file is within
  where
    is : IsHistory c.args.source.now (program_tree c.args.program.now) c.args.tests.now c.new.result
    is = subst (λ (history : HistoryParts). IsHistory c.args.source.now (program_tree c.args.program.now) c.args.tests.now history) (sym c.new.ensures)
        (record { digest = c.digest_of.ensures; edges = c.edges.ensures.listed (program_tree c.args.program.now) c.requires.graph; entries = c.in_ok-entries.ensures })

    within : IsHistoryWithin c.new.result
    within = history_within (program_tree c.args.program.now) c.digest_of.result c.edges.result c.args.tests.now c.in_ok-entries.entries.items c.new.result
        c.requires.graph.valid (c.bounds.ensures (flow_of (program_tree c.args.program.now)))
        (c.edges.ensures.listed (program_tree c.args.program.now) c.requires.graph) c.requires.within c.requires.count c.in_ok-entries.ensures c.new.ensures
