use Rattle.std.proofs.Common.{◌∙◌, ◌++◌, append-nil, ap, refl, sym}
use Rattle.std.specs.List.{flat_map}
use Rattle.std.proofs.lemmas.List.{drop_all}
use Rattle.line_text.specs.Lines.{text_of_lines}
use Rattle.test_history.specs.declared.version.Version.TheVariants.{Third}
use Rattle.test_history.specs.HistoryTexts.{entry_lines}
use Rattle.test_history.proofs.WholeLemmas.{entry_written}
use Rattle.test_history.proofs.writer.push_entries.Goals as goal

pub loop-entry-init : goal.loop-entry-init
loop-entry-init c = refl

pub loop-entry-preserved : goal.loop-entry-preserved
loop-entry-preserved c =
    entry_written c.loop-entry.text.items c.push_entry.new.text.items c.args.entries.now c.loop-entry.entry-index c.entry-item.result c.loop-entry-test.true c.entry-item.is c.in_ok-push_entry.ensures
    ∙ c.loop-entry.invariant

pub returns : goal.returns
returns c =
    sym (append-nil c.loop-entry.text.items)
    ∙ ap (λ entries. c.loop-entry.text.items ++ text_of_lines (flat_map (entry_lines Third) entries)) (sym (drop_all c.loop-entry.entry-index c.args.entries.now c.loop-entry-test.false))
    ∙ c.loop-entry.invariant
