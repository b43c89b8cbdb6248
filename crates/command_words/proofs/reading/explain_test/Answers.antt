use Rattle.std.proofs.Common.{◌≡◌, ◌∙◌, sym, true, false, cond, Some, None, ap}
use Rattle.command_words.specs.Words.{is_test_name, explain_files}
use Rattle.command_words.proofs.NameLemmas.{name_told}
use Rattle.command_words.proofs.reading.explain_test.Goals as goal

pub returns-then-is_test_name-clause-command : goal.returns-then-is_test_name-clause-command
returns-then-is_test_name-clause-command c =
    let named : is_test_name c.args.test.now ≡ true = sym (name_told c.args.test.now c.is_test_name.result (rw (← c.as_bytes.ensures.value) c.is_test_name.ensures)) ∙ c.if-is_test_name.true in
    ap (λ b. cond b (Some (explain_files c.args.files.old.now c.args.files.new.now c.args.files.history.now c.args.test.now)) None) (sym named)

pub returns-else-is_test_name-clause-command : goal.returns-else-is_test_name-clause-command
returns-else-is_test_name-clause-command c =
    let other : is_test_name c.args.test.now ≡ false = sym (name_told c.args.test.now c.is_test_name.result (rw (← c.as_bytes.ensures.value) c.is_test_name.ensures)) ∙ c.if-is_test_name.false in
    ap (λ b. cond b (Some (explain_files c.args.files.old.now c.args.files.new.now c.args.files.history.now c.args.test.now)) None) (sym other)
