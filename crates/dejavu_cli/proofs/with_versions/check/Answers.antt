use Rattle.std.proofs.Common.{refl, List, ℕ, subst}
use Rattle.csub_semantics.specs.Syntax.{program_tree}
use Rattle.command_words.specs.Words.{check_files}
use Rattle.command_claims.specs.Checked.{IsChecked, IsCheckCause}
use Rattle.command_files.proofs.LawsRefusals.{passed_seen}
use Rattle.dejavu_cli.proofs.OpenLemmas.{three_refused, has_check, check_refused}
use Rattle.dejavu_cli.proofs.with_versions.check.Goals as goal

pub returns-in_err-opened-clause-answer : goal.returns-in_err-opened-clause-answer
returns-in_err-opened-clause-answer g c =
    let sees = c.in_err-opened.ensures.opened in
    passed_seen _ _ c.from_residual.result _ _ c.in_err-opened.field-0.0 c.from_residual.ensures.1 (
      sees.0,
      sees.1,
      three_refused (check_files c.args.old_name.now c.args.new_name.now c.args.certificate_name.now) sees.0 c.args.old_name.now c.args.new_name.now c.args.certificate_name.now
          refl (λ which why bad. bad) (λ fault. fault) c.in_err-opened.field-0.0 sees.2,
    )

pub returns-clause-answer : goal.returns-clause-answer
returns-clause-answer g c =
    let v = c.in_ok-opened.opened.versions in
    let sees = c.in_ok-opened.ensures.opened in (
      sees.0,
      sees.1,
      has_check sees.0 c.args.old_name.now c.args.new_name.now c.args.certificate_name.now
          c.in_ok-opened.opened sees.2 c.in_ok-checked.checked.closed c.check_end.result c.in_ok-checked.checked.text.items c.check_end.ensures
          (subst (λ (b : List ℕ). IsChecked v.source.items v.new_source.items b (program_tree v.old) (program_tree v.new) c.in_ok-checked.checked.closed c.in_ok-checked.checked.text.items)
          c.deref.ensures.value c.in_ok-checked.ensures),
    )

pub returns-in_err-checked-clause-answer : goal.returns-in_err-checked-clause-answer
returns-in_err-checked-clause-answer g c =
    let v = c.in_ok-opened.opened.versions in
    let sees = c.in_ok-opened.ensures.opened in
    passed_seen _ _ c.from_residual-in_err-checked.result _ _ c.in_err-checked.field-0.0 c.from_residual-in_err-checked.ensures.1 (
      sees.0,
      sees.1,
      check_refused sees.0 c.args.old_name.now c.args.new_name.now c.args.certificate_name.now c.in_ok-opened.opened sees.2 c.in_err-checked.field-0.0
          (subst (λ (b : List ℕ). IsCheckCause v.source.items v.new_source.items b (program_tree v.old) (program_tree v.new) c.in_err-checked.field-0.0)
          c.deref.ensures.value c.in_err-checked.ensures),
    )
