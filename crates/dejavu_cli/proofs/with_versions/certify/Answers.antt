use Rattle.std.proofs.Common.{refl}
use Rattle.command_words.specs.Words.{certify_files}
use Rattle.command_files.proofs.LawsRefusals.{passed_seen}
use Rattle.dejavu_cli.proofs.OpenLemmas.{versions_refused, certified}
use Rattle.dejavu_cli.proofs.with_versions.certify.Goals as goal

pub returns-clause-answer : goal.returns-clause-answer
returns-clause-answer g c =
    let sees = c.in_ok-versions.ensures.versions in (
      sees.0,
      sees.1,
      certified sees.0 c.args.old_name.now c.args.new_name.now c.in_ok-versions.versions sees.2 c.certified_text.result c.certified_text.ensures,
    )

pub returns-in_err-versions-clause-answer : goal.returns-in_err-versions-clause-answer
returns-in_err-versions-clause-answer g c =
    let sees = c.in_err-versions.ensures.versions in
    passed_seen _ _ c.from_residual.result _ _ c.in_err-versions.field-0.0 c.from_residual.ensures.1 (
      sees.0,
      sees.1,
      versions_refused (certify_files c.args.old_name.now c.args.new_name.now) sees.0 c.args.old_name.now c.args.new_name.now refl (λ which why bad. bad) (λ fault. fault) c.in_err-versions.field-0.0 sees.2,
    )
