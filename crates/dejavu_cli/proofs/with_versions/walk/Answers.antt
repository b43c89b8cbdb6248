use Rattle.std.proofs.Common.{refl}
use Rattle.command_refusals.specs.declared.refusal.Refusal.TheVariants.{Memory}
use Rattle.command_words.specs.Words.{walk_files}
use Rattle.command_files.proofs.LawsRefusals.{passed_seen}
use Rattle.dejavu_cli.proofs.OpenLemmas.{versions_refused, both_asked, has_walk}
use Rattle.dejavu_cli.proofs.with_versions.walk.Goals as goal

pub returns-clause-answer : goal.returns-clause-answer
returns-clause-answer g c =
    let sees = c.in_ok-versions.ensures.versions in (
      sees.0,
      sees.1,
      has_walk sees.0 c.args.old_name.now c.args.new_name.now c.in_ok-versions.versions sees.2 c.in_ok-report.field-0.items c.in_ok-report.ensures,
    )

pub returns-in_err-report-clause-answer : goal.returns-in_err-report-clause-answer
returns-in_err-report-clause-answer g c =
    let sees = c.in_ok-versions.ensures.versions in
    passed_seen _ _ c.from_residual-in_err-report.result _ _ Memory c.from_residual-in_err-report.ensures.1 (
      sees.0,
      sees.1,
      both_asked sees.0 c.args.old_name.now c.args.new_name.now c.in_ok-versions.versions sees.2,
    )

pub returns-in_err-versions-clause-answer : goal.returns-in_err-versions-clause-answer
returns-in_err-versions-clause-answer g c =
    let sees = c.in_err-versions.ensures.versions in
    passed_seen _ _ c.from_residual.result _ _ c.in_err-versions.field-0.0 c.from_residual.ensures.1 (
      sees.0,
      sees.1,
      versions_refused (walk_files c.args.old_name.now c.args.new_name.now) sees.0 c.args.old_name.now c.args.new_name.now refl (λ which why bad. bad) (λ fault. fault) c.in_err-versions.field-0.0 sees.2,
    )

pub report-requires : goal.report-requires
report-requires g c = c.in_ok-versions.ensures.versions.2.sources.accepted.reads.short
