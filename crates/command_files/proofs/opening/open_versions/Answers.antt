use Rattle.command_files.proofs.LawsRefusals.{passed_seen}
use Rattle.command_files.proofs.Reading.{no_versions, no_third, are_opened}
use Rattle.command_files.proofs.opening.open_versions.Goals as goal

pub returns-in_err-versions-clause-opened : goal.returns-in_err-versions-clause-opened
returns-in_err-versions-clause-opened g c =
    passed_seen _ _ c.from_residual.result _ _ c.in_err-versions.field-0.0 c.from_residual.ensures.1
    (no_versions c.args.old_name.now c.args.new_name.now c.args.third_name.now c.args.most (g.S.Shelf.answers c.args.shelf.now) (g.S.Shelf.answers c.read_versions.new.shelf)
    c.in_err-versions.field-0.0 c.in_err-versions.ensures.versions)

pub returns-in_err-bytes-clause-opened : goal.returns-in_err-bytes-clause-opened
returns-in_err-bytes-clause-opened g c =
    passed_seen _ _ c.from_residual-in_err-bytes.result _ _ c.in_err-bytes.field-0.0 c.from_residual-in_err-bytes.ensures.1
    (no_third c.args.old_name.now c.args.new_name.now c.args.third_name.now c.args.most (g.S.Shelf.answers c.args.shelf.now) (g.S.Shelf.answers c.read_versions.new.shelf)
    c.in_ok-versions.versions c.in_ok-versions.ensures.versions (g.S.Shelf.answers c.fetch_file.new.shelf) c.in_err-bytes.field-0.0 c.in_err-bytes.ensures.cause)

pub returns-clause-opened : goal.returns-clause-opened
returns-clause-opened g c =
    are_opened c.args.old_name.now c.args.new_name.now c.args.third_name.now c.args.most (g.S.Shelf.answers c.args.shelf.now) (g.S.Shelf.answers c.read_versions.new.shelf)
    c.in_ok-versions.versions c.in_ok-versions.ensures.versions (g.S.Shelf.answers c.fetch_file.new.shelf) c.in_ok-bytes.bytes c.in_ok-bytes.ensures.bytes
