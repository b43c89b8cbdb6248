use Rattle.std.proofs.Common.{List, ℕ, subst}
use Rattle.csub_semantics.specs.Syntax.{program_tree}
use Rattle.csub_answers.specs.Accepted.{Accepted}
use Rattle.command_files.specs.Files.{AreSources, IsSourceCause}
use Rattle.command_refusals.specs.declared.refusal.Role.TheVariants as role
use Rattle.command_files.proofs.LawsRefusals.{passed_seen}
use Rattle.command_files.proofs.Reading.{no_old, bad_old, no_new, bad_new, are_read}
use Rattle.command_files.proofs.versions.read_versions.Goals as goal

pub returns-in_err-source-clause-versions : goal.returns-in_err-source-clause-versions
returns-in_err-source-clause-versions g c =
    passed_seen _ _ c.from_residual.result _ _ c.in_err-source.field-0.0 c.from_residual.ensures.1
    (no_old c.args.old_name.now c.args.new_name.now (g.S.Shelf.answers c.args.shelf.now) (g.S.Shelf.answers c.fetch_file.new.shelf) c.in_err-source.field-0.0 c.in_err-source.ensures.cause)

pub returns-in_err-old-clause-versions : goal.returns-in_err-old-clause-versions
returns-in_err-old-clause-versions g c =
    passed_seen _ _ c.from_residual-in_err-old.result _ _ c.in_err-old.field-0.0 c.from_residual-in_err-old.ensures.1
    (bad_old c.args.old_name.now c.args.new_name.now (g.S.Shelf.answers c.args.shelf.now) (g.S.Shelf.answers c.fetch_file.new.shelf)
    c.in_ok-source.source.items c.in_ok-source.ensures.bytes c.in_err-old.field-0.0
    (subst (λ (b : List ℕ). IsSourceCause role.Old b c.in_err-old.field-0.0) c.deref.ensures.value c.in_err-old.ensures.cause))

pub returns-in_err-new_source-clause-versions : goal.returns-in_err-new_source-clause-versions
returns-in_err-new_source-clause-versions g c =
    let P = program_tree c.in_ok-old.old in
    passed_seen _ _ c.from_residual-in_err-new_source.result _ _ c.in_err-new_source.field-0.0 c.from_residual-in_err-new_source.ensures.1
    (no_new c.args.old_name.now c.args.new_name.now (g.S.Shelf.answers c.args.shelf.now) (g.S.Shelf.answers c.fetch_file.new.shelf)
    c.in_ok-source.source.items c.in_ok-source.ensures.bytes P (subst (λ (b : List ℕ). Accepted b P) c.deref.ensures.value c.in_ok-old.ensures.accepted)
    (g.S.Shelf.answers c.fetch_file-2.new.shelf) c.in_err-new_source.field-0.0 c.in_err-new_source.ensures.cause)

pub returns-in_err-new-clause-versions : goal.returns-in_err-new-clause-versions
returns-in_err-new-clause-versions g c =
    let P = program_tree c.in_ok-old.old in
    passed_seen _ _ c.from_residual-in_err-new.result _ _ c.in_err-new.field-0.0 c.from_residual-in_err-new.ensures.1
    (bad_new c.args.old_name.now c.args.new_name.now (g.S.Shelf.answers c.args.shelf.now) (g.S.Shelf.answers c.fetch_file.new.shelf)
    c.in_ok-source.source.items c.in_ok-source.ensures.bytes P (subst (λ (b : List ℕ). Accepted b P) c.deref.ensures.value c.in_ok-old.ensures.accepted)
    (g.S.Shelf.answers c.fetch_file-2.new.shelf) c.in_ok-new_source.new_source.items c.in_ok-new_source.ensures.bytes c.in_err-new.field-0.0
    (subst (λ (b : List ℕ). IsSourceCause role.New b c.in_err-new.field-0.0) c.deref-2.ensures.value c.in_err-new.ensures.cause))

pub returns-clause-versions : goal.returns-clause-versions
returns-clause-versions g c =
    let P = program_tree c.in_ok-old.old in
    let P' = program_tree c.in_ok-new.new in
    are_read c.args.old_name.now c.args.new_name.now (g.S.Shelf.answers c.args.shelf.now) (g.S.Shelf.answers c.fetch_file.new.shelf) (g.S.Shelf.answers c.fetch_file-2.new.shelf)
    (record { source = c.in_ok-source.source; new_source = c.in_ok-new_source.new_source; old = c.in_ok-old.old; new = c.in_ok-new.new })
    c.in_ok-source.ensures.bytes c.in_ok-new_source.ensures.bytes
    (subst (λ (source : List ℕ). AreSources source c.in_ok-new_source.new_source.items P P') c.deref.ensures.value
    (subst (λ (source' : List ℕ). AreSources c.deref.result.now source' P P') c.deref-2.ensures.value
    (record { accepted = c.in_ok-old.ensures.accepted; new_accepted = c.in_ok-new.ensures.accepted; old_alone = c.in_ok-old.ensures.only; new_alone = c.in_ok-new.ensures.only })))
