use Rattle.std.proofs.Common.{List, ℕ, sym, subst}
use Rattle.csub_semantics.specs.Syntax.{program_tree}
use Rattle.csub_answers.specs.Accepted.{Accepted}
use Rattle.command_files.specs.Files.{IsSourceCause}
use Rattle.command_files.proofs.LawsRefusals.{passed_seen}
use Rattle.command_files.proofs.Reading.{no_first, bad_source, no_second, is_opened}
use Rattle.command_files.proofs.opening.open_source.Goals as goal

pub returns-in_err-source-clause-opened : goal.returns-in_err-source-clause-opened
returns-in_err-source-clause-opened g c =
    passed_seen _ _ c.from_residual.result _ _ c.in_err-source.field-0.0 c.from_residual.ensures.1
    (no_first c.args.role c.args.name.now c.args.second_name.now c.args.most (g.S.Shelf.answers c.args.shelf.now) (g.S.Shelf.answers c.fetch_file.new.shelf) c.in_err-source.field-0.0 c.in_err-source.ensures.cause)

pub returns-in_err-program-clause-opened : goal.returns-in_err-program-clause-opened
returns-in_err-program-clause-opened g c =
    passed_seen _ _ c.from_residual-in_err-program.result _ _ c.in_err-program.field-0.0 c.from_residual-in_err-program.ensures.1
    (bad_source c.args.role c.args.name.now c.args.second_name.now c.args.most (g.S.Shelf.answers c.args.shelf.now) (g.S.Shelf.answers c.fetch_file.new.shelf)
    c.in_ok-source.source.items c.in_ok-source.ensures.bytes c.in_err-program.field-0.0
    (subst (λ (b : List ℕ). IsSourceCause c.args.role b c.in_err-program.field-0.0) c.deref.ensures.value c.in_err-program.ensures.cause))

pub returns-in_err-bytes-clause-opened : goal.returns-in_err-bytes-clause-opened
returns-in_err-bytes-clause-opened g c =
    let P = program_tree c.in_ok-program.program in
    passed_seen _ _ c.from_residual-in_err-bytes.result _ _ c.in_err-bytes.field-0.0 c.from_residual-in_err-bytes.ensures.1
    (no_second c.args.role c.args.name.now c.args.second_name.now c.args.most (g.S.Shelf.answers c.args.shelf.now) (g.S.Shelf.answers c.fetch_file.new.shelf)
    c.in_ok-source.source.items c.in_ok-source.ensures.bytes P (subst (λ (b : List ℕ). Accepted b P) c.deref.ensures.value c.in_ok-program.ensures.accepted)
    (g.S.Shelf.answers c.fetch_file-2.new.shelf) c.in_err-bytes.field-0.0 c.in_err-bytes.ensures.cause)

pub returns-clause-opened : goal.returns-clause-opened
returns-clause-opened g c =
    let P = program_tree c.in_ok-program.program in
    is_opened c.args.name.now c.args.second_name.now c.args.most (g.S.Shelf.answers c.args.shelf.now) (g.S.Shelf.answers c.fetch_file.new.shelf) (g.S.Shelf.answers c.fetch_file-2.new.shelf)
    (record { source = c.in_ok-source.source; program = c.in_ok-program.program; bytes = c.in_ok-bytes.bytes })
    c.in_ok-source.ensures.bytes c.in_ok-bytes.ensures.bytes (subst (λ (b : List ℕ). Accepted b P) c.deref.ensures.value c.in_ok-program.ensures.accepted)
    (λ Q is. c.in_ok-program.ensures.only Q (subst (λ (b : List ℕ). Accepted b Q) (sym c.deref.ensures.value) is))
