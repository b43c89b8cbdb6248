use Rattle.std.proofs.Common.{◌≤◌, List, ℕ, length, sym, ap, subst, ◌∙◌}
use Rattle.csub_semantics.specs.Syntax.{program_tree}
use Rattle.csub_answers.specs.Accepted.{Accepted}
use Rattle.command_refusals.specs.declared.refusal.Refusal.TheVariants.{Memory}
use Rattle.command_refusals.specs.declared.refusal.Role.TheVariants as role
use Rattle.command_files.specs.Files.{IsSourceCause}
use Rattle.command_files.proofs.LawsRefusals.{passed_seen}
use Rattle.points_report.specs.PointTexts.{points_text}
use Rattle.points.proofs.AnswerLemmas.{not_fetched, not_read, no_memory, is_listing}
use Rattle.points.proofs.listing.listing.Goals as goal

pub points_text-requires : goal.points_text-requires
points_text-requires g c =
    subst (λ (b : List ℕ). length b ≤ 1048576) (c.deref.ensures.value ∙ sym c.deref-2.ensures.value) c.in_ok-program.ensures.accepted.reads.short

pub returns-clause-answer : goal.returns-clause-answer
returns-clause-answer g c =
    let P = program_tree c.in_ok-program.program in
    is_listing c.args.name.now (g.S.Shelf.answers c.args.shelf.now) (g.S.Shelf.answers c.fetch_file.new.shelf) c.in_ok-source.source.items c.in_ok-source.ensures.bytes
    P c.in_ok-points_text.field-0.items
    (subst (λ (b : List ℕ). Accepted b P) c.deref.ensures.value c.in_ok-program.ensures.accepted)
    (λ Q is. c.in_ok-program.ensures.only Q (subst (λ (b : List ℕ). Accepted b Q) (sym c.deref.ensures.value) is))
    (c.in_ok-points_text.ensures P c.in_ok-graph.ensures ∙ ap (points_text P) c.deref-2.ensures.value)

pub returns-in_err-source-clause-answer : goal.returns-in_err-source-clause-answer
returns-in_err-source-clause-answer g c =
    passed_seen _ _ c.from_residual.result _ _ c.in_err-source.field-0.0 c.from_residual.ensures.1
    (not_fetched c.args.name.now (g.S.Shelf.answers c.args.shelf.now) (g.S.Shelf.answers c.fetch_file.new.shelf) c.in_err-source.field-0.0 c.in_err-source.ensures.cause)

pub returns-in_err-program-clause-answer : goal.returns-in_err-program-clause-answer
returns-in_err-program-clause-answer g c =
    passed_seen _ _ c.from_residual-in_err-program.result _ _ c.in_err-program.field-0.0 c.from_residual-in_err-program.ensures.1
    (not_read c.args.name.now (g.S.Shelf.answers c.args.shelf.now) (g.S.Shelf.answers c.fetch_file.new.shelf) c.in_ok-source.source.items c.in_ok-source.ensures.bytes
    c.in_err-program.field-0.0
    (subst (λ (b : List ℕ). IsSourceCause role.Source b c.in_err-program.field-0.0) c.deref.ensures.value c.in_err-program.ensures.cause))

pub returns-in_err-graph-clause-answer : goal.returns-in_err-graph-clause-answer
returns-in_err-graph-clause-answer g c =
    passed_seen _ _ c.from_residual-in_err-graph.result _ _ Memory c.from_residual-in_err-graph.ensures.1
    (no_memory c.args.name.now (g.S.Shelf.answers c.args.shelf.now) (g.S.Shelf.answers c.fetch_file.new.shelf) c.in_ok-source.source.items c.in_ok-source.ensures.bytes)

pub returns-in_err-points_text-clause-answer : goal.returns-in_err-points_text-clause-answer
returns-in_err-points_text-clause-answer g c =
    passed_seen _ _ c.from_residual-in_err-points_text.result _ _ Memory c.from_residual-in_err-points_text.ensures.1
    (no_memory c.args.name.now (g.S.Shelf.answers c.args.shelf.now) (g.S.Shelf.answers c.fetch_file.new.shelf) c.in_ok-source.source.items c.in_ok-source.ensures.bytes)
