use Rattle.std.proofs.Common.{List, ℕ, subst}
use Rattle.csub_semantics.specs.Syntax.{program_tree}
use Rattle.test_history.specs.declared.version.Version.TheVariants.{Third}
use Rattle.command_files.specs.Steps.{IsHistoryCause, IsOnlyHistory}
use Rattle.command_files.proofs.LawsRefusals.{passed_on}
use Rattle.command_files.proofs.choosing.select_tests.Goals as goal

pub choose-requires-clause-edges : goal.choose-requires-clause-edges
choose-requires-clause-edges c =
    let P = program_tree c.args.versions.now.old in
    (c.in_ok-history.ensures P (c.edges.ensures.listed P c.in_ok-graphs.ensures.old)).file.edges

pub returns-in_err-history : goal.returns-in_err-history
returns-in_err-history c =
    let P = program_tree c.args.versions.now.old in
    let refusal = c.in_err-history.field-0.0 in
    passed_on c.from_residual-in_err-history.result _ _ refusal c.from_residual-in_err-history.ensures.1
    (subst (λ (source : List ℕ). IsHistoryCause Third source c.args.bytes.now P refusal) c.deref.ensures.value
    (c.in_err-history.ensures P (c.edges.ensures.listed P c.in_ok-graphs.ensures.old)))

pub returns : goal.returns
returns c =
    let P = program_tree c.args.versions.now.old in
    let read = subst (λ (source : List ℕ). IsOnlyHistory Third source c.args.bytes.now P c.in_ok-history.history) c.deref.ensures.value
    (c.in_ok-history.ensures P (c.edges.ensures.listed P c.in_ok-graphs.ensures.old)) in
    record {
      reads = read;
      graphs = c.in_ok-graphs.ensures;
      walks = c.in_ok-chosen.ensures.walks;
      walked = c.in_ok-chosen.ensures.walked;
      chosen = c.in_ok-chosen.ensures.chosen c.args.bytes.now read;
    }
