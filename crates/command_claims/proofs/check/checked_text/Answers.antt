use Rattle.std.proofs.Common.{◌∙◌, sym}
use Rattle.csub_semantics.specs.Syntax.{program_tree}
use Rattle.command_files.proofs.LawsRefusals.{passed_on}
use Rattle.command_claims.proofs.Checking.{row_counted, pairs_below, edge_within, runs_same}
use Rattle.command_claims.proofs.check.checked_text.Goals as goal

pub returns-in_err-certificate : goal.returns-in_err-certificate
returns-in_err-certificate c =
    let refusal = c.in_err-certificate.field-0.0 in
    passed_on c.from_residual-in_err-certificate.result _ _ refusal c.from_residual-in_err-certificate.ensures.1
    (c.in_err-certificate.ensures (program_tree c.args.versions.now.old) (program_tree c.args.versions.now.new) c.in_ok-graphs.ensures)

pub check-requires-clause-row : goal.check-requires-clause-row
check-requires-clause-row c =
    let P = program_tree c.args.versions.now.old in
    let P' = program_tree c.args.versions.now.new in
    let graphs = c.in_ok-graphs.ensures in
    let file = c.in_ok-certificate.ensures P P' graphs in
    row_counted P P' c.in_ok-certificate.certificate c.in_ok-graphs.graphs.old c.in_ok-graphs.graphs.new graphs.old graphs.new file.text.readable

pub check-requires-clause-below : goal.check-requires-clause-below
check-requires-clause-below c =
    let P = program_tree c.args.versions.now.old in
    let P' = program_tree c.args.versions.now.new in
    let graphs = c.in_ok-graphs.ensures in
    let file = c.in_ok-certificate.ensures P P' graphs in
    pairs_below P P' c.in_ok-certificate.certificate c.in_ok-graphs.graphs.old c.in_ok-graphs.graphs.new graphs.old graphs.new file.text.readable

pub check-requires-clause-rise : goal.check-requires-clause-rise
check-requires-clause-rise c =
    (c.in_ok-certificate.ensures (program_tree c.args.versions.now.old) (program_tree c.args.versions.now.new) c.in_ok-graphs.ensures).text.readable.within.rise

pub verdict_text-requires : goal.verdict_text-requires
verdict_text-requires c =
    let P = program_tree c.args.versions.now.old in
    let P' = program_tree c.args.versions.now.new in
    let graphs = c.in_ok-graphs.ensures in
    edge_within P P' c.in_ok-certificate.certificate c.in_ok-graphs.graphs.old graphs.old c.in_ok-verdict.verdict (c.in_ok-verdict.ensures.verdict P P' graphs.old graphs.new)

pub returns : goal.returns
returns c =
    let P = program_tree c.args.versions.now.old in
    let P' = program_tree c.args.versions.now.new in
    let graphs = c.in_ok-graphs.ensures in
    let certificate = c.in_ok-certificate.certificate in
    let verdict = c.in_ok-verdict.verdict in
    let found = c.in_ok-verdict.ensures.verdict P P' graphs.old graphs.new in
    record {
      certificate = certificate;
      file = c.in_ok-certificate.ensures P P' graphs;
      verdict = verdict;
      is = found;
      line = c.in_ok-text.ensures P graphs.old;
      told = c.is_closed.ensures;
      runs = λ closed. runs_same P P' certificate (c.closed_claim.ensures P P' graphs.old.valid graphs.new.valid) verdict found (sym c.is_closed.ensures ∙ closed);
    }
