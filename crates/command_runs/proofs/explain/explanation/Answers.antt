use Rattle.std.proofs.Common.{ℕ, List, subst}
use Rattle.std.proofs.lemmas.Option.{slice_get_within}
use Rattle.csub_semantics.specs.Syntax.{program_tree}
use Rattle.test_history.specs.Histories.{EntryParts}
use Rattle.command_runs.specs.Explain.{HasTest, IsTestAt}
use Rattle.test_history.specs.declared.version.Version.TheVariants.{Third}
use Rattle.command_files.specs.Steps.{IsHistoryCause, IsOnlyHistory}
use Rattle.command_files.proofs.LawsRefusals.{passed_on}
use Rattle.command_runs.proofs.ExplainLemmas.{no_history_told, no_test_told, lacks_test}
use Rattle.command_runs.proofs.explain.explanation.Goals as goal

pub returns-in_err-history : goal.returns-in_err-history
returns-in_err-history c =
    let P = program_tree c.args.versions.now.old in
    let refusal = c.in_err-history.field-0.0 in
    passed_on c.from_residual-in_err-history.result _ _ refusal c.from_residual-in_err-history.ensures.1
    (no_history_told c.args.versions.now.source.items c.args.bytes.now P c.args.test.now refusal
    (subst (λ (source : List ℕ). IsHistoryCause Third source c.args.bytes.now P refusal) c.deref.ensures.value
    (c.in_err-history.ensures P (c.edges.ensures.listed P c.in_ok-graphs.ensures.old))))

pub returns-in_default : goal.returns-in_default
returns-in_default c =
    let P = program_tree c.args.versions.now.old in
    let source = c.args.versions.now.source.items in
    let found = c.in_ok-history.history in
    let read = subst (λ (source : List ℕ). IsOnlyHistory Third source c.args.bytes.now P found) c.deref.ensures.value
    (c.in_ok-history.ensures P (c.edges.ensures.listed P c.in_ok-graphs.ensures.old)) in
    no_test_told source c.args.bytes.now P c.args.test.now c.no_test.result c.no_test.ensures
    (lacks_test source c.args.bytes.now P c.args.test.now found read
    (subst (λ (entries : List EntryParts). HasTest entries c.args.test.now → ⊥) c.entries.ensures.value c.in_default.ensures))

pub explain_at-requires-clause-history : goal.explain_at-requires-clause-history
explain_at-requires-clause-history c =
    let P = program_tree c.args.versions.now.old in (
      c.args.bytes.now,
      subst (λ (source : List ℕ). IsOnlyHistory Third source c.args.bytes.now P c.in_ok-history.history) c.deref.ensures.value
          (c.in_ok-history.ensures P (c.edges.ensures.listed P c.in_ok-graphs.ensures.old)),
    )

pub explain_at-requires-clause-place : goal.explain_at-requires-clause-place
explain_at-requires-clause-place c =
    let at = subst (λ (entries : List EntryParts). IsTestAt entries c.args.test.now c.in-Some.place) c.entries.ensures.value c.in-Some.ensures in
    slice_get_within c.in_ok-history.history.entries c.in-Some.place at.entry at.stands

pub returns : goal.returns
returns c =
    let P = program_tree c.args.versions.now.old in
    let read = subst (λ (source : List ℕ). IsOnlyHistory Third source c.args.bytes.now P c.in_ok-history.history) c.deref.ensures.value
    (c.in_ok-history.ensures P (c.edges.ensures.listed P c.in_ok-graphs.ensures.old)) in
    c.in_ok-explain_at.ensures c.args.bytes.now c.args.test.now read
    (subst (λ (entries : List EntryParts). IsTestAt entries c.args.test.now c.in-Some.place) c.entries.ensures.value c.in-Some.ensures)
