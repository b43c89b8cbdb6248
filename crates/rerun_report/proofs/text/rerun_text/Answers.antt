use Rattle.std.proofs.Common.{◌≡◌, ◌↔◌, sym, ap, ◌∙◌, subst}
use Rattle.rerun_report.specs.Reruns.{differ_count, AllSame}
use Rattle.rerun_report.proofs.LawsReruns.{differ_none}
use Rattle.rerun_report.proofs.text.rerun_text.Goals as goal

pub returns-clause-same : goal.returns-clause-same
returns-clause-same c =
    let counted : c.in_ok-differs.differs ≡ differ_count c.args.history.now.entries c.args.choices.now c.args.results.now =
    c.in_ok-differs.ensures.differs ∙ ap (λ entries. differ_count entries c.args.choices.now c.args.results.now) c.entries.ensures.value in
    subst (λ n. (n ≡ 0) ↔ AllSame c.args.history.now.entries c.args.choices.now c.args.results.now) (sym counted)
    (differ_none c.args.history.now.entries c.args.choices.now c.args.results.now)
