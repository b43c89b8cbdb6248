use Rattle.std.proofs.Common.{◌≡◌, Some, ap, sym, ◌∙◌}
use Rattle.csub_semantics.specs.Numbers.{name_at}
use Rattle.explain_report.proofs.ToldLemmas.{fact_told}
use Rattle.explain_report.proofs.told.push_fact_line.Goals as goal

pub returns : goal.returns
returns c P ok =
    let name : name_at P c.args.fact.function ≡ Some c.bytes.result.now = c.name_of.ensures P ok ∙ ap Some (sym c.bytes.ensures) in
    fact_told P c.args.place c.args.fact c.bytes.result.now c.args.text.now.items c.push_pair.new.text.items c.push.new.self.items c.push_reason.new.text.items c.push-2.new.self.items
    name c.in_ok-push_pair.ensures c.in_ok-push.ensures.items (c.in_ok-push_reason.ensures P ok) c.in_ok-push-2.ensures.items
