use Rattle.std.proofs.Common.{ap}
use Rattle.csub_semantics.specs.Labels.{label_tree}
use Rattle.csub_semantics.specs.Numbers.{site}
use Rattle.csub_semantics.proofs.LawsLabels.{no_call}
use Rattle.dual_walk.proofs.Asked.{is_callee, old_defines, new_defines}
use Rattle.dual_walk.proofs.callees.find_callee.Goals as goal

pub returns-in_default : goal.returns-in_default
returns-in_default c = record {
  callee = λ P P' f p p' ok ok' same at. record {
    label = _;
    labelled = c.label_at.ensures P (site f p) ok at;
    none = no_call c.label_at.result.now c.in_default.not-Call;
  };
  within = tt;
}

pub returns-in-Call : goal.returns-in-Call
returns-in-Call c = record {
  callee = λ P P' f p p' ok ok' same at.
      let labelled = c.label_at.ensures P (site f p) ok at in
      let tree = ap label_tree c.in-Call.is in
      is_callee c.args.old.now c.args.new.now P P' ok ok' f p p' same c.in-Call.call _ tree labelled c.callee_named.result
      (c.callee_named.ensures.numbers P P' ok ok'
      (old_defines c.args.old.now c.args.new.now P P' ok ok' f p p' same c.in-Call.call _ tree labelled)
      (new_defines c.args.old.now c.args.new.now P P' ok ok' f p p' same c.in-Call.call _ tree labelled));
  within = c.callee_named.ensures.within;
}
