use Rattle.std.proofs.Common.{map, sym, subst, subst₂}
use Rattle.std.proofs.lemmas.Result.{IfOk-weaker}
use Rattle.csub_semantics.specs.Types.{global_tree}
use Rattle.edge_label.specs.Uses.{AreDeclared, standing_tree}
use Rattle.dual_walk.specs.LabelRows.{AreLabelsOf}
use Rattle.dual_walk.proofs.Labelling.{row_numbered}
use Rattle.dual_walk.proofs.both.number_labels.Goals as goal

pub intern_all-requires : goal.intern_all-requires
intern_all-requires c = record {
  declared = subst₂ (λ labels globals. AreDeclared (map standing_tree labels) (map global_tree globals)) (sym c.deref.ensures.value) (sym c.globals.ensures.value) c.in_ok-labels.ensures.declared;
}

pub returns-clause-row : goal.returns-clause-row
returns-clause-row c =
    let are : AreLabelsOf c.args.graph.now c.deref.result.now = subst (AreLabelsOf c.args.graph.now) (sym c.deref.ensures.value) c.in_ok-labels.ensures.labels in
    IfOk-weaker c.intern_all.result _ _ (λ row have. row_numbered _ row.items c.args.graph.now c.deref.result.now (map global_tree c.globals.result.now) are c.globals.ensures.listed have) c.intern_all.ensures.numbers
