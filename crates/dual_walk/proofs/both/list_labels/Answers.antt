use Rattle.std.proofs.Common.{◌≡◌, ◌∙◌, ◌++◌, ◌∷◌, [], length, Some, sym, ap, subst, arith, length-append}
use Rattle.std.specs.Prelude.{slice_get}
use Rattle.csub_semantics.specs.Numbers.{site_at}
use Rattle.edge_label.specs.declared.standing.Standing.{Standing}
use Rattle.dual_walk.proofs.Labelling.{labels_push}
use Rattle.dual_walk.proofs.Declaring.{labels_declared}
use Rattle.dual_walk.proofs.both.list_labels.Goals as goal

pub loop-point-preserved : goal.loop-point-preserved
loop-point-preserved c = record {
  points = let before = c.loop-point.invariant.points in omega (arith, before, ap length items, length-append c.loop-point.labels.items (last ∷ []));
  each = λ n standing P place at.
      labels_push c.args.graph.now c.loop-point.labels.items last (λ Q site ok there.
      let here = ap (site_at Q) (sym c.loop-point.invariant.points) ∙ there in
      record { function = c.function_at.ensures.function Q site ok here; label = c.label_at.ensures Q site ok here }) c.loop-point.invariant.each n standing P place
      (subst (λ labels. slice_get labels n ≡ Some standing) items at);
}
  where
    last : Standing
    last = record { function = c.function_at.result; label = c.label_at.result }

    items : c.push.new.self.items ≡ c.loop-point.labels.items ++ last ∷ []
    items = c.in_ok-push.ensures.items

pub returns-clause-declared : goal.returns-clause-declared
returns-clause-declared c =
    let before = c.loop-point.invariant.points in
    labels_declared c.args.graph.now c.loop-point.labels.items c.points-point-end.ensures.valid (record { points = omega arith; each = c.loop-point.invariant.each })
