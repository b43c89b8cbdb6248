use Rattle.edge_label.proofs.TableLemmas.{Extend-refl}
use Rattle.std.proofs.Common.{◌≡◌, ◌∙◌, ap, map, subst}
use Rattle.std.proofs.lemmas.Result.{IfOk-weaker}
use Rattle.csub_semantics.specs.Labels.{label_tree}
use Rattle.edge_label.specs.Tables.{AreTypeNumbers, use_type}
use Rattle.edge_label.specs.Uses.{label_uses, use_tree}
use Rattle.edge_label.proofs.types.number_types.Goals as goal

pub returns-in_err-uses-clause-grows : goal.returns-in_err-uses-clause-grows
returns-in_err-uses-clause-grows c = Extend-refl c.args.tables.now

pub returns-clause-numbers : goal.returns-clause-numbers
returns-clause-numbers c =
    let uses : map use_tree c.deref.result.now ≡ label_uses (label_tree c.args.label.now) = ap (map use_tree) c.deref.ensures.value ∙ c.in_ok-uses.ensures in
    IfOk-weaker c.number_uses.result _ _
    (λ numbers are sound. subst (λ us. AreTypeNumbers c.number_uses.new.tables numbers.items (map use_type us)) uses (are sound))
    c.number_uses.ensures.numbers
