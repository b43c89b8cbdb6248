use Rattle.std.proofs.Common.{◌≡◌, ◌∙◌, ap, sym, subst, map}
use Rattle.std.specs.List.{All}
use Rattle.csub_semantics.specs.Labels.{label_tree}
use Rattle.edge_label.specs.Tables.{AreTypeNumbers, use_type}
use Rattle.edge_label.specs.Uses.{IsDeclaredUse, label_uses, use_tree}
use Rattle.edge_label.proofs.TableLemmas.{Extend-refl}
use Rattle.edge_label.proofs.types.type_label.Goals as goal

pub returns-clause-found : goal.returns-clause-found
returns-clause-found c = λ d declared structs known.
    let s = c.args.standing in
    let uses : map use_tree c.deref.result.now ≡ label_uses (label_tree s.label.now) = ap (map use_tree) c.deref.ensures.value ∙ c.in_ok-uses.ensures in
    let all = subst (All (IsDeclaredUse d s.function)) (sym uses) declared in
    let found = c.in_ok-types.ensures.found d all structs known in
    (subst (λ us. AreTypeNumbers c.find_numbers.new.tables c.in_ok-types.types.items (map use_type us)) uses found.0, found.1)

pub returns-clause-structs : goal.returns-clause-structs
returns-clause-structs c = λ d declared structs.
    let s = c.args.standing in
    let uses : map use_tree c.deref.result.now ≡ label_uses (label_tree s.label.now) = ap (map use_tree) c.deref.ensures.value ∙ c.in_ok-uses.ensures in
    c.in_ok-types.ensures.structs d (subst (All (IsDeclaredUse d s.function)) (sym uses) declared) structs

pub returns-in_err-uses-clause-grows : goal.returns-in_err-uses-clause-grows
returns-in_err-uses-clause-grows c = Extend-refl c.args.tables.now

pub returns-in_err-types-clause-structs : goal.returns-in_err-types-clause-structs
returns-in_err-types-clause-structs c = λ d declared structs.
    let s = c.args.standing in
    let uses : map use_tree c.deref.result.now ≡ label_uses (label_tree s.label.now) = ap (map use_tree) c.deref.ensures.value ∙ c.in_ok-uses.ensures in
    c.in_err-types.ensures.structs d (subst (All (IsDeclaredUse d s.function)) (sym uses) declared) structs
