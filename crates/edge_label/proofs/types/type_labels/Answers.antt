use Rattle.std.proofs.Common.{◌++◌, ◌∷◌, [], ◌∙◌, ap, ap₂, sym, subst, map}
use Rattle.std.proofs.lemmas.List.{map-append, map_more, take_all}
use Rattle.csub_semantics.specs.Labels.{label_tree}
use Rattle.edge_label.specs.declared.types.Typed.{Typed}
use Rattle.edge_label.specs.declared.standing.Standing.{Standing}
use Rattle.edge_label.specs.Known.{AreTyped}
use Rattle.edge_label.specs.Uses.{IsDeclared, standing_tree}
use Rattle.edge_label.proofs.KnownLemmas.{typed_stays, one_more_typed, mapped_at}
use Rattle.edge_label.proofs.TableLemmas.{Extend-trans}
use Rattle.edge_label.proofs.types.type_labels.Goals as goal

pub loop-standing-preserved : goal.loop-standing-preserved
loop-standing-preserved c =
    let tables = c.type_label.new.tables in
    let last = c.in_ok-type_label.field-0 in
    record {
      typed = λ d declared structs known.
          let before = c.loop-standing.invariant.typed d declared structs known in
          let at = mapped_at (IsDeclared d) standing_tree c.args.labels.now c.loop-standing.standing-index c.standing-item.result c.loop-standing-test.true c.standing-item.is declared in
          let found = c.in_ok-type_label.ensures.found d at (c.loop-standing.invariant.structs d declared structs) before.1 in (
            subst (AreTyped tables) (sym c.in_ok-push.ensures.items)
                (one_more_typed tables c.loop-standing.rows.items last (typed_stays c.loop-standing.tables tables c.loop-standing.rows.items c.in_ok-type_label.ensures.grows before.0) found.0),
            found.1,
          );
      structs = λ d declared structs.
          let at = mapped_at (IsDeclared d) standing_tree c.args.labels.now c.loop-standing.standing-index c.standing-item.result c.loop-standing-test.true c.standing-item.is declared in
          c.in_ok-type_label.ensures.structs d at (c.loop-standing.invariant.structs d declared structs);
      labels =
          ap (map (λ (t : Typed). label_tree t.label.now)) c.in_ok-push.ensures.items
          ∙ map-append (λ (t : Typed). label_tree t.label.now) c.loop-standing.rows.items (last ∷ [])
          ∙ ap₂ (λ trees tree. trees ++ tree ∷ []) c.loop-standing.invariant.labels (c.in_ok-type_label.ensures.label ∙ ap (λ (s : Standing). label_tree s.label.now) c.standing-item.is)
          ∙ sym (map_more (λ (s : Standing). label_tree s.label.now) c.args.labels.now c.loop-standing.standing-index c.standing-item.result c.loop-standing-test.true);
      grows = Extend-trans c.args.tables.now c.loop-standing.tables tables c.loop-standing.invariant.grows c.in_ok-type_label.ensures.grows;
      once = λ once. c.in_ok-type_label.ensures.once (c.loop-standing.invariant.once once);
    }

pub returns-in_err-type_label-clause-structs : goal.returns-in_err-type_label-clause-structs
returns-in_err-type_label-clause-structs c = λ d declared structs.
    let at = mapped_at (IsDeclared d) standing_tree c.args.labels.now c.loop-standing.standing-index c.standing-item.result c.loop-standing-test.true c.standing-item.is declared in
    c.in_err-type_label.ensures.structs d at (c.loop-standing.invariant.structs d declared structs)

pub returns-in_err-type_label-clause-grows : goal.returns-in_err-type_label-clause-grows
returns-in_err-type_label-clause-grows c =
    Extend-trans c.args.tables.now c.loop-standing.tables c.type_label.new.tables c.loop-standing.invariant.grows c.in_err-type_label.ensures.grows

pub returns-in_err-type_label-clause-once : goal.returns-in_err-type_label-clause-once
returns-in_err-type_label-clause-once c = λ once. c.in_err-type_label.ensures.once (c.loop-standing.invariant.once once)

pub returns-in_err-push-clause-structs : goal.returns-in_err-push-clause-structs
returns-in_err-push-clause-structs c = λ d declared structs.
    let at = mapped_at (IsDeclared d) standing_tree c.args.labels.now c.loop-standing.standing-index c.standing-item.result c.loop-standing-test.true c.standing-item.is declared in
    c.in_ok-type_label.ensures.structs d at (c.loop-standing.invariant.structs d declared structs)

pub returns-in_err-push-clause-grows : goal.returns-in_err-push-clause-grows
returns-in_err-push-clause-grows c = Extend-trans c.args.tables.now c.loop-standing.tables c.type_label.new.tables c.loop-standing.invariant.grows c.in_ok-type_label.ensures.grows

pub returns-in_err-push-clause-once : goal.returns-in_err-push-clause-once
returns-in_err-push-clause-once c = λ once. c.in_ok-type_label.ensures.once (c.loop-standing.invariant.once once)

pub returns-clause-typed : goal.returns-clause-typed
returns-clause-typed c = λ d declared structs known. (c.loop-standing.invariant.typed d declared structs known).0

pub returns-clause-labels : goal.returns-clause-labels
returns-clause-labels c =
    c.loop-standing.invariant.labels ∙ ap (map (λ (s : Standing). label_tree s.label.now)) (take_all c.loop-standing.standing-index c.args.labels.now c.loop-standing-test.false)

pub returns-clause-structs : goal.returns-clause-structs
returns-clause-structs c = c.loop-standing.invariant.structs
