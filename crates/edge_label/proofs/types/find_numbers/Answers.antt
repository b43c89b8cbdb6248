use Rattle.std.proofs.Common.{subst, map, take}
use Rattle.std.proofs.lemmas.List.{take_all}
use Rattle.edge_label.specs.Tables.{AreTypeNumbers, use_type}
use Rattle.edge_label.specs.Uses.{use_tree}
use Rattle.edge_label.proofs.KnownLemmas.{one_more_use, declared_at}
use Rattle.edge_label.proofs.TableLemmas.{Extend-trans, AreTypeNumbers-extends}
use Rattle.edge_label.proofs.types.find_numbers.Goals as goal

pub loop-used-preserved : goal.loop-used-preserved
loop-used-preserved c =
    let tables = c.find_number.new.tables in
    let done = map use_type (map use_tree (take c.loop-used.used-index c.args.uses.now)) in
    record {
      found = λ d declared structs known.
          let before = c.loop-used.invariant.found d declared structs known in
          let at = declared_at d c.args.function c.args.uses.now c.loop-used.used-index c.used-item.result c.loop-used-test.true c.used-item.is declared in
          let found = c.in_ok-find_number.ensures.found d at (c.loop-used.invariant.structs d declared structs) before.1 in (
            one_more_use tables c.args.uses.now c.loop-used.used-index c.used-item.result c.loop-used.numbers.items c.push.new.self.items c.in_ok-find_number.field-0 c.loop-used-test.true c.used-item.is c.in_ok-push.ensures.items
                (AreTypeNumbers-extends c.loop-used.tables tables c.loop-used.numbers.items done c.in_ok-find_number.ensures.grows before.0) found.0,
            found.1,
          );
      structs = λ d declared structs.
          let at = declared_at d c.args.function c.args.uses.now c.loop-used.used-index c.used-item.result c.loop-used-test.true c.used-item.is declared in
          c.in_ok-find_number.ensures.structs d at (c.loop-used.invariant.structs d declared structs);
      grows = Extend-trans c.args.tables.now c.loop-used.tables tables c.loop-used.invariant.grows c.in_ok-find_number.ensures.grows;
      once = λ once. c.in_ok-find_number.ensures.once (c.loop-used.invariant.once once);
    }

pub returns-clause-found : goal.returns-clause-found
returns-clause-found c = λ d declared structs known.
    let found = c.loop-used.invariant.found d declared structs known in
    (subst (λ uses. AreTypeNumbers c.loop-used.tables c.loop-used.numbers.items (map use_type (map use_tree uses))) (take_all c.loop-used.used-index c.args.uses.now c.loop-used-test.false) found.0, found.1)

pub returns-in_err-find_number-clause-structs : goal.returns-in_err-find_number-clause-structs
returns-in_err-find_number-clause-structs c = λ d declared structs.
    let at = declared_at d c.args.function c.args.uses.now c.loop-used.used-index c.used-item.result c.loop-used-test.true c.used-item.is declared in
    c.in_err-find_number.ensures.structs d at (c.loop-used.invariant.structs d declared structs)

pub returns-in_err-find_number-clause-grows : goal.returns-in_err-find_number-clause-grows
returns-in_err-find_number-clause-grows c =
    Extend-trans c.args.tables.now c.loop-used.tables c.find_number.new.tables c.loop-used.invariant.grows c.in_err-find_number.ensures.grows

pub returns-in_err-find_number-clause-once : goal.returns-in_err-find_number-clause-once
returns-in_err-find_number-clause-once c = λ once. c.in_err-find_number.ensures.once (c.loop-used.invariant.once once)

pub returns-in_err-push-clause-structs : goal.returns-in_err-push-clause-structs
returns-in_err-push-clause-structs c = λ d declared structs.
    let at = declared_at d c.args.function c.args.uses.now c.loop-used.used-index c.used-item.result c.loop-used-test.true c.used-item.is declared in
    c.in_ok-find_number.ensures.structs d at (c.loop-used.invariant.structs d declared structs)

pub returns-in_err-push-clause-grows : goal.returns-in_err-push-clause-grows
returns-in_err-push-clause-grows c =
    Extend-trans c.args.tables.now c.loop-used.tables c.find_number.new.tables c.loop-used.invariant.grows c.in_ok-find_number.ensures.grows

pub returns-in_err-push-clause-once : goal.returns-in_err-push-clause-once
returns-in_err-push-clause-once c = λ once. c.in_ok-find_number.ensures.once (c.loop-used.invariant.once once)
