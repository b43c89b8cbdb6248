use Rattle.std.proofs.Common.{map, subst, take}
use Rattle.std.proofs.lemmas.List.{take_all}
use Rattle.edge_label.specs.Tables.{AreTypeNumbers, use_type}
use Rattle.edge_label.specs.Uses.{use_tree}
use Rattle.edge_label.proofs.KnownLemmas.{one_more_use}
use Rattle.edge_label.proofs.TableLemmas.{Extend-trans, AreTypeNumbers-extends}
use Rattle.edge_label.proofs.types.number_uses.Goals as goal

pub loop-used-preserved : goal.loop-used-preserved
loop-used-preserved c =
    let tables = c.number_use.new.tables in
    let done = map use_type (map use_tree (take c.loop-used.used-index c.args.uses.now)) in
    record {
      numbers = λ sound.
          one_more_use tables c.args.uses.now c.loop-used.used-index c.used-item.result c.loop-used.numbers.items c.push.new.self.items c.in_ok-number_use.field-0 c.loop-used-test.true c.used-item.is c.in_ok-push.ensures.items
          (AreTypeNumbers-extends c.loop-used.tables tables c.loop-used.numbers.items done c.in_ok-number_use.ensures.grows (c.loop-used.invariant.numbers sound))
          (c.in_ok-number_use.ensures.number (c.loop-used.invariant.sound sound));
      sound = λ sound. c.in_ok-number_use.ensures.sound (c.loop-used.invariant.sound sound);
      grows = Extend-trans c.args.tables.now c.loop-used.tables tables c.loop-used.invariant.grows c.in_ok-number_use.ensures.grows;
    }

pub returns-in_err-number_use-clause-sound : goal.returns-in_err-number_use-clause-sound
returns-in_err-number_use-clause-sound c = λ sound. c.in_err-number_use.ensures.sound (c.loop-used.invariant.sound sound)

pub returns-in_err-number_use-clause-grows : goal.returns-in_err-number_use-clause-grows
returns-in_err-number_use-clause-grows c =
    Extend-trans c.args.tables.now c.loop-used.tables c.number_use.new.tables c.loop-used.invariant.grows c.in_err-number_use.ensures.grows

pub returns-in_err-push-clause-sound : goal.returns-in_err-push-clause-sound
returns-in_err-push-clause-sound c = λ sound. c.in_ok-number_use.ensures.sound (c.loop-used.invariant.sound sound)

pub returns-in_err-push-clause-grows : goal.returns-in_err-push-clause-grows
returns-in_err-push-clause-grows c = Extend-trans c.args.tables.now c.loop-used.tables c.number_use.new.tables c.loop-used.invariant.grows c.in_ok-number_use.ensures.grows

pub returns-clause-numbers : goal.returns-clause-numbers
returns-clause-numbers c = λ sound.
    subst (λ uses. AreTypeNumbers c.loop-used.tables c.loop-used.numbers.items (map use_type (map use_tree uses))) (take_all c.loop-used.used-index c.args.uses.now c.loop-used-test.false)
    (c.loop-used.invariant.numbers sound)

pub returns-clause-sound : goal.returns-clause-sound
returns-clause-sound c = c.loop-used.invariant.sound

pub returns-clause-grows : goal.returns-clause-grows
returns-clause-grows c = c.loop-used.invariant.grows
