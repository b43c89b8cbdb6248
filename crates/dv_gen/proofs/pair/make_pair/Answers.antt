use Rattle.std.proofs.Common.{Some, None, ap, subst, sym, ◌∙◌}
use Rattle.test_suite.specs.Suites.{IsSuite}
use Rattle.dv_gen.specs.Pairs.{source_with}
use Rattle.dv_gen.proofs.PairLemmas.{changed_is, tests_begin, source_is}
use Rattle.dv_gen.proofs.SuiteLemmas.{IsSuite-tests_of}
use Rattle.dv_gen.proofs.pair.make_pair.Goals as goal

pub returns-clause-old : goal.returns-clause-old
returns-clause-old c =
    source_is c.args.seed c.args.size _ None _ _ _ c.new-draws.ensures c.in_ok-functions.ensures.functions c.deref.ensures.value (c.in_ok-old.ensures c.args.seed)

pub returns-clause-new : goal.returns-clause-new
returns-clause-new c =
    let changed = changed_is c.args.seed c.args.size _ _ _ c.new-draws.ensures c.in_ok-functions.ensures.state c.draw-changed.ensures.value in
    source_is c.args.seed c.args.size _ (Some c.draw-changed.result) _ _ _ c.new-draws.ensures c.in_ok-functions.ensures.functions c.deref-2.ensures.value (c.in_ok-new.ensures c.args.seed)
    ∙ ap (λ j. source_with c.args.seed c.args.size (Some j)) changed

pub returns-clause-tests : goal.returns-clause-tests
returns-clause-tests c = c.in_ok-tests.ensures c.args.seed (tests_begin c.args.seed c.args.size _ _ _ c.new-draws.ensures c.in_ok-functions.ensures.state c.draw-changed.ensures.state)

pub returns-clause-within : goal.returns-clause-within
returns-clause-within c =
    let are = c.in_ok-tests.ensures c.args.seed (tests_begin c.args.seed c.args.size _ _ _ c.new-draws.ensures c.in_ok-functions.ensures.state c.draw-changed.ensures.state) in
    subst IsSuite (sym are) (IsSuite-tests_of c.args.seed c.args.size c.requires.few)
