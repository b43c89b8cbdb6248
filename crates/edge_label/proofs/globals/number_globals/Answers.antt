use Rattle.std.proofs.Common.{◌≡◌, ◌+◌, ◌∙◌, ◌++◌, ◌∷◌, List, [], IsTrue, map, take, sym, ap, subst}
use Rattle.std.proofs.lemmas.List.{map_more, take_all}
use Rattle.csub_semantics.specs.Types.{GlobalTree, global_tree}
use Rattle.edge_label.specs.Indices.{IsIndex}
use Rattle.edge_label.specs.Uses.{IsTagged}
use Rattle.edge_label.proofs.KnownLemmas.{mapped_at, some_tags}
use Rattle.edge_label.proofs.TableLemmas.{Extend-trans}
use Rattle.edge_label.proofs.globals.number_globals.Goals as goal

pub loop-global-preserved : goal.loop-global-preserved
loop-global-preserved c =
    let i = c.loop-global.global-index in
    let global = c.global-item.result in
    let done = map global_tree (take i c.args.globals.now) in
    let more : map global_tree (take (i + 1) c.args.globals.now) ≡ done ++ global_tree global ∷ [] =
    map_more global_tree c.args.globals.now i global c.loop-global-test.true ∙ ap (λ g. done ++ global_tree g ∷ []) (sym c.global-item.is) in
    record {
      index = λ by_tag tagged sound.
          let its : IsTrue c.loop-global.tags.trusted → IsTagged by_tag (global_tree global).ctype =
          λ trusted. mapped_at (λ g. IsTagged by_tag g.ctype) global_tree c.args.globals.now i global c.loop-global-test.true c.global-item.is (tagged (subst IsTrue c.loop-global.invariant.trusted trusted)) in
          subst (λ (globals : List GlobalTree). IsIndex c.add_number.new.tables globals c.add_number.new.numbers.by_name.entries) (sym more)
          (c.in_ok-add_number.ensures.numbers by_tag done its (c.loop-global.invariant.structs by_tag tagged sound) (c.loop-global.invariant.index by_tag tagged sound));
      structs = λ by_tag tagged sound.
          let its : IsTrue c.loop-global.tags.trusted → IsTagged by_tag (global_tree global).ctype =
          λ trusted. mapped_at (λ g. IsTagged by_tag g.ctype) global_tree c.args.globals.now i global c.loop-global-test.true c.global-item.is (tagged (subst IsTrue c.loop-global.invariant.trusted trusted)) in
          c.in_ok-add_number.ensures.structs by_tag its (c.loop-global.invariant.structs by_tag tagged sound);
      grows = Extend-trans c.args.tables.now c.loop-global.tables c.add_number.new.tables c.loop-global.invariant.grows c.in_ok-add_number.ensures.grows;
      once = λ once. c.in_ok-add_number.ensures.once (c.loop-global.invariant.once once);
      trusted = c.in_ok-add_number.ensures.trusted ∙ c.loop-global.invariant.trusted;
    }

pub returns-in_err-add_number-clause-sound : goal.returns-in_err-add_number-clause-sound
returns-in_err-add_number-clause-sound c = λ sound.
    let its = some_tags c.args.trusted (map global_tree c.args.globals.now) c.requires.tagged in
    let here : IsTrue c.loop-global.tags.trusted → IsTagged its.0 (global_tree c.global-item.result).ctype =
    λ trusted. mapped_at (λ g. IsTagged its.0 g.ctype) global_tree c.args.globals.now c.loop-global.global-index c.global-item.result c.loop-global-test.true c.global-item.is
    (its.1 (subst IsTrue c.loop-global.invariant.trusted trusted)) in
    let structs = c.in_err-add_number.ensures.structs its.0 here (c.loop-global.invariant.structs its.0 its.1 sound) in
    record { structs = structs.table; parts = c.in_err-add_number.ensures.once (c.loop-global.invariant.once sound.parts) }

pub returns-in_err-add_number-clause-grows : goal.returns-in_err-add_number-clause-grows
returns-in_err-add_number-clause-grows c =
    Extend-trans c.args.tables.now c.loop-global.tables c.add_number.new.tables c.loop-global.invariant.grows c.in_err-add_number.ensures.grows

pub returns-clause-numbers : goal.returns-clause-numbers
returns-clause-numbers c = λ sound.
    let its = some_tags c.args.trusted (map global_tree c.args.globals.now) c.requires.tagged in
    subst (λ globals. IsIndex c.loop-global.tables (map global_tree globals) c.loop-global.numbers.by_name.entries) (take_all c.loop-global.global-index c.args.globals.now c.loop-global-test.false)
    (c.loop-global.invariant.index its.0 its.1 sound)

pub returns-clause-sound : goal.returns-clause-sound
returns-clause-sound c = λ sound.
    let its = some_tags c.args.trusted (map global_tree c.args.globals.now) c.requires.tagged in
    record { structs = (c.loop-global.invariant.structs its.0 its.1 sound).table; parts = c.loop-global.invariant.once sound.parts }
