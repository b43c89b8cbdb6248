use Rattle.std.proofs.Common.{◌≡◌, ◌+◌, ◌++◌, ◌∙◌, List, map, Some, IfOk, rules, arith, refl, ap, sym, subst}
use denote.Param.Weighed.{at_most}
use Rattle.csub_objects.specs.Meaning.{type_tree}
use Rattle.csub_objects.specs.Parts.{part_type}
use Rattle.csub_semantics.specs.declared.label.RInit.{RInit, the_lemmas}
use Rattle.csub_semantics.specs.Labels.{InitTree, listed, init_tree, inits_of}
use Rattle.csub_semantics.proofs.LawsRows.{init_size, init_tree-List}
use Rattle.csub_flat.specs.Flatten.{flat_writes}
use Rattle.csub_flat.specs.Fits.{FitsInit}
use Rattle.csub_flat.specs.Scopes.{globals_at, function_at}
use Rattle.csub_flat.specs.Seen.{write_seen}
use Rattle.csub_flat.proofs.Writes.{begun_first, begun_part, begun_fits, begun_room, begun_next}
use Rattle.csub_flat.proofs.inits.+initialising.Goals as goal

pub flatten_init-flatten_inits-requires : goal.flatten_init-flatten_inits-requires
flatten_init-flatten_inits-requires t c =
    let gs = globals_at c.args.scope in
    let f = function_at c.args.scope in
    let old = ap init_tree c.in-List.is ∙ init_tree-List c.in-List.entries in
    let fits = subst (FitsInit gs f (Some (type_tree c.args.ctype.now))) old c.requires.fits in
    let each = subst (λ (xs : List RInit). FitsInit gs f (Some (type_tree c.args.ctype.now)) (listed (inits_of (map init_tree xs)))) (sym c.as_slice.ensures.value) fits in
    (search (rules, the_lemmas), (each, c.requires.room))

pub flatten_init-returns-in-List : goal.flatten_init-returns-in-List
flatten_init-returns-in-List t c =
    let old = ap init_tree c.in-List.is ∙ init_tree-List c.in-List.entries in
    let same = ap (λ (xs : List RInit). listed (inits_of (map init_tree xs))) c.as_slice.ensures.value ∙ sym old in
    subst (λ (x : InitTree). IfOk c.flatten_inits.result (λ ok. map write_seen c.flatten_inits.new.steps.items ≡ map write_seen c.args.steps.now.items ++ flat_writes (globals_at c.args.scope) (function_at c.args.scope) (type_tree c.args.ctype.now) c.args.slot x)) same c.flatten_inits.ensures

pub flatten_inits-loop-entry-init : goal.flatten_inits-loop-entry-init
flatten_inits-loop-entry-init t c = record {
  at = refl;
  begun = begun_first (globals_at c.args.scope) (function_at c.args.scope) c.args.entries.now (type_tree c.args.whole.now) c.args.slot (map write_seen c.args.steps.now.items) c.requires.fits;
}

pub flatten_inits-unreachable-requires : goal.flatten_inits-unreachable-requires
flatten_inits-unreachable-requires t c =
    begun_part c.loop-entry.invariant.begun c.loop-entry-test.true c.entry-item.is (c.in_default.ensures ∙ ap (part_type (type_tree c.args.whole.now)) c.loop-entry.invariant.at)

pub flatten_inits-flatten_init-requires : goal.flatten_inits-flatten_init-requires
flatten_inits-flatten_init-requires t c =
    let e = c.in-Some.ensures ∙ ap (part_type (type_tree c.args.whole.now)) c.loop-entry.invariant.at in
    let room = begun_room c.loop-entry.invariant.begun c.loop-entry-test.true c.entry-item.is e in
    let few = c.requires.room in
    let less = at_most init_size c.args.entries.now c.loop-entry.entry-index c.entry-item.result c.loop-entry-test.true in
    let same = ap init_size c.entry-item.is in
    (search rules, (begun_fits c.loop-entry.invariant.begun c.loop-entry-test.true c.entry-item.is e, omega arith))

pub flatten_inits-slots_of-at-requires : goal.flatten_inits-slots_of-at-requires
flatten_inits-slots_of-at-requires t c =
    let e = c.in-Some.ensures ∙ ap (part_type (type_tree c.args.whole.now)) c.loop-entry.invariant.at in
    let room = begun_room c.loop-entry.invariant.begun c.loop-entry-test.true c.entry-item.is e in
    let few = c.requires.room in omega arith

pub flatten_inits-overflow_add-at : goal.flatten_inits-overflow_add-at
flatten_inits-overflow_add-at t c =
    let e = c.in-Some.ensures ∙ ap (part_type (type_tree c.args.whole.now)) c.loop-entry.invariant.at in
    let room = begun_room c.loop-entry.invariant.begun c.loop-entry-test.true c.entry-item.is e in
    let few = c.requires.room in let size = c.slots_of-at.ensures in omega arith

pub flatten_inits-loop-entry-preserved : goal.flatten_inits-loop-entry-preserved
flatten_inits-loop-entry-preserved t c =
    let e = c.in-Some.ensures ∙ ap (part_type (type_tree c.args.whole.now)) c.loop-entry.invariant.at in
    let begun = c.loop-entry.invariant.begun in
    record {
      at = ap (λ n. n + 1) c.loop-entry.invariant.at;
      begun = rw c.slots_of-at.ensures (begun_next begun c.loop-entry-test.true c.entry-item.is e c.in_ok-flatten_init.ensures);
    }
