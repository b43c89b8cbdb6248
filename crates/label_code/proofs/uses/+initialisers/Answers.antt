use Rattle.std.proofs.Common.{◌≡◌, ◌∙◌, ◌++◌, OnOk, ap, map, subst, sym, refl}
use Rattle.csub_semantics.specs.Labels.{init_tree, inits_of}
use Rattle.csub_semantics.proofs.LawsRows.{init_tree-List}
use Rattle.label_code.specs.Uses.{init_uses, inits_uses, use_tree}
use Rattle.label_code.proofs.WriteLemmas.{next_written}
use Rattle.label_code.proofs.uses.+initialisers.Goals as goal

pub add_init-returns-in-List : goal.add_init-returns-in-List
add_init-returns-in-List t c =
    let row = ap (λ es. inits_uses (inits_of (map init_tree es))) c.deref.ensures.value in
    let tree = ap init_tree c.in-List.is ∙ init_tree-List c.in-List.entries in
    subst (λ uses. OnOk c.add_inits.result (map use_tree c.add_inits.new.uses.items ≡ map use_tree c.args.uses.now.items ++ uses)) (row ∙ ap init_uses (sym tree)) c.add_inits.ensures

pub add_inits-loop-entry-preserved : goal.add_inits-loop-entry-preserved
add_inits-loop-entry-preserved t c =
    let x = c.entry-item.result in
    next_written (λ entries. inits_uses (inits_of (map init_tree entries))) (λ entry. init_uses (init_tree entry)) (λ entry rest. refl) c.args.entries.now c.loop-entry.entry-index x x
    (map use_tree c.loop-entry.uses.items) (map use_tree c.add_init.new.uses.items) _ c.loop-entry-test.true c.entry-item.is c.in_ok-add_init.ensures c.loop-entry.invariant
