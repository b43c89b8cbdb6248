use Rattle.std.proofs.Common.{◌≡◌, ◌∙◌, ◌++◌, ◌∷◌, [], OnOk, ap, ap₂, append_assoc, map, subst, sym, refl}
use Rattle.csub_semantics.specs.Labels.{inits_of, init_tree}
use Rattle.csub_semantics.proofs.LawsRows.{init_tree-List}
use Rattle.label_code.specs.Bare.{bare_init, bare_inits}
use Rattle.label_code.specs.Codes.{init_code, inits_code}
use Rattle.label_code.proofs.WriteLemmas.{next_written, all_written}
use Rattle.label_code.proofs.code.+initialisers.Goals as goal

pub push_init-returns-in_ok-push-in-List : goal.push_init-returns-in_ok-push-in-List
push_init-returns-in_ok-push-in-List t c =
    let old = c.args.out.now.items in
    let tree = ap init_tree c.in-List.is ∙ init_tree-List c.in-List.entries in
    let row = inits_code (bare_inits (inits_of (map init_tree c.in-List.entries.items))) in
    let parts = ap₂ (λ xs es. xs ++ inits_code (bare_inits (inits_of (map init_tree es)))) c.in_ok-push-in-List.ensures.items c.deref.ensures.value in
    let code = parts ∙ append_assoc old (1 ∷ []) row ∙ ap (λ x. old ++ init_code (bare_init x)) (sym tree) in
    subst (λ xs. OnOk c.push_inits.result (c.push_inits.new.out.items ≡ xs)) code c.push_inits.ensures

pub push_inits-loop-entry-preserved : goal.push_inits-loop-entry-preserved
push_inits-loop-entry-preserved t c =
    let x = c.entry-item.result in
    let old = c.loop-entry.out.items in
    let one = ap (λ l. l ++ init_code (bare_init (init_tree x))) c.in_ok-push.ensures.items ∙ append_assoc old (1 ∷ []) (init_code (bare_init (init_tree x))) in
    next_written (λ entries. inits_code (bare_inits (inits_of (map init_tree entries)))) (λ entry. 1 ∷ init_code (bare_init (init_tree entry))) (λ entry rest. refl) c.args.entries.now
    c.loop-entry.entry-index x x old c.push_init.new.out.items _ c.loop-entry-test.true c.entry-item.is (c.in_ok-push_init.ensures ∙ one) c.loop-entry.invariant

pub push_inits-returns : goal.push_inits-returns
push_inits-returns t c =
    all_written (λ entries. inits_code (bare_inits (inits_of (map init_tree entries)))) c.args.entries.now c.loop-entry.entry-index c.loop-entry.out.items c.push-2.new.self.items _
    c.loop-entry-test.false c.in_ok-push-2.ensures.items c.loop-entry.invariant
