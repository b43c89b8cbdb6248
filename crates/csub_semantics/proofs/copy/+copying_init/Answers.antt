use Rattle.std.proofs.Common.{◌∙◌, ap, sym, map}
use Rattle.csub_semantics.specs.Labels.{listed, inits_of, init_tree}
use Rattle.csub_semantics.proofs.LawsRows.{init_tree-List}
use Rattle.csub_semantics.proofs.copy.+copying_init.Goals as goal

-- src/copy.rt:75:1
pub copy_init-returns-in_ok-copy_inits-in-List : goal.copy_init-returns-in_ok-copy_inits-in-List
copy_init-returns-in_ok-copy_inits-in-List t c =
    let old = ap init_tree c.in-List.is ∙ init_tree-List c.in-List.entries in
    let new = init_tree-List c.in_ok-copy_inits-in-List.field-0 in
    new ∙ ap (λ xs. listed (inits_of xs)) (c.in_ok-copy_inits-in-List.ensures ∙ ap (map init_tree) c.deref.ensures.value) ∙ sym old
