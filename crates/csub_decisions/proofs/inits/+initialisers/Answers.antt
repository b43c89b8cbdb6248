use Rattle.std.proofs.Common.{option_map, ◌∙◌, sym}
use Rattle.csub_objects.specs.Meaning.{type_tree}
use Rattle.csub_decisions.specs.Checks.{scope_at}
use Rattle.csub_decisions.proofs.ValidInits.{IsInit-List}
use Rattle.csub_decisions.proofs.inits.+initialisers.Goals as goal

-- src/inits.rt:17:1
pub is_init-returns-then-is_whole : goal.is_init-returns-then-is_whole
is_init-returns-then-is_whole t c =
    rw c.in-List.is
    (let f = IsInit-List (scope_at c.args.site) c.args.site.number (option_map (λ t'. type_tree t'.now) c.args.ctype) c.in-List.entries in
    let each = rw c.as_slice.ensures.value at c.are_inits.ensures in
    let whole = sym c.is_whole.ensures ∙ c.if-is_whole.true in
    (λ h. f.1 (whole, each.0 h), λ h. each.1 (f.0 h).1))
