use Rattle.std.proofs.Common.{◌≡◌, ◌↔◌, map, option_map, drop}
use Rattle.csub_objects.specs.Meaning.{type_tree}
use Rattle.csub_semantics.specs.Labels.{init_tree, inits_of}
use Rattle.csub_validity.specs.Valid.{AreInits}
use Rattle.csub_decisions.specs.Checks.{scope_at}
use Rattle.csub_decisions.proofs.inits.+initialisers.Given as goal

-- the list is right exactly where the entries from here on are
abbrev pub invariant-are_inits-loop-entry : goal.invariant-are_inits-loop-entry
invariant-are_inits-loop-entry l = record {
  at : l.i ≡ l.entry-index;
  same : AreInits (scope_at l.site) l.site.number (option_map (λ t. type_tree t.now) l.ctype) 0 (inits_of (map init_tree l.entries)) ↔ AreInits (scope_at l.site) l.site.number (option_map (λ t. type_tree t.now) l.ctype) l.i (inits_of (map init_tree (drop l.entry-index l.entries)));
}
