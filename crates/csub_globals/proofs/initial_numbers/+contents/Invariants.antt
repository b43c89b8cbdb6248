use Rattle.std.proofs.Common.{◌≡◌, ◌++◌, map, drop}
use Rattle.csub_objects.specs.Meaning.{member_tree, type_tree}
use Rattle.csub_objects.specs.Types.{members_of}
use Rattle.csub_scopes.specs.Meanings.{scope_of}
use Rattle.csub_tree.specs.Declarations.{init_tree, inits_of}
use Rattle.csub_resolution.specs.Contents.{element_contents, member_contents}
use Rattle.csub_globals.proofs.initial_numbers.+contents.Given as goal

abbrev pub invariant-element_contents-loop-entry : goal.invariant-element_contents-loop-entry
invariant-element_contents-loop-entry l =
    l.numbers.items ++ element_contents (scope_of l.scope) (inits_of (map init_tree (drop l.entry-index l.entries))) (type_tree l.element) l.left
    ≡ l.fn.numbers.items ++ element_contents (scope_of l.scope) (inits_of (map init_tree l.entries)) (type_tree l.element) l.length

abbrev pub invariant-member_contents-loop-entry : goal.invariant-member_contents-loop-entry
invariant-member_contents-loop-entry l =
    l.numbers.items ++ member_contents (scope_of l.scope) (inits_of (map init_tree (drop l.entry-index l.entries))) (members_of (map member_tree l.rest))
    ≡ l.fn.numbers.items ++ member_contents (scope_of l.scope) (inits_of (map init_tree l.entries)) (members_of (map member_tree l.members))
