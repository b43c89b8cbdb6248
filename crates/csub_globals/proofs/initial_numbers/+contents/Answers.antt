use Rattle.std.proofs.Common.{◌++◌, map, arith}
use Rattle.csub_objects.specs.Meaning.{member_tree}
use Rattle.csub_objects.specs.Types.{members_of}
use Rattle.csub_scopes.specs.Meanings.{scope_of}
use Rattle.csub_tree.specs.Declarations.{init_tree, inits_of}
use Rattle.csub_resolution.specs.Contents.{member_contents}
use Rattle.csub_globals.proofs.Zeros.{members_done}
use Rattle.csub_globals.proofs.initial_numbers.+contents.Goals as goal

pub member_contents-returns : goal.member_contents-returns
member_contents-returns t c =
    members_done c.member_zeros.result (scope_of c.args.scope.now) (members_of (map member_tree c.loop-entry.rest.now)) c.args.entries.now
    c.loop-entry.entry-index c.member_zeros.new.numbers.items c.loop-entry.numbers.items
    (c.args.numbers.now.items ++ member_contents (scope_of c.args.scope.now) (inits_of (map init_tree c.args.entries.now)) (members_of (map member_tree c.args.members.now)))
    c.member_zeros.ensures (omega (arith, c.loop-entry-test.false)) c.loop-entry.invariant
