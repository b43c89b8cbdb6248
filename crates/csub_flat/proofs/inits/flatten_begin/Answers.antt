use Rattle.std.proofs.Common.{◌≡◌, ap, subst, arith}
use Rattle.csub_objects.specs.Meaning.{type_tree}
use Rattle.csub_semantics.specs.Trees.{OwnerTree, local_owner, owner_tree}
use Rattle.csub_semantics.specs.Labels.{init_tree}
use Rattle.csub_flat.specs.Fits.{IsBegun}
use Rattle.csub_flat.specs.Scopes.{globals_at, function_at}
use Rattle.csub_flat.proofs.Slots.{object_room}
use Rattle.csub_flat.proofs.inits.flatten_begin.Goals as goal

pub flatten_init-requires-clause-room : goal.flatten_init-requires-clause-room
flatten_init-requires-clause-room c =
    let gs = globals_at c.args.scope in
    let f = function_at c.args.scope in
    let owner : owner_tree c.args.owner.now ≡ local_owner c.in-Local.name c.in-Local.number = ap owner_tree c.in-Local.is in
    let begun = subst (λ (o : OwnerTree). IsBegun gs f o (type_tree c.args.ctype.now) (init_tree c.args.init.now)) owner c.requires in
    let room = object_room f c.in-Local.name c.in-Local.number begun.0.0 (type_tree c.args.ctype.now) begun.0.1 in
    let few = c.args.scope.small in
    let slot = c.object_slot-slot.ensures in
    omega arith
