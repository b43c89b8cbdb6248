use Rattle.std.proofs.Common.{◌∙◌, map, subst, sym}
use Rattle.csub_scopes.specs.Meanings.{scope_of}
use Rattle.csub_scopes.specs.Scopes.{Scope}
use Rattle.csub_tree.specs.Declarations.{declare_tree}
use Rattle.csub_units.specs.Gathered.{AreSized, Differ, gathered}
use Rattle.csub_units.proofs.MemberFacts.{all_sized, struct_told, all_differ}
use Rattle.csub_units.proofs.structs.check_struct.Goals as goal

pub is_too_large-requires : goal.is_too_large-requires
is_too_large-requires c =
    subst (λ ms. AreSized ms) (sym c.in_ok-fields.ensures.members) (all_sized (scope_of c.args.scope.now) (map declare_tree c.args.ds.now))

pub sound_members-requires : goal.sound_members-requires
sound_members-requires c = λ e.
    let scope : Scope = scope_of c.args.scope.now in
    let told = struct_told scope c.args.tag.now (map declare_tree c.args.ds.now) (gathered c.in_ok-fields.fields.members) c.is_too_large.result
    c.check_tag-tagged.result c.fault_if-large.result c.in_ok-fields.fields.fault c.in_ok-twice.twice c.earlier.result c.earlier-2.result
    c.earlier-fault.result c.check_tag-tagged.ensures c.in_ok-fields.ensures.members (c.is_too_large.ensures c.args.tag.now.text)
    c.fault_if-large.ensures c.in_ok-fields.ensures.fault c.in_ok-twice.ensures c.earlier.ensures c.earlier-2.ensures c.earlier-fault.ensures in
    subst (λ ms. Differ ms) (sym c.in_ok-fields.ensures.members) (all_differ scope c.args.tag.now (map declare_tree c.args.ds.now) (sym told ∙ e))
