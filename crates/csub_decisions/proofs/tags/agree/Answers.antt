use Rattle.std.proofs.Common.{◌≡◌, ◌∙◌, map, ap, sym}
use Rattle.std.proofs.lemmas.Slice.Eq.{bytes_eq-Decides}
use Rattle.csub_objects.specs.Meaning.{member_tree}
use Rattle.csub_objects.specs.Types.{members_of}
use Rattle.csub_objects.proofs.LawsMembers.{members_of-same}
use Rattle.csub_decisions.proofs.tags.agree.Goals as goal

pub returns-then-eq : goal.returns-then-eq
returns-then-eq c =
    let tags : c.args.tag.now ≡ c.args.name.now = (bytes_eq-Decides c.args.tag.now c.args.name.now).0 (sym c.eq.ensures ∙ c.if-eq.true) in
    let same = c.same_members.ensures in (
      λ h e. ap members_of (same.0 h),
      λ h. same.1 (members_of-same (map member_tree c.args.members.now) (map member_tree c.args.others.now) (h tags)),
    )
