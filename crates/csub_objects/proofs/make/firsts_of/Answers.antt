use Rattle.std.proofs.Common.{arith, refl, ℕ, List, ◌<◌, ◌≡◌, ◌∷◌, [], ◌+◌, length, get_or, map, ap, sym, subst, ◌∙◌}
use Rattle.std.proofs.lemmas.List.{length-append}
use Rattle.csub_objects.specs.Meaning.{member_tree}
use Rattle.csub_objects.specs.Names.{cells_before}
use Rattle.csub_objects.specs.Types.{MemberTree, IsCapped}
use Rattle.csub_objects.proofs.ListLemmas.{firsts_pushed, cells_pushed}
use Rattle.csub_objects.proofs.make.firsts_of.Goals as goal

pub loop-member-init : goal.loop-member-init
loop-member-init c = rw c.new-firsts.ensures.items (refl, record { exact = λ _. refl; above = λ h. absurd (omega arith); small = omega arith }, λ k h. absurd (omega arith))

pub loop-member-preserved : goal.loop-member-preserved
loop-member-preserved c =
    let ms : List MemberTree = map member_tree c.args.members.now in
    let counts : length c.loop-member.firsts.items ≡ c.loop-member.member-index = c.loop-member.invariant.0 in (
      ap length c.in_ok-push.ensures.items ∙ length-append c.loop-member.firsts.items (c.loop-member.before ∷ []) ∙ ap (λ n. n + 1) counts,
      cells_pushed c.args.members.now c.loop-member.member-index c.member-item.result c.loop-member.before c.cells.result c.cap-before.result
          c.loop-member-test.true c.member-item.is c.loop-member.invariant.1 c.cells.ensures c.cap-before.ensures,
      subst (λ (xs : List ℕ). (k : ℕ) → k < length xs → IsCapped (get_or xs k 0) (cells_before k ms)) (sym c.in_ok-push.ensures.items)
          (firsts_pushed c.loop-member.firsts.items ms c.loop-member.before c.loop-member.invariant.2
          (subst (λ j. IsCapped c.loop-member.before (cells_before j ms)) (sym counts) c.loop-member.invariant.1)),
    )
