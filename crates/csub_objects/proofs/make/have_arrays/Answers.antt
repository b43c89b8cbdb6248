use Rattle.std.proofs.Common.{arith, refl}
use Rattle.csub_objects.proofs.ListLemmas.{arrays_at, arrays_each}
use Rattle.csub_objects.proofs.make.have_arrays.Goals as goal

pub returns-then-not-has_arrays : goal.returns-then-not-has_arrays
returns-then-not-has_arrays c =
    (λ h. absurd (cc), λ h. c.if-not-has_arrays.ensures.1 (rw c.member-item.is (arrays_at c.args.members.now c.loop-member.member-index c.member-item.result h (omega arith))))

pub returns : goal.returns
returns c = (λ _. arrays_each c.args.members.now (λ k d below. c.loop-member.invariant k d (omega arith)), λ _. refl)
