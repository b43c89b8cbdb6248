use Rattle.std.proofs.Common.{◌≡◌, ◌∙◌, ℕ, Some, get_or, map, sym, subst, arith}
use Rattle.std.specs.Prelude.{slice_get}
use Rattle.std.specs.List.Sorted.{IsPermutation, IsSorted}
use Rattle.std.specs.Ordering.{nat_cmp, ordering_then}
use Rattle.std.proofs.lemmas.Bool.{false≢true}
use Rattle.std.proofs.lemmas.List.Sorted.{IsPermutation-sym}
use Rattle.std.proofs.lemmas.Option.{slice_get-get_or}
use Rattle.walk_cert.specs.Made.{tuple_of}
use Rattle.walk_cert.proofs.MadeLemmas.{moment_none, moment_push, moment_skip, moment_all, sorted_pairs, tuples_moved}
use Rattle.walk_cert.proofs.make.rising_pairs.Goals as goal
use Rattle.walk_cert.proofs.make.rising_pairs.Goals.{then-comes_after+in_ok-push, else-comes_after}

pub loop-old-init : goal.loop-old-init
loop-old-init c = rw c.in_ok-pairs.ensures.items (moment_none c.deref-old-items.result.now)

pub loop-old-preserved : goal.loop-old-preserved
loop-old-preserved c =
    let xs = c.deref-old-items.result.now in
    let k = c.loop-old.old-index in
    let u = get_or xs k (0, 0) in
    let here : slice_get xs k ≡ Some u = slice_get-get_or xs k (0, 0) c.loop-old-test.true in
    let sorted = subst (IsSorted (λ (x : ℕ × ℕ) y. ordering_then (nat_cmp x.0 y.0) (nat_cmp x.1 y.1))) (sym c.deref-old-items.ensures.value) c.in_ok-sort.ensures.sorted in
    elim c.if-comes_after.branch [
      | then-comes_after+in_ok-push w ↦ rw (w.pairs-is, w.in_ok-push.ensures.items) (moment_push xs k c.loop-old.pairs.items c.loop-old.last u c.loop-old.invariant here (c.comes_after.ensures.0 w.if-comes_after.true))
      | else-comes_after w ↦ rw w.pairs-is (moment_skip xs k c.loop-old.pairs.items c.loop-old.last u (sorted_pairs xs sorted k u here) c.loop-old.invariant here
          (λ j less. (get_or xs j (0, 0), slice_get-get_or xs j (0, 0) (omega (arith, less, c.loop-old-test.true))))
          (λ after. false≢true (sym w.if-comes_after.false ∙ c.comes_after.ensures.1 after)))
    ]

pub returns : goal.returns
returns c =
    let xs = c.deref-old-items.result.now in
    let moved = subst (λ ys. IsPermutation (map tuple_of c.args.facts.now) ys) (sym c.deref-old-items.ensures.value) (subst (λ ys. IsPermutation ys c.sort.new.self.items) c.in_ok-numbers.ensures c.in_ok-sort.ensures.permutation) in
    moment_all c.args.facts.now xs c.loop-old.old-index c.loop-old.pairs.items c.loop-old.last c.loop-old.invariant c.loop-old-test.false
    (λ n n'. (tuples_moved xs (map tuple_of c.args.facts.now) (IsPermutation-sym (map tuple_of c.args.facts.now) xs moved) n n', tuples_moved (map tuple_of c.args.facts.now) xs moved n n'))
