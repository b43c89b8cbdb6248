use Rattle.std.proofs.Common.{◌≡◌, ◌∙◌, ap, sym, ◌+◌, [], ◌∷◌, ◌++◌, reverse, subst, Some, bytes_eq, if◌then◌else◌}
use Rattle.csub_objects.specs.Types.{Name}
use Rattle.csub_scopes.specs.Places.{AreCounts, placed}
use Rattle.csub_scopes.proofs.Counting.{count, counts_more, pushed}
use Rattle.csub_scopes.proofs.counts.Counts.add.Goals as goal

pub invariant_of-self-2 : goal.invariant_of-self-2
invariant_of-self-2 c =
    let is : c.count-count.result ≡ count c.args.name.now (reverse c.self.inside.names.items) =
    c.count-count.ensures ∙ ap (λ x. count x c.args.self.now) c.bytes.ensures ∙ ap (λ names. count c.args.name.now names) (sym c.self.view_is) in
    let key : c.in_ok-key.key.items ≡ c.args.name.now = c.in_ok-key.ensures.items_if_clones_equal (λ x y same. same) ∙ c.bytes-2.ensures in
    let after : (other : Name) → placed c.put.new.latest other ≡ (if bytes_eq c.args.name.now other then Some (c.count-count.result + 1) else placed c.self.inside.counts other) =
    λ other. rw key at (c.in_ok-put.ensures.after other) in
    let more = counts_more c.self.inside.counts c.put.new.latest (reverse c.self.inside.names.items) c.args.name.now c.count-count.result c.self.invariant is after in
    let stack : c.push.new.self.items ≡ c.self.inside.names.items ++ c.args.name.now ∷ [] =
    c.in_ok-push.ensures.items ∙ ap (λ s. s ++ c.in_ok-name.name ∷ []) c.reserve.ensures.items ∙ ap (λ n. c.self.inside.names.items ++ n ∷ []) c.in_ok-name.ensures in
    subst (λ names. AreCounts c.put.new.latest names) (sym (pushed c.self.inside.names.items c.push.new.self.items c.args.name.now stack)) more
