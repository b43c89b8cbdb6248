use Rattle.std.proofs.Common.{◌≡◌, ◌∙◌}
use Rattle.flow_graph.proofs.Table.{entered}
use Rattle.flow_graph.proofs.jumps.put.Goals as goal

pub returns : goal.returns
returns c =
    let key : c.in_ok-key.key.items ≡ c.args.labelled.now.name = c.in_ok-key.ensures.items_if_clones_equal (λ x y same. same) ∙ c.bytes.ensures in
    let after = entered c.args.table.now c.insert.new.self c.in_ok-key.key.items c.args.labelled.now.to c.in_ok-insert.ensures.updates in
    λ name. rw key at (after name)
