use Rattle.edge_trace.proofs.BitLemmas.{row-new}
use Rattle.edge_trace.proofs.row.EdgeRow.new.Goals as goal

pub returns : goal.returns
returns c =
    let zeros = c.in_ok-words.ensures.items_if_clones_equal (λ y same. same) in
    row-new c.args.edges _ c.in_ok-words.words.items zeros
