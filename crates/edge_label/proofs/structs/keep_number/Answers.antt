use Rattle.edge_label.proofs.structs.keep_number.Goals as goal

pub returns-clause-kept : goal.returns-clause-kept
returns-clause-kept c = λ name. c.in_ok-insert.ensures.updates.0 (record { ref_ptr = c.args.tag.ref_ptr; now = name })
