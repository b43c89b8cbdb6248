use Rattle.csub_semantics.specs.Labels.{label_tree}
use Rattle.edge_label.specs.Numbers.{whole}
use Rattle.edge_label.proofs.BookLemmas.{interned}
use Rattle.edge_label.proofs.book.intern_code.Goals as goal

pub returns-clause-interned : goal.returns-clause-interned
returns-clause-interned c = λ tables globals are index book.
    interned _ tables c.args.codes.now.keys c.insert_full.new.self.keys c.in_ok-number.number c.in_ok-code.code (whole globals (label_tree c.args.label.now)) book
    c.in_ok-number.ensures.keys c.in_ok-number.ensures.unique c.in_ok-number.ensures.stored (c.in_ok-code.ensures tables globals are index)
