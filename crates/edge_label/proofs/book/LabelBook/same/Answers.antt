use Rattle.std.proofs.Common.{eq-eqb, eqb-true}
use Rattle.edge_label.proofs.BookLemmas.{same_numbers}
use Rattle.edge_label.proofs.book.LabelBook.same.Goals as goal

pub returns-clause-equal : goal.returns-clause-equal
returns-clause-equal g c = λ x y at_a at_b.
    let both = same_numbers c.self.inside.tables c.self.inside.codes.keys c.len-count.ensures.unique c.self.invariant c.args.a c.args.b x y (rw c.self.view_is at_a) (rw c.self.view_is at_b) in
    (λ t. both.0 (eqb-true c.args.a c.args.b t), λ e. eq-eqb c.args.a c.args.b (both.1 e))
