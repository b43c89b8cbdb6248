use Rattle.std.proofs.Common.{◌≡◌, ◌⊎◌, ◌++◌, ◌∷◌, [], subst}
use Rattle.edge_label.proofs.CodeLemmas.{codes, code_place, inserted_codes, one_place}
use Rattle.edge_label.proofs.table.CodeTable.number.Goals as goal

pub returns-clause-number : goal.returns-clause-number
returns-clause-number c = code_place c.insert_full.new.self.keys c.in_ok-number.number c.args.code c.in_ok-number.ensures.stored

pub returns-clause-adds : goal.returns-clause-adds
returns-clause-adds c =
    subst (λ old. (codes c.insert_full.new.self.keys ≡ old) ⊎ (codes c.insert_full.new.self.keys ≡ old ++ c.args.code.items ∷ [])) c.self.view_is
    (inserted_codes _ c.self.inside.codes.keys c.insert_full.new.self.keys c.args.code c.in_ok-number.ensures.keys)

pub returns-clause-once : goal.returns-clause-once
returns-clause-once c _ i j code at_i at_j = one_place c.insert_full.new.self.keys c.in_ok-number.ensures.unique i j code at_i at_j
