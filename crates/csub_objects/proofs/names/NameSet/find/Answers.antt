use Rattle.std.proofs.Common.{List, ℕ, IfSome, IfNone, subst}
use Rattle.csub_objects.specs.Names.{IsNew, StandsAt}
use Rattle.csub_objects.proofs.Keys.{found, missing}
use Rattle.csub_objects.proofs.names.NameSet.find.Goals as goal

pub returns-clause-some : goal.returns-clause-some
returns-clause-some c =
    subst (λ (v : List (List ℕ)). IfSome c.get_index_of.result (StandsAt v c.args.name.now)) c.self.view_is
    (found c.self.inside.held.keys c.args.name.now c.get_index_of.result c.get_index_of.ensures.index)

pub returns-clause-none : goal.returns-clause-none
returns-clause-none c =
    subst (λ (v : List (List ℕ)). IfNone c.get_index_of.result (IsNew c.args.name.now v)) c.self.view_is
    (missing c.self.inside.held.keys c.args.name.now c.get_index_of.result c.get_index_of.ensures.found)
