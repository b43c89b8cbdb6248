use Rattle.std.proofs.Common.{ℕ, Option, IsSome, subst, refl}
use Rattle.csub_scopes.proofs.Keys.{placed-updates}
use Rattle.csub_scopes.proofs.places.put_back.Goals as goal

pub returns-in-Some : goal.returns-in-Some
returns-in-Some c =
    placed-updates c.args.latest.now (c.get_mut.follows.lender c.args.place) c.args.name.now c.args.place
    ((c.get_mut.follows.holds c.args.place).3 (subst (λ (o : Option (Option ℕ)). IsSome o) c.in-Some.ensures.value refl))
