use Rattle.std.proofs.Common.{Some}
use Rattle.csub_scopes.proofs.Keys.{placed-updates}
use Rattle.csub_scopes.proofs.places.put.Goals as goal

pub returns-in-Some-clause-after : goal.returns-in-Some-clause-after
returns-in-Some-clause-after c = placed-updates c.args.latest.now c.insert.new.self c.args.name.items (Some c.args.place) c.in_ok-before.ensures.updates

pub returns-in-None-clause-after : goal.returns-in-None-clause-after
returns-in-None-clause-after c = placed-updates c.args.latest.now c.insert.new.self c.args.name.items (Some c.args.place) c.in_ok-before.ensures.updates
