use Rattle.std.proofs.Common.{◌∙◌}
use Rattle.csub_scopes.specs.Meanings.{scope_of}
use Rattle.csub_units.specs.Gathered.{gathered}
use Rattle.csub_units.proofs.Members.{members_more, fields_fault_more}
use Rattle.csub_units.proofs.structs.check_fields.Goals as goal

pub loop-d-preserved : goal.loop-d-preserved
loop-d-preserved c = record {
  members = members_more (scope_of c.args.scope.now) (gathered c.loop-d.found.members) (gathered c.in_ok-found.found.members) c.args.ds.now
      c.loop-d.d-index c.d-item.result c.loop-d-test.true c.d-item.is c.in_ok-found.ensures.members ∙ c.loop-d.invariant.members;
  faults = fields_fault_more (scope_of c.args.scope.now) c.args.ds.now c.loop-d.d-index c.d-item.result c.loop-d.found.fault
      c.in_ok-found.found.fault c.loop-d-test.true c.d-item.is c.in_ok-found.ensures.fault ∙ c.loop-d.invariant.faults;
}
