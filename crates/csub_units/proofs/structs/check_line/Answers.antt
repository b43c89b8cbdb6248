use Rattle.std.proofs.Common.{◌∙◌, option_map, Option}
use Rattle.csub_objects.specs.Meaning.{type_tree}
use Rattle.csub_objects.specs.Types.{TypeTree}
use Rattle.csub_scopes.specs.Meanings.{scope_of}
use Rattle.csub_units.specs.Gathered.{gathered}
use Rattle.csub_units.proofs.Members.{line_more, line_fault_more}
use Rattle.csub_units.proofs.structs.check_line.Goals as goal

pub loop-d-preserved : goal.loop-d-preserved
loop-d-preserved c =
    let base : Option TypeTree = option_map type_tree c.args.base.now in
    record {
      members = line_more (scope_of c.args.scope.now) base (gathered c.loop-d.found.members) (gathered c.in_ok-found.found.members) c.args.vars.now
          c.loop-d.d-index c.d-item.result c.loop-d-test.true c.d-item.is c.in_ok-found.ensures.members ∙ c.loop-d.invariant.members;
      faults = line_fault_more (scope_of c.args.scope.now) base c.args.vars.now c.loop-d.d-index c.d-item.result c.loop-d.found.fault
          c.in_ok-found.found.fault c.loop-d-test.true c.d-item.is c.in_ok-found.ensures.fault ∙ c.loop-d.invariant.faults;
    }
