use Rattle.std.proofs.Common.{subst, w64}
use Rattle.std.specs.Option.{IfSome, IfNone}
use Rattle.std.proofs.lemmas.Int.{to_z-of_z}
use Rattle.csub_semantics.specs.Points.{on_case}
use Rattle.csub_semantics.specs.Syntax.{program_tree}
use Rattle.csub_flat.specs.Ways.{LeadsTo, LeadsNowhere}
use Rattle.csub_machine.proofs.Switches.{leaves_by_case, leaves_by_default}
use Rattle.csub_machine.proofs.ways.way_at.Goals as goal

pub returns-in-Some-clause-some : goal.returns-in-Some-clause-some
returns-in-Some-clause-some c =
    let P = program_tree c.args.program.now in
    let leads = subst (λ v. LeadsTo P c.args.point (on_case v) c.in-Some.way) (to_z-of_z w64 c.args.value c.ranges.value) c.in-Some.ensures.some in
    subst (λ x. LeadsTo P c.args.point x c.in-Some.way) (leaves_by_case P c.requires.graph.valid c.args.point c.args.value c.in-Some.way leads) leads

pub returns-in-None-clause-some : goal.returns-in-None-clause-some
returns-in-None-clause-some c =
    let P = program_tree c.args.program.now in
    let nowhere = subst (λ v. LeadsNowhere P c.args.point (on_case v)) (to_z-of_z w64 c.args.value c.ranges.value) c.in-None.ensures.none in
    subst (λ x. IfSome c.args.ways.now.otherwise (LeadsTo P c.args.point x)) (leaves_by_default P c.requires.graph.valid c.args.point c.args.value nowhere) c.requires.ways.otherwise.some

pub returns-in-None-clause-none : goal.returns-in-None-clause-none
returns-in-None-clause-none c =
    let P = program_tree c.args.program.now in
    let nowhere = subst (λ v. LeadsNowhere P c.args.point (on_case v)) (to_z-of_z w64 c.args.value c.ranges.value) c.in-None.ensures.none in
    subst (λ x. IfNone c.args.ways.now.otherwise (LeadsNowhere P c.args.point x)) (leaves_by_default P c.requires.graph.valid c.args.point c.args.value nowhere) c.requires.ways.otherwise.none
