use Rattle.std.proofs.Common.{subst, sym, w64}
use Rattle.std.specs.Option.{IfSome, IfNone}
use Rattle.std.proofs.lemmas.Int.{to_z-of_z}
use Rattle.csub_semantics.specs.Points.{on_case}
use Rattle.csub_semantics.specs.Syntax.{program_tree}
use Rattle.csub_flat.specs.Ways.{LeadsTo, LeadsNowhere, AreCases}
use Rattle.csub_machine.proofs.ways.case_at.Goals as goal

pub returns-in-Some-clause-some : goal.returns-in-Some-clause-some
returns-in-Some-clause-some c =
    let P = program_tree c.args.program.now in
    let rows : AreCases P c.args.point c.in-Some.rows.items = rw c.in-Some.is at c.requires.ways.cases in
    let k : AreCases P c.args.point c.deref.result.now = subst (AreCases P c.args.point) (sym c.deref.ensures.value) rows in
    subst (λ v. IfSome c.listed_case.result (LeadsTo P c.args.point (on_case v))) (to_z-of_z w64 c.args.value c.ranges.value) (c.listed_case.ensures.some P c.args.point k)

pub returns-in-Some-clause-none : goal.returns-in-Some-clause-none
returns-in-Some-clause-none c =
    let P = program_tree c.args.program.now in
    let rows : AreCases P c.args.point c.in-Some.rows.items = rw c.in-Some.is at c.requires.ways.cases in
    let k : AreCases P c.args.point c.deref.result.now = subst (AreCases P c.args.point) (sym c.deref.ensures.value) rows in
    subst (λ v. IfNone c.listed_case.result (LeadsNowhere P c.args.point (on_case v))) (to_z-of_z w64 c.args.value c.ranges.value) (c.listed_case.ensures.none P c.args.point k)
