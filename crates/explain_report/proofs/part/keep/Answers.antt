use Rattle.std.proofs.Common.{◌≡◌, ℕ, Vec, Global, ◌+◌, length, sym, ap, subst₂, ◌∙◌, arith}
use Rattle.std.proofs.lemmas.Option.{slice_get-get_or}
use Rattle.dual_walk.specs.declared.fact.Fact.{Fact}
use Rattle.explain_report.proofs.PartLemmas.{IsPartTo, part_few, closed_within, part_same, part_next}
use Rattle.explain_report.proofs.part.keep.Goals as goal
use Rattle.explain_report.proofs.part.keep.Goals.{then-marks-place+in_ok-push, else-marks-place}

pub moved-requires : goal.moved-requires
moved-requires c =
    let long : length c.args.facts.now ≡ length c.deref.result.now = sym c.loop-place.invariant.long ∙ sym (ap length c.deref.ensures.value) in
    closed_within c.args.facts.now c.args.marks.now c.loop-place.place (length c.deref.result.now) _ c.requires.closed c.if-marks-place.true c.loop-place-test.true long

pub overflow_cast-at : goal.overflow_cast-at
overflow_cast-at c =
    let few = part_few c.args.facts.now c.args.marks.now c.loop-place.place c.loop-place.kept.items c.loop-place.table.items c.loop-place.invariant in
    omega (arith, c.loop-place.kept.ok.0)

pub loop-place-preserved : goal.loop-place-preserved
loop-place-preserved c =
    let facts = c.args.facts.now in
    let marks = c.args.marks.now in
    let at = c.loop-place.place in
    let stands = slice_get-get_or facts at _ c.loop-place-test.true in
    elim c.if-marks-place.branch [
      | then-marks-place+in_ok-push w ↦
          part_next facts marks c.requires.closed at c.loop-place.kept.items c.if-marks-place.kept.items c.loop-place.table.items c.if-marks-place.table.items w.deref.result.now _ w.moved.result w.len-at.result
          w.if-marks-place.true stands c.loop-place.invariant w.deref.ensures.value w.moved.ensures (ap (λ (v : Vec Fact Global). v.items) w.kept-is ∙ w.in_ok-push.ensures.items) (w.len-at.ensures ∙ c.loop-place.kept.ok.0)
          (ap (λ (v : Vec ℕ Global). v.items) w.table-is)
      | else-marks-place w ↦
          subst₂ (λ (k : Vec Fact Global) (t : Vec ℕ Global). IsPartTo facts marks (at + 1) k.items t.items) (sym w.kept-is) (sym w.table-is)
          (part_same facts marks at c.loop-place.kept.items c.loop-place.table.items w.if-marks-place.false c.loop-place.invariant)
    ]
