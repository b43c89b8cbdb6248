use Rattle.std.proofs.Common.{◌∙◌, ap, map}
use Rattle.csub_tree.specs.Declarations.{declarator_tree}
use Rattle.csub_rules.specs.Labels.{past_names, twice_fault}
use Rattle.csub_units.proofs.Members.{twice_more}
use Rattle.csub_units.proofs.structs.check_twice.Goals as goal

pub loop-d-preserved : goal.loop-d-preserved
loop-d-preserved c =
    twice_more c.loop-d.seen c.twice_in_line.new.seen c.args.ds.now c.loop-d.d-index c.d-item.result c.loop-d.least c.in_ok-again.again
    c.earlier-least.result c.loop-d-test.true c.d-item.is
    (c.in_ok-again.ensures.seen ∙ ap (λ ds. past_names c.loop-d.seen (map (λ v. v.name) (map declarator_tree ds))) c.as_slice.ensures.value)
    (c.in_ok-again.ensures.fault ∙ ap (λ ds. twice_fault c.loop-d.seen (map (λ v. v.name) (map declarator_tree ds))) c.as_slice.ensures.value)
    c.earlier-least.ensures
    ∙ c.loop-d.invariant
