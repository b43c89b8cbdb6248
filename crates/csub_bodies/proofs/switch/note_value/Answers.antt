use Rattle.std.proofs.Common.{◌∙◌, ap, sym, List, ℤ, map, w64, int_eq}
use Rattle.std.specs.List.{list_any}
use Rattle.std.proofs.lemmas.Int.{to_z-of_z}
use Rattle.csub_rules.specs.Faults.{fault_if}
use Rattle.csub_rules.specs.CaseLabels.{a_value, label_eq}
use Rattle.csub_bodies.specs.Switches.{with_default, inserted}
use Rattle.csub_bodies.proofs.Switching.{value_seen, with_value}
use Rattle.csub_bodies.proofs.switch.note_value.Goals as goal

pub returns-clause-fault : goal.returns-clause-fault
returns-clause-fault c =
    let word = to_z-of_z w64 c.args.value c.ranges.value in
    c.fault_if.ensures
    ∙ ap (λ b. fault_if b 18 c.args.at) (c.in_ok-again.ensures.again ∙ ap (λ (v : ℤ). list_any (int_eq v) c.args.seen.now.values.keys) word
    ∙ sym (value_seen c.args.value c.args.seen.now.has_default c.args.seen.now.values.keys))

pub returns-clause-after : goal.returns-clause-after
returns-clause-after c =
    let word = to_z-of_z w64 c.args.value c.ranges.value in
    λ l. ap (λ (keys : List ℤ). list_any (label_eq l) (with_default c.args.seen.now.has_default (map a_value keys))) c.in_ok-again.ensures.after
    ∙ ap (λ (v : ℤ). list_any (label_eq l) (with_default c.args.seen.now.has_default (map a_value (inserted c.args.seen.now.values.keys v)))) word
    ∙ with_value c.args.value c.args.seen.now.has_default c.args.seen.now.values.keys l
