use Rattle.std.proofs.Common.{◌≡◌, ◌↔◌, IsTrue, ℕ, false, length, get_or, replicate, sym, ap, subst, ◌∙◌, arith}
use Rattle.std.proofs.lemmas.List.{take_at, length-replicate}
use Rattle.std.proofs.lemmas.List.Elements.{Contains-get_or}
use Rattle.std.specs.Prelude.{Contains}
use Rattle.edge_trace.specs.Rows.{has}
use Rattle.explain_report.specs.Marks.{AddsMarks, AreMarked}
use Rattle.explain_report.proofs.MarkLemmas.{adds_to_none}
use Rattle.explain_report.proofs.marks.mark.Goals as goal
use Rattle.explain_report.proofs.marks.mark.Goals.{After-deref_mut}

made : (c : After-deref_mut) → c.deref_mut.result.now ≡ replicate (length c.args.facts.now) false
made c = c.deref_mut.ensures.value ∙ c.in_ok-marks.ensures.items_if_clones_equal (λ y same. same)

pub mark_wanted-requires : goal.mark_wanted-requires
mark_wanted-requires c k d less =
    let below = c.requires.wanted (get_or c.args.wanted.now k d) (Contains-get_or c.args.wanted.now k d less) in
    omega (arith, ap length (made c), length-replicate (length c.args.facts.now) false)

pub returns : goal.returns
returns c =
    let wanted = c.args.wanted.now in
    let begun = made (goal.at.returns c).After-deref_mut in
    let len = c.in_ok-marks.marks.len in
    let first = c.mark_wanted.new.marks in
    let second = c.mark_rest.new.marks in
    let first_long : length first ≡ len = c.mark_wanted.ensures.long ∙ c.deref_mut.ensures.len in
    let is : c.deref_mut-2.result.now ≡ first = c.deref_mut-2.ensures.value ∙ take_at first _ len first_long in
    let second_long : length second ≡ len = omega (arith, c.mark_rest.auto.marks, ap length is) in
    subst (AreMarked c.args.facts.now wanted) (sym (take_at second _ len second_long))
    (c.mark_rest.ensures wanted (subst (λ marks. (i : ℕ) → IsTrue (has marks i) ↔ Contains wanted i) (sym is)
    (adds_to_none (length c.args.facts.now) first wanted (subst (λ marks. AddsMarks marks first wanted) begun c.mark_wanted.ensures))))
