use Rattle.std.proofs.Common.{length, sym, ap, ◌∙◌, subst}
use Rattle.csub_semantics.specs.Syntax.{program_tree}
use Rattle.test_history.specs.Histories.{HistoryParts, HaveRows}
use Rattle.carry_history.specs.Laid.{tests_again}
use Rattle.carry_history.proofs.LayLemmas.{tests_within, flags_long, results_long, carried_entries, carried_rows}
use Rattle.carry_history.proofs.carrying.carry.Goals as goal

pub list_again-requires : goal.list_again-requires
list_again-requires g c =
    let same = c.requires.choices ∙ ap length (sym c.entries-entries.ensures.value) in
    ap length c.deref.ensures.value ∙ flags_long c.args.images.now c.entries-entries.result.now c.args.choices.now c.in_ok-stays.stays.items same c.in_ok-stays.ensures

pub run_all-requires-clause-within : goal.run_all-requires-clause-within
run_all-requires-clause-within g c κs others =
    tests_within c.args.history.now.entries c.entries-entries.result.now c.deref.result.now c.in_ok-tests.tests.items c.deref-2.result.now
    c.entries-entries.ensures.value c.in_ok-tests.ensures c.deref-2.ensures.value c.requires.within

pub lay-requires-clause-stays : goal.lay-requires-clause-stays
lay-requires-clause-stays g c =
    let same = c.requires.choices ∙ ap length (sym c.entries-entries.ensures.value) in
    ap length c.deref-3.ensures.value ∙ flags_long c.args.images.now c.entries-entries.result.now c.args.choices.now c.in_ok-stays.stays.items same c.in_ok-stays.ensures

pub lay-requires-clause-results : goal.lay-requires-clause-results
lay-requires-clause-results g c =
    results_long (program_tree c.args.program.now) c.deref-2.result.now c.in_ok-results.results.items c.in_ok-results.ensures
    ∙ ap length (c.deref-2.ensures.value ∙ c.in_ok-tests.ensures ∙ ap (tests_again c.entries-entries.result.now) (c.deref.ensures.value ∙ sym c.deref-3.ensures.value))

pub new-requires : goal.new-requires
new-requires g c =
    let P = program_tree c.args.program.now in
    let same = c.requires.choices ∙ ap length (sym c.entries-entries.ensures.value) in
    subst (λ n. HaveRows n c.in_ok-carried.carried.items) (c.edges-2.ensures.value ∙ sym c.edges-3.ensures.value)
    (carried_rows P c.edges-2.result c.args.images.now c.entries-entries.result.now c.args.choices.now c.in_ok-stays.stays.items c.deref.result.now c.deref-3.result.now c.in_ok-tests.tests.items c.deref-2.result.now
    c.in_ok-results.results.items c.in_ok-carried.carried.items (c.edges-2.ensures.listed P c.requires.graph) same c.in_ok-stays.ensures c.deref.ensures.value c.deref-3.ensures.value c.in_ok-tests.ensures
    c.deref-2.ensures.value c.in_ok-results.ensures c.in_ok-carried.ensures)

pub returns : goal.returns
returns g c =
    let P = program_tree c.args.program.now in
    let same = c.requires.choices ∙ ap length (sym c.entries-entries.ensures.value) in
    record {
      digest = ap (λ (h : HistoryParts). h.digest) c.new.ensures ∙ c.digest_of.ensures;
      edges = ap (λ (h : HistoryParts). h.edges) c.new.ensures ∙ c.edges-3.ensures.listed P c.requires.graph;
      entries =
          carried_entries P c.edges-2.result c.args.images.now c.entries-entries.result.now c.args.choices.now c.in_ok-stays.stays.items c.deref.result.now c.deref-3.result.now c.in_ok-tests.tests.items
          c.deref-2.result.now c.in_ok-results.results.items c.in_ok-carried.carried.items (c.edges-2.ensures.listed P c.requires.graph) same c.in_ok-stays.ensures c.deref.ensures.value c.deref-3.ensures.value
          c.in_ok-tests.ensures c.deref-2.ensures.value c.in_ok-results.ensures c.in_ok-carried.ensures c.args.history.now.entries c.new.result.entries c.entries-entries.ensures.value
          (ap (λ (h : HistoryParts). h.entries) c.new.ensures);
    }
