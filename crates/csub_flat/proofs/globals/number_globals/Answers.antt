use Rattle.std.proofs.Common.{rules, ◌≡◌, ◌+◌, true, false, cond, Some, map, take, subst, sym, ap, ◌∙◌, arith}
use Rattle.std.specs.Option.{is_some}
use Rattle.std.specs.Ordering.{nat_cmp}
use Rattle.std.specs.Cmp.Lexicographic.{slice_cmp}
use Rattle.std.specs.BTreeMap.{get, is_at}
use Rattle.csub_semantics.specs.declared.types.GlobalVar.{GlobalVar}
use Rattle.csub_objects.specs.Types.{Name, cells}
use Rattle.csub_objects.specs.Meaning.{type_tree}
use Rattle.csub_semantics.specs.Types.{global_tree}
use Rattle.csub_flat.specs.Frames.{objects_size, global_object}
use Rattle.csub_flat.specs.Globals.{AreSlotsOf}
use Rattle.csub_flat.proofs.Indexes.{name_again, name_added, size_next, size_within}
use Rattle.csub_flat.proofs.globals.number_globals.Goals as goal
use Rattle.csub_flat.proofs.globals.number_globals.Goals.{then-not-contains_key+in_ok-copy+in_ok-insert, else-not-contains_key}

pub slots_of-requires : goal.slots_of-requires
slots_of-requires c =
    let next = size_next c.args.globals.now c.loop-i.i c.index-globals-i.result c.loop-i-test.true c.index-globals-i.is in
    let all = size_within c.args.globals.now (c.loop-i.i + 1) in
    let same = ap (λ (g : GlobalVar). cells (type_tree g.ctype)) c.index-globals-i.is in
    let few = c.requires in
    omega arith

pub overflow_add-slot : goal.overflow_add-slot
overflow_add-slot c =
    let next = size_next c.args.globals.now c.loop-i.i c.index-globals-i.result c.loop-i-test.true c.index-globals-i.is in
    let all = size_within c.args.globals.now (c.loop-i.i + 1) in
    let same = ap (λ (g : GlobalVar). cells (type_tree g.ctype)) c.index-globals-i.is in
    let so_far = c.loop-i.invariant.1 in
    let one = c.slots_of.ensures in
    let few = c.requires in
    omega arith

pub loop-i-preserved : goal.loop-i-preserved
loop-i-preserved c =
    let next = size_next c.args.globals.now c.loop-i.i c.index-globals-i.result c.loop-i-test.true c.index-globals-i.is in
    let same = ap (λ (g : GlobalVar). cells (type_tree g.ctype)) c.index-globals-i.is in
    let size = c.loop-i.invariant.1 in
    let one = c.slots_of.ensures in
    let more : objects_size (map global_object (map global_tree (take (c.loop-i.i + 1) c.args.globals.now))) ≡ c.loop-i.slot + c.slots_of.result = next ∙ (omega arith) in (
      elim c.if-not-contains_key.branch [
        | then-not-contains_key+in_ok-copy+in_ok-insert w ↦
            let name = c.index-globals-i.result.name in
            let slots = c.loop-i.slots in
            let new : is_some (get (slice_cmp nat_cmp) slots name) ≡ false = search rules in
            let added : (q : Name) → get (slice_cmp nat_cmp) w.insert.new.self q ≡ cond (is_at (slice_cmp nat_cmp name) q) (Some c.loop-i.slot) (get (slice_cmp nat_cmp) slots q) =
            subst (λ (a : Name). (q : Name) → get (slice_cmp nat_cmp) w.insert.new.self q ≡ cond (is_at (slice_cmp nat_cmp a) q) (Some c.loop-i.slot) (get (slice_cmp nat_cmp) slots q))
            w.in_ok-copy.ensures w.in_ok-insert.ensures.updates.0 in
            subst (AreSlotsOf (map global_object (map global_tree (take (c.loop-i.i + 1) c.args.globals.now)))) (sym w.slots-is)
            (name_added c.args.globals.now c.loop-i.i c.loop-i.slot c.index-globals-i.result c.loop-i-test.true c.index-globals-i.is size slots c.loop-i.invariant.0 w.insert.new.self new added)
        | else-not-contains_key w ↦
            let slots = c.loop-i.slots in
            let there : is_some (get (slice_cmp nat_cmp) slots c.index-globals-i.result.name) ≡ true = search rules in
            subst (AreSlotsOf (map global_object (map global_tree (take (c.loop-i.i + 1) c.args.globals.now)))) (sym w.slots-is)
            (name_again c.args.globals.now c.loop-i.i c.loop-i.slot c.index-globals-i.result c.loop-i-test.true c.index-globals-i.is size slots c.loop-i.invariant.0 there)
      ],
      more,
    )
