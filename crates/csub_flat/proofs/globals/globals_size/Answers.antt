use Rattle.std.proofs.Common.{◌+◌, ap, ◌∙◌, arith}
use Rattle.csub_objects.specs.Meaning.{type_tree}
use Rattle.csub_objects.specs.Types.{cells}
use Rattle.csub_semantics.specs.declared.types.GlobalVar.{GlobalVar}
use Rattle.csub_flat.proofs.Indexes.{size_next, size_within}
use Rattle.csub_flat.proofs.globals.globals_size.Goals as goal

pub slots_of-size-requires : goal.slots_of-size-requires
slots_of-size-requires c =
    let next = size_next c.args.globals.now c.loop-i.i c.index-globals-i.result c.loop-i-test.true c.index-globals-i.is in
    let all = size_within c.args.globals.now (c.loop-i.i + 1) in
    let same = ap (λ (g : GlobalVar). cells (type_tree g.ctype)) c.index-globals-i.is in
    let few = c.requires in
    omega arith

pub overflow_add-size : goal.overflow_add-size
overflow_add-size c =
    let next = size_next c.args.globals.now c.loop-i.i c.index-globals-i.result c.loop-i-test.true c.index-globals-i.is in
    let all = size_within c.args.globals.now (c.loop-i.i + 1) in
    let same = ap (λ (g : GlobalVar). cells (type_tree g.ctype)) c.index-globals-i.is in
    let so_far = c.loop-i.invariant in
    let one = c.slots_of-size.ensures in
    let few = c.requires in
    omega arith

pub loop-i-preserved : goal.loop-i-preserved
loop-i-preserved c =
    let next = size_next c.args.globals.now c.loop-i.i c.index-globals-i.result c.loop-i-test.true c.index-globals-i.is in
    let same = ap (λ (g : GlobalVar). cells (type_tree g.ctype)) c.index-globals-i.is in
    let so_far = c.loop-i.invariant in
    let one = c.slots_of-size.ensures in
    next ∙ (omega arith)
