use Rattle.std.proofs.Common.{◌≡◌, ◌≤◌, map, rules, arith}
use Rattle.csub_semantics.specs.Syntax.{local_tree}
use Rattle.csub_flat.specs.Frames.{objects_size, as_object}
use Rattle.csub_flat.proofs.Slots.{size_objects}
use Rattle.csub_flat.proofs.frame.object_slots.Goals as goal

pub params_size-requires : goal.params_size-requires
params_size-requires c =
    let size = size_objects c.args.function.now in let small = c.requires in
    let few : objects_size (map as_object c.args.function.now.params.items) ≤ 4096 = omega arith in
    rw c.deref.ensures.value few

pub locals_size-requires : goal.locals_size-requires
locals_size-requires c =
    let size = size_objects c.args.function.now in let small = c.requires in
    let few : objects_size (map local_tree c.args.function.now.locals.items) ≤ 4096 = omega arith in
    rw c.deref-2.ensures.value few

pub overflow_add-result : goal.overflow_add-result
overflow_add-result c =
    let size = size_objects c.args.function.now in let small = c.requires in
    let p : c.params_size.result ≡ objects_size (map as_object c.args.function.now.params.items) = search rules in
    let l : c.locals_size.result ≡ objects_size (map local_tree c.args.function.now.locals.items) = search rules in
    omega arith

pub returns : goal.returns
returns c =
    let size = size_objects c.args.function.now in
    let p : c.params_size.result ≡ objects_size (map as_object c.args.function.now.params.items) = search rules in
    let l : c.locals_size.result ≡ objects_size (map local_tree c.args.function.now.locals.items) = search rules in
    omega arith
