use Rattle.std.proofs.Common.{◌≡◌, ◌≤◌, ◌+◌, ◌-◌, ◌++◌, List, map, ap, subst, rules, arith}
use Rattle.csub_objects.specs.declared.types.Member.{Member}
use Rattle.csub_semantics.specs.declared.function.LocalVar.{LocalVar}
use Rattle.csub_semantics.specs.Syntax.{LocalTree, local_tree}
use Rattle.csub_flat.specs.Objects.{AreObjectSlots}
use Rattle.csub_flat.specs.Frames.{objects_size, as_object}
use Rattle.csub_flat.proofs.Slots.{size_objects}
use Rattle.csub_flat.proofs.Lookups.{all_slots}
use Rattle.csub_flat.proofs.frame.frame_of.Goals as goal

pub params_size-before-requires : goal.params_size-before-requires
params_size-before-requires c =
    let size = size_objects c.args.function.now in let small = c.requires in
    let few : objects_size (map as_object c.args.function.now.params.items) ≤ 4096 = omega arith in
    rw c.deref.ensures.value few

pub add_locals-requires-clause-room : goal.add_locals-requires-clause-room
add_locals-requires-clause-room c =
    let size = size_objects c.args.function.now in
    let first = c.object_slots-first.ensures in
    let room : objects_size (map local_tree c.args.function.now.locals.items) ≤ c.object_slots-first.result = omega arith in
    rw c.deref-2.ensures.value room

pub add_params-requires-clause-room : goal.add_params-requires-clause-room
add_params-requires-clause-room c =
    let p : c.params_size-before.result ≡ objects_size (map as_object c.args.function.now.params.items) = search rules in
    let room : objects_size (map as_object c.args.function.now.params.items) ≤ c.params_size-before.result = omega arith in
    rw c.deref-3.ensures.value room

pub add_params-requires-clause-small : goal.add_params-requires-clause-small
add_params-requires-clause-small c =
    let size = size_objects c.args.function.now in let small = c.requires in
    let p : c.params_size-before.result ≡ objects_size (map as_object c.args.function.now.params.items) = search rules in
    omega arith

pub returns : goal.returns
returns c =
    let locals = c.args.function.now.locals.items in
    let params = c.args.function.now.params.items in
    let p : c.params_size-before.result ≡ objects_size (map as_object params) = search rules in
    record {
      slots =
          all_slots c.args.function.now c.object_slots-first.result c.params_size-before.result c.new-slots.result c.add_locals.new.slots c.add_params.new.slots
          c.new-slots.ensures.empty c.object_slots-first.ensures p
          (subst (λ (vs : List LocalVar). (os : List LocalTree) → AreObjectSlots c.object_slots-first.result os c.new-slots.result
          → AreObjectSlots (c.object_slots-first.result - objects_size (map local_tree vs)) (map local_tree vs ++ os) c.add_locals.new.slots) c.deref-2.ensures.value c.in_ok-add_locals.ensures)
          (subst (λ (ps : List Member). (os : List LocalTree) → AreObjectSlots c.params_size-before.result os c.add_locals.new.slots
          → AreObjectSlots (c.params_size-before.result - objects_size (map as_object ps)) (map as_object ps ++ os) c.add_params.new.slots) c.deref-3.ensures.value c.in_ok-add_params.ensures);
      first = c.object_slots-first.ensures;
      size = ap (λ n. n + c.args.function.now.temps) c.object_slots-first.ensures;
    }
