use Rattle.std.proofs.Common.{subst, rules, arith}
use Rattle.std.proofs.lemmas.List.{length-map}
use Rattle.csub_semantics.specs.Syntax.{function_tree}
use Rattle.csub_flat.specs.Scopes.{program_at}
use Rattle.csub_flat.specs.Objects.{IsFrameOf}
use Rattle.csub_flat.proofs.Callees.{functions_counted, found_at}
use Rattle.flow_graph.proofs.LawsPlaces.{points_counted}
use Rattle.csub_flat.proofs.Programs.{named_at, small_at}
use Rattle.csub_flat.proofs.Lookups.{frame_at}
use Rattle.csub_flat.proofs.program.flatten_call.Goals as goal

pub returns : goal.returns
returns c =
    let P = program_at c.args.scope in
    let points = points_counted c.args.graph.now P c.requires.graph in
    let functions = functions_counted c.args.graph.now P c.requires.graph in
    let listed = length-map c.args.scope.program.now.functions function_tree in
    let name = found_at P c.args.call.now.callee c.in-Some.number (omega (arith, c.in-Some.ensures.within)) (c.in-Some.ensures.found P c.requires.graph) in
    let callee = c.index-functions-number.result in
    record {
      callee = function_tree callee;
      defined = named_at c.args.scope.program.now c.in-Some.number callee c.args.call.now.callee c.requires.graph.valid (omega (arith, c.in-Some.ensures.within)) (rw c.functions-functions.ensures.value at c.index-functions-number.is) name;
      entry = record { point = omega (arith, c.start_of-entry.ensures.within); entry = c.start_of-entry.ensures.start P c.args.call.now.callee c.requires.graph name };
      size =
          (subst (IsFrameOf (function_tree callee)) c.index-scope-number.is
          (frame_at c.args.scope.program.now.functions c.args.scope.frames.now c.in-Some.number callee c.index-scope-number.result c.args.scope.framed
          (omega (arith, c.in-Some.ensures.within)) (rw c.functions-functions.ensures.value at c.index-functions-number.is) c.index-scope-number.is)).size;
      args = search rules;
      temp = c.flatten_temp-temp.ensures;
    }

pub invariant_of-callee-clause-small : goal.invariant_of-callee-clause-small
invariant_of-callee-clause-small c =
    let P = program_at c.args.scope in
    let functions = functions_counted c.args.graph.now P c.requires.graph in
    let listed = length-map c.args.scope.program.now.functions function_tree in
    small_at c.args.scope.program.now c.in-Some.number c.index-functions-number.result c.requires.graph.valid (omega (arith, c.in-Some.ensures.within)) (rw c.functions-functions.ensures.value at c.index-functions-number.is)

pub invariant_of-callee-clause-placed : goal.invariant_of-callee-clause-placed
invariant_of-callee-clause-placed c =
    let P = program_at c.args.scope in
    let functions = functions_counted c.args.graph.now P c.requires.graph in
    let listed = length-map c.args.scope.program.now.functions function_tree in
    subst (IsFrameOf (function_tree c.index-functions-number.result)) c.index-scope-number.is
    (frame_at c.args.scope.program.now.functions c.args.scope.frames.now c.in-Some.number c.index-functions-number.result c.index-scope-number.result c.args.scope.framed
    (omega (arith, c.in-Some.ensures.within)) (rw c.functions-functions.ensures.value at c.index-functions-number.is) c.index-scope-number.is)

pub bounds-scope-number : goal.bounds-scope-number
bounds-scope-number c =
    let P = program_at c.args.scope in
    let functions = functions_counted c.args.graph.now P c.requires.graph in
    let frames = c.args.scope.framed.count in
    omega (arith, c.in-Some.ensures.within)
