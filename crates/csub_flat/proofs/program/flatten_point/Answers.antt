use Rattle.std.proofs.Common.{◌≡◌, Some, arith}
use Rattle.std.proofs.lemmas.List.{length-map}
use Rattle.csub_semantics.specs.Labels.{label_tree}
use Rattle.csub_semantics.specs.Syntax.{function_tree, program_tree}
use Rattle.csub_semantics.specs.Flows.{function_of}
use Rattle.csub_flat.specs.Sites.{place_of, HasLabel}
use Rattle.csub_flat.proofs.Callees.{functions_counted}
use Rattle.csub_flat.proofs.LawsSites.{place_is}
use Rattle.csub_flat.specs.Seen.{label_seen}
use Rattle.csub_flat.proofs.Programs.{copied, named_at, small_at, point_fits}
use Rattle.csub_flat.proofs.Lookups.{frame_at}
use Rattle.csub_flat.proofs.program.flatten_point.Goals as goal

pub invariant_of-scope-clause-small : goal.invariant_of-scope-clause-small
invariant_of-scope-clause-small c =
    let P = program_tree c.args.program.now in
    let functions = functions_counted c.args.graph.now P c.requires.graph in
    let listed = length-map c.args.program.now.functions function_tree in
    small_at c.args.program.now c.function_at-number.result c.index-functions-number.result c.requires.graph.valid (omega (arith, c.function_at-number.ensures.within)) (rw c.functions-functions.ensures.value at c.index-functions-number.is)

pub flatten_label-requires-clause-fits : goal.flatten_label-requires-clause-fits
flatten_label-requires-clause-fits c =
    let P = program_tree c.args.program.now in
    let functions = functions_counted c.args.graph.now P c.requires.graph in
    let listed = length-map c.args.program.now.functions function_tree in
    let here = place_is P c.args.point c.requires.point in
    let d = named_at c.args.program.now c.function_at-number.result c.index-functions-number.result (place_of P c.args.point).function c.requires.graph.valid (omega (arith, c.function_at-number.ensures.within)) (rw c.functions-functions.ensures.value at c.index-functions-number.is) (c.function_at-number.ensures.function P (place_of P c.args.point) c.requires.graph here) in
    point_fits P c.args.point (function_tree c.index-functions-number.result) (label_tree c.label_at.result.now) c.requires.graph.valid d (c.label_at.ensures P (place_of P c.args.point) c.requires.graph here)

pub returns : goal.returns
returns c =
    let P = program_tree c.args.program.now in
    let functions = functions_counted c.args.graph.now P c.requires.graph in
    let listed = length-map c.args.program.now.functions function_tree in
    let here = place_is P c.args.point c.requires.point in
    let f = c.index-functions-number.result in
    let d : function_of P (place_of P c.args.point).function ≡ Some (function_tree f) = named_at c.args.program.now c.function_at-number.result f (place_of P c.args.point).function c.requires.graph.valid (omega (arith, c.function_at-number.ensures.within)) (rw c.functions-functions.ensures.value at c.index-functions-number.is) (c.function_at-number.ensures.function P (place_of P c.args.point) c.requires.graph here) in
    let l : HasLabel P c.args.point (label_tree c.label_at.result.now) = c.label_at.ensures P (place_of P c.args.point) c.requires.graph here in
    let fit = point_fits P c.args.point (function_tree f) (label_tree c.label_at.result.now) c.requires.graph.valid d l in
    copied label_seen P c.args.point (function_tree f) (label_tree c.label_at.result.now) d l fit c.flatten_label.result c.flatten_label.ensures

pub invariant_of-scope-clause-placed : goal.invariant_of-scope-clause-placed
invariant_of-scope-clause-placed c =
    let P = program_tree c.args.program.now in
    let functions = functions_counted c.args.graph.now P c.requires.graph in
    let listed = length-map c.args.program.now.functions function_tree in
    frame_at c.args.program.now.functions c.args.frames.now c.function_at-number.result c.index-functions-number.result c.index-frames-number.result c.requires.frames
    (omega (arith, c.function_at-number.ensures.within)) (rw c.functions-functions.ensures.value at c.index-functions-number.is) c.index-frames-number.is

pub bounds-frames-number : goal.bounds-frames-number
bounds-frames-number c =
    let P = program_tree c.args.program.now in
    let functions = functions_counted c.args.graph.now P c.requires.graph in
    let frames = c.requires.frames.count in
    omega (arith, c.function_at-number.ensures.within)
