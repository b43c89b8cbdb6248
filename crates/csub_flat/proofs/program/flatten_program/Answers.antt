use Rattle.std.proofs.Common.{◌≤◌, ◌∙◌, ◌∷◌, [], List, map, length, length-append, arith, ap, sym, subst}
use Rattle.csub_semantics.specs.Types.{global_tree}
use Rattle.csub_semantics.specs.Syntax.{program_tree}
use Rattle.csub_flat.specs.Copies.{IsPointAt}
use Rattle.csub_semantics.specs.declared.types.GlobalVar.{GlobalVar}
use Rattle.csub_flat.specs.Frames.{objects_size, global_object}
use Rattle.csub_flat.proofs.Programs.{few_globals}
use Rattle.csub_flat.proofs.Pushed.{pushed}
use Rattle.csub_flat.proofs.program.flatten_program.Goals as goal

pub number_globals-requires : goal.number_globals-requires
number_globals-requires c = subst (λ (gs : List GlobalVar). objects_size (map global_object (map global_tree gs)) ≤ 65536) (sym c.globals-globals.ensures) (few_globals c.args.program.now c.requires.graph.valid)

pub loop-point-preserved : goal.loop-point-preserved
loop-point-preserved c = record {
  count = let before = c.loop-point.invariant.count in omega (arith, before, ap length c.in_ok-push.ensures.items, length-append c.loop-point.points.items (c.in_ok-make_point.field-0 ∷ []));
  each =
      pushed (IsPointAt (program_tree c.args.program.now)) c.loop-point.points.items c.push.new.self.items c.in_ok-make_point.field-0 c.loop-point.point
      c.in_ok-push.ensures.items c.loop-point.invariant.count c.loop-point.invariant.each c.in_ok-make_point.ensures;
}

pub globals_size-requires : goal.globals_size-requires
globals_size-requires c = subst (λ (gs : List GlobalVar). objects_size (map global_object (map global_tree gs)) ≤ 65536) (sym c.globals-globals.ensures) (few_globals c.args.program.now c.requires.graph.valid)

pub returns : goal.returns
returns c =
    let same = ap (λ (gs : List GlobalVar). objects_size (map global_object (map global_tree gs))) c.globals-globals.ensures in
    let few = subst (λ (gs : List GlobalVar). objects_size (map global_object (map global_tree gs)) ≤ 65536) (sym c.globals-globals.ensures) (few_globals c.args.program.now c.requires.graph.valid) in
    let P = program_tree c.args.program.now in
    record {
      count = let points = c.points-point-end.ensures.listed P c.requires.graph in let at = c.loop-point.invariant.count in omega arith;
      each = c.loop-point.invariant.each;
      globals = c.globals_size.ensures ∙ same;
      most = c.greatest_frame.ensures.most;
      few = rw c.globals_size.ensures few;
      small = c.greatest_frame.ensures.small;
    }
