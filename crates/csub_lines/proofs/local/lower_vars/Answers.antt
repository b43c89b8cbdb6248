use Rattle.std.proofs.Common.{◌∙◌, map, option_map}
use Rattle.csub_objects.specs.Meaning.{type_tree}
use Rattle.csub_semantics.specs.Syntax.{local_tree, part_tree}
use Rattle.csub_bodies.specs.Views.{here_of}
use Rattle.csub_lines.proofs.Objects.{past_more, locals_more, parts_more, fine_this, fine_more}
use Rattle.csub_lines.proofs.local.lower_vars.Goals as goal

pub lower_var-requires : goal.lower_var-requires
lower_var-requires c =
    (fine_this (here_of c.loop-d.here) (option_map type_tree c.args.base.now) c.args.vars.now c.loop-d.d-index c.d-item.result c.loop-d-test.true
    c.d-item.is c.loop-d.invariant.fine).0

pub loop-d-preserved : goal.loop-d-preserved
loop-d-preserved c = record {
  past = past_more (here_of c.loop-d.here) (here_of c.lower_var.new.here) (option_map type_tree c.args.base.now) c.args.vars.now c.loop-d.d-index
      c.d-item.result c.loop-d-test.true c.d-item.is c.in_ok-lower_var.ensures.past ∙ c.loop-d.invariant.past;
  locals = locals_more (here_of c.loop-d.here) (here_of c.lower_var.new.here) (option_map type_tree c.args.base.now) c.args.vars.now c.loop-d.d-index
      c.d-item.result (map local_tree c.loop-d.locals.items) (map local_tree c.lower_var.new.locals.items) c.loop-d-test.true c.d-item.is
      c.in_ok-lower_var.ensures.past c.in_ok-lower_var.ensures.locals ∙ c.loop-d.invariant.locals;
  parts = parts_more c.args.definitions.now (here_of c.loop-d.here) (here_of c.lower_var.new.here) (option_map type_tree c.args.base.now)
      c.args.vars.now c.loop-d.d-index c.d-item.result (map part_tree c.loop-d.parts.items) (map part_tree c.lower_var.new.parts.items)
      c.loop-d-test.true c.d-item.is c.in_ok-lower_var.ensures.past c.in_ok-lower_var.ensures.parts ∙ c.loop-d.invariant.parts;
  fine = fine_more (here_of c.loop-d.here) (here_of c.lower_var.new.here) (option_map type_tree c.args.base.now) c.args.vars.now c.loop-d.d-index
      c.d-item.result c.loop-d-test.true c.d-item.is c.in_ok-lower_var.ensures.past c.loop-d.invariant.fine;
}
