use Rattle.std.proofs.Common.{map, option_map}
use Rattle.csub_objects.specs.Meaning.{type_tree}
use Rattle.csub_tree.specs.Declarations.{declarator_tree}
use Rattle.csub_semantics.specs.Syntax.{local_tree, part_tree}
use Rattle.csub_bodies.specs.Views.{here_of}
use Rattle.csub_lines.proofs.Objects.{var_numbers, var_more}
use Rattle.csub_lines.proofs.local.lower_var.Goals as goal

pub push_init-requires : goal.push_init-requires
push_init-requires c =
    var_numbers (here_of c.args.here.now) (here_of c.declare_var.new.here) (option_map type_tree c.args.base.now) (declarator_tree c.args.d.now)
    c.in_ok-local.ensures.past c.requires

pub returns-clause-parts : goal.returns-clause-parts
returns-clause-parts c =
    var_more c.args.definitions.now (here_of c.args.here.now) (here_of c.declare_var.new.here) (option_map type_tree c.args.base.now)
    (declarator_tree c.args.d.now) (local_tree c.in_ok-local.local) (map part_tree c.args.parts.now.items) (map part_tree c.push_init.new.parts.items)
    c.in_ok-local.ensures.past c.in_ok-local.ensures.local c.in_ok-push_init.ensures
