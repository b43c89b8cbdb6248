use Rattle.std.proofs.Common.{◌≡◌, ◌++◌, map, drop, option_map}
use Rattle.csub_objects.specs.Meaning.{type_tree}
use Rattle.csub_tree.specs.Declarations.{declarator_tree}
use Rattle.csub_semantics.specs.Syntax.{local_tree, part_tree}
use Rattle.csub_rules.specs.BrokenLocal.{FineVars}
use Rattle.csub_rules.specs.Locals.{past_vars}
use Rattle.csub_bodies.specs.Views.{here_of}
use Rattle.csub_resolution.specs.Lines.{vars_locals, vars_parts}
use Rattle.csub_lines.proofs.local.lower_vars.Given as goal

abbrev pub invariant-loop-d : goal.invariant-loop-d
invariant-loop-d l = record {
  past : past_vars (here_of l.here) (option_map type_tree l.base) (map declarator_tree (drop l.d-index l.vars))
      ≡ past_vars (here_of l.fn.here) (option_map type_tree l.base) (map declarator_tree l.vars);
  locals : map local_tree l.locals.items ++ vars_locals (here_of l.here) (option_map type_tree l.base) (map declarator_tree (drop l.d-index l.vars))
      ≡ map local_tree l.fn.locals.items ++ vars_locals (here_of l.fn.here) (option_map type_tree l.base) (map declarator_tree l.vars);
  parts : map part_tree l.parts.items ++ vars_parts l.definitions (here_of l.here) (option_map type_tree l.base) (map declarator_tree (drop l.d-index l.vars))
      ≡ vars_parts l.definitions (here_of l.fn.here) (option_map type_tree l.base) (map declarator_tree l.vars);
  fine : FineVars (here_of l.here) (option_map type_tree l.base) (map declarator_tree (drop l.d-index l.vars));
}
