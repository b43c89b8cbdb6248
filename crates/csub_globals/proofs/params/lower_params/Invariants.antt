use Rattle.std.proofs.Common.{◌≡◌, ◌++◌, map, drop}
use Rattle.csub_objects.specs.Meaning.{member_tree}
use Rattle.csub_tree.specs.Declarations.{param_tree}
use Rattle.csub_bodies.specs.Views.{here_of}
use Rattle.csub_rules.specs.Heads.{past_params}
use Rattle.csub_resolution.specs.Programs.{params}
use Rattle.csub_globals.proofs.params.lower_params.Given as goal

abbrev pub invariant-loop-p : goal.invariant-loop-p
invariant-loop-p l = record {
  params : map member_tree l.made.items ++ params (here_of l.here) (map param_tree (drop l.p-index l.params))
      ≡ params (here_of l.fn.here) (map param_tree l.params);
  past : past_params (here_of l.here) (map param_tree (drop l.p-index l.params)) ≡ past_params (here_of l.fn.here) (map param_tree l.params);
}
