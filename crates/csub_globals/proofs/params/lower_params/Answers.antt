use Rattle.std.proofs.Common.{◌∙◌, refl, map, [], ◌∷◌}
use Rattle.csub_objects.specs.Meaning.{member_tree}
use Rattle.csub_rules.specs.Here.{Here}
use Rattle.csub_rules.specs.Params.{param_type}
use Rattle.csub_tree.specs.Declarations.{Param, param_tree}
use Rattle.csub_bodies.specs.Views.{here_of}
use Rattle.csub_rules.specs.Heads.{past_param, past_params, sure_type}
use Rattle.csub_resolution.specs.Programs.{name_or_none, params}
use Rattle.csub_globals.proofs.LawsLists.{past_more, made_more}
use Rattle.csub_globals.proofs.params.lower_params.Goals as goal

pub loop-p-preserved : goal.loop-p-preserved
loop-p-preserved c =
    let old : Here = here_of c.loop-p.here in
    let new : Here = here_of c.lower_param.new.here in
    record {
      params = made_more param_tree past_param
          (λ (h : Here) (p : Param). record { name = name_or_none p.name; ctype = sure_type (param_type h.scope p) } ∷ []) params (λ h p ps. refl)
          old new c.args.params.now c.loop-p.p-index c.p-item.result c.loop-p-test.true c.p-item.is c.in_ok-lower_param.ensures.past
          (map member_tree c.loop-p.made.items) (map member_tree c.lower_param.new.made.items) c.in_ok-lower_param.ensures.params
          ∙ c.loop-p.invariant.params;
      past = past_more param_tree past_param past_params (λ h p ps. refl) old new c.args.params.now c.loop-p.p-index c.p-item.result
          c.loop-p-test.true c.p-item.is c.in_ok-lower_param.ensures.past ∙ c.loop-p.invariant.past;
    }
