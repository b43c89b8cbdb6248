use Rattle.std.proofs.Common.{◌∙◌, ap, map}
use Rattle.csub_tree.specs.Declarations.{param_tree}
use Rattle.csub_bodies.specs.Views.{here_of}
use Rattle.csub_rules.specs.Here.{Here}
use Rattle.csub_scopes.specs.Meanings.{scope_of}
use Rattle.csub_rules.specs.Heads.{past_params}
use Rattle.csub_units.proofs.LawsLeaving.{params_closed}
use Rattle.csub_globals.proofs.definition.head_params.Goals as goal

pub returns-clause-past : goal.returns-clause-past
returns-clause-past c =
    let enter : Here = here_of c.enter_params.new.here in
    params_closed (scope_of c.check_head.new.here.scope) (scope_of c.leave_params.new.here.scope) enter (here_of c.lower_params.new.here)
    (map param_tree c.args.h.now.params.items) c.count-mark.result c.count-mark.ensures c.enter_params.ensures
    (c.in_ok-made.ensures.past ∙ ap (λ ps. past_params enter (map param_tree ps)) c.as_slice.ensures.value) c.leave_params.ensures
    ∙ c.in_ok-check_head.ensures.past
