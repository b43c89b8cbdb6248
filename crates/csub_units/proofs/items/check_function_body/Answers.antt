use Rattle.std.proofs.Common.{◌∙◌, ap, map}
use Rattle.csub_tree.specs.Declarations.{param_tree}
use Rattle.csub_tree.specs.Statements.{stmt_tree, stmts_of}
use Rattle.csub_bodies.specs.Views.{here_of}
use Rattle.csub_rules.specs.Here.{Here}
use Rattle.csub_scopes.specs.Meanings.{scope_of}
use Rattle.csub_rules.specs.Heads.{past_params}
use Rattle.csub_units.proofs.LawsLeaving.{body_closed}
use Rattle.csub_units.proofs.items.check_function_body.Goals as goal

pub returns-clause-past : goal.returns-clause-past
returns-clause-past c =
    let enter : Here = here_of c.enter_params.new.here in
    body_closed (scope_of c.args.here.now.scope) (scope_of c.leave_params.new.here.scope) enter (here_of c.check_params.new.here)
    (here_of c.check_body.new.here) (map param_tree c.args.h.now.params.items) (stmts_of (map stmt_tree c.args.lines.now)) c.count-mark.result
    c.count-mark.ensures c.enter_params.ensures
    (c.in_ok-check_params.ensures.past ∙ ap (λ ps. past_params enter (map param_tree ps)) c.as_slice.ensures.value)
    c.in_ok-fault.ensures.past c.leave_params.ensures
