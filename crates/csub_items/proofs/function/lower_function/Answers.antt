use Rattle.std.proofs.Common.{◌≡◌, ◌∙◌, ap, map}
use Rattle.csub_objects.specs.Meaning.{member_tree}
use Rattle.csub_tree.specs.Declarations.{Head, head_tree, param_tree}
use Rattle.csub_tree.specs.Statements.{stmt_tree, stmts_of}
use Rattle.csub_bodies.specs.Views.{here_of}
use Rattle.csub_rules.specs.Here.{Here}
use Rattle.csub_scopes.specs.Meanings.{scope_of}
use Rattle.csub_scopes.specs.Scopes.{Scope}
use Rattle.csub_semantics.specs.Syntax.{local_tree, stmt_tree as made_tree, stmts_of as made_lines}
use Rattle.csub_rules.specs.Heads.{past_params}
use Rattle.csub_rules.specs.Items.{in_function}
use Rattle.csub_resolution.specs.Programs.{params}
use Rattle.csub_items.proofs.Bodies.{entered, named, fine_lines, made_function}
use Rattle.csub_units.proofs.LawsLeaving.{body_closed}
use Rattle.csub_items.proofs.function.lower_function.Goals as goal

pub lower_body-requires : goal.lower_body-requires
lower_body-requires c =
    let scope : Scope = scope_of c.args.here.now.scope in
    let h : Head = head_tree c.args.h.now in
    let enter : Here = here_of c.enter_params.new.here in
    let here : here_of c.lower_params.new.here ≡ in_function scope h =
    entered scope (scope_of c.check_head.new.here.scope) enter (here_of c.lower_params.new.here) h c.in_ok-check_head.ensures.past
    c.enter_params.ensures (c.in_ok-params.ensures.past ∙ ap (λ ps. past_params enter (map param_tree ps)) c.as_slice.ensures.value) in
    fine_lines scope (here_of c.lower_params.new.here) h c.number_of-result.result (stmts_of (map stmt_tree c.args.lines.now)) here
    c.number_of-result.ensures c.requires

pub returns-clause-tree : goal.returns-clause-tree
returns-clause-tree c =
    let scope : Scope = scope_of c.args.here.now.scope in
    let h : Head = head_tree c.args.h.now in
    let enter : Here = here_of c.enter_params.new.here in
    let here : here_of c.lower_params.new.here ≡ in_function scope h =
    entered scope (scope_of c.check_head.new.here.scope) enter (here_of c.lower_params.new.here) h c.in_ok-check_head.ensures.past
    c.enter_params.ensures (c.in_ok-params.ensures.past ∙ ap (λ ps. past_params enter (map param_tree ps)) c.as_slice.ensures.value) in
    made_function c.args.definitions.now scope (here_of c.lower_params.new.here) h (stmts_of (map stmt_tree c.args.lines.now)) c.in_ok-name.name
    (map member_tree c.in_ok-params.params.items) c.number_of-result.result (made_lines (map made_tree c.in_ok-body.body.lines.items))
    (map local_tree c.in_ok-body.body.locals.items) c.in_ok-body.body.temps here c.in_ok-name.ensures
    (named scope (scope_of c.check_head.new.here.scope) enter h (map member_tree c.in_ok-params.params.items) c.in_ok-check_head.ensures.past
    c.enter_params.ensures (c.in_ok-params.ensures.params ∙ ap (λ ps. params enter (map param_tree ps)) c.as_slice.ensures.value))
    c.number_of-result.ensures c.in_ok-body.ensures.lines c.in_ok-body.ensures.locals c.in_ok-body.ensures.temps

pub returns-clause-past : goal.returns-clause-past
returns-clause-past c =
    let enter : Here = here_of c.enter_params.new.here in
    body_closed (scope_of c.check_head.new.here.scope) (scope_of c.leave_params.new.here.scope) enter (here_of c.lower_params.new.here)
    (here_of c.lower_body.new.here) (map param_tree c.args.h.now.params.items) (stmts_of (map stmt_tree c.args.lines.now)) c.count-mark.result
    c.count-mark.ensures c.enter_params.ensures
    (c.in_ok-params.ensures.past ∙ ap (λ ps. past_params enter (map param_tree ps)) c.as_slice.ensures.value)
    c.in_ok-body.ensures.past c.leave_params.ensures ∙ c.in_ok-check_head.ensures.past
