use Rattle.std.proofs.Common.{◌≡◌, ◌∙◌, List, ap, map, if◌then◌else◌}
use Rattle.csub_objects.specs.Meaning.{type_tree}
use Rattle.csub_objects.specs.Types.{TypeTree}
use Rattle.csub_tree.specs.Declarations.{head_tree, param_tree}
use Rattle.csub_bodies.specs.Views.{here_of}
use Rattle.csub_rules.specs.Here.{Here}
use Rattle.csub_scopes.specs.Meanings.{scope_of}
use Rattle.csub_scopes.specs.Scopes.{Scope, a_function}
use Rattle.csub_rules.specs.Files.{is_known, naming}
use Rattle.csub_rules.specs.Heads.{at_params, param_types, params_fault, past_params}
use Rattle.csub_units.proofs.HeadFaults.{head_told, head_declared}
use Rattle.csub_units.proofs.LawsLeaving.{params_closed}
use Rattle.csub_units.proofs.heads.check_head.Goals as goal

pub returns-clause-fault : goal.returns-clause-fault
returns-clause-fault c =
    let scope : Scope = scope_of c.args.here.now.scope in
    let enter : Here = here_of c.enter_params.new.here in
    let ps = map param_tree c.args.h.now.params.items in
    let left : scope_of c.leave_params.new.here.scope ≡ scope =
    params_closed scope (scope_of c.leave_params.new.here.scope) enter (here_of c.check_params.new.here) ps c.count-mark.result c.count-mark.ensures
    c.enter_params.ensures (c.in_ok-params.ensures.past ∙ ap (λ qs. past_params enter (map param_tree qs)) c.as_slice.ensures.value)
    c.leave_params.ensures in
    head_told scope (scope_of c.leave_params.new.here.scope) (head_tree c.args.h.now) c.in_ok-named.named c.in_ok-params.params.fault
    c.earlier.result left c.in_ok-named.ensures
    (c.in_ok-params.ensures.fault ∙ ap (λ qs. params_fault enter (map param_tree qs)) c.as_slice.ensures.value
    ∙ ap (λ (h : Here). params_fault h ps) c.enter_params.ensures) c.earlier.ensures

pub returns-clause-past : goal.returns-clause-past
returns-clause-past c =
    let scope : Scope = scope_of c.args.here.now.scope in
    let enter : Here = here_of c.enter_params.new.here in
    let ps = map param_tree c.args.h.now.params.items in
    let left : scope_of c.leave_params.new.here.scope ≡ scope =
    params_closed scope (scope_of c.leave_params.new.here.scope) enter (here_of c.check_params.new.here) ps c.count-mark.result c.count-mark.ensures
    c.enter_params.ensures (c.in_ok-params.ensures.past ∙ ap (λ qs. past_params enter (map param_tree qs)) c.as_slice.ensures.value)
    c.leave_params.ensures in
    let types : map type_tree c.in_ok-params.params.types.items ≡ param_types (at_params scope) ps =
    c.in_ok-params.ensures.types ∙ ap (λ qs. param_types enter (map param_tree qs)) c.as_slice.ensures.value
    ∙ ap (λ (h : Here). param_types h ps) c.enter_params.ensures in
    let ts : List TypeTree = map type_tree c.in_ok-params.params.types.items in
    let was : Scope = scope_of c.leave_params.new.here.scope in
    head_declared scope was (scope_of c.declare_head.new.scope) (head_tree c.args.h.now) ts left types
    (c.in_ok-declare_head.ensures
    ∙ ap (λ k. if is_known was c.args.h.now.name.text then was else naming was c.args.h.now.name.text (a_function ts k)) c.number_of.ensures)
