use Rattle.std.proofs.Common.{◌∙◌, ◌<◌, ap, sym, subst, Some, None, IfSome}
use Rattle.std.specs.List.{slice_get}
use Rattle.std.specs.Option.{option_and_then}
use Rattle.csub_semantics.specs.Numbers.{name_at}
use Rattle.flow_graph.specs.Graph.{Tables, function_count}
use Rattle.flow_graph.specs.Names.{AreNamed}
use Rattle.flow_graph.proofs.Looked.{find_looked}
use Rattle.flow_graph.proofs.graph.Graph.find.Goals as goal

pub returns-clause-found : goal.returns-clause-found
returns-clause-found c =
    let t = c.args.self.now in
    let named = subst (λ (x : Tables). AreNamed x.0 c.self.inside.names) c.self.view_is c.self.invariant.5 in
    let found = ap (option_and_then (slice_get t.0)) c.in_ok-function.ensures.value ∙ named.found c.args.name.now in
    λ P g. find_looked P t g (Some c.in_ok-function.function.now) c.args.name.now found

pub returns-clause-within : goal.returns-clause-within
returns-clause-within c =
    let named = subst (λ (x : Tables). AreNamed x.0 c.self.inside.names) c.self.view_is c.self.invariant.5 in
    subst (λ o. IfSome o (λ f. f < function_count c.args.self.now)) (sym c.in_ok-function.ensures.value) (named.within c.args.name.now)

pub returns-in_err-function-clause-found : goal.returns-in_err-function-clause-found
returns-in_err-function-clause-found c =
    let t = c.args.self.now in
    let named = subst (λ (x : Tables). AreNamed x.0 c.self.inside.names) c.self.view_is c.self.invariant.5 in
    let found = ap (option_and_then (slice_get t.0)) c.in_err-function.ensures.value ∙ named.found c.args.name.now in
    λ P g. ap (option_and_then (name_at P)) c.from_residual.ensures ∙ find_looked P t g None c.args.name.now found
