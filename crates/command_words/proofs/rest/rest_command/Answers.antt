use Rattle.std.proofs.Common.{◌≡◌, arith, false, ap, ◌∙◌}
use Rattle.std.proofs.lemmas.Grind.{common_steps}
use Rattle.std.proofs.lemmas.Result.{IfOk-weaker}
use Rattle.clap.specs.Built.{AddsArg}
use Rattle.clap.specs.Simple.{app_of, with_rule}
use Rattle.clap.specs.Walk.{rule_of}
use Rattle.clap.specs.declared.builder.arg.Arg.{Arg}
use Rattle.clap.specs.declared.builder.command.Command.{Command}
use Rattle.command_words.specs.Matches.{rest_app, bare_app, workers_rule, plain_rule}
use Rattle.command_words.proofs.rest.rest_command.Goals as goal

added : (old new : Command) (a : Arg) → AddsArg old a new → a.global ≡ false → app_of new ≡ with_rule (app_of old) (rule_of a)
added old new a h local = h.shape local

pub returns : goal.returns
returns c =
    let bare : app_of c.disable_version_flag.result ≡ bare_app = grind (arith, common_steps) in
    let workers : rule_of c.action-workers.result ≡ workers_rule = grind (arith, common_steps) in
    let workers_local : c.action-workers.result.global ≡ false = grind (arith, common_steps) in
    let plain : rule_of c.action.result ≡ plain_rule = grind (arith, common_steps) in
    let plain_local : c.action.result.global ≡ false = grind (arith, common_steps) in
    let first = added c.disable_version_flag.result c.in_ok-arg.field-0 c.action-workers.result c.in_ok-arg.ensures workers_local in
    let first_is = first ∙ ap (λ app. with_rule app (rule_of c.action-workers.result)) bare ∙ ap (with_rule bare_app) workers in
    IfOk-weaker c.arg-2.result (AddsArg c.in_ok-arg.field-0 c.action.result) (λ command. app_of command ≡ rest_app)
    (λ command h. added c.in_ok-arg.field-0 command c.action.result h plain_local
    ∙ ap (λ app. with_rule app (rule_of c.action.result)) first_is
    ∙ ap (with_rule (with_rule bare_app workers_rule)) plain) c.arg-2.ensures
