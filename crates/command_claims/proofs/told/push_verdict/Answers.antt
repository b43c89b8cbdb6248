use Rattle.std.proofs.Common.{◌≡◌, ◌++◌, ◌<◌, sym, ap, ◌∙◌, subst}
use Rattle.std.specs.Prelude.{OnOk}
use Rattle.csub_semantics.specs.Points.{exit_tree}
use Rattle.flow_graph.specs.Graph.{edge_count}
use Rattle.command_claims.specs.Checked.{open_line, verdict_line}
use Rattle.command_claims.specs.Within.{HasEdgeWithin}
use Rattle.command_claims.proofs.Lines.{way_told}
use Rattle.command_claims.proofs.told.push_verdict.Goals as goal

pub returns-in-Exit : goal.returns-in-Exit
returns-in-Exit c P ok =
    let edge = c.in-Exit.edge in
    let within : edge < edge_count c.args.old.now = subst (HasEdgeWithin c.args.old.now) c.in-Exit.is c.requires in
    let way = way_told c.args.old.now P ok edge (exit_tree c.edge_at.result.exit.now) within (λ e numbered. c.edge_at.ensures.exit P e ok numbered) in
    subst (λ line. OnOk c.push_way_out.result (c.push_way_out.new.text.items ≡ c.args.text.now.items ++ line))
    (ap (open_line c.in-Exit.pair) way ∙ sym (ap (verdict_line P c.args.certificate.now) c.in-Exit.is)) c.push_way_out.ensures
