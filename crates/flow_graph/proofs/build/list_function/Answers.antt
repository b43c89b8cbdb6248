use Rattle.std.proofs.Common.{◌∙◌, ap, map}
use Rattle.csub_semantics.specs.Syntax.{function_tree}
use Rattle.flow_graph.specs.Numbers.{numbered_node}
use Rattle.flow_graph.proofs.Listed.{function_made}
use Rattle.flow_graph.proofs.build.list_function.Goals as goal

pub returns : goal.returns
returns c =
    ap (map numbered_node) c.reverse.ensures.items
    ∙ function_made (function_tree c.args.function.now) c.args.start c.in_ok-enter.enter c.push_entry.new.nodes.items (map numbered_node c.in_ok-nodes.nodes.items) (map numbered_node c.push_body.new.nodes.items) c.in_ok-nodes.ensures c.in_ok-enter.ensures.enter c.in_ok-enter.ensures.nodes c.in_ok-push_entry.ensures
