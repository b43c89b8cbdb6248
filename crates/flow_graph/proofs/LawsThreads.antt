-- A graph may cross threads, and so may its parts: one lemma a layer, since a search through all layers runs out of steps.
use denote.Param.Send.{IsSend, IsSync, sendable}
use Rattle.std.proofs.Crossing.{crosses}
use Rattle.std.proofs.MapsCrossing.{crosses as maps}
use Rattle.csub_semantics.proofs.LawsThreads.{Label-send, Label-sync, GlobalVar-send, GlobalVar-sync}
use Rattle.flow_graph.specs.contracts.graph.Graph as Graph
use Rattle.flow_graph.specs.contracts.node.GraphFunction as GraphFunction
use Rattle.flow_graph.specs.contracts.node.GraphNode as GraphNode
use Rattle.flow_graph.specs.contracts.node.GraphPoint as GraphPoint
use Rattle.flow_graph.specs.contracts.node.GraphWay as GraphWay

pub GraphWay-send : IsSend GraphWay.the_field.row
GraphWay-send = search (crosses, sendable) depth 60

pub GraphWay-sync : IsSync GraphWay.the_field.row
GraphWay-sync = search (crosses, sendable) depth 60

pub GraphNode-send : IsSend GraphNode.the_field.row
GraphNode-send = search (GraphWay-send, Label-send, crosses, sendable) depth 60

pub GraphNode-sync : IsSync GraphNode.the_field.row
GraphNode-sync = search (GraphWay-sync, Label-sync, crosses, sendable) depth 60

pub GraphPoint-send : IsSend GraphPoint.the_field.row
GraphPoint-send = search (GraphNode-send, crosses, sendable) depth 60

pub GraphPoint-sync : IsSync GraphPoint.the_field.row
GraphPoint-sync = search (GraphNode-sync, crosses, sendable) depth 60

pub GraphFunction-send : IsSend GraphFunction.the_field.row
GraphFunction-send = search (crosses, sendable) depth 60

pub GraphFunction-sync : IsSync GraphFunction.the_field.row
GraphFunction-sync = search (crosses, sendable) depth 60

pub Graph-send : IsSend Graph.the_row
Graph-send = search (GraphPoint-send, GraphFunction-send, GlobalVar-send, maps, crosses, sendable) depth 60

pub Graph-sync : IsSync Graph.the_row
Graph-sync = search (GraphPoint-sync, GraphFunction-sync, GlobalVar-sync, maps, crosses, sendable) depth 60
