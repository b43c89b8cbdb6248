-- Functions may cross threads, and so may their parts: one lemma a layer, since a search through all layers runs out of steps.
use denote.Param.Send.{IsSend, IsSync, sendable}
use Rattle.std.proofs.Crossing.{crosses}
use Rattle.csub_objects.proofs.LawsThreads.{CType-send, CType-sync, Member-send, Member-sync}
use Rattle.csub_semantics.proofs.expression.Place.TheLaws.TheKnot as expr
use Rattle.csub_semantics.proofs.label.RInit.TheLaws.TheKnot as init
use Rattle.csub_semantics.proofs.function.RStmt.TheLaws.TheKnot as stmt
use Rattle.csub_semantics.specs.contracts.expression.Place as Place
use Rattle.csub_semantics.specs.contracts.expression.RArg as RArg
use Rattle.csub_semantics.specs.contracts.expression.RExpr as RExpr
use Rattle.csub_semantics.specs.contracts.function.Function as Function
use Rattle.csub_semantics.specs.contracts.function.RPart as RPart
use Rattle.csub_semantics.specs.contracts.function.RStmt as RStmt
use Rattle.csub_semantics.specs.contracts.label.CallLabel as CallLabel
use Rattle.csub_semantics.specs.contracts.label.Label as Label
use Rattle.csub_semantics.specs.contracts.label.RInit as RInit
use Rattle.csub_semantics.specs.contracts.types.GlobalVar as GlobalVar

pub RExpr-send : IsSend RExpr.the_field.row
RExpr-send = search (CType-send, expr.crosses, crosses, sendable) depth 60 fits 5000

pub RExpr-sync : IsSync RExpr.the_field.row
RExpr-sync = search (CType-sync, expr.crosses, crosses, sendable) depth 60 fits 5000

pub Place-send : IsSend Place.the_field.row
Place-send = search (CType-send, expr.crosses, crosses, sendable) depth 60 fits 5000

pub RArg-send : IsSend RArg.the_field.row
RArg-send = search (RExpr-send, Place-send, crosses, sendable) depth 60

pub RInit-send : IsSend RInit.the_field.row
RInit-send = search (RExpr-send, init.crosses, crosses, sendable) depth 60

pub CallLabel-send : IsSend CallLabel.the_field.row
CallLabel-send = search (RArg-send, Member-send, crosses, sendable) depth 60

pub Place-sync : IsSync Place.the_field.row
Place-sync = search (CType-sync, expr.crosses, crosses, sendable) depth 60 fits 5000

pub RArg-sync : IsSync RArg.the_field.row
RArg-sync = search (RExpr-sync, Place-sync, crosses, sendable) depth 60

pub RInit-sync : IsSync RInit.the_field.row
RInit-sync = search (RExpr-sync, init.crosses, crosses, sendable) depth 60

pub CallLabel-sync : IsSync CallLabel.the_field.row
CallLabel-sync = search (RArg-sync, Member-sync, crosses, sendable) depth 60

pub Label-send : IsSend Label.the_field.row
Label-send = search (RExpr-send, RInit-send, CallLabel-send, CType-send, crosses, sendable) depth 60

pub Label-sync : IsSync Label.the_field.row
Label-sync = search (RExpr-sync, RInit-sync, CallLabel-sync, CType-sync, crosses, sendable) depth 60

pub RPart-send : IsSend RPart.the_field.row
RPart-send = search (Label-send, CallLabel-send, crosses, sendable) depth 60

pub RPart-sync : IsSync RPart.the_field.row
RPart-sync = search (Label-sync, CallLabel-sync, crosses, sendable) depth 60

pub RStmt-send : IsSend RStmt.the_field.row
RStmt-send = search (RPart-send, stmt.crosses, crosses, sendable) depth 60

pub RStmt-sync : IsSync RStmt.the_field.row
RStmt-sync = search (RPart-sync, stmt.crosses, crosses, sendable) depth 60

pub Function-send : IsSend Function.the_field.row
Function-send = search (RStmt-send, Member-send, CType-send, crosses, sendable) depth 60

pub Function-sync : IsSync Function.the_field.row
Function-sync = search (RStmt-sync, Member-sync, CType-sync, crosses, sendable) depth 60

pub GlobalVar-send : IsSend GlobalVar.the_field.row
GlobalVar-send = search (CType-send, crosses, sendable) depth 60

pub GlobalVar-sync : IsSync GlobalVar.the_field.row
GlobalVar-sync = search (CType-sync, crosses, sendable) depth 60
