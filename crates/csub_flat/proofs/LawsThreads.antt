-- Workers may share a flat program: one lemma a layer, since a search through all layers runs out of steps.
use denote.Param.Send.{IsSync, sendable}
use Rattle.std.proofs.Crossing.{crosses}
use Rattle.std.proofs.MapsCrossing.{crosses as maps}
use Rattle.csub_flat.proofs.flat.FlatExpr.TheLaws.TheKnot as expr
use Rattle.csub_flat.specs.contracts.flat.FlatArg as FlatArg
use Rattle.csub_flat.specs.contracts.flat.FlatCall as FlatCall
use Rattle.csub_flat.specs.contracts.flat.FlatExpr as FlatExpr
use Rattle.csub_flat.specs.contracts.flat.FlatGiven as FlatGiven
use Rattle.csub_flat.specs.contracts.flat.FlatLabel as FlatLabel
use Rattle.csub_flat.specs.contracts.flat.FlatPlace as FlatPlace
use Rattle.csub_flat.specs.contracts.flat.FlatWrite as FlatWrite
use Rattle.csub_flat.specs.contracts.program.FlatPoint as FlatPoint
use Rattle.csub_flat.specs.contracts.program.FlatProgram as FlatProgram

FlatExpr-sync : IsSync FlatExpr.the_field.row
FlatExpr-sync = search (expr.crosses, crosses, sendable) depth 60 fits 5000

FlatPlace-sync : IsSync FlatPlace.the_field.row
FlatPlace-sync = search (expr.crosses, crosses, sendable) depth 60 fits 5000

FlatGiven-sync : IsSync FlatGiven.the_field.row
FlatGiven-sync = search (FlatExpr-sync, FlatPlace-sync, crosses, sendable) depth 60

FlatArg-sync : IsSync FlatArg.the_field.row
FlatArg-sync = search (FlatGiven-sync, crosses, sendable) depth 60

FlatCall-sync : IsSync FlatCall.the_field.row
FlatCall-sync = search (FlatArg-sync, crosses, sendable) depth 60

FlatWrite-sync : IsSync FlatWrite.the_field.row
FlatWrite-sync = search (FlatExpr-sync, crosses, sendable) depth 60

FlatLabel-sync : IsSync FlatLabel.the_field.row
FlatLabel-sync = search (FlatExpr-sync, FlatWrite-sync, FlatCall-sync, crosses, sendable) depth 60

FlatPoint-sync : IsSync FlatPoint.the_field.row
FlatPoint-sync = search (FlatLabel-sync, maps, crosses, sendable) depth 60

pub FlatProgram-sync : IsSync FlatProgram.the_row
FlatProgram-sync = search (FlatPoint-sync, maps, crosses, sendable) depth 60
