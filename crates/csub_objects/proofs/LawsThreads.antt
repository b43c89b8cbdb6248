-- Types may cross threads, and so may the parts that they share.
use denote.Param.Send.{IsSend, IsSync, sendable}
use Rattle.std.proofs.Crossing.{crosses}
use Rattle.csub_objects.proofs.types.Element.TheLaws.TheKnot as types
use Rattle.csub_objects.specs.contracts.types.CType as CType
use Rattle.csub_objects.specs.contracts.types.Member as Member
use Rattle.csub_objects.specs.contracts.types.Members as Members

pub CType-send : IsSend CType.the_field.row
CType-send = search (types.crosses, crosses, sendable) depth 60 fits 5000

pub CType-sync : IsSync CType.the_field.row
CType-sync = search (types.crosses, crosses, sendable) depth 60 fits 5000

pub Member-send : IsSend Member.the_field.row
Member-send = search (CType-send, crosses, sendable) depth 60

pub Member-sync : IsSync Member.the_field.row
Member-sync = search (CType-sync, crosses, sendable) depth 60

pub Members-send : IsSend Members.the_field.row
Members-send = search (types.crosses, crosses, sendable) depth 60 fits 5000

pub Members-sync : IsSync Members.the_field.row
Members-sync = search (types.crosses, crosses, sendable) depth 60 fits 5000
