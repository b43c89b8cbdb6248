use Rattle.std.proofs.Common.{Some, None}
use Rattle.csub_globals.proofs.Starts.{span_found}
use Rattle.csub_globals.proofs.start.span_of_main.Goals as goal

pub returns-in-None : goal.returns-in-None
returns-in-None c = span_found c.args.functions.now None c.in-None.ensures

pub returns-in-Some : goal.returns-in-Some
returns-in-Some c = span_found c.args.functions.now (Some c.in-Some.main.now) c.in-Some.ensures
