use Rattle.csub_validity.specs.Valid.{HasOwnNames}
use Rattle.csub_decisions.proofs.ValidNames.{types_split}
use Rattle.csub_decisions.proofs.names.names_are_own.Goals as goal

pub returns : goal.returns
returns c = types_split HasOwnNames c.args.program c.globals_are_own.ensures c.functions_are_own.ensures
