-- The flat copy that a machine runs, whoever owns it.
use Rattle.csub_flat.specs.declared.program.FlatProgram.{FlatProgram}
use Rattle.csub_machine.specs.declared.flat.Flat.{Flat}
use Rattle.csub_machine.specs.declared.flat.Flat.TheVariants.{Own, Shared}

abbrev pub flat_of : Flat → FlatProgram
flat_of (Own copy) = copy
flat_of (Shared copy) = copy.now
