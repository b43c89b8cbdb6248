-- What names mean where a label stands.
use Rattle.std.specs.Prelude.{List}
use Rattle.csub_semantics.specs.Syntax.{LocalTree, FunctionTree, ProgramTree, function_tree, program_tree}
use Rattle.csub_flat.specs.Frames.{globals_of}
use Rattle.csub_flat.specs.declared.scope.Scope.{Scope}

abbrev pub program_at : Scope → ProgramTree
program_at s = program_tree s.program.now

abbrev pub globals_at : Scope → List LocalTree
globals_at s = globals_of (program_at s)

abbrev pub function_at : Scope → FunctionTree
function_at s = function_tree s.function.now
