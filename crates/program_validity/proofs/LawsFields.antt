-- The program of a source that breaks no rule and passes no limit is valid where its bodies are.
use Rattle.std.proofs.Common.{◌≡◌, ◌≢◌, ◌≤◌, All, None}
use Rattle.std.specs.Prelude.{AllPairs}
use Rattle.csub_tree.specs.Units.{Source}
use Rattle.csub_semantics.specs.Syntax.{FunctionTree, ProgramTree}
use Rattle.csub_validity.specs.Valid.{AreStmts, no_loop, labels_of, stmt_count, most_entries, AreGlobals, IsValid}
use Rattle.csub_rules.specs.Units.{unit_fault}
use Rattle.csub_resolution.specs.Programs.{program_of}
use Rattle.csub_limits.specs.Limits.{limit_passed}
use Rattle.program_validity.specs.Names.{NoneIsStart}
use Rattle.program_validity.proofs.LawsLimits as limits
use Rattle.program_validity.proofs.LawsFunctions as functions
use Rattle.program_validity.proofs.LawsGlobals as globals
use Rattle.program_validity.proofs.LawsObjects as objects
use Rattle.program_validity.proofs.LawsTypes as types

-- what validity asks of bodies
pub record HasBodies (P : ProgramTree) : Type 0 where
  pub bodies : All (λ (f : FunctionTree). AreStmts P f no_loop f.body) P.functions
  pub labels : All (λ f. AllPairs (λ a b. a ≢ b) (labels_of f)) P.functions
  pub lists : All (λ (f : FunctionTree). stmt_count f.body ≤ most_entries) P.functions

pub are_globals : (u : Source) → unit_fault u ≡ None → limit_passed u ≡ None → AreGlobals (program_of u).globals
are_globals u fault limit = globals.globals u fault (limits.global_cells u limit)

pub valid_with : (u : Source) → unit_fault u ≡ None → limit_passed u ≡ None → NoneIsStart u → HasBodies (program_of u) → IsValid (program_of u)
valid_with u fault limit none b = record {
  start = functions.start u;
  main = functions.main u fault;
  distinct = functions.distinct u fault none;
  globals = are_globals u fault limit;
  bodies = b.bodies;
  labels = b.labels;
  objects = objects.objects u fault;
  types = types.types u fault;
  names = types.names u fault;
  tags = types.tags u fault;
  functions = limits.functions u limit;
  points = limits.points u limit;
  edges = limits.edges u limit;
  frames = limits.frames u limit;
  parameters = limits.parameters u limit;
  lists = b.lists;
}
