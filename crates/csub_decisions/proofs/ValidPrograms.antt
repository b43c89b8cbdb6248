-- Validity of a program, by what is looked at in turn.
use Rattle.std.proofs.Common.{◌≢◌, ◌↔◌, List, map, All, AllPairs}
use Rattle.csub_semantics.specs.declared.function.Function.{Function}
use Rattle.csub_semantics.specs.Syntax.{ProgramParts, ProgramTree, function_tree, program_tree}
use Rattle.csub_validity.specs.Valid.{IsValid, HasOwnNames, declared_types}
use Rattle.csub_decisions.specs.ProgramChecks.{IsFramed, AreNamed, HasEnds, IsFunction, AreDefined, HaveAgreedTags}
use Rattle.csub_validity.proofs.LawsLists.{All-of_map, AllPairs-of_map}

pub AreNamed-split : (fs : List Function) → AreNamed (map function_tree fs) ↔ (HasEnds (map function_tree fs) × AllPairs (λ (f g : Function). f.name ≢ g.name) fs)
AreNamed-split fs =
    let names = AllPairs-of_map (λ f g. f.name ≢ g.name) function_tree fs in
    (λ h. (h.0, names.0 h.1), λ h. (h.0, names.1 h.1))

defined_parts : (P : ProgramTree) → IsValid P → AreDefined P
defined_parts P h = (
  (((h.functions, h.points, h.edges), ((h.start, h.main), h.distinct)), h.globals),
  λ k d below. (((((h.frames k d below, (h.parameters k d below, h.lists k d below)), h.types k d below), h.objects k d below), h.labels k d below), h.bodies k d below),
)

valid_from_parts : (P : ProgramTree) → IsFramed P → All (IsFunction P) P.functions → HaveAgreedTags P → All HasOwnNames (declared_types P) → IsValid P
valid_from_parts P framed each tags names = record {
  start = framed.0.1.0.0;
  main = framed.0.1.0.1;
  distinct = framed.0.1.1;
  globals = framed.1;
  bodies = λ k d below. (each k d below).1;
  labels = λ k d below. (each k d below).0.1;
  objects = λ k d below. (each k d below).0.0.1;
  types = λ k d below. (each k d below).0.0.0.1;
  names = names;
  tags = tags;
  functions = framed.0.0.0;
  points = framed.0.0.1;
  edges = framed.0.0.2;
  frames = λ k d below. (each k d below).0.0.0.0.0;
  parameters = λ k d below. (each k d below).0.0.0.0.1.0;
  lists = λ k d below. (each k d below).0.0.0.0.1.1;
}

-- a program in whose types members have names of their own
pub IsValid-split : (P : ProgramTree) → All HasOwnNames (declared_types P) → IsValid P ↔ (AreDefined P × HaveAgreedTags P)
IsValid-split P names = (λ h. (defined_parts P h, h.tags), λ h. valid_from_parts P h.0.0 h.0.1 h.1 names)

pub AreDefined-split : (p : ProgramParts) → AreDefined (program_tree p) ↔ (IsFramed (program_tree p) × All (λ f. IsFunction (program_tree p) (function_tree f)) p.functions)
AreDefined-split p =
    let each = All-of_map (IsFunction (program_tree p)) function_tree p.functions in
    (λ h. (h.0, each.0 h.1), λ h. (h.0, each.1 h.1))
