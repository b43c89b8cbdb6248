-- The lines of a function's body, the rules on them, and their laws.
use Rattle.std.specs.Prelude.{◌≡◌, [], false, Option, Some, None}
use Rattle.csub_text.specs.declared.span.Span.{Span}
use Rattle.csub_types.specs.declared.kind.IntKind.{IntKind}
use Rattle.csub_tree.specs.Statements.{Stmts}
use Rattle.csub_scopes.specs.Scopes.{HasTypes}
use Rattle.csub_rules.specs.declared.fault.Fault.{Fault}
use Rattle.csub_rules.specs.Faults.{◌or_earlier◌, IsFirst}
use Rattle.csub_rules.specs.Uses.{as_statement}
use Rattle.csub_rules.specs.Here.{Here}
use Rattle.csub_rules.specs.StmtFaults.{Surroundings, lines_fault}
use Rattle.csub_rules.specs.Labels.{labels_of_lines, past_names, twice_fault, NameTwice, NamesDiffer}
use Rattle.csub_rules.specs.BrokenStmt.{BrokenLines}
use Rattle.csub_rules.specs.FineStmt.{FineLines}

-- what stands round the lines of the body of a function with a result of this kind, or without one
abbrev pub in_body : Option IntKind → Stmts → Surroundings
in_body result body = record {
  result = result;
  labels = past_names [] (labels_of_lines body);
  statement = as_statement;
  can_break = false;
  can_continue = false;
}

-- the earliest fault of a body; its lines and the parameters stand in one block (C11 6.2.1p4)
abbrev pub body_fault : Option IntKind → Here → Stmts → Option Fault
body_fault result here body = lines_fault (in_body result body) here body or_earlier twice_fault [] (labels_of_lines body)

pub data BrokenBody (result : Option IntKind) (here : Here) (body : Stmts) : Fault → Type 0 where
  by_line : (f : Fault) → BrokenLines (in_body result body) here body f → BrokenBody result here body f
  -- two labels have one name
  m2_label : (at : Span) → NameTwice (labels_of_lines body) at → BrokenBody result here body (record { rule = 2; span = at })

-- what can be resolved
abbrev pub FineBody : Option IntKind → Here → Stmts → Type 0
FineBody result here body = FineLines (in_body result body) here body × NamesDiffer [] (labels_of_lines body)

abbrev pub BodyFaultsAreBroken : Type 0
BodyFaultsAreBroken =
    (result : Option IntKind) (here : Here) (body : Stmts) (f : Fault) → body_fault result here body ≡ Some f → BrokenBody result here body f

abbrev pub BodyFaultsAreLeast : Type 0
BodyFaultsAreLeast =
    (result : Option IntKind) (here : Here) (body : Stmts) (f g : Fault) → body_fault result here body ≡ Some f
    → BrokenBody result here body g → IsFirst f g

abbrev pub NoBodyFaultNothingBroken : Type 0
NoBodyFaultNothingBroken =
    (result : Option IntKind) (here : Here) (body : Stmts) (g : Fault) → body_fault result here body ≡ None
    → BrokenBody result here body g → ⊥

-- where each object that it sees has a type
abbrev pub NoBodyFaultIsFine : Type 0
NoBodyFaultIsFine =
    (result : Option IntKind) (here : Here) (body : Stmts) → HasTypes here.scope → body_fault result here body ≡ None
    → FineBody result here body
