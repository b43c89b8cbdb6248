-- The rule on the labels of a `switch` by itself, and labels that differ.
use Rattle.std.specs.Prelude.{◌≡◌, List, Option, Some, None, IsTrue, not}
use Rattle.std.specs.List.{list_any}
use Rattle.csub_text.specs.declared.span.Span.{Span}
use Rattle.csub_types.specs.declared.kind.IntKind.{IntKind}
use Rattle.csub_tree.specs.Statements.{Stmt, Stmts, NoStmts, MoreStmts}
use Rattle.csub_rules.specs.Here.{Here}
use Rattle.csub_rules.specs.Past.{past}
use Rattle.csub_rules.specs.CaseLabels.{CaseLabel, label_eq, LabelAt, label_of, with_label}

-- a label stands in the lines of a switch
pub data HasLabel (k : IntKind) : Here → Stmts → LabelAt → Type 0 where
  this_label : (h : Here) (a : Stmt) (rest : Stmts) (l : LabelAt) → label_of k h.scope a ≡ Some l → HasLabel k h (MoreStmts a rest) l
  next_label : (h : Here) (a : Stmt) (rest : Stmts) (l : LabelAt) → HasLabel k (past h a) rest l → HasLabel k h (MoreStmts a rest) l

-- the second of two equal labels stands at a place in the lines
pub data LabelTwice (k : IntKind) : Here → Stmts → Span → Type 0 where
  of_this : (h : Here) (a : Stmt) (rest : Stmts) (l m : LabelAt) → label_of k h.scope a ≡ Some l → HasLabel k (past h a) rest m
      → l.label ≡ m.label → LabelTwice k h (MoreStmts a rest) m.span
  of_later : (h : Here) (a : Stmt) (rest : Stmts) (at : Span) → LabelTwice k (past h a) rest at → LabelTwice k h (MoreStmts a rest) at

-- each label differs from these and from those before it
abbrev pub IsNew : List CaseLabel → Option LabelAt → Type 0
IsNew seen None = Unit {0}
IsNew seen (Some l) = IsTrue (not (list_any (label_eq l.label) seen))

abbrev pub LabelsDiffer : IntKind → Here → List CaseLabel → Stmts → Type 0
LabelsDiffer k h seen NoStmts = Unit {0}
LabelsDiffer k h seen (MoreStmts a rest) =
    IsNew seen (label_of k h.scope a) × LabelsDiffer k (past h a) (with_label seen (label_of k h.scope a)) rest
