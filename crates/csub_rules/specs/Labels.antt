-- The labels of a function (C11 6.8.1), and the rule on them.
use Rattle.std.specs.Prelude.{List, [], ◌∷◌, ◌++◌, Option, None, Bool, IsTrue, not, bytes_eq}
use Rattle.std.specs.List.{list_any}
use Rattle.csub_text.specs.declared.span.Span.{Span}
use Rattle.csub_tree.specs.declared.name.Name.{Name as NameAt}
use Rattle.csub_tree.specs.Statements.{Stmt, StmtKind, Perhaps, Stmts, Line, Declared, Eval, Empty, Block, If, While, Do, For, Switch}
use Rattle.csub_tree.specs.Statements.{Case, Default, Break, Continue, Goto, Label, Return, NoStmt, OneStmt, NoStmts, MoreStmts}
use Rattle.csub_objects.specs.Types.{Name}
use Rattle.csub_rules.specs.declared.fault.Fault.{Fault}
use Rattle.csub_rules.specs.Faults.{fault_if, ◌or_earlier◌}

-- the labels in the order of the source; a label is known in its whole function (C11 6.2.1p3)
abbrev mutual
  pub labels_of : Stmt → List NameAt
  labels_of (Line k s) = labels_of_kind k

  pub labels_of_kind : StmtKind → List NameAt
  labels_of_kind (Declared d) = []
  labels_of_kind (Eval e) = []
  labels_of_kind Empty = []
  labels_of_kind (Block ss) = labels_of_lines ss
  labels_of_kind (If e a b) = labels_of a ++ labels_of_perhaps b
  labels_of_kind (While e a) = labels_of a
  labels_of_kind (Do a e) = labels_of a
  labels_of_kind (For b e f a) = labels_of_perhaps b ++ labels_of a
  labels_of_kind (Switch e ss) = labels_of_lines ss
  labels_of_kind (Case e) = []
  labels_of_kind Default = []
  labels_of_kind Break = []
  labels_of_kind Continue = []
  labels_of_kind (Goto x) = []
  labels_of_kind (Label x a) = x ∷ labels_of a
  labels_of_kind (Return e) = []

  pub labels_of_perhaps : Perhaps → List NameAt
  labels_of_perhaps NoStmt = []
  labels_of_perhaps (OneStmt a) = labels_of a

  pub labels_of_lines : Stmts → List NameAt
  labels_of_lines NoStmts = []
  labels_of_lines (MoreStmts a rest) = labels_of a ++ labels_of_lines rest

abbrev pub stands_in : Name → List Name → Bool
stands_in x names = list_any (λ y. bytes_eq y x) names

-- M2: a name stands twice in one name space (C11 6.8.1p3 for labels); the earliest that stands among these names or before it
abbrev pub twice_fault : List Name → List NameAt → Option Fault
twice_fault seen [] = None
twice_fault seen (x ∷ rest) = fault_if (stands_in x.text seen) 2 x.span or_earlier twice_fault (x.text ∷ seen) rest

-- these names and those before them, the latest first
abbrev pub past_names : List Name → List NameAt → List Name
past_names seen [] = seen
past_names seen (x ∷ rest) = past_names (x.text ∷ seen) rest

-- the rule by itself: the second of two equal names stands at a place
pub data IsNameOf : NameAt → List NameAt → Type 0 where
  this_name : (x : NameAt) (rest : List NameAt) → IsNameOf x (x ∷ rest)
  next_name : (x y : NameAt) (rest : List NameAt) → IsNameOf x rest → IsNameOf x (y ∷ rest)

pub data NameTwice : List NameAt → Span → Type 0 where
  of_this_name : (x y : NameAt) (rest : List NameAt) → IsNameOf y rest → IsTrue (bytes_eq x.text y.text) → NameTwice (x ∷ rest) y.span
  of_later_name : (x : NameAt) (rest : List NameAt) (at : Span) → NameTwice rest at → NameTwice (x ∷ rest) at

-- names that differ from these and from each other
abbrev pub NamesDiffer : List Name → List NameAt → Type 0
NamesDiffer seen [] = Unit {0}
NamesDiffer seen (x ∷ rest) = IsTrue (not (stands_in x.text seen)) × NamesDiffer (x.text ∷ seen) rest
