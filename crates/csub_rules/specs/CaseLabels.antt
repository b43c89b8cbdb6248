-- The labels of a `switch` (C11 6.8.4.2), and the rule on them.
use Rattle.std.specs.Prelude.{ℤ, List, ◌∷◌, Bool, true, false, Option, Some, None, option_map}
use Rattle.std.specs.List.{list_any}
use Rattle.std.specs.Ordering.{int_eq}
use Rattle.csub_text.specs.declared.span.Span.{Span}
use Rattle.csub_types.specs.declared.kind.IntKind.{IntKind}
use Rattle.csub_types.specs.Kinds.{convert, promote}
use Rattle.csub_tree.specs.Expressions.{Expr, span_of}
use Rattle.csub_tree.specs.Statements.{Stmt, Stmts, Line, Case, Default, NoStmts, MoreStmts}
use Rattle.csub_scopes.specs.Scopes.{Scope}
use Rattle.csub_rules.specs.declared.fault.Fault.{Fault}
use Rattle.csub_rules.specs.Faults.{fault_if, ◌or_earlier◌}
use Rattle.csub_rules.specs.Sorts.{the_kind}
use Rattle.csub_rules.specs.ExprSorts.{sort_of}
use Rattle.csub_rules.specs.Constants.{constant}
use Rattle.csub_rules.specs.Words.{word_default}
use Rattle.csub_rules.specs.Here.{Here}
use Rattle.csub_rules.specs.Past.{past}

-- the value of a `case`, or `default`
pub data CaseLabel : Type 0 where
  a_value : ℤ → CaseLabel
  the_default : CaseLabel

abbrev pub label_eq : CaseLabel → CaseLabel → Bool
label_eq (a_value v) (a_value w) = int_eq v w
label_eq (a_value v) the_default = false
label_eq the_default (a_value w) = false
label_eq the_default the_default = true

-- a label and where it stands: at its expression, or at the word
pub record LabelAt : Type 0 where
  pub label : CaseLabel
  pub span : Span

-- the promoted kind of a switch's expression (C11 6.8.4.2p5), `int` where it is no number, which is told before its labels
abbrev pub switch_kind : Scope → Expr → IntKind
switch_kind scope e = promote (the_kind (sort_of scope e))

-- the label that a line of a switch is, its value converted to this kind (C11 6.8.4.2p5); none where it is no constant
abbrev pub label_of : IntKind → Scope → Stmt → Option LabelAt
label_of k scope (Line (Case e) s) = option_map (λ v. record { label = a_value (convert k v); span = span_of e }) (constant scope e)
label_of k scope (Line Default s) = Some (record { label = the_default; span = word_default s })
label_of k scope (Line line s) = None

abbrev pub with_label : List CaseLabel → Option LabelAt → List CaseLabel
with_label seen None = seen
with_label seen (Some l) = l.label ∷ seen

-- M18: a label stands among those before it
abbrev pub again_fault : List CaseLabel → Option LabelAt → Option Fault
again_fault seen None = None
again_fault seen (Some l) = fault_if (list_any (label_eq l.label) seen) 18 l.span

-- the earliest label of a switch's lines that stands among these labels or before it in the lines
abbrev pub labels_fault : IntKind → Here → List CaseLabel → Stmts → Option Fault
labels_fault k here seen NoStmts = None
labels_fault k here seen (MoreStmts a rest) =
    again_fault seen (label_of k here.scope a) or_earlier labels_fault k (past here a) (with_label seen (label_of k here.scope a)) rest
