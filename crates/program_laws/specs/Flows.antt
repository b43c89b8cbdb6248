-- What lockstep of two runs asks of each program.
use Rattle.std.specs.Prelude.{◌≡◌, ℤ, List, [], Some, All, IsTrue}
use Rattle.std.specs.List.{list_any}
use Rattle.std.specs.Ordering.{int_eq}
use Rattle.csub_semantics.specs.declared.label.EndRule.{EndRule}
use Rattle.csub_objects.specs.Types.{Name}
use Rattle.csub_semantics.specs.Labels.{enters, exits, CallTree, call_of, PointLabel}
use Rattle.csub_semantics.specs.Points.{PointTree, entry, exit, on_case, on_default}
use Rattle.csub_semantics.specs.Flows.{Flow, start_name}

-- the label of every function's entry
abbrev pub entry_label : PointLabel
entry_label = record { tree = enters; globals = [] }

pub record IsFlow (P : Flow) : Type 0 where
  -- a run begins at the entry of `#start`
  pub starts : P.label start_name entry ≡ Some entry_label
  -- a call's callee is defined
  pub called : (f : Name) (p : PointTree) (l : PointLabel) (c : CallTree)
      → P.label f p ≡ Some l → call_of l.tree ≡ Some c → P.label c.callee entry ≡ Some entry_label
  -- frames are left at exits alone
  pub leaves : (f : Name) (p : PointTree) (l : PointLabel) (rule : EndRule) → P.label f p ≡ Some l → l.tree ≡ exits rule → p ≡ exit
  -- a case that leads on is a case of its switch
  pub cased : (f : Name) (p q : PointTree) (v : ℤ) → P.succ f p (on_case v) ≡ Some q → IsTrue (list_any (λ w. int_eq w v) (P.cases f p))
  -- a Default that leads on has all case values of its switch
  pub defaulted : (f : Name) (p q : PointTree) (vs : List ℤ) → P.succ f p (on_default vs) ≡ Some q → vs ≡ P.cases f p
  -- each global of a label is the program's of its name
  pub named : (f : Name) (p : PointTree) (l : PointLabel) → P.label f p ≡ Some l → All (λ g. P.global g.name ≡ Some g) l.globals
