-- The labels of a `switch` as the code has them. No definition of the rules needs this file.
use Rattle.std.specs.Prelude.{List, [], ◌∷◌, ◌++◌, map, Option, Some, None, Bool, true, false, ℤ, if◌then◌else◌}
use Rattle.std.specs.List.{list_any}
use Rattle.std.specs.Ordering.{int_eq}
use Rattle.csub_rules.specs.CaseLabels as labels
use Rattle.csub_bodies.specs.declared.switch.LabelAt.{LabelAt}
use Rattle.csub_bodies.specs.declared.switch.Seen.{Seen}

abbrev pub the_label : Option ℤ → labels.CaseLabel
the_label None = labels.the_default
the_label (Some v) = labels.a_value v

abbrev pub label_at : LabelAt → labels.LabelAt
label_at l = record { label = the_label l.value; span = l.span }

abbrev pub with_default : Bool → List labels.CaseLabel → List labels.CaseLabel
with_default true ls = labels.the_default ∷ ls
with_default false ls = ls

abbrev pub seen_of : Seen → List labels.CaseLabel
seen_of s = with_default s.has_default (map labels.a_value s.values.keys)

-- the values after one more
abbrev pub inserted : List ℤ → ℤ → List ℤ
inserted keys v = if list_any (int_eq v) keys then keys else keys ++ v ∷ []
