-- The laws of the labels of a `switch`.
use Rattle.std.proofs.Common.{◌≡◌, List, ◌∷◌, Option, Some, None, refl, sym, ap, subst, IsTrue, inl, inr}
use Rattle.std.specs.List.{list_any}
use Rattle.std.proofs.lemmas.Bool.Decides.{Decides-int_eq}
use Rattle.csub_text.specs.declared.span.Span.{Span}
use Rattle.csub_types.specs.declared.kind.IntKind.{IntKind}
use Rattle.csub_tree.specs.Statements.{Stmt, Stmts, NoStmts, MoreStmts}
use Rattle.csub_rules.specs.declared.fault.Fault.{Fault}
use Rattle.csub_rules.specs.Faults.{Covers}
use Rattle.csub_rules.specs.Here.{Here}
use Rattle.csub_rules.specs.Past.{past}
use Rattle.csub_rules.specs.CaseLabels.{CaseLabel, a_value, the_default, label_eq, LabelAt, label_of, with_label, again_fault, labels_fault}
use Rattle.csub_rules.specs.BrokenLabel.{HasLabel, this_label, next_label, LabelTwice, of_this, of_later, IsNew, LabelsDiffer}
use Rattle.csub_rules.proofs.LawsEarlier.{on_left, on_right, tested, neither, no_test}
use Rattle.csub_rules.proofs.LawsSound.{Gives, nothing, join, tells}
use Rattle.csub_rules.proofs.LawsUses.{is_false}
use Rattle.csub_rules.proofs.LawsSlots.{one_of, in_first, in_second}

-- equal labels, as a truth value
same_label : (l : CaseLabel) → IsTrue (label_eq l l)
same_label (a_value v) = (Decides-int_eq v v).1 refl
same_label the_default = refl

are_same : (l m : CaseLabel) → IsTrue (label_eq l m) → l ≡ m
are_same (a_value v) (a_value w) h = ap a_value ((Decides-int_eq v w).0 h)
are_same (a_value v) the_default h = absurd (cc)
are_same the_default (a_value w) h = absurd (cc)
are_same the_default the_default h = refl

abbrev Seen : List CaseLabel → CaseLabel → Type 0
Seen seen l = IsTrue (list_any (label_eq l) seen)

still_seen : (seen : List CaseLabel) (l : CaseLabel) (o : Option LabelAt) → Seen seen l → Seen (with_label seen o) l
still_seen seen l None h = h
still_seen seen l (Some m) h = in_second (label_eq l m.label) (list_any (label_eq l) seen) h

now_seen : (seen : List CaseLabel) (l m : LabelAt) (o : Option LabelAt) → o ≡ Some l → l.label ≡ m.label → Seen (with_label seen o) m.label
now_seen seen l m o e same =
    let p : IsTrue (label_eq m.label l.label) = subst (λ x. IsTrue (label_eq x l.label)) same (same_label l.label) in
    let q : Seen (l.label ∷ seen) m.label = in_first (label_eq m.label l.label) (list_any (label_eq m.label) seen) p in
    subst (λ x. Seen (with_label seen x) m.label) (sym e) q

-- ---- least

told : (seen : List CaseLabel) (l : LabelAt) (o : Option LabelAt) → o ≡ Some l → Seen seen l.label
    → Covers (again_fault seen o) (record { rule = 18; span = l.span })
told seen l o e h =
    subst (λ x. Covers (again_fault seen x) (record { rule = 18; span = l.span })) (sym e) (tested (list_any (label_eq l.label) seen) 18 l.span h)

again : (k : IntKind) (h : Here) (seen : List CaseLabel) (ss : Stmts) (l : LabelAt) → HasLabel k h ss l → Seen seen l.label
    → Covers (labels_fault k h seen ss) (record { rule = 18; span = l.span })
again k h seen ss l (this_label h' a rest l' e) s = search (on_left, told seen l (label_of k h.scope a) e s)
again k h seen ss l (next_label h' a rest l' w) s =
    search (on_right, again k (past h a) (with_label seen (label_of k h.scope a)) rest l w (still_seen seen l.label (label_of k h.scope a) s))

pub covered_labels : (k : IntKind) (h : Here) (seen : List CaseLabel) (ss : Stmts) (at : Span) → LabelTwice k h ss at
    → Covers (labels_fault k h seen ss) (record { rule = 18; span = at })
covered_labels k h seen ss at (of_this h' a rest l m e w same) =
    search (on_right, again k (past h a) (with_label seen (label_of k h.scope a)) rest m w (now_seen seen l m (label_of k h.scope a) e same))
covered_labels k h seen ss at (of_later h' a rest at' w) =
    search (on_right, covered_labels k (past h a) (with_label seen (label_of k h.scope a)) rest at w)

-- ---- sound

abbrev M18 : Span → Fault
M18 at = record { rule = 18; span = at }

again_gives : (P : Fault → Type 0) (seen : List CaseLabel) (o : Option LabelAt) → ((l : LabelAt) → o ≡ Some l → Seen seen l.label → P (M18 l.span))
    → Gives (again_fault seen o) P
again_gives P seen None step = nothing
again_gives P seen (Some l) step = tells {P = P} (list_any (label_eq l.label) seen) 18 l.span (λ h. step l refl h)

module _ (k : IntKind) (P : Fault → Type 0) where
  -- a label that is seen once one more stands before it was seen before, or equals that one
  seen_before : (h : Here) (seen : List CaseLabel) (a : Stmt) (rest : Stmts) (o : Option LabelAt) → label_of k h.scope a ≡ o
      → ((l : LabelAt) → HasLabel k h (MoreStmts a rest) l → Seen seen l.label → P (M18 l.span))
      → ((at : Span) → LabelTwice k h (MoreStmts a rest) at → P (M18 at))
      → (l : LabelAt) → HasLabel k (past h a) rest l → Seen (with_label seen o) l.label → P (M18 l.span)
  seen_before h seen a rest None e step twice l w s = step l (next_label h a rest l w) s
  seen_before h seen a rest (Some m) e step twice l w s =
      elim (one_of (label_eq l.label m.label) (list_any (label_eq l.label) seen) s) [
        | inl p ↦ twice l.span (of_this h a rest m l e w (sym (are_same l.label m.label p)))
        | inr p ↦ step l (next_label h a rest l w) p
      ]

  pub sound_labels : (h : Here) (seen : List CaseLabel) (ss : Stmts) → ((l : LabelAt) → HasLabel k h ss l → Seen seen l.label → P (M18 l.span))
      → ((at : Span) → LabelTwice k h ss at → P (M18 at)) → Gives (labels_fault k h seen ss) P
  sound_labels h seen NoStmts step twice = nothing
  sound_labels h seen (MoreStmts a rest) step twice =
      join (again_gives P seen (label_of k h.scope a) (λ l e s. step l (this_label h a rest l e) s))
      (sound_labels (past h a) (with_label seen (label_of k h.scope a)) rest (seen_before h seen a rest (label_of k h.scope a) refl step twice)
      (λ at w. twice at (of_later h a rest at w)))

-- ---- fine

is_new : (seen : List CaseLabel) (o : Option LabelAt) → again_fault seen o ≡ None → IsNew seen o
is_new seen None h = tt
is_new seen (Some l) h = is_false (list_any (label_eq l.label) seen) (no_test (list_any (label_eq l.label) seen) 18 l.span h)

pub labels_differ : (k : IntKind) (h : Here) (seen : List CaseLabel) (ss : Stmts) → labels_fault k h seen ss ≡ None → LabelsDiffer k h seen ss
labels_differ k h seen NoStmts p = tt
labels_differ k h seen (MoreStmts a rest) p =
    let q = neither (again_fault seen (label_of k h.scope a)) (labels_fault k (past h a) (with_label seen (label_of k h.scope a)) rest) p in
    (is_new seen (label_of k h.scope a) q.0, labels_differ k (past h a) (with_label seen (label_of k h.scope a)) rest q.1)
