-- Labels that call, and labels that don't.
use Rattle.std.proofs.Common.{◌≡◌, ◌⊎◌, inl, inr, Option, Some, None, refl, ap}
use Rattle.std.proofs.lemmas.Option.{same_Some}
use Rattle.csub_semantics.specs.declared.label.CallLabel.{CallLabel}
use Rattle.csub_semantics.specs.declared.label.Label.{Label}
use Rattle.csub_semantics.specs.declared.label.Label.TheVariants.{Call}
use Rattle.csub_semantics.specs.Labels.{LabelTree, CallTree, calls, call_of, label_tree}

-- a label that makes a call is that call's
pub call_is : (l : LabelTree) (c : CallTree) → call_of l ≡ Some c → l ≡ calls c
call_is (calls d) c e = ap calls (same_Some d c e)
call_is _ c e = absurd cc

-- there is a call, or there is none
pub call_or_none : (o : Option CallTree) → ((c : CallTree) × (o ≡ Some c)) ⊎ (o ≡ None)
call_or_none None = inr refl
call_or_none (Some c) = inl (c, refl)

-- a label that is no call's makes no call
pub no_call : (l : Label) → ((c : CallLabel) → l ≡ Call c → ⊥) → call_of (label_tree l) ≡ None
no_call (Call c) other = absurd (other c refl)
no_call _ other = refl
