-- The laws of names and of tags that are declared at file scope.
use Rattle.std.proofs.Common.{◌≡◌, Option, Some, None, refl, is_some}
use Rattle.csub_tree.specs.declared.name.Name.{Name as NameAt}
use Rattle.csub_scopes.specs.Scopes.{Scope, find_tag}
use Rattle.csub_rules.specs.declared.fault.Fault.{Fault}
use Rattle.csub_rules.specs.Faults.{Covers, IsFirst}
use Rattle.csub_rules.specs.Here.{is_reserved}
use Rattle.csub_rules.proofs.LawsEarlier.{on_left, on_right, tested}
use Rattle.csub_rules.proofs.LawsSound.{Gives, join, tells}
use Rattle.csub_rules.specs.Files.{is_known, name_fault, tag_fault}
use Rattle.csub_rules.specs.BrokenObject.{BrokenName, m2_name, m3_name, BrokenTag, m2_tag, m3_tag}

-- what is least and complete covers
pub covers : (o : Option Fault) (g : Fault) → (o ≡ None → ⊥) → ((f : Fault) → o ≡ Some f → IsFirst f g) → Covers o g
covers None g none least = absurd (none refl)
covers (Some f) g none least = least f refl

module _ (scope : Scope) where
  pub sound_name : (x : NameAt) → Gives (name_fault scope x) (BrokenName scope x)
  sound_name x =
      join (tells {P = BrokenName scope x} (is_known scope x.text) 2 x.span (λ p. m2_name p))
      (tells {P = BrokenName scope x} (is_reserved x.text) 3 x.span (λ p. m3_name p))

  pub covered_name : (x : NameAt) (g : Fault) → BrokenName scope x g → Covers (name_fault scope x) g
  covered_name x g (m2_name p) = search (on_left, on_right, tested)
  covered_name x g (m3_name p) = search (on_left, on_right, tested)

  pub sound_tag : (x : NameAt) → Gives (tag_fault scope x) (BrokenTag scope x)
  sound_tag x =
      join (tells {P = BrokenTag scope x} (is_some (find_tag x.text scope.tags)) 2 x.span (λ p. m2_tag p))
      (tells {P = BrokenTag scope x} (is_reserved x.text) 3 x.span (λ p. m3_tag p))

  pub covered_tag : (x : NameAt) (g : Fault) → BrokenTag scope x g → Covers (tag_fault scope x) g
  covered_tag x g (m2_tag p) = search (on_left, on_right, tested)
  covered_tag x g (m3_tag p) = search (on_left, on_right, tested)
