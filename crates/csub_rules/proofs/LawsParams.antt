-- The laws of parameters.
use Rattle.std.proofs.Common.{◌≡◌, Bool, true, false, Option, Some, None, refl, sym, subst, IsTrue, is_some, not, ◌||◌, inl, inr, option_map}
use Rattle.csub_tree.specs.declared.name.Name.{Name}
use Rattle.csub_tree.specs.declared.name.TypeName.{TypeName}
use Rattle.csub_tree.specs.declared.name.TypeName.TheVariants as names
use Rattle.csub_tree.specs.Expressions.{Expr}
use Rattle.csub_tree.specs.Declarations.{Param}
use Rattle.csub_objects.specs.Types.{loose_type}
use Rattle.csub_scopes.specs.Scopes.{Scope}
use Rattle.csub_rules.specs.declared.fault.Fault.{Fault}
use Rattle.csub_rules.specs.Faults.{Covers, IsFirst}
use Rattle.csub_rules.specs.Uses.{as_constant}
use Rattle.csub_rules.specs.BrokenUse.{BrokenUse}
use Rattle.csub_rules.specs.Declarators.{base_type, lacks_struct}
use Rattle.csub_rules.specs.Params.{param_type, param_base_fault, length_fault, param_fault, BrokenParam, m4_tag, m4_struct, in_brackets}
use Rattle.csub_rules.proofs.LawsEarlier.{on_left, on_right, tested, neither, no_test}
use Rattle.csub_rules.proofs.LawsServed.{no_not}
use Rattle.csub_rules.proofs.LawsSound.{Gives, nothing, join, tells}
use Rattle.csub_rules.proofs.LawsUses.{sound_use, covered_use}
use Rattle.csub_rules.proofs.LawsSlots.{none, not_some, one_of, in_first, in_second}

mapped : {A B : Type 0} (f : A → B) (o : Option A) → IsTrue (is_some o) → IsTrue (is_some (option_map f o))
mapped f None h = absurd (cc)
mapped f (Some x) h = refl

module _ (scope : Scope) where
  sound_base : (p : Param) (b : TypeName) → p.base ≡ b → Gives (param_base_fault scope p.array b) (BrokenParam scope p)
  sound_base p names.Void e = nothing
  sound_base p names.Char e = nothing
  sound_base p names.Int e = nothing
  sound_base p names.Unsigned e = nothing
  sound_base p (names.Struct tag) e =
      tells {P = BrokenParam scope p} (not p.array || lacks_struct scope tag) 4 tag.span (λ h.
      elim (one_of (not p.array) (lacks_struct scope tag) h)
      [ inl q ↦ m4_struct tag e q | inr q ↦ m4_tag tag e (none (base_type scope (names.Struct tag)) q) ])

  sound_length : (p : Param) (o : Option Expr) → p.length ≡ o → Gives (length_fault scope o) (BrokenParam scope p)
  sound_length p None e = nothing
  sound_length p (Some d) e = record { holds = λ f h. in_brackets d f e ((sound_use scope as_constant d).holds f h) }

  pub sound_param : (p : Param) → Gives (param_fault scope p) (BrokenParam scope p)
  sound_param p = join (sound_base p p.base refl) (sound_length p p.length refl)

  at_tag : (array : Bool) (b : TypeName) (tag : Name) → b ≡ names.Struct tag → IsTrue (not array || lacks_struct scope tag)
      → Covers (param_base_fault scope array b) (record { rule = 4; span = tag.span })
  at_tag array b tag e h =
      subst (λ (x : TypeName). Covers (param_base_fault scope array x) (record { rule = 4; span = tag.span })) (sym e)
      (tested (not array || lacks_struct scope tag) 4 tag.span h)

  at_length : (o : Option Expr) (d : Expr) (g : Fault) → o ≡ Some d → BrokenUse scope as_constant d g → Covers (length_fault scope o) g
  at_length o d g e b = subst (λ (x : Option Expr). Covers (length_fault scope x) g) (sym e) (covered_use scope as_constant d g b)

  covered_param : (p : Param) (g : Fault) → BrokenParam scope p g → Covers (param_fault scope p) g
  covered_param p g (m4_tag tag e h) =
      search (on_left, at_tag p.array p.base tag e (in_second (not p.array) (lacks_struct scope tag) (not_some (base_type scope (names.Struct tag)) h)))
  covered_param p g (m4_struct tag e h) = search (on_left, at_tag p.array p.base tag e (in_first (not p.array) (lacks_struct scope tag) h))
  covered_param p g (in_brackets d f e b) = search (on_right, at_length p.length d g e b)

  pub least_param : (p : Param) (f g : Fault) → param_fault scope p ≡ Some f → BrokenParam scope p g → IsFirst f g
  least_param p f g h b = let c : Covers (param_fault scope p) g = covered_param p g b in rw h at c

  pub complete_param : (p : Param) (g : Fault) → param_fault scope p ≡ None → BrokenParam scope p g → ⊥
  complete_param p g h b = let c : Covers (param_fault scope p) g = covered_param p g b in rw h at c

  -- the type is known
  fine_by : (array : Bool) (b : TypeName) (l : Option Expr) (p : Param) → param_base_fault scope array b ≡ None
      → IsTrue (is_some (param_type scope (record p { base = b; array = array; length = l })))
  fine_by true names.Void l p h = refl
  fine_by false names.Void l p h = refl
  fine_by true names.Char l p h = refl
  fine_by false names.Char l p h = refl
  fine_by true names.Int l p h = refl
  fine_by false names.Int l p h = refl
  fine_by true names.Unsigned l p h = refl
  fine_by false names.Unsigned l p h = refl
  fine_by true (names.Struct tag) l p h =
      mapped loose_type (base_type scope (names.Struct tag)) (no_not (is_some (base_type scope (names.Struct tag)))
      (no_test (lacks_struct scope tag) 4 tag.span h))
  fine_by false (names.Struct tag) l p h = absurd (cc)

  pub fine_param : (p : Param) → param_fault scope p ≡ None → IsTrue (is_some (param_type scope p))
  fine_param p h = let q = neither (param_base_fault scope p.array p.base) (length_fault scope p.length) h in fine_by p.array p.base p.length p q.0
