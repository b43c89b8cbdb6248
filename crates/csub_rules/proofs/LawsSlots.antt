-- The laws of declared names.
use Rattle.std.proofs.Common.{◌≡◌, ◌∙◌, ℤ, List, [], ◌∷◌, length, Bool, true, false, Option, Some}
use Rattle.std.proofs.Common.{None, refl, ap, IsTrue, is_some, not, ◌||◌, nat_lt, ◌⊎◌, inl, inr}
use Rattle.std.specs.List.{list_any}
use Rattle.csub_text.specs.declared.span.Span.{Span}
use Rattle.csub_tree.specs.declared.name.TypeName.{TypeName}
use Rattle.csub_tree.specs.declared.name.TypeName.TheVariants as names
use Rattle.csub_tree.specs.Expressions.{Expr}
use Rattle.csub_objects.specs.Types.{TypeTree, array_type}
use Rattle.csub_scopes.specs.Scopes.{Scope}
use Rattle.csub_rules.specs.declared.fault.Fault.{Fault}
use Rattle.csub_rules.specs.Faults.{fault_if, Covers, IsFirst}
use Rattle.csub_rules.specs.Constants.{constant}
use Rattle.csub_rules.specs.Uses.{as_constant, use_fault}
use Rattle.csub_rules.specs.BrokenUse.{BrokenUse}
use Rattle.csub_rules.specs.Declarators.{base_type, lacks_struct, base_fault, as_length, length_of, array_of, declared_type}
use Rattle.csub_rules.specs.Declarators.{is_bad_length, is_too_large, breaks_limits, dims_fault, slot_fault}
use Rattle.csub_rules.specs.BrokenSlot.{BrokenBase, m4, IsDim, this_dim, next_dim, BrokenSlot, in_length, m10_length, m10_dimensions, m10_type, FineSlot}
use Rattle.csub_rules.proofs.LawsEarlier.{on_left, on_right, tested, neither, no_test}
use Rattle.csub_rules.proofs.LawsServed.{neither_holds, no_not}
use Rattle.csub_rules.proofs.LawsSizes.{less, is_less, large, is_large, small}
use Rattle.csub_rules.proofs.LawsSound.{Gives, nothing, join, tells}
use Rattle.csub_rules.proofs.LawsUses.{sound_use, covered_use, is_constant_use}

-- what there is not, and what there is
pub none : {A : Type 0} (o : Option A) → IsTrue (not (is_some o)) → o ≡ None
none None h = refl
none (Some x) h = absurd (cc)

pub not_some : {A : Type 0} (o : Option A) → o ≡ None → IsTrue (not (is_some o))
not_some None h = refl
not_some (Some x) h = absurd (cc)

record Known {A : Type 0} (o : Option A) : Type 0 where
  it : A
  is : o ≡ Some it

known : {A : Type 0} (o : Option A) → IsTrue (is_some o) → Known o
known None h = absurd (cc)
known (Some x) h = record { it = x; is = refl }

-- one of two
pub one_of : (a b : Bool) → IsTrue (a || b) → IsTrue a ⊎ IsTrue b
one_of true b h = inl refl
one_of false b h = inr h

pub in_first : (a b : Bool) → IsTrue a → IsTrue (a || b)
in_first true b h = refl
in_first false b h = absurd (cc)

pub in_second : (a b : Bool) → IsTrue b → IsTrue (a || b)
in_second true b h = refl
in_second false b h = h

-- the length of a constant that isn't bad
of_length : (o : Option ℤ) → IsTrue (not (not (is_some o))) → is_bad_length o ≡ false → Known (length_of o)
of_length None h p = absurd (cc)
of_length (Some v) h p = known (as_length v) (no_not (is_some (as_length v)) p)

module _ (scope : Scope) where
  pub sound_base : (base : TypeName) → Gives (base_fault scope base) (BrokenBase scope base)
  sound_base names.Void = nothing
  sound_base names.Char = nothing
  sound_base names.Int = nothing
  sound_base names.Unsigned = nothing
  sound_base (names.Struct tag) =
      tells {P = BrokenBase scope (names.Struct tag)} (lacks_struct scope tag) 4 tag.span (λ p. m4 tag (none (base_type scope (names.Struct tag)) p))

  pub covered_base : (base : TypeName) (g : Fault) → BrokenBase scope base g → Covers (base_fault scope base) g
  covered_base base g (m4 tag p) = tested (lacks_struct scope tag) 4 tag.span (not_some (base_type scope (names.Struct tag)) p)

  pub least_base : (base : TypeName) (f g : Fault) → base_fault scope base ≡ Some f → BrokenBase scope base g → IsFirst f g
  least_base base f g h b = let c : Covers (base_fault scope base) g = covered_base base g b in rw h at c

  pub complete_base : (base : TypeName) (g : Fault) → base_fault scope base ≡ None → BrokenBase scope base g → ⊥
  complete_base base g h b = let c : Covers (base_fault scope base) g = covered_base base g b in rw h at c

  pub fine_base : (base : TypeName) → base_fault scope base ≡ None → IsTrue (is_some (base_type scope base))
  fine_base names.Void h = refl
  fine_base names.Char h = refl
  fine_base names.Int h = refl
  fine_base names.Unsigned h = refl
  fine_base (names.Struct tag) h = no_not (is_some (base_type scope (names.Struct tag))) (no_test (lacks_struct scope tag) 4 tag.span h)

  module _ (base : Option TypeTree) (at : Span) where
    -- sound
    bad_length : (dims rest : List Expr) → ((d : Expr) → IsDim d rest → IsDim d dims)
        → IsTrue (list_any (λ d. is_bad_length (constant scope d)) rest) → BrokenSlot scope base at dims (record { rule = 10; span = at })
    bad_length dims [] step p = absurd (cc)
    bad_length dims (d ∷ rest) step p =
        elim (one_of (is_bad_length (constant scope d)) (list_any (λ d. is_bad_length (constant scope d)) rest) p) [
          | inl q ↦ m10_length d (step d (this_dim d rest)) q
          | inr q ↦ bad_length dims rest (λ e i. step e (next_dim e d rest i)) q
        ]

    limits : (dims : List Expr) → IsTrue (breaks_limits scope base dims) → BrokenSlot scope base at dims (record { rule = 10; span = at })
    limits dims p =
        elim (one_of (list_any (λ d. is_bad_length (constant scope d)) dims) (nat_lt 3 (length dims) || is_too_large (declared_type scope base dims)) p) [
          | inl q ↦ bad_length dims dims (λ e i. i) q
          | inr q ↦ elim (one_of (nat_lt 3 (length dims)) (is_too_large (declared_type scope base dims)) q) [
            | inl r ↦ m10_dimensions (less 3 (length dims) r)
            | inr r ↦ (let x = large (declared_type scope base dims) r in m10_type x.ctype x.is x.unsized)
          ]
        ]

    sound_dims : (dims rest : List Expr) → ((d : Expr) → IsDim d rest → IsDim d dims) → Gives (dims_fault scope rest) (BrokenSlot scope base at dims)
    sound_dims dims [] step = nothing
    sound_dims dims (d ∷ rest) step =
        join (record { holds = λ f h. in_length d f (step d (this_dim d rest)) ((sound_use scope as_constant d).holds f h) })
        (sound_dims dims rest (λ e i. step e (next_dim e d rest i)))

    pub sound_slot : (dims : List Expr) → Gives (slot_fault scope base at dims) (BrokenSlot scope base at dims)
    sound_slot dims =
        join (tells {P = BrokenSlot scope base at dims} (breaks_limits scope base dims) 10 at (limits dims)) (sound_dims dims dims (λ e i. i))

    -- least
    is_bad : (dims : List Expr) (d : Expr) → IsDim d dims → IsTrue (is_bad_length (constant scope d))
        → IsTrue (list_any (λ d. is_bad_length (constant scope d)) dims)
    is_bad [] d i p = elim i [ ]
    is_bad (e ∷ dims) d (this_dim d' r) p =
        in_first (is_bad_length (constant scope d)) (list_any (λ d. is_bad_length (constant scope d)) dims) p
    is_bad (e ∷ dims) d (next_dim d' e' r i) p =
        in_second (is_bad_length (constant scope e)) (list_any (λ d. is_bad_length (constant scope d)) dims) (is_bad dims d i p)

    among : (dims : List Expr) (d : Expr) (g : Fault) → IsDim d dims → BrokenUse scope as_constant d g → Covers (dims_fault scope dims) g
    among [] d g i b = elim i [ ]
    among (e ∷ dims) d g (this_dim d' r) b = search (on_left, covered_use scope as_constant d g b)
    among (e ∷ dims) d g (next_dim d' e' r i) b = search (on_right, among dims d g i b)

    limited : (dims : List Expr) → IsTrue (breaks_limits scope base dims) → Covers (slot_fault scope base at dims) (record { rule = 10; span = at })
    limited dims p = search (on_left, tested)

    pub covered_slot : (dims : List Expr) (g : Fault) → BrokenSlot scope base at dims g → Covers (slot_fault scope base at dims) g
    covered_slot dims g (in_length d f i b) = search (on_right, among dims d g i b)
    covered_slot dims g (m10_length d i p) =
        limited dims (in_first (list_any (λ d. is_bad_length (constant scope d)) dims) _ (is_bad dims d i p))
    covered_slot dims g (m10_dimensions p) =
        limited dims (in_second (list_any (λ d. is_bad_length (constant scope d)) dims) _ (in_first (nat_lt 3 (length dims)) _ (is_less 3 (length dims) p)))
    covered_slot dims g (m10_type t e p) =
        limited dims (in_second (list_any (λ d. is_bad_length (constant scope d)) dims) _
        (in_second (nat_lt 3 (length dims)) _ (is_large (declared_type scope base dims) t e p)))

    pub least_slot : (dims : List Expr) (f g : Fault) → slot_fault scope base at dims ≡ Some f → BrokenSlot scope base at dims g → IsFirst f g
    least_slot dims f g h b = let c : Covers (slot_fault scope base at dims) g = covered_slot dims g b in rw h at c

    pub complete_slot : (dims : List Expr) (g : Fault) → slot_fault scope base at dims ≡ None → BrokenSlot scope base at dims g → ⊥
    complete_slot dims g h b = let c : Covers (slot_fault scope base at dims) g = covered_slot dims g b in rw h at c

  -- fine
  typed : (base : TypeTree) (dims : List Expr) → list_any (λ d. is_bad_length (constant scope d)) dims ≡ false → dims_fault scope dims ≡ None
      → Known (declared_type scope (Some base) dims)
  typed base [] p h = record { it = base; is = refl }
  typed base (d ∷ dims) p h =
      let q = neither (use_fault scope as_constant d) (dims_fault scope dims) h in
      let r = neither_holds (is_bad_length (constant scope d)) (list_any (λ d. is_bad_length (constant scope d)) dims) p in
      let n = of_length (constant scope d) (is_constant_use scope d q.0) r.0 in
      let t = typed base dims r.1 q.1 in
      record {
        it = array_type t.it n.it;
        is =
            ap (λ o. array_of o (declared_type scope (Some base) dims)) n.is ∙ ap (λ o. array_of (Some n.it) o) t.is;
      }

  pub fine_slot : (base : TypeTree) (at : Span) (dims : List Expr) → slot_fault scope (Some base) at dims ≡ None → FineSlot scope (Some base) dims
  fine_slot base at dims h =
      let q = neither (fault_if (breaks_limits scope (Some base) dims) 10 at) (dims_fault scope dims) h in
      let p = neither_holds (list_any (λ d. is_bad_length (constant scope d)) dims)
      (nat_lt 3 (length dims) || is_too_large (declared_type scope (Some base) dims))
      (no_test (breaks_limits scope (Some base) dims) 10 at q.0) in
      let r = neither_holds (nat_lt 3 (length dims)) (is_too_large (declared_type scope (Some base) dims)) p.1 in
      let t = typed base dims p.0 q.1 in
      record { ctype = t.it; is = t.is; sized = small (declared_type scope (Some base) dims) t.it t.is r.1 }
