-- The laws of expressions that stand by themselves, and of enum constants.
use Rattle.std.proofs.Common.{◌≡◌, ℤ, Bool, true, false, Option, Some, None, refl, IsTrue, is_some, not}
use Rattle.csub_text.specs.declared.span.Span.{Span}
use Rattle.csub_tree.specs.Expressions.{Expr, span_of}
use Rattle.csub_scopes.specs.Scopes.{Scope, HasTypes}
use Rattle.csub_rules.specs.declared.fault.Fault.{Fault}
use Rattle.csub_rules.specs.Faults.{fault_if, Covers, IsFirst}
use Rattle.csub_rules.specs.Sorts.{Sort, a_place, a_value, a_void, no_sort, lacks}
use Rattle.csub_rules.specs.ExprSorts.{sort_of}
use Rattle.csub_rules.specs.Constants.{enum_value}
use Rattle.csub_rules.specs.ExprFaults.{fault}
use Rattle.csub_rules.specs.Uses.{Use, as_statement, as_part, as_number, as_constant, standing_of, serves, has_effect, lacks_use, lacks_constant}
use Rattle.csub_rules.specs.Uses.{use_fault, lacks_value, enum_fault}
use Rattle.csub_rules.specs.BrokenUse.{BrokenUse, inside, m7_use, m9_use, BrokenEnum, by_use, m9_value, m9_next, FineUse, FineEnum}
use Rattle.csub_rules.proofs.LawsEarlier.{on_left, on_right, tested, neither, three_none, no_test}
use Rattle.csub_rules.proofs.LawsSound.{Gives, join, tells, sound}
use Rattle.csub_rules.proofs.LawsLeast.{covered}
use Rattle.csub_rules.proofs.LawsServed.{served, no_not}
use Rattle.csub_rules.proofs.LawsFine.{found}

pub is_false : (b : Bool) → b ≡ false → IsTrue (not b)
is_false true h = absurd (cc)
is_false false h = refl

no_value : (o : Option ℤ) → IsTrue (not (is_some o)) → o ≡ None
no_value None h = refl
no_value (Some v) h = absurd (cc)

lacks_none : (o : Option ℤ) → o ≡ None → IsTrue (not (is_some o))
lacks_none None h = refl
lacks_none (Some v) h = absurd (cc)

-- a statement may be `exit`, which has no sort
effective : (s : Sort) → lacks s (has_effect s) ≡ false → IsTrue (has_effect s)
effective (a_place t) h = served (a_place t) (has_effect (a_place t)) refl h
effective (a_value k) h = refl
effective a_void h = refl
effective no_sort h = refl

-- where no fault is told, a constant is one
pub is_constant_use : (scope : Scope) (e : Expr) → use_fault scope as_constant e ≡ None → IsTrue (not (lacks_constant scope as_constant e))
is_constant_use scope e h =
    let q = three_none (fault scope (standing_of as_constant) e) (fault_if (lacks_use scope as_constant e) 7 (span_of e))
    (fault_if (lacks_constant scope as_constant e) 9 (span_of e)) h in
    is_false (lacks_constant scope as_constant e) (no_test (lacks_constant scope as_constant e) 9 (span_of e) q.2)

module _ (scope : Scope) where
  pub sound_use : (u : Use) (e : Expr) → Gives (use_fault scope u e) (BrokenUse scope u e)
  sound_use u e =
      join (join (record { holds = λ f h. inside u e f ((sound scope (standing_of u) e).holds f h) })
      (tells {P = BrokenUse scope u e} (lacks_use scope u e) 7 (span_of e) (λ p. m7_use u e p)))
      (tells {P = BrokenUse scope u e} (lacks_constant scope u e) 9 (span_of e) (λ p. m9_use u e p))

  pub covered_use : (u : Use) (e : Expr) (g : Fault) → BrokenUse scope u e g → Covers (use_fault scope u e) g
  covered_use u e g (inside u' e' f b) = search (on_left, covered scope (standing_of u) e g b)
  covered_use u e g (m7_use u' e' p) = search (on_left, on_right, tested)
  covered_use u e g (m9_use u' e' p) = search (on_left, on_right, tested)

  pub least_use : (u : Use) (e : Expr) (f g : Fault) → use_fault scope u e ≡ Some f → BrokenUse scope u e g → IsFirst f g
  least_use u e f g h b = let c : Covers (use_fault scope u e) g = covered_use u e g b in rw h at c

  pub complete_use : (u : Use) (e : Expr) (g : Fault) → use_fault scope u e ≡ None → BrokenUse scope u e g → ⊥
  complete_use u e g h b = let c : Covers (use_fault scope u e) g = covered_use u e g b in rw h at c

  serving : HasTypes scope → (u : Use) (e : Expr) → fault scope (standing_of u) e ≡ None → lacks_use scope u e ≡ false → IsTrue (serves u (sort_of scope e))
  serving t as_statement e h p = effective (sort_of scope e) p
  serving t as_part e h p = effective (sort_of scope e) p
  serving t as_number e h p = served (sort_of scope e) (serves as_number (sort_of scope e)) ((found scope t _ e h).has_sort refl) p
  serving t as_constant e h p = served (sort_of scope e) (serves as_constant (sort_of scope e)) ((found scope t _ e h).has_sort refl) p

  pub fine_use : HasTypes scope → (u : Use) (e : Expr) → use_fault scope u e ≡ None → FineUse scope u e
  fine_use t u e h =
      let q = three_none (fault scope (standing_of u) e) (fault_if (lacks_use scope u e) 7 (span_of e))
      (fault_if (lacks_constant scope u e) 9 (span_of e)) h in
      let x = found scope t (standing_of u) e q.0 in
      let p = serving t u e q.0 (no_test (lacks_use scope u e) 7 (span_of e) q.1) in
      (x.fine, p, is_false (lacks_constant scope u e) (no_test (lacks_constant scope u e) 9 (span_of e) q.2))

  pub sound_enum : (next : ℤ) (at : Span) (v : Option Expr) → Gives (enum_fault scope next at v) (BrokenEnum scope next at v)
  sound_enum next at None =
      tells {P = BrokenEnum scope next at None} (lacks_value scope next None) 9 at
      (λ p. m9_next next at (no_value (enum_value scope next None) p))
  sound_enum next at (Some e) =
      join (record { holds = λ f h. by_use next at e f ((sound_use as_number e).holds f h) })
      (tells {P = BrokenEnum scope next at (Some e)} (lacks_value scope next (Some e)) 9 (span_of e)
      (λ p. m9_value next at e (no_value (enum_value scope next (Some e)) p)))

  pub covered_enum : (next : ℤ) (at : Span) (v : Option Expr) (g : Fault) → BrokenEnum scope next at v g → Covers (enum_fault scope next at v) g
  covered_enum next at v g (by_use n a e f b) = search (on_left, covered_use as_number e g b)
  covered_enum next at v g (m9_value n a e p) =
      let q = lacks_none (enum_value scope next (Some e)) p in search (on_right, tested)
  covered_enum next at v g (m9_next n a p) = tested (lacks_value scope next None) 9 at (lacks_none (enum_value scope next None) p)

  pub least_enum : (next : ℤ) (at : Span) (v : Option Expr) (f g : Fault) → enum_fault scope next at v ≡ Some f
      → BrokenEnum scope next at v g → IsFirst f g
  least_enum next at v f g h b = let c : Covers (enum_fault scope next at v) g = covered_enum next at v g b in rw h at c

  pub complete_enum : (next : ℤ) (at : Span) (v : Option Expr) (g : Fault) → enum_fault scope next at v ≡ None → BrokenEnum scope next at v g → ⊥
  complete_enum next at v g h b = let c : Covers (enum_fault scope next at v) g = covered_enum next at v g b in rw h at c

  pub fine_enum : HasTypes scope → (next : ℤ) (at : Span) (v : Option Expr) → enum_fault scope next at v ≡ None → FineEnum scope next v
  fine_enum t next at None h = no_not (is_some (enum_value scope next None)) (no_test (lacks_value scope next None) 9 at h)
  fine_enum t next at (Some e) h =
      let q = neither (use_fault scope as_number e) (fault_if (lacks_value scope next (Some e)) 9 (span_of e)) h in
      (fine_use t as_number e q.0, no_not (is_some (enum_value scope next (Some e))) (no_test (lacks_value scope next (Some e)) 9 (span_of e) q.1))
