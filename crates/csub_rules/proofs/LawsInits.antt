-- The laws of initialisers.
use Rattle.std.proofs.Common.{◌≡◌, ℕ, ◌+◌, Bool, true, false, Option, Some, None, refl, IsTrue, is_some, not, ◌&&◌}
use Rattle.csub_text.specs.declared.span.Span.{Span}
use Rattle.csub_tree.specs.Expressions.{Expr, span_of}
use Rattle.csub_tree.specs.Declarations.{Init, Inits, One, Listed, NoInits, MoreInits}
use Rattle.csub_objects.specs.Types.{TypeTree}
use Rattle.csub_scopes.specs.Scopes.{Scope, HasTypes}
use Rattle.csub_rules.specs.declared.fault.Fault.{Fault}
use Rattle.csub_rules.specs.Faults.{fault_if, Covers, IsFirst}
use Rattle.csub_rules.specs.Sorts.{Sort, a_place, a_value, a_void, no_sort, is_sorted, is_number, kind_of_type}
use Rattle.csub_rules.specs.ExprSorts.{sort_of}
use Rattle.csub_rules.specs.Fine.{Fine}
use Rattle.csub_rules.specs.Uses.{as_number, as_constant, lacks_constant, use_fault}
use Rattle.csub_objects.specs.Parts.{part_type, has_parts}
use Rattle.csub_rules.specs.Initialisers.{fills, list_misfits, lacks_list, use_at, init_fault, entries_fault}
use Rattle.csub_rules.specs.BrokenInit.{EntryAt, this_entry, next_entry, Meets, whole, in_entry, InitBreaks, by_value, m11_value, m11_list}
use Rattle.csub_rules.specs.BrokenInit.{BrokenInit, FineValue, FineInit, FineEntries}
use Rattle.csub_rules.proofs.LawsEarlier.{on_left, on_right, tested, neither, no_test}
use Rattle.csub_rules.proofs.LawsServed.{both_parts, no_not, has}
use Rattle.csub_rules.proofs.LawsSound.{Gives, nothing, join, tells}
use Rattle.csub_rules.proofs.LawsUses.{sound_use, covered_use, fine_use}

number_sorted : (s : Sort) → IsTrue (is_number s) → IsTrue (is_sorted s)
number_sorted (a_place t) h = refl
number_sorted (a_value k) h = refl
number_sorted a_void h = refl
number_sorted no_sort h = absurd (cc)

-- what is known of a value without a fault
record UsedNumber (scope : Scope) (file : Bool) (e : Expr) : Type 0 where
  fine : Fine scope false e
  number : IsTrue (is_number (sort_of scope e))
  constant : IsTrue (not (lacks_constant scope (use_at file) e))
  has_sort : IsTrue (is_sorted (sort_of scope e))

number_used : (scope : Scope) → HasTypes scope → (file : Bool) (e : Expr) → use_fault scope (use_at file) e ≡ None → UsedNumber scope file e
number_used scope types true e h =
    let f = fine_use scope types as_constant e h in
    record { fine = f.0; number = f.1; constant = f.2; has_sort = number_sorted (sort_of scope e) f.1 }
number_used scope types false e h =
    let f = fine_use scope types as_number e h in
    record { fine = f.0; number = f.1; constant = f.2; has_sort = number_sorted (sort_of scope e) f.1 }

module _ (scope : Scope) (file : Bool) where
  -- least
  among : (t : TypeTree) (i n : ℕ) (y : Init) (xs : Inits) (u : TypeTree) (f : Fault) → EntryAt i n y xs → part_type t n ≡ Some u
      → Covers (init_fault scope file (Some u) y) f → Covers (entries_fault scope file t i xs) f
  among t i n y xs u f (this_entry j z rest) e c =
      let d : Covers (init_fault scope file (part_type t i) y) f = rw e c in search (on_left, d)
  among t i n y xs u f (next_entry j m z w rest a) e c = search (on_right, among t (i + 1) n y rest u f a e c)

  own : (t : TypeTree) (x : Init) (f : Fault) → InitBreaks scope file t x f → Covers (init_fault scope file (Some t) x) f
  own t x f (by_value u e g b) = search (on_left, covered_use scope (use_at file) e f b)
  own t x f (m11_value u e p) = search (on_right, tested)
  own t x f (m11_list u xs s p) = search (on_left, tested)

  deep : (t : TypeTree) (x : Init) (u : TypeTree) (z : Init) (f : Fault) → Meets t x u z → InitBreaks scope file u z f
      → Covers (init_fault scope file (Some t) x) f
  deep t x u z f (whole t' x') b = own t x f b
  deep t x u z f (in_entry t' v u' n z' y xs s a e m) b = search (on_right, among t 0 n y xs v f a e (deep v y u z f m b))

  pub covered_init : (t : TypeTree) (x : Init) (g : Fault) → BrokenInit scope file t x g → Covers (init_fault scope file (Some t) x) g
  covered_init t x g b = deep t x b.ctype b.node g b.stands b.breaks

  pub least_init : (t : TypeTree) (x : Init) (f g : Fault) → init_fault scope file (Some t) x ≡ Some f → BrokenInit scope file t x g → IsFirst f g
  least_init t x f g h b = let c : Covers (init_fault scope file (Some t) x) g = covered_init t x g b in rw h at c

  pub complete_init : (t : TypeTree) (x : Init) (g : Fault) → init_fault scope file (Some t) x ≡ None → BrokenInit scope file t x g → ⊥
  complete_init t x g h b = let c : Covers (init_fault scope file (Some t) x) g = covered_init t x g b in rw h at c

  -- sound
  test : {u : TypeTree} {x : Init} {t : Bool} {r : ℕ} {s : Span} → (IsTrue t → InitBreaks scope file u x (record { rule = r; span = s }))
      → Gives (fault_if t r s) (BrokenInit scope file u x)
  test {u = u} {x = x} {t = t} {r = r} {s = s} p =
      tells {P = BrokenInit scope file u x} t r s (λ q. record { ctype = u; node = x; stands = whole u x; breaks = p q })

  of_value : (t : TypeTree) (e : Expr) → Gives (use_fault scope (use_at file) e) (BrokenInit scope file t (One e))
  of_value t e = record {
    holds = λ f h.
        let b = (sound_use scope (use_at file) e).holds f h in
        record { ctype = t; node = One e; stands = whole t (One e); breaks = by_value t e f b };
  }

  -- nothing is said of what has no part
  pub no_part : (x : Init) → init_fault scope file None x ≡ None
  no_part (One e) = refl
  no_part (Listed xs s) = refl

  of_part : (t : TypeTree) (i : ℕ) (y : Init) (xs : Inits) (s : Span) (o : Option TypeTree) → part_type t i ≡ o → EntryAt 0 i y xs
      → ((u : TypeTree) → Gives (init_fault scope file (Some u) y) (BrokenInit scope file u y))
      → Gives (init_fault scope file o y) (BrokenInit scope file t (Listed xs s))
  of_part t i y xs s None e a p = record { holds = λ f h. let q : init_fault scope file None y ≡ None = no_part y in absurd (cc) }
  of_part t i y xs s (Some u) e a p = record {
    holds = λ f h.
        let b = (p u).holds f h in
        record { ctype = b.ctype; node = b.node; stands = in_entry t u b.ctype i b.node y xs s a e b.stands; breaks = b.breaks };
  }

  mutual
    pub sound_init : (t : TypeTree) (x : Init) → Gives (init_fault scope file (Some t) x) (BrokenInit scope file t x)
    sound_init t (One e) = join (of_value t e) (test (λ p. m11_value t e p))
    sound_init t (Listed xs s) = join (test (λ p. m11_list t xs s p)) (sound_entries t xs s 0 xs (λ n y a. a))

    sound_entries : (t : TypeTree) (xs : Inits) (s : Span) (i : ℕ) (rest : Inits) → ((n : ℕ) (y : Init) → EntryAt i n y rest → EntryAt 0 n y xs)
        → Gives (entries_fault scope file t i rest) (BrokenInit scope file t (Listed xs s))
    sound_entries t xs s i NoInits step = nothing
    sound_entries t xs s i (MoreInits y rest) step =
        join (of_part t i y xs s (part_type t i) refl (step i y (this_entry i y rest)) (λ u. sound_init u y))
        (sound_entries t xs s (i + 1) rest (λ n z a. step n z (next_entry i n z y rest a)))

  -- fits
  fine_value : HasTypes scope → (t : TypeTree) (e : Expr) → init_fault scope file (Some t) (One e) ≡ None → FineValue scope file (Some t) e
  fine_value types t e h =
      let q = neither (use_fault scope (use_at file) e) (fault_if (lacks_list scope t e) 11 (span_of e)) h in
      let x = number_used scope types file e q.0 in
      (x.fine, x.number, x.constant, has (sort_of scope e) (is_some (kind_of_type t)) 11 (span_of e) x.has_sort q.1)

  fine_part : (o : Option TypeTree) (y : Init) → IsTrue (is_some o) → init_fault scope file o y ≡ None
      → ((u : TypeTree) → init_fault scope file (Some u) y ≡ None → FineInit scope file (Some u) y) → FineInit scope file o y
  fine_part None y p h q = absurd (cc)
  fine_part (Some u) y p h q = q u h

  mutual
    pub fine_init : HasTypes scope → (t : TypeTree) (x : Init) → init_fault scope file (Some t) x ≡ None → FineInit scope file (Some t) x
    fine_init types t (One e) h = fine_value types t e h
    fine_init types t (Listed xs s) h =
        let q = neither (fault_if (list_misfits t xs) 11 s) (entries_fault scope file t 0 xs) h in
        let p = both_parts (has_parts t) (fills t 0 xs) (no_not (has_parts t && fills t 0 xs) (no_test (list_misfits t xs) 11 s q.0)) in
        fine_entries types t 0 xs p.1 q.1

    fine_entries : HasTypes scope → (t : TypeTree) (i : ℕ) (xs : Inits) → IsTrue (fills t i xs) → entries_fault scope file t i xs ≡ None
        → FineEntries scope file t i xs
    fine_entries types t i NoInits p h = tt
    fine_entries types t i (MoreInits y rest) p h =
        let q = neither (init_fault scope file (part_type t i) y) (entries_fault scope file t (i + 1) rest) h in
        let r = both_parts (is_some (part_type t i)) (fills t (i + 1) rest) p in
        (r.0, fine_part (part_type t i) y r.0 q.0 (λ u g. fine_init types u y g), fine_entries types t (i + 1) rest r.1 q.1)
