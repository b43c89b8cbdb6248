-- The acts of labels by what is evaluated for them.
use Rattle.std.proofs.Common.{◌≡◌, ℕ, ℤ, pos, List, Option, Some, if◌then◌else◌, ap}
use Rattle.std.specs.Ordering.{int_eq}
use Rattle.csub_types.specs.Kinds.{convert}
use Rattle.csub_semantics.specs.declared.status.Status.TheVariants.{Trap, Exit}
use Rattle.csub_semantics.specs.Memory.{Answer, value, trapped, then_do, low_byte}
use Rattle.csub_semantics.specs.Evaluation.{eval}
use Rattle.csub_semantics.specs.Points.{next, on_true, on_false}
use Rattle.csub_flat.specs.Trees.{FlatExpr, FlatWrite, does, begins, tests, chooses, answers, halts}
use Rattle.csub_slots.specs.Memory.{flat}
use Rattle.csub_slots.specs.Acts.{FlatStore, flat_after, flat_begins, flat_act, leaves, gives, ends}

module _ (e : FlatExpr) (n base : ℕ) (r : Option ℤ) (s t : FlatStore) where
  pub done : (v : ℤ) → eval (flat base) e s ≡ value v t → flat_act (does e) n base r s ≡ leaves next r t
  done v h = ap (λ (x : Answer ℤ FlatStore). flat_after x (λ w u. leaves next r u)) h

  pub tested : (v : ℤ) → eval (flat base) e s ≡ value v t → flat_act (tests e) n base r s ≡ leaves (if int_eq v (pos 0) then on_false else on_true) r t
  tested v h = ap (λ (x : Answer ℤ FlatStore). flat_after x (λ w u. leaves (if int_eq w (pos 0) then on_false else on_true) r u)) h

  pub chosen : (v : ℤ) → eval (flat base) e s ≡ value v t → flat_act (chooses e) n base r s ≡ gives v t
  chosen v h = ap (λ (x : Answer ℤ FlatStore). flat_after x gives) h

  pub done_not : (q : _) → eval (flat base) e s ≡ trapped q t → flat_act (does e) n base r s ≡ ends (Trap q) t
  done_not q h = ap (λ (x : Answer ℤ FlatStore). flat_after x (λ w u. leaves next r u)) h

  pub tested_not : (q : _) → eval (flat base) e s ≡ trapped q t → flat_act (tests e) n base r s ≡ ends (Trap q) t
  tested_not q h = ap (λ (x : Answer ℤ FlatStore). flat_after x (λ w u. leaves (if int_eq w (pos 0) then on_false else on_true) r u)) h

  pub chosen_not : (q : _) → eval (flat base) e s ≡ trapped q t → flat_act (chooses e) n base r s ≡ ends (Trap q) t
  chosen_not q h = ap (λ (x : Answer ℤ FlatStore). flat_after x gives) h

  pub halted : (v : ℤ) → eval (flat base) e s ≡ value v t → flat_act (halts e) n base r s ≡ ends (Exit (low_byte v)) t
  halted v h = ap (λ (x : Answer ℤ FlatStore). flat_after x (λ w u. ends (Exit (low_byte w)) u)) h

  pub halted_not : (q : _) → eval (flat base) e s ≡ trapped q t → flat_act (halts e) n base r s ≡ ends (Trap q) t
  halted_not q h = ap (λ (x : Answer ℤ FlatStore). flat_after x (λ w u. ends (Exit (low_byte w)) u)) h

  -- what a return gives is converted to a kind
  pub answered : (k : _) (v : ℤ) → then_do (eval (flat base) e s) (λ w u. value (convert k w) u) ≡ value v t → flat_act (answers k e) n base r s ≡ leaves next (Some v) t
  answered k v h = pick (eval (flat base) e s) h
    where
      pick : (x : Answer ℤ FlatStore) → then_do x (λ w u. value (convert k w) u) ≡ value v t → flat_after x (λ w u. leaves next (Some (convert k w)) u) ≡ leaves next (Some v) t
      pick (value w u) d = cc
      pick (trapped q u) d = absurd (let f : ⊥ = cc in f)

  pub answered_not : (k : _) (q : _) → then_do (eval (flat base) e s) (λ w u. value (convert k w) u) ≡ trapped q t → flat_act (answers k e) n base r s ≡ ends (Trap q) t
  answered_not k q h = pick (eval (flat base) e s) h
    where
      pick : (x : Answer ℤ FlatStore) → then_do x (λ w u. value (convert k w) u) ≡ trapped q t → flat_after x (λ w u. leaves next (Some (convert k w)) u) ≡ ends (Trap q) t
      pick (value w u) d = absurd (let f : ⊥ = cc in f)
      pick (trapped p u) d = cc

module _ (steps : List FlatWrite) (n base : ℕ) (r : Option ℤ) (s t : FlatStore) where
  pub begun : flat_begins base steps s ≡ value tt t → flat_act (begins steps) n base r s ≡ leaves next r t
  begun h = ap (λ (x : Answer (Unit {0}) FlatStore). flat_after x (λ w u. leaves next r u)) h

  pub begun_not : (q : _) → flat_begins base steps s ≡ trapped q t → flat_act (begins steps) n base r s ≡ ends (Trap q) t
  begun_not q h = ap (λ (x : Answer (Unit {0}) FlatStore). flat_after x (λ w u. leaves next r u)) h
