-- What a store of the code stands for, and what acts of the code answer.
use Rattle.std.specs.Prelude.{ℕ, ℤ, ◌≡◌, ◌≤◌, length, map, drop, All, Option, Result, Ok, Err}
use Rattle.csub_types.specs.declared.trap.Trap.{Trap}
use Rattle.csub_semantics.specs.Trees.{variable, element_place, member_place, constant, reading, unary_operation, conversion, stepping, operation}
use Rattle.csub_semantics.specs.Trees.{conjunction, disjunction, choice, assignment, update, input_byte, output_byte, formatted}
use Rattle.csub_semantics.specs.Trees.{no_expr, more_exprs, expr_count}
use Rattle.csub_semantics.specs.Memory.{Answer, value, trapped}
use Rattle.csub_semantics.specs.declared.status.Status.{Status}
use Rattle.csub_semantics.specs.declared.status.Status.TheVariants.{Trap as TrapStatus}
use Rattle.csub_validity.specs.Valid.{most_values}
use Rattle.csub_flat.specs.Trees.{FlatPlace, FlatExpr, FlatExprs, FlatGiven, number_of, array_at, FlatWrite, writes, clears}
use Rattle.csub_flat.specs.Trees.{FlatLabel, goes_on, leaves_by, does, begins, tests, chooses, answers, halts, enters_callee}
use Rattle.csub_slots.specs.Acts as the
use Rattle.csub_slots.specs.Acts.{FlatStore}
use Rattle.csub_slots.specs.declared.store.Store.{Store}
use Rattle.csub_slots.specs.Seen.{slot_seen}

-- what a store stands for: the input from the place on, what was written, and the slots
abbrev pub state_of : Store → FlatStore
state_of s = record { input = drop s.place s.input.items; output = s.output.items; cells = map slot_seen s.slots.items }

-- a value or a trap, with the store that is left
abbrev pub Gives : {A X : Type 0} → (A → X) → Answer X FlatStore → Result A Trap → FlatStore → Type 0
Gives seen answer (Ok v) after = answer ≡ value (seen v) after
Gives seen answer (Err t) after = answer ≡ trapped t after

abbrev pub same : ℤ → ℤ
same v = v

abbrev pub nothing : Unit {0} → Unit {0}
nothing v = tt

-- what an evaluation leaves as it is: the whole input, the sizes, the count of slots and the values of arguments
pub record Keeps (old new : Store) : Type 0 where
  pub input : new.input.items ≡ old.input.items
  pub sizes : new.sizes ≡ old.sizes
  pub count : length new.slots.items ≡ length old.slots.items
  pub values : new.values.items ≡ old.values.items

-- a call comes to a frame at this entry, whose slots begin there, or to a trap, with the store that is left
abbrev pub Enters : the.FlatOutcome → ℕ → Result ℕ Trap → FlatStore → Type 0
Enters outcome entry (Ok b) s = outcome ≡ the.pushes entry b s
Enters outcome entry (Err t) s = outcome ≡ the.ends (TrapStatus t) s

-- the end of a function gives a result to its call, or ends the run
abbrev pub Returns : the.FlatOutcome → Result (Option ℤ) Status → FlatStore → Type 0
Returns outcome (Ok r) s = outcome ≡ the.pops r s
Returns outcome (Err t) s = outcome ≡ the.ends t s

abbrev mutual
  -- no `printf` in a place has more values than one may have
  pub FewAtPlace : FlatPlace → Type 0
  FewAtPlace (variable v) = Unit {0}
  FewAtPlace (element_place part p e) = FewAtPlace p × FewValues e
  FewAtPlace (member_place part p) = FewAtPlace p

  -- nor in an expression
  pub FewValues : FlatExpr → Type 0
  FewValues (constant k v) = Unit {0}
  FewValues (reading p) = FewAtPlace p
  FewValues (unary_operation op k a) = FewValues a
  FewValues (conversion k a) = FewValues a
  FewValues (stepping op p) = FewAtPlace p
  FewValues (operation op k a b) = FewValues a × FewValues b
  FewValues (conjunction a b) = FewValues a × FewValues b
  FewValues (disjunction a b) = FewValues a × FewValues b
  FewValues (choice k c a b) = FewValues c × FewValues a × FewValues b
  FewValues (assignment p e) = FewAtPlace p × FewValues e
  FewValues (update p op k e) = FewAtPlace p × FewValues e
  FewValues input_byte = Unit {0}
  FewValues (output_byte e) = FewValues e
  FewValues (formatted pieces es) = (expr_count es ≤ most_values) × FewInRow es

  pub FewInRow : FlatExprs → Type 0
  FewInRow no_expr = Unit {0}
  FewInRow (more_exprs e rest) = FewValues e × FewInRow rest

-- nor in what an argument gives
abbrev pub FewInGiven : FlatGiven → Type 0
FewInGiven (number_of k e) = FewValues e
FewInGiven (array_at p) = FewAtPlace p

-- nor in a step of an initialiser
abbrev pub FewInWrite : FlatWrite → Type 0
FewInWrite (writes at k e) = FewValues e
FewInWrite (clears at n) = Unit {0}

-- a call's frame is no larger than the greatest, and it has at most 16 arguments; no `printf` has more than 8 values
abbrev pub FitsMost : ℕ → FlatLabel → Type 0
FitsMost most (enters_callee c) = (c.size ≤ most) × (length c.args ≤ 16) × All (λ a. FewInGiven a.given) c.args
FitsMost most goes_on = Unit {0}
FitsMost most (leaves_by rule v) = Unit {0}
FitsMost most (does e) = FewValues e
FitsMost most (begins steps) = All FewInWrite steps
FitsMost most (tests e) = FewValues e
FitsMost most (chooses e) = FewValues e
FitsMost most (answers k e) = FewValues e
FitsMost most (halts e) = FewValues e
