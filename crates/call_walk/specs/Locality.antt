-- What an act reads and writes: cells of frames, cells of the globals that its label names, and what references in
-- these refer to.
use Rattle.std.specs.Prelude.{ℕ, ℤ, Bool, IsTrue, All, Option, Some, None}
use Rattle.csub_semantics.specs.declared.status.Status.{Status}
use Rattle.csub_objects.specs.Types.{Name}
use Rattle.csub_semantics.specs.Trees.{OwnerTree, global_owner, local_owner, Variable, object, temporary, NamedPlace, variable, element_place}
use Rattle.csub_semantics.specs.Trees.{member_place, NamedExpr, constant}
use Rattle.csub_semantics.specs.Trees.{reading, unary_operation, conversion, stepping, operation, conjunction, disjunction, choice, assignment}
use Rattle.csub_semantics.specs.Trees.{update, input_byte, output_byte, formatted, NamedExprs, no_expr, more_exprs, NamedArg, value_argument, array_argument}
use Rattle.csub_semantics.specs.Labels.{LabelTree, enters, exits, evaluates, initialises, branches, switches, returns, jumps, halts, calls}
use Rattle.csub_semantics.specs.Labels.{AnswerTree, InitTree, one_value, listed, InitTrees, no_init, more_inits}
use Rattle.csub_semantics.specs.Points.{ExitTree}
use Rattle.csub_semantics.specs.Cells.{Root, global_root, local_root, temp_root}
use Rattle.csub_semantics.specs.Acts.{Store, Outcome, leaves, gives, pushes, pops, ends, act}
use Rattle.call_walk.specs.Shared.{Agree}

-- a set of roots that has those of every frame
pub record HasFrames (S : Root → Bool) : Type 0 where
  pub objects : (h : ℕ) (a : Name) (n : ℕ) → IsTrue (S (local_root h a n))
  pub temporaries : (h n : ℕ) → IsTrue (S (temp_root h n))

-- the set has each global that a tree names
module _ (S : Root → Bool) where
  abbrev pub CoversOwner : OwnerTree → Type 0
  CoversOwner (global_owner a) = IsTrue (S (global_root a))
  CoversOwner (local_owner a n) = Unit {0}

  abbrev pub CoversVariable : Variable → Type 0
  CoversVariable (object owner t) = CoversOwner owner
  CoversVariable (temporary n k) = Unit {0}

  abbrev mutual
    pub CoversPlace : NamedPlace → Type 0
    CoversPlace (variable v) = CoversVariable v
    CoversPlace (element_place u p e) = CoversPlace p × CoversExpr e
    CoversPlace (member_place a p) = CoversPlace p

    pub CoversExpr : NamedExpr → Type 0
    CoversExpr (constant k v) = Unit {0}
    CoversExpr (reading p) = CoversPlace p
    CoversExpr (unary_operation op k a) = CoversExpr a
    CoversExpr (conversion k a) = CoversExpr a
    CoversExpr (stepping op p) = CoversPlace p
    CoversExpr (operation op k a b) = CoversExpr a × CoversExpr b
    CoversExpr (conjunction a b) = CoversExpr a × CoversExpr b
    CoversExpr (disjunction a b) = CoversExpr a × CoversExpr b
    CoversExpr (choice k c a b) = CoversExpr c × CoversExpr a × CoversExpr b
    CoversExpr (assignment p e) = CoversPlace p × CoversExpr e
    CoversExpr (update p op k e) = CoversPlace p × CoversExpr e
    CoversExpr input_byte = Unit {0}
    CoversExpr (output_byte e) = CoversExpr e
    CoversExpr (formatted pieces es) = CoversExprs es

    pub CoversExprs : NamedExprs → Type 0
    CoversExprs no_expr = Unit {0}
    CoversExprs (more_exprs e rest) = CoversExpr e × CoversExprs rest

  abbrev pub CoversArg : NamedArg → Type 0
  CoversArg (value_argument e) = CoversExpr e
  CoversArg (array_argument p) = CoversPlace p

  abbrev pub CoversAnswer : Option AnswerTree → Type 0
  CoversAnswer None = Unit {0}
  CoversAnswer (Some a) = CoversExpr a.value

  abbrev mutual
    pub CoversInit : InitTree → Type 0
    CoversInit (one_value e) = CoversExpr e
    CoversInit (listed xs) = CoversInits xs

    pub CoversInits : InitTrees → Type 0
    CoversInits no_init = Unit {0}
    CoversInits (more_inits x rest) = CoversInit x × CoversInits rest

  abbrev pub CoversLabel : LabelTree → Type 0
  CoversLabel enters = Unit {0}
  CoversLabel (exits rule) = Unit {0}
  CoversLabel (evaluates e) = CoversExpr e
  CoversLabel (initialises owner t init) = CoversOwner owner × CoversInit init
  CoversLabel (branches e) = CoversExpr e
  CoversLabel (switches e) = CoversExpr e
  CoversLabel (returns answer) = CoversAnswer answer
  CoversLabel jumps = Unit {0}
  CoversLabel (halts e) = CoversExpr e
  CoversLabel (calls c) = All CoversArg c.args

-- two acts come out the same but for their stores, which are related
pub data SameOutcome (A : Store → Store → Type 0) : Outcome → Outcome → Type 0 where
  both_leave : {x : ExitTree} {r : Option ℤ} {s s' : Store} → A s s' → SameOutcome A (leaves x r s) (leaves x r s')
  both_give : {v : ℤ} {s s' : Store} → A s s' → SameOutcome A (gives v s) (gives v s')
  both_push : {g : Name} {s s' : Store} → A s s' → SameOutcome A (pushes g s) (pushes g s')
  both_pop : {r : Option ℤ} {s s' : Store} → A s s' → SameOutcome A (pops r s) (pops r s')
  both_end : {t : Status} {s s' : Store} → A s s' → SameOutcome A (ends t s) (ends t s')

-- stores that agree on a set with all frames and with the globals that a label names: its act keeps that, and comes
-- out the same
abbrev pub ActsAreLocal : Type 0
ActsAreLocal =
    (S : Root → Bool) → HasFrames S → (l : LabelTree) → CoversLabel S l →
    (frames : ℕ) (r : Option ℤ) (s s' : Store) → Agree S s s' → SameOutcome (Agree S) (act l frames r s) (act l frames r s')
