-- An evaluation reads and writes cells of frames and of the globals that are named, and nothing else.
use Rattle.std.proofs.Common.{◌≡◌, ℕ, ◌++◌, ◌∷◌, ℤ, pos, List, [], length, Bool, true, false, Option, Some, None, Result, Ok, Err, nat_lt, int_eq, refl, subst, if◌then◌else◌, IsTrue}
use Rattle.csub_text.specs.declared.operator.BinOp.{BinOp}
use Rattle.csub_text.specs.declared.operator.BinOp.TheVariants.{Add}
use Rattle.csub_text.specs.declared.operator.StepOp.{StepOp}
use Rattle.csub_types.specs.declared.kind.IntKind.{IntKind}
use Rattle.csub_types.specs.declared.trap.Trap.{Trap}
use Rattle.csub_types.specs.declared.trap.Trap.TheVariants.{Flood}
use Rattle.csub_types.specs.Kinds.{convert, promote}
use Rattle.csub_types.specs.Arithmetic.{unary, binary, right_operand}
use Rattle.csub_objects.specs.Types.{TypeTree, number_type, array_type, struct_type, loose_type}
use Rattle.csub_semantics.specs.Trees.{global_owner, local_owner, Variable, object, temporary, NamedPlace, variable, element_place, member_place, NamedExpr, constant, reading, unary_operation, conversion, stepping, operation, conjunction, disjunction, choice, assignment, update, input_byte, output_byte, formatted, NamedExprs, no_expr, more_exprs}
use Rattle.csub_semantics.specs.Memory.{Answer, value, trapped, then_do, given, found, get_byte, most_output, put_byte, put_bytes, low_byte}
use Rattle.csub_semantics.specs.Formats.{text_of}
use Rattle.csub_semantics.specs.Evaluation.{computed, step_by, step_value, fetch, is_index, indexed, locate, store, step, eval, eval_all}
use Rattle.csub_semantics.specs.Cells.{Root, root_of, Cell, cell_of, type_of, Spot, referred, stand_at, Content, number, reference, number_in, named}
use Rattle.csub_semantics.specs.Acts.{Store}
use Rattle.call_walk.specs.Shared.{Agree}
use Rattle.call_walk.specs.Locality.{HasFrames, CoversVariable, CoversPlace, CoversExpr, CoversExprs}
use Rattle.call_walk.proofs.Agreeing.{number_inside, agree_written}

-- both give one value, which passes Q, or one trap, and their stores are related
pub data SameAnswer {X : Type 0} (Q : X → Type 0) (A : Store → Store → Type 0) : Answer X Store → Answer X Store → Type 0 where
  both_give : {v : X} {s s' : Store} → Q v → A s s' → SameAnswer Q A (value v s) (value v s')
  both_trap : {t : Trap} {s s' : Store} → A s s' → SameAnswer Q A (trapped t s) (trapped t s')

-- one after another
pub then_same : {X Y : Type 0} {Q : X → Type 0} {R : Y → Type 0} {A : Store → Store → Type 0} {a a' : Answer X Store} {f f' : X → Store → Answer Y Store} → SameAnswer Q A a a' → ((v : X) (s s' : Store) → Q v → A s s' → SameAnswer R A (f v s) (f' v s')) → SameAnswer R A (then_do a f) (then_do a' f')
then_same (both_give {v = v} {s = s} {s' = s'} q r) k = k v s s' q r
then_same (both_trap r) k = both_trap r

-- a choice by one test
pub same_if : {X : Type 0} {Q : X → Type 0} {A : Store → Store → Type 0} (b : Bool) {p q p' q' : Answer X Store} → SameAnswer Q A p p' → SameAnswer Q A q q' → SameAnswer Q A (if b then p else q) (if b then p' else q')
same_if true h k = h
same_if false h k = k

-- any value
abbrev pub IsAny : {X : Type 0} → X → Type 0
IsAny v = Unit {0}

-- a variable's root is in the set at each height
pub root_in : (S : Root → Bool) → HasFrames S → (h : ℕ) (v : Variable) → CoversVariable S v → IsTrue (S (root_of h v))
root_in S frames h (object (global_owner a) t) covers = covers
root_in S frames h (object (local_owner a n) t) covers = frames.objects h a n
root_in S frames h (temporary n k) covers = frames.temporaries h n

module _ (S : Root → Bool) (frames : HasFrames S) (h : ℕ) where
  abbrev pub SameNumber : Answer ℤ Store → Answer ℤ Store → Type 0
  SameNumber a b = SameAnswer IsAny (Agree S) a b

  abbrev pub IsIn : Spot → Type 0
  IsIn l = IsTrue (S l.cell.root)

  pub same_given : (g : Result ℤ Trap) (s s' : Store) → Agree S s s' → SameNumber (given g s) (given g s')
  same_given (Ok v) s s' agree = both_give tt agree
  same_given (Err t) s s' agree = both_trap agree

  same_found : (o o' : Option ℤ) (s s' : Store) → o ≡ o' → Agree S s s' → SameNumber (found o s) (found o' s')
  same_found o o' s s' e agree = subst (λ p. SameNumber (found o s) (found p s')) e (at o)
    where
      at : (o : Option ℤ) → SameNumber (found o s) (found o s')
      at (Some v) = both_give tt agree
      at None = both_trap agree

  number_at : (o o' : Option _) → o ≡ o' → number_in o ≡ number_in o'
  number_at o o' e = cc

  pub same_fetch : (l : Spot) (s s' : Store) → IsIn l → Agree S s s' → SameNumber (fetch (named h) l s) (fetch (named h) l s')
  same_fetch l s s' inside agree =
      then_same (same_found (number_in (s.cells l.cell)) (number_in (s'.cells l.cell)) s s' (number_at (s.cells l.cell) (s'.cells l.cell) (agree.cells l.cell inside)) agree)
      (λ v t t' q r. both_give tt r)

  -- both array parameters refer to one place, which is in the set
  same_referred : (t : TypeTree) (o o' : Option Content) (s s' : Store) → o ≡ o' → ((d : Cell) (n : ℕ) → o ≡ Some (reference d n) → IsTrue (S d.root))
      → Agree S s s' → SameAnswer IsIn (Agree S) (found (referred t o) s) (found (referred t o') s')
  same_referred t o o' s s' e refers agree = subst (λ p. SameAnswer IsIn (Agree S) (found (referred t o) s) (found (referred t p) s')) e (at o refers)
    where
      at : (o : Option Content) → ((d : Cell) (n : ℕ) → o ≡ Some (reference d n) → IsTrue (S d.root))
          → SameAnswer IsIn (Agree S) (found (referred t o) s) (found (referred t o) s')
      at None refers = both_trap agree
      at (Some (number v)) refers = both_trap agree
      at (Some (reference d n)) refers = both_give (refers d n refl) agree

  same_stand : (c : Cell) (t : TypeTree) (s s' : Store) → IsTrue (S c.root) → Agree S s s' → SameAnswer IsIn (Agree S) (found (stand_at c t s.cells) s) (found (stand_at c t s'.cells) s')
  same_stand c (number_type k) s s' inside agree = both_give inside agree
  same_stand c (array_type t n) s s' inside agree = both_give inside agree
  same_stand c (struct_type tag ms) s s' inside agree = both_give inside agree
  same_stand c (loose_type t) s s' inside agree = same_referred t (s.cells c) (s'.cells c) s s' (agree.cells c inside) (agree.refers c) agree

  -- both operations are one
  same_computed : (op : BinOp) (k : IntKind) (v w : ℤ) (s s' : Store) → Agree S s s' → SameNumber (computed op k v w s) (computed op k v w s')
  same_computed op k v w s s' agree = same_given (binary op (promote k) (convert (promote k) v) (right_operand op (promote k) w)) s s' agree

  -- both write one number to one cell
  same_store : (l : Spot) (v : ℤ) (s s' : Store) → Agree S s s' → SameNumber (store (named h) l v s) (store (named h) l v s')
  same_store l v s s' agree =
      let stored = convert ((named h).kind l) v in
      both_give tt (agree_written S l.cell (number stored) s s' (number_inside S stored) agree)

  same_step : (op : StepOp) (l : Spot) (s s' : Store) → IsIn l → Agree S s s' → SameNumber (step (named h) op l s) (step (named h) op l s')
  same_step op l s s' inside agree =
      then_same (same_fetch l s s' inside agree)
      (λ before t t' q r. then_same (same_computed Add ((named h).kind l) before (step_by op) t t' r)
      (λ v u u' o z. then_same (same_store l v u u' z) (λ after w w' p y. both_give {v = step_value op before after} tt y)))

  same_get_byte : (s s' : Store) → Agree S s s' → SameNumber (get_byte s s.input) (get_byte s' s'.input)
  same_get_byte s s' agree = subst (λ (i : List ℕ). SameNumber (get_byte s s.input) (get_byte s' i)) agree.input (at s.input)
    where
      at : (i : List ℕ) → SameNumber (get_byte s i) (get_byte s' i)
      at [] = both_give tt agree
      at (b ∷ rest) = both_give tt (record { cells = agree.cells; refers = agree.refers; refers' = agree.refers'; input = refl; output = agree.output })

  same_put_byte : (b : ℕ) (s s' : Store) → Agree S s s' → SameAnswer IsAny (Agree S) (put_byte b s) (put_byte b s')
  same_put_byte b s s' agree =
      subst (λ (o : List ℕ). SameAnswer IsAny (Agree S) (put_byte b s) (if nat_lt (length o) most_output then value tt (record s' { output = o ++ b ∷ [] }) else trapped Flood s')) agree.output
      (same_if (nat_lt (length s.output) most_output) (both_give tt (record { cells = agree.cells; refers = agree.refers; refers' = agree.refers'; input = agree.input; output = refl })) (both_trap agree))

  same_put_bytes : (bs : List ℕ) (s s' : Store) → Agree S s s' → SameAnswer IsAny (Agree S) (put_bytes bs s) (put_bytes bs s')
  same_put_bytes [] s s' agree = both_give tt agree
  same_put_bytes (b ∷ bs) s s' agree = then_same (same_put_byte b s s' agree) (λ x t t' q r. same_put_bytes bs t t' r)

  -- an element has the root of its array
  same_indexed : (u : Unit {0}) (l : Spot) (v : ℤ) (s s' : Store) → IsIn l → Agree S s s' → SameAnswer IsIn (Agree S) (indexed (named h) u l v s) (indexed (named h) u l v s')
  same_indexed u l v s s' inside agree = same_if (is_index v l.length) (both_give inside agree) (both_trap agree)

  mutual
    pub same_locate : (p : NamedPlace) (s s' : Store) → CoversPlace S p → Agree S s s' → SameAnswer IsIn (Agree S) (locate (named h) p s) (locate (named h) p s')
    same_locate (variable v) s s' covers agree = same_stand (cell_of h v) (type_of v) s s' (root_in S frames h v covers) agree
    same_locate (element_place u p e) s s' covers agree =
        then_same (same_locate p s s' covers.0 agree)
        (λ l t t' inside r. then_same (same_eval e t t' covers.1 r) (λ v w w' q z. same_indexed u l v w w' inside z))
    same_locate (member_place a p) s s' covers agree = then_same (same_locate p s s' covers agree) (λ l t t' inside r. both_give inside r)

    pub same_eval : (e : NamedExpr) (s s' : Store) → CoversExpr S e → Agree S s s' → SameNumber (eval (named h) e s) (eval (named h) e s')
    same_eval (constant k v) s s' covers agree = both_give tt agree
    same_eval (reading p) s s' covers agree = then_same (same_locate p s s' covers agree) (λ l t t' inside r. same_fetch l t t' inside r)
    same_eval (unary_operation op k a) s s' covers agree = then_same (same_eval a s s' covers agree) (λ v t t' q r. same_given (unary op (promote k) (convert (promote k) v)) t t' r)
    same_eval (conversion k a) s s' covers agree = then_same (same_eval a s s' covers agree) (λ v t t' q r. both_give tt r)
    same_eval (stepping op p) s s' covers agree = then_same (same_locate p s s' covers agree) (same_step op)
    same_eval (operation op k a b) s s' covers agree =
        then_same (same_eval a s s' covers.0 agree) (λ v t t' q r. then_same (same_eval b t t' covers.1 r) (λ w u u' o z. same_computed op k v w u u' z))
    same_eval (conjunction a b) s s' covers agree =
        then_same (same_eval a s s' covers.0 agree) (λ v t t' q r. same_if (int_eq v (pos 0)) (both_give tt r) (then_same (same_eval b t t' covers.1 r) (λ w u u' o z. both_give tt z)))
    same_eval (disjunction a b) s s' covers agree =
        then_same (same_eval a s s' covers.0 agree) (λ v t t' q r. same_if (int_eq v (pos 0)) (then_same (same_eval b t t' covers.1 r) (λ w u u' o z. both_give tt z)) (both_give tt r))
    same_eval (choice k c a b) s s' covers agree =
        then_same (same_eval c s s' covers.0 agree)
        (λ v t t' q r. then_same (same_if (int_eq v (pos 0)) (same_eval b t t' covers.2 r) (same_eval a t t' covers.1 r)) (λ w u u' o z. both_give tt z))
    same_eval (assignment p e) s s' covers agree =
        then_same (same_locate p s s' covers.0 agree)
        (λ l t t' inside r. then_same (same_eval e t t' covers.1 r) (λ v u u' o z. same_store l v u u' z))
    same_eval (update p op k e) s s' covers agree =
        then_same (same_locate p s s' covers.0 agree)
        (λ l t t' inside r. then_same (same_fetch l t t' inside r)
        (λ v u u' o z. then_same (same_eval e u u' covers.1 z)
        (λ w x x' i y. then_same (same_computed op k v w x x' y) (λ n c c' j g. same_store l n c c' g))))
    same_eval input_byte s s' covers agree = same_get_byte s s' agree
    same_eval (output_byte e) s s' covers agree =
        then_same (same_eval e s s' covers agree) (λ v t t' q r. then_same (same_put_byte (low_byte v) t t' r) (λ x u u' o z. both_give tt z))
    same_eval (formatted pieces es) s s' covers agree =
        then_same (same_eval_all es s s' covers agree)
        (λ vs t t' q r. then_same (same_put_bytes (text_of pieces vs) t t' r) (λ x u u' o z. both_give tt z))

    same_eval_all : (es : NamedExprs) (s s' : Store) → CoversExprs S es → Agree S s s' → SameAnswer IsAny (Agree S) (eval_all (named h) es s) (eval_all (named h) es s')
    same_eval_all no_expr s s' covers agree = both_give tt agree
    same_eval_all (more_exprs e rest) s s' covers agree =
        then_same (same_eval e s s' covers.0 agree) (λ v t t' q r. then_same (same_eval_all rest t t' covers.1 r) (λ vs u u' o z. both_give tt z))
