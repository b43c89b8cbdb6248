-- What places and expressions give, over any memory: operands from left to right, with side effects at once.
use Rattle.std.specs.Prelude.{ℕ, ℤ, pos, negsuc, Bool, not, ◌&&◌, unsigned_abs, if◌then◌else◌, List, [], ◌∷◌, length}
use Rattle.std.specs.Int.RustNames.{int_lt, int_le}
use Rattle.std.specs.Ordering.{int_eq}
use Rattle.csub_text.specs.declared.operator.UnaryOp.{UnaryOp}
use Rattle.csub_text.specs.declared.operator.BinOp.{BinOp}
use Rattle.csub_text.specs.declared.operator.BinOp.TheVariants.{Add}
use Rattle.csub_text.specs.declared.operator.StepOp.{StepOp}
use Rattle.csub_text.specs.declared.operator.StepOp.TheVariants.{PreUp, PreDown, PostUp, PostDown}
use Rattle.csub_types.specs.declared.kind.IntKind.{IntKind}
use Rattle.csub_types.specs.declared.trap.Trap.TheVariants.{Bounds}
use Rattle.csub_types.specs.Kinds.{convert, promote}
use Rattle.csub_types.specs.Arithmetic.{unary, binary, right_operand}
use Rattle.csub_types.specs.Settled.{truth}
use Rattle.csub_semantics.specs.Trees.{PlaceTree, variable, element_place, member_place, ExprTree, constant, reading}
use Rattle.csub_semantics.specs.Trees.{unary_operation, conversion, stepping, operation}
use Rattle.csub_semantics.specs.Trees.{conjunction, disjunction, choice, assignment, update, input_byte, output_byte, formatted}
use Rattle.csub_semantics.specs.Trees.{ExprTrees, no_expr, more_exprs}
use Rattle.csub_semantics.specs.Formats.{text_of}
use Rattle.csub_semantics.specs.Memory.{State, Answer, value, trapped, then_do, given, found, Memory, get_byte, put_byte, put_bytes, low_byte}

-- an operation in a kind, to which its operands are converted first (the usual arithmetic conversions, C11 6.3.1.8p1)
abbrev pub computed : {S : Type 0} → BinOp → IntKind → ℤ → ℤ → S → Answer ℤ S
computed op k a b s = given (binary op (promote k) (convert (promote k) a) (right_operand op (promote k) b)) s

-- the same of one operand
abbrev pub computed_unary : {S : Type 0} → UnaryOp → IntKind → ℤ → S → Answer ℤ S
computed_unary op k a s = given (unary op (promote k) (convert (promote k) a)) s

-- 1 where a number isn't 0, and else 0
abbrev pub is_nonzero : ℤ → ℤ
is_nonzero v = truth (not (int_eq v (pos 0)))

-- `++` and `--` add 1 and -1 (C11 6.5.2.4p2 and 6.5.3.1p2); behind the place they give the number before (6.5.2.4p2),
-- before it the number that is stored
abbrev pub step_by : StepOp → ℤ
step_by PreUp = pos 1
step_by PreDown = negsuc 0
step_by PostUp = pos 1
step_by PostDown = negsuc 0

abbrev pub step_value : StepOp → ℤ → ℤ → ℤ
step_value PreUp before after = after
step_value PreDown before after = after
step_value PostUp before after = before
step_value PostDown before after = before

-- whether a number is the index of one of so many elements
abbrev pub is_index : ℤ → ℕ → Bool
is_index v n = int_le (pos 0) v && int_lt v (pos n)

module _ {V I M L C : Type 0} (m : Memory V I M L C) where
  -- the number at a location, in the kind that is declared there
  abbrev pub fetch : L → State C → Answer ℤ (State C)
  fetch l s = then_do (found (m.read l s.cells) s) (λ v t. value (convert (m.kind l) v) t)

  -- an element at a location, or the trap `bounds` (C11 6.5.6p8 leaves open what an index beyond the array does)
  abbrev pub indexed : I → L → ℤ → State C → Answer L (State C)
  indexed i l v s = if is_index v (m.bound l) then value (m.element i l (unsigned_abs v)) s else trapped Bounds s

  -- a number goes to a location, converted to the kind that is declared there, and is the value of that (C11 6.5.16)
  abbrev pub store : L → ℤ → State C → Answer ℤ (State C)
  store l v s =
      let stored = convert (m.kind l) v in
      value stored (record s { cells = m.write l stored s.cells })

  -- `++` and `--`, as additions in the promoted kind
  abbrev pub step : StepOp → L → State C → Answer ℤ (State C)
  step op l s =
      then_do (fetch l s) (λ before t.
      then_do (computed Add (m.kind l) before (step_by op) t) (λ v u.
      then_do (store l v u) (λ after w. value (step_value op before after) w)))

  abbrev mutual
    -- where a place is: an index comes behind the place that it stands on, and is checked at once
    pub locate : PlaceTree V I M → State C → Answer L (State C)
    locate (variable v) s = found (m.stand v s.cells) s
    locate (element_place i p e) s = then_do (locate p s) (λ l t. then_do (eval e t) (indexed i l))
    locate (member_place a p) s = then_do (locate p s) (λ l t. value (m.member a l) t)

    -- what an expression gives (C11 6.5)
    pub eval : ExprTree V I M → State C → Answer ℤ (State C)
    eval (constant k v) s = value v s
    eval (reading p) s = then_do (locate p s) fetch
    eval (unary_operation op k a) s = then_do (eval a s) (computed_unary op k)
    eval (conversion k a) s = then_do (eval a s) (λ v t. value (convert k v) t)
    eval (stepping op p) s = then_do (locate p s) (step op)
    eval (operation op k a b) s = then_do (eval a s) (λ v t. then_do (eval b t) (computed op k v))
    -- `&&` and `||` evaluate the right operand only where the left one leaves them open (C11 6.5.13 and 6.5.14)
    eval (conjunction a b) s =
        then_do (eval a s) (λ v t. if int_eq v (pos 0) then value (pos 0) t else then_do (eval b t) (λ w u. value (is_nonzero w) u))
    eval (disjunction a b) s =
        then_do (eval a s) (λ v t. if int_eq v (pos 0) then then_do (eval b t) (λ w u. value (is_nonzero w) u) else value (pos 1) t)
    -- one of the later operands alone, converted to their common kind (C11 6.5.15)
    eval (choice k c a b) s =
        then_do (eval c s) (λ v t. then_do (if int_eq v (pos 0) then eval b t else eval a t) (λ w u. value (convert k w) u))
    -- the place comes first, then the operand, and then the number is stored (C11 6.5.16 leaves the order open)
    eval (assignment p e) s = then_do (locate p s) (λ l t. then_do (eval e t) (store l))
    -- a compound assignment reads the place before its operand (C11 6.5.16.2)
    eval (update p op k e) s =
        then_do (locate p s) (λ l t. then_do (fetch l t) (λ v u. then_do (eval e u) (λ w x. then_do (computed op k v w x) (store l))))
    eval input_byte s = get_byte s s.input
    eval (output_byte e) s = then_do (eval e s) (λ v t. then_do (put_byte (low_byte v) t) (λ x u. value (pos (low_byte v)) u))
    -- `printf` evaluates all arguments before it writes, and gives how many bytes it wrote (C11 6.5.2.2p10 and 7.21.6.3p3)
    eval (formatted pieces es) s =
        then_do (eval_all es s) (λ vs t. then_do (put_bytes (text_of pieces vs) t) (λ x u. value (pos (length (text_of pieces vs))) u))

    -- the values of expressions, from left to right
    pub eval_all : ExprTrees V I M → State C → Answer (List ℤ) (State C)
    eval_all no_expr s = value [] s
    eval_all (more_exprs e rest) s = then_do (eval e s) (λ v t. then_do (eval_all rest t) (λ vs u. value (v ∷ vs) u))
