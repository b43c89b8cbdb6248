-- Alike trees in alike memories give alike answers, by one induction over expressions.
use Rattle.std.proofs.Common.{ℕ, ◌≡◌, ◌<◌, ℤ, pos, negsuc, unsigned_abs, List, [], ◌∷◌, ◌++◌, length, Bool, true, false, Option, Some, None, Result, Ok, Err, nat_lt, if◌then◌else◌, refl, ap, subst, arith}
use Rattle.std.specs.Ordering.{int_eq}
use Rattle.csub_text.specs.declared.operator.BinOp.{BinOp}
use Rattle.csub_text.specs.declared.operator.BinOp.TheVariants.{Add}
use Rattle.csub_text.specs.declared.operator.UnaryOp.{UnaryOp}
use Rattle.csub_text.specs.declared.operator.StepOp.{StepOp}
use Rattle.csub_types.specs.declared.kind.IntKind.{IntKind}
use Rattle.csub_types.specs.declared.trap.Trap.{Trap}
use Rattle.csub_types.specs.declared.trap.Trap.TheVariants.{Flood, Bounds}
use Rattle.csub_types.specs.Kinds.{convert, promote}
use Rattle.csub_types.specs.Arithmetic.{unary, binary, right_operand}
use Rattle.csub_semantics.specs.Trees.{PlaceTree, variable, element_place, member_place, ExprTree, constant, reading, unary_operation, conversion, stepping, operation, conjunction, disjunction, choice, assignment, update, input_byte, output_byte, formatted, ExprTrees, no_expr, more_exprs}
use Rattle.csub_semantics.specs.Memory.{State, Answer, value, trapped, Memory, then_do, given, found, get_byte, put_byte, put_bytes, low_byte, most_output}
use Rattle.csub_semantics.specs.Evaluation.{computed, step_by, step_value, is_index, fetch, indexed, store, step, locate, eval, eval_all}
use Rattle.csub_semantics.specs.declared.expression.Piece.{Piece}
use Rattle.csub_semantics.specs.Formats.{text_of}
use Rattle.csub_slots.specs.Like.{LikeState}

-- answers with values and states that are alike
pub data LikeAnswer {X X' S S' : Type 0} (RX : X → X' → Type 0) (RS : S → S' → Type 0) : Answer X S → Answer X' S' → Type 0 where
  both_values : {x : X} {x' : X'} {s : S} {s' : S'} → RX x x' → RS s s' → LikeAnswer RX RS (value x s) (value x' s')
  both_trapped : {t : Trap} {s : S} {s' : S'} → RS s s' → LikeAnswer RX RS (trapped t s) (trapped t s')

-- both are found, and alike, or none is
pub data LikeFound {L L' : Type 0} (R : L → L' → Type 0) : Option L → Option L' → Type 0 where
  both_found : {l : L} {l' : L'} → R l l' → LikeFound R (Some l) (Some l')
  both_missing : LikeFound R None None

-- T has the types of places, of which N has those of numbers; RI and RM say which parts the places of a type have, and of
-- which type
module _ {T V I M V' I' M' : Type 0} (N : T → Type 0) (RV : T → V → V' → Type 0) (RI : T → T → I → I' → Type 0) (RM : T → T → M → M' → Type 0) where
  mutual
    pub data LikePlace : T → PlaceTree V I M → PlaceTree V' I' M' → Type 0 where
      like_variable : {t : T} {v : V} {v' : V'} → RV t v v' → LikePlace t (variable v) (variable v')
      like_element : {t u : T} {i : I} {i' : I'} {p : PlaceTree V I M} {p' : PlaceTree V' I' M'} {e : ExprTree V I M} {e' : ExprTree V' I' M'} → RI t u i i' → LikePlace t p p' → LikeExpr e e' → LikePlace u (element_place i p e) (element_place i' p' e')
      like_member : {t u : T} {a : M} {a' : M'} {p : PlaceTree V I M} {p' : PlaceTree V' I' M'} → RM t u a a' → LikePlace t p p' → LikePlace u (member_place a p) (member_place a' p')

    pub data LikeExpr : ExprTree V I M → ExprTree V' I' M' → Type 0 where
      like_constant : {k : IntKind} {v : ℤ} → LikeExpr (constant k v) (constant k v)
      like_reading : {t : T} {p : PlaceTree V I M} {p' : PlaceTree V' I' M'} → N t → LikePlace t p p' → LikeExpr (reading p) (reading p')
      like_unary : {op : UnaryOp} {k : IntKind} {e : ExprTree V I M} {e' : ExprTree V' I' M'} → LikeExpr e e' → LikeExpr (unary_operation op k e) (unary_operation op k e')
      like_conversion : {k : IntKind} {e : ExprTree V I M} {e' : ExprTree V' I' M'} → LikeExpr e e' → LikeExpr (conversion k e) (conversion k e')
      like_stepping : {op : StepOp} {t : T} {p : PlaceTree V I M} {p' : PlaceTree V' I' M'} → N t → LikePlace t p p' → LikeExpr (stepping op p) (stepping op p')
      like_operation : {op : BinOp} {k : IntKind} {a b : ExprTree V I M} {a' b' : ExprTree V' I' M'} → LikeExpr a a' → LikeExpr b b' → LikeExpr (operation op k a b) (operation op k a' b')
      like_conjunction : {a b : ExprTree V I M} {a' b' : ExprTree V' I' M'} → LikeExpr a a' → LikeExpr b b' → LikeExpr (conjunction a b) (conjunction a' b')
      like_disjunction : {a b : ExprTree V I M} {a' b' : ExprTree V' I' M'} → LikeExpr a a' → LikeExpr b b' → LikeExpr (disjunction a b) (disjunction a' b')
      like_choice : {k : IntKind} {c a b : ExprTree V I M} {c' a' b' : ExprTree V' I' M'} → LikeExpr c c' → LikeExpr a a' → LikeExpr b b' → LikeExpr (choice k c a b) (choice k c' a' b')
      like_assignment : {t : T} {p : PlaceTree V I M} {p' : PlaceTree V' I' M'} {e : ExprTree V I M} {e' : ExprTree V' I' M'} → N t → LikePlace t p p' → LikeExpr e e' → LikeExpr (assignment p e) (assignment p' e')
      like_update : {op : BinOp} {k : IntKind} {t : T} {p : PlaceTree V I M} {p' : PlaceTree V' I' M'} {e : ExprTree V I M} {e' : ExprTree V' I' M'} → N t → LikePlace t p p' → LikeExpr e e' → LikeExpr (update p op k e) (update p' op k e')
      like_input : LikeExpr input_byte input_byte
      like_output : {e : ExprTree V I M} {e' : ExprTree V' I' M'} → LikeExpr e e' → LikeExpr (output_byte e) (output_byte e')
      like_formatted : {pieces : List Piece} {es : ExprTrees V I M} {es' : ExprTrees V' I' M'} → LikeRow es es' → LikeExpr (formatted pieces es) (formatted pieces es')

    pub data LikeRow : ExprTrees V I M → ExprTrees V' I' M' → Type 0 where
      like_none : LikeRow no_expr no_expr
      like_more : {e : ExprTree V I M} {e' : ExprTree V' I' M'} {rest : ExprTrees V I M} {rest' : ExprTrees V' I' M'} → LikeExpr e e' → LikeRow rest rest' → LikeRow (more_exprs e rest) (more_exprs e' rest')

-- memories that are alike
pub record LikeMemory {T V I M L C V' I' M' L' C' : Type 0} (N : T → Type 0) (RV : T → V → V' → Type 0) (RI : T → T → I → I' → Type 0) (RM : T → T → M → M' → Type 0) (RL : T → L → L' → Type 0) (RC : C → C' → Type 0) (m : Memory V I M L C) (m' : Memory V' I' M' L' C') : Type 0 where
  pub stand : (t : T) (v : V) (v' : V') (c : C) (c' : C') → RV t v v' → RC c c' → LikeFound (RL t) (m.stand v c) (m'.stand v' c')
  pub element : (t u : T) (i : I) (i' : I') (l : L) (l' : L') (n : ℕ) → RI t u i i' → RL t l l' → n < m.bound l → RL u (m.element i l n) (m'.element i' l' n)
  pub member : (t u : T) (a : M) (a' : M') (l : L) (l' : L') → RM t u a a' → RL t l l' → RL u (m.member a l) (m'.member a' l')
  pub bound : (t : T) (l : L) (l' : L') → RL t l l' → m.bound l ≡ m'.bound l'
  pub kind : (t : T) (l : L) (l' : L') → N t → RL t l l' → m.kind l ≡ m'.kind l'
  pub read : (t : T) (l : L) (l' : L') (c : C) (c' : C') → N t → RL t l l' → RC c c' → m.read l c ≡ m'.read l' c'
  pub write : (t : T) (l : L) (l' : L') (c : C) (c' : C') (v : ℤ) → N t → RL t l l' → RC c c' → RC (m.write l v c) (m'.write l' v c')

-- one after another
pub then_like : {X X' Y Y' S S' : Type 0} {RX : X → X' → Type 0} {RY : Y → Y' → Type 0} {RS : S → S' → Type 0} {a : Answer X S} {a' : Answer X' S'} {f : X → S → Answer Y S} {f' : X' → S' → Answer Y' S'} → LikeAnswer RX RS a a' → ((x : X) (x' : X') (s : S) (s' : S') → RX x x' → RS s s' → LikeAnswer RY RS (f x s) (f' x' s')) → LikeAnswer RY RS (then_do a f) (then_do a' f')
then_like (both_values {x = x} {x' = x'} {s = s} {s' = s'} e r) k = k x x' s s' e r
then_like (both_trapped r) k = both_trapped r

-- the same where both have one value
pub then_same : {X Y Y' S S' : Type 0} {RY : Y → Y' → Type 0} {RS : S → S' → Type 0} {a : Answer X S} {a' : Answer X S'} {f : X → S → Answer Y S} {f' : X → S' → Answer Y' S'} → LikeAnswer (λ (x y : X). x ≡ y) RS a a' → ((x : X) (s : S) (s' : S') → RS s s' → LikeAnswer RY RS (f x s) (f' x s')) → LikeAnswer RY RS (then_do a f) (then_do a' f')
then_same {Y' = Y'} {S' = S'} {RY = RY} {RS = RS} {f = f} {f' = f'} (both_values {x = x} {x' = x'} {s = s} {s' = s'} e r) k = subst (λ y. LikeAnswer RY RS (f x s) (f' y s')) e (k x s s' r)
then_same (both_trapped r) k = both_trapped r

pub same_given : {S S' : Type 0} {RS : S → S' → Type 0} (g : Result ℤ Trap) (s : S) (s' : S') → RS s s' → LikeAnswer (λ (x y : ℤ). x ≡ y) RS (given g s) (given g s')
same_given (Ok v) s s' r = both_values refl r
same_given (Err t) s s' r = both_trapped r

pub same_found : {X S S' : Type 0} {RS : S → S' → Type 0} (g g' : Option X) (s : S) (s' : S') → g ≡ g' → RS s s' → LikeAnswer (λ (x y : X). x ≡ y) RS (found g s) (found g' s')
same_found {X = X} {S' = S'} {RS = RS} g g' s s' e r = subst (λ (o : Option X). LikeAnswer (λ (x y : X). x ≡ y) RS (found g s) (found o s')) e (at g)
  where
    at : (g : Option X) → LikeAnswer (λ (x y : X). x ≡ y) RS (found g s) (found g s')
    at (Some v) = both_values refl r
    at None = both_trapped r

pub like_found : {L L' S S' : Type 0} {RL : L → L' → Type 0} {RS : S → S' → Type 0} {g : Option L} {g' : Option L'} (s : S) (s' : S') → LikeFound RL g g' → RS s s' → LikeAnswer RL RS (found g s) (found g' s')
like_found s s' (both_found l) r = both_values l r
like_found s s' both_missing r = both_trapped r

-- a choice by one test
pub like_if : {X X' S S' : Type 0} {RX : X → X' → Type 0} {RS : S → S' → Type 0} (b : Bool) {p q : Answer X S} {p' q' : Answer X' S'} → LikeAnswer RX RS p p' → LikeAnswer RX RS q q' → LikeAnswer RX RS (if b then p else q) (if b then p' else q')
like_if true h k = h
like_if false h k = k

module _ {C C' : Type 0} {RC : C → C' → Type 0} where
  pub like_get_byte : (s : State C) (s' : State C') → LikeState RC s s' → LikeAnswer (λ (x y : ℤ). x ≡ y) (LikeState RC) (get_byte s s.input) (get_byte s' s'.input)
  like_get_byte s s' r = subst (λ (i : List ℕ). LikeAnswer (λ (x y : ℤ). x ≡ y) (LikeState RC) (get_byte s s.input) (get_byte s' i)) r.input (at s.input)
    where
      at : (i : List ℕ) → LikeAnswer (λ (x y : ℤ). x ≡ y) (LikeState RC) (get_byte s i) (get_byte s' i)
      at [] = both_values refl r
      at (b ∷ rest) = both_values refl (record { input = refl; output = r.output; cells = r.cells })

  pub like_put_byte : (b : ℕ) (s : State C) (s' : State C') → LikeState RC s s' → LikeAnswer (λ (x y : Unit {0}). x ≡ y) (LikeState RC) (put_byte b s) (put_byte b s')
  like_put_byte b s s' r =
      subst (λ (o : List ℕ). LikeAnswer (λ (x y : Unit {0}). x ≡ y) (LikeState RC) (put_byte b s) (if nat_lt (length o) most_output then value tt (record s' { output = o ++ b ∷ [] }) else trapped Flood s')) r.output
      (like_if (nat_lt (length s.output) most_output) (both_values refl (record { input = r.input; output = refl; cells = r.cells })) (both_trapped r))

  pub like_put_bytes : (bs : List ℕ) (s : State C) (s' : State C') → LikeState RC s s' → LikeAnswer (λ (x y : Unit {0}). x ≡ y) (LikeState RC) (put_bytes bs s) (put_bytes bs s')
  like_put_bytes [] s s' r = both_values refl r
  like_put_bytes (b ∷ bs) s s' r = then_same (like_put_byte b s s' r) (λ u x x' q. like_put_bytes bs x x' q)

-- an index is below the count of elements
index_below : (v : ℤ) (n : ℕ) → is_index v n ≡ true → unsigned_abs v < n
index_below (pos a) n e = grind arith
index_below (negsuc a) n e = cc

module _ {T V I M L C V' I' M' L' C' : Type 0} {N : T → Type 0} {RV : T → V → V' → Type 0} {RI : T → T → I → I' → Type 0} {RM : T → T → M → M' → Type 0} {RL : T → L → L' → Type 0} {RC : C → C' → Type 0} {m : Memory V I M L C} {m' : Memory V' I' M' L' C'} (alike : LikeMemory N RV RI RM RL RC m m') where
  pub like_fetch : (t : T) (l : L) (l' : L') (s : State C) (s' : State C') → N t → RL t l l' → LikeState RC s s' → LikeAnswer (λ (x y : ℤ). x ≡ y) (LikeState RC) (fetch m l s) (fetch m' l' s')
  like_fetch t l l' s s' n h r =
      then_same (same_found (m.read l s.cells) (m'.read l' s'.cells) s s' (alike.read t l l' s.cells s'.cells n h r.cells) r)
      (λ v u u' q. both_values (ap (λ k. convert k v) (alike.kind t l l' n h)) q)

  pub like_store : (t : T) (l : L) (l' : L') (v : ℤ) (s : State C) (s' : State C') → N t → RL t l l' → LikeState RC s s' → LikeAnswer (λ (x y : ℤ). x ≡ y) (LikeState RC) (store m l v s) (store m' l' v s')
  like_store t l l' v s s' n h r =
      subst (λ (k : IntKind). LikeAnswer (λ (x y : ℤ). x ≡ y) (LikeState RC) (store m l v s) (value (convert k v) (record s' { cells = m'.write l' (convert k v) s'.cells }))) (alike.kind t l l' n h)
      (both_values refl (record { input = r.input; output = r.output; cells = alike.write t l l' s.cells s'.cells (convert (m.kind l) v) n h r.cells }))

  pub like_step : (t : T) (op : StepOp) (l : L) (l' : L') (s : State C) (s' : State C') → N t → RL t l l' → LikeState RC s s' → LikeAnswer (λ (x y : ℤ). x ≡ y) (LikeState RC) (step m op l s) (step m' op l' s')
  like_step t op l l' s s' n h r =
      subst (λ (k : IntKind). LikeAnswer (λ (x y : ℤ). x ≡ y) (LikeState RC) (step m op l s) (then_do (fetch m' l' s') (λ before u. then_do (computed Add k before (step_by op) u) (λ v w. then_do (store m' l' v w) (λ after x. value (step_value op before after) x))))) (alike.kind t l l' n h)
      (then_same (like_fetch t l l' s s' n h r) (λ v u u' q. then_same (same_given (binary Add (promote (m.kind l)) (convert (promote (m.kind l)) v) (right_operand Add (promote (m.kind l)) (step_by op))) u u' q) (λ w x x' p. then_same (like_store t l l' w x x' n h p) (λ y z z' o. both_values {x = step_value op v y} refl o))))

  pub like_indexed : (t u : T) (i : I) (i' : I') (l : L) (l' : L') (v : ℤ) (s : State C) (s' : State C') → RI t u i i' → RL t l l' → LikeState RC s s' → LikeAnswer (RL u) (LikeState RC) (indexed m i l v s) (indexed m' i' l' v s')
  like_indexed t u i i' l l' v s s' h g r =
      subst (λ (n : ℕ). LikeAnswer (RL u) (LikeState RC) (indexed m i l v s) (if is_index v n then value (m'.element i' l' (unsigned_abs v)) s' else trapped Bounds s')) (alike.bound t l l' g)
      (by_test (is_index v (m.bound l)) refl)
    where
      by_test : (b : Bool) → is_index v (m.bound l) ≡ b
          → LikeAnswer (RL u) (LikeState RC) (if b then value (m.element i l (unsigned_abs v)) s else trapped Bounds s) (if b then value (m'.element i' l' (unsigned_abs v)) s' else trapped Bounds s')
      by_test true e = both_values (alike.element t u i i' l l' (unsigned_abs v) h g (index_below v (m.bound l) e)) r
      by_test false e = both_trapped r

  mutual
    pub like_locate : (t : T) (p : PlaceTree V I M) (p' : PlaceTree V' I' M') (s : State C) (s' : State C') → LikePlace N RV RI RM t p p' → LikeState RC s s' → LikeAnswer (RL t) (LikeState RC) (locate m p s) (locate m' p' s')
    like_locate t p p' s s' (like_variable {v = v} {v' = v'} a) r = like_found s s' (alike.stand t v v' s.cells s'.cells a r.cells) r
    like_locate t p p' s s' (like_element {t = w} {i = i} {i' = i'} {p = q} {p' = q'} {e = e} {e' = e'} a h g) r =
        then_like (like_locate w q q' s s' h r) (λ l l' x x' at b. then_same (like_eval e e' x x' g b) (λ v y y' z. like_indexed w t i i' l l' v y y' a at z))
    like_locate t p p' s s' (like_member {t = w} {a = b} {a' = b'} {p = q} {p' = q'} a h) r =
        then_like (like_locate w q q' s s' h r) (λ l l' x x' at z. both_values (alike.member w t b b' l l' a at) z)

    pub like_eval : (e : ExprTree V I M) (e' : ExprTree V' I' M') (s : State C) (s' : State C') → LikeExpr N RV RI RM e e' → LikeState RC s s' → LikeAnswer (λ (x y : ℤ). x ≡ y) (LikeState RC) (eval m e s) (eval m' e' s')
    like_eval e e' s s' like_constant r = both_values refl r
    like_eval e e' s s' (like_reading {t = t} {p = p} {p' = p'} n h) r = then_like (like_locate t p p' s s' h r) (λ l l' x x' g b. like_fetch t l l' x x' n g b)
    like_eval e e' s s' (like_unary {op = op} {k = k} {e = a} {e' = a'} h) r = then_same (like_eval a a' s s' h r) (λ v x x' b. same_given (unary op (promote k) (convert (promote k) v)) x x' b)
    like_eval e e' s s' (like_conversion {k = k} {e = a} {e' = a'} h) r = then_same (like_eval a a' s s' h r) (λ v x x' b. both_values refl b)
    like_eval e e' s s' (like_stepping {op = op} {t = t} {p = p} {p' = p'} n h) r = then_like (like_locate t p p' s s' h r) (λ l l' x x' g b. like_step t op l l' x x' n g b)
    like_eval e e' s s' (like_operation {op = op} {k = k} {a = a} {b = b} {a' = a'} {b' = b'} h g) r =
        then_same (like_eval a a' s s' h r) (λ v x x' q. then_same (like_eval b b' x x' g q) (λ w y y' z. same_given (binary op (promote k) (convert (promote k) v) (right_operand op (promote k) w)) y y' z))
    like_eval e e' s s' (like_conjunction {a = a} {b = b} {a' = a'} {b' = b'} h g) r =
        then_same (like_eval a a' s s' h r) (λ v x x' q. like_if (int_eq v (pos 0)) (both_values refl q) (then_same (like_eval b b' x x' g q) (λ w y y' z. both_values refl z)))
    like_eval e e' s s' (like_disjunction {a = a} {b = b} {a' = a'} {b' = b'} h g) r =
        then_same (like_eval a a' s s' h r) (λ v x x' q. like_if (int_eq v (pos 0)) (then_same (like_eval b b' x x' g q) (λ w y y' z. both_values refl z)) (both_values refl q))
    like_eval e e' s s' (like_choice {k = k} {c = c} {a = a} {b = b} {c' = c'} {a' = a'} {b' = b'} i h g) r =
        then_same (like_eval c c' s s' i r) (λ v x x' q. then_same (like_if (int_eq v (pos 0)) (like_eval b b' x x' g q) (like_eval a a' x x' h q)) (λ w y y' z. both_values refl z))
    like_eval e e' s s' (like_assignment {t = t} {p = p} {p' = p'} {e = a} {e' = a'} n h g) r =
        then_like (like_locate t p p' s s' h r) (λ l l' x x' i q. then_same (like_eval a a' x x' g q) (λ v y y' z. like_store t l l' v y y' n i z))
    like_eval e e' s s' (like_update {op = op} {k = k} {t = t} {p = p} {p' = p'} {e = a} {e' = a'} n h g) r =
        then_like (like_locate t p p' s s' h r)
        (λ l l' x x' i q. then_same (like_fetch t l l' x x' n i q) (λ v y y' z. then_same (like_eval a a' y y' g z) (λ w u u' o. then_same (same_given (binary op (promote k) (convert (promote k) v) (right_operand op (promote k) w)) u u' o) (λ c d d' f. like_store t l l' c d d' n i f))))
    like_eval e e' s s' like_input r = like_get_byte s s' r
    like_eval e e' s s' (like_output {e = a} {e' = a'} h) r = then_same (like_eval a a' s s' h r) (λ v x x' q. then_same (like_put_byte (low_byte v) x x' q) (λ u y y' z. both_values refl z))
    like_eval e e' s s' (like_formatted {pieces = pieces} {es = es} {es' = es'} h) r =
        then_same (like_all es es' s s' h r) (λ vs x x' q. then_same (like_put_bytes (text_of pieces vs) x x' q) (λ u y y' z. both_values {x = pos (length (text_of pieces vs))} refl z))

    pub like_all : (es : ExprTrees V I M) (es' : ExprTrees V' I' M') (s : State C) (s' : State C') → LikeRow N RV RI RM es es' → LikeState RC s s' → LikeAnswer (λ (x y : List ℤ). x ≡ y) (LikeState RC) (eval_all m es s) (eval_all m' es' s')
    like_all es es' s s' like_none r = both_values refl r
    like_all es es' s s' (like_more {e = e} {e' = e'} {rest = rest} {rest' = rest'} h g) r =
        then_same (like_eval e e' s s' h r) (λ v x x' q. then_same (like_all rest rest' x x' g q) (λ vs y y' z. both_values refl z))
