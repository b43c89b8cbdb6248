-- What a statement sees is what its function has.
use Rattle.std.proofs.Common.{◌≡◌, ◌∙◌, refl, sym, ap, subst, arith, ℕ, ◌+◌, ◌≤◌, ◌<◌, List, [], ◌∷◌, ◌++◌, map, find, append_assoc, count_by}
use Rattle.std.proofs.Common.{Option, Some, None, Bool, true, false, IsTrue, nat_eq, bytes_eq, ◌&&◌, cond, if◌then◌else◌, option_map}
use Rattle.std.proofs.lemmas.Bool.Decides.{nat_tests}
use Rattle.std.proofs.lemmas.Slice.Eq.{bytes_eq-Decides}
use Rattle.std.proofs.lemmas.List.{append-nil}
use Rattle.std.proofs.lemmas.List.Sums.{sum_by-cons}
use Rattle.csub_tree.specs.Declarations.{Declarator}
use Rattle.csub_tree.specs.Statements.{Stmt, Perhaps, Stmts, Line, Declared as DeclaredLine, Eval, Empty, Block, If, While, Do, For, Switch}
use Rattle.csub_tree.specs.Statements.{Case, Default, Break, Continue, Goto, Label, Return, NoStmt, OneStmt, NoStmts, MoreStmts}
use Rattle.csub_objects.specs.Types.{Name, TypeTree, IsSized}
use Rattle.csub_semantics.specs.Types.{GlobalTree}
use Rattle.csub_semantics.specs.Syntax.{LocalTree, FunctionTree, ProgramTree}
use Rattle.csub_scopes.specs.Scopes.{Scope, Declared, Meaning, global_object, local_object, enum_constant, a_function, untyped, find as find_name}
use Rattle.csub_rules.specs.Sizes.{is_sized}
use Rattle.csub_rules.specs.Declarators.{declared_type, if_sized, object_type, base_type}
use Rattle.csub_rules.specs.BrokenSlot.{FineSlot}
use Rattle.csub_rules.specs.BrokenLocal.{FineVar, FineVars}
use Rattle.csub_rules.specs.FineStmt.{FineStmt, FinePerhaps, FineLines}
use Rattle.csub_rules.specs.StmtFaults.{Surroundings, in_loop, in_switch, in_first_part}
use Rattle.csub_rules.specs.Here.{Here, entering, leaving, declaring, number_of}
use Rattle.csub_rules.specs.Locals.{past_var, past_vars}
use Rattle.csub_rules.specs.Past.{past, past_perhaps, past_lines}
use Rattle.csub_rules.proofs.LawsSizes.{is_sized-Decides}
use Rattle.csub_rules.specs.Heads.{sure_type}
use Rattle.csub_resolution.specs.Values.{Defined}
use Rattle.csub_resolution.specs.Lines.{vars_locals, locals, locals_perhaps, locals_lines}
use Rattle.csub_validity.specs.Valid.{type_in, parameter_object, objects_of}
use Rattle.program_validity.proofs.Agreeing.{IsKnown, IsMeant}
use Rattle.program_validity.proofs.Calls.{CanCall, IsCalledAs}
use Rattle.program_validity.proofs.Parts.{Stands}

-- ---- objects of a list

abbrev Is : Name → ℕ → LocalTree → Bool
Is x n = λ (o : LocalTree). bytes_eq o.name x && nat_eq o.number n

abbrev found : Option LocalTree → Option TypeTree
found o = option_map (λ (o : LocalTree). o.ctype) o

left_step : (b : Bool) (o : LocalTree) (p q : Option LocalTree) (t : TypeTree) → (found p ≡ Some t → found q ≡ Some t) → found (cond b (Some o) p) ≡ Some t
    → found (cond b (Some o) q) ≡ Some t
left_step true o p q t rest h = h
left_step false o p q t rest h = rest h

pub type_left : (os more : List LocalTree) (x : Name) (n : ℕ) (t : TypeTree) → type_in os x n ≡ Some t → type_in (os ++ more) x n ≡ Some t
type_left [] more x n t h = absurd (cc)
type_left (o ∷ os) more x n t h = left_step (Is x n o) o (find (Is x n) os) (find (Is x n) (os ++ more)) t (λ e. type_left os more x n t e) h

new_step : (b : Bool) (o : LocalTree) (p q : Option LocalTree) (t : TypeTree) → (found p ≡ None → found q ≡ Some t) → found (cond b (Some o) p) ≡ None
    → found (cond b (Some o) q) ≡ Some t
new_step true o p q t rest h = absurd (cc)
new_step false o p q t rest h = rest h

both_true : (a b : Bool) → IsTrue a → IsTrue b → IsTrue (a && b)
both_true true true p q = refl
both_true true false p q = absurd (cc)
both_true false b p q = absurd (cc)

same_number : (n : ℕ) → IsTrue (nat_eq n n)
same_number n = grind (arith, nat_tests)

here_step : (b : Bool) (o : LocalTree) (p : Option LocalTree) → IsTrue b → found (cond b (Some o) p) ≡ Some o.ctype
here_step true o p h = refl
here_step false o p h = absurd (cc)

-- what isn't there is where it is put
pub type_new : (os more : List LocalTree) (o : LocalTree) → type_in os o.name o.number ≡ None → type_in (os ++ o ∷ more) o.name o.number ≡ Some o.ctype
type_new [] more o h =
    here_step (Is o.name o.number o) o (find (Is o.name o.number) more)
    (both_true (bytes_eq o.name o.name) (nat_eq o.number o.number) ((bytes_eq-Decides o.name o.name).1 refl) (same_number o.number))
type_new (p ∷ os) more o h =
    new_step (Is o.name o.number p) p (find (Is o.name o.number) os) (find (Is o.name o.number) (os ++ o ∷ more)) o.ctype (λ e. type_new os more o e) h

none_step : (b : Bool) (o : LocalTree) (p q : Option LocalTree) → (found p ≡ None → found q ≡ None) → found (cond b (Some o) p) ≡ None → found q ≡ None
none_step true o p q rest h = absurd (cc)
none_step false o p q rest h = rest h

-- what isn't in two lists isn't in the second
pub none_right : (os more : List LocalTree) (x : Name) (n : ℕ) → type_in (os ++ more) x n ≡ None → type_in more x n ≡ None
none_right [] more x n h = h
none_right (o ∷ os) more x n h = none_step (Is x n o) o (find (Is x n) (os ++ more)) (find (Is x n) more) (λ e. none_right os more x n e) h

push_step : (b : Bool) (o : LocalTree) (p q : Option LocalTree) → (found p ≡ None → found q ≡ None) → found (cond b (Some o) p) ≡ None
    → found (cond b (Some o) q) ≡ None
push_step true o p q rest h = absurd (cc)
push_step false o p q rest h = rest h

one_step : (b : Bool) (o : LocalTree) → b ≡ false → found (cond b (Some o) None) ≡ None
one_step true o h = absurd (cc)
one_step false o h = refl

none_push : (os : List LocalTree) (o : LocalTree) (x : Name) (n : ℕ) → type_in os x n ≡ None → Is x n o ≡ false → type_in (os ++ o ∷ []) x n ≡ None
none_push [] o x n h e = one_step (Is x n o) o e
none_push (p ∷ os) o x n h e = push_step (Is x n p) p (find (Is x n) os) (find (Is x n) (os ++ o ∷ [])) (λ k. none_push os o x n k e) h

-- ---- what is seen where some objects of a function are declared

pub record Sees (P : ProgramTree) (defined : List Defined) (os : List LocalTree) (here : Here) : Type 0 where
  pub known : (x : Name) → IsKnown P.globals os x (find_name x here.scope.names)
  pub bounded : (x : Name) (n : ℕ) → number_of x here.before ≤ n → type_in os x n ≡ None
  pub can : CanCall P defined here.scope

meant_more : (globals : List GlobalTree) (os more : List LocalTree) (x : Name) (m : Meaning) → IsMeant globals os x m → IsMeant globals (os ++ more) x m
meant_more globals os more x (global_object t) h = h
meant_more globals os more x (local_object n t) h = type_left os more x n t h
meant_more globals os more x (enum_constant v) h = h
meant_more globals os more x (a_function params result) h = h
meant_more globals os more x untyped h = h

pub known_more : (globals : List GlobalTree) (os more : List LocalTree) (x : Name) (d : Option Declared) → IsKnown globals os x d
    → IsKnown globals (os ++ more) x d
known_more globals os more x None h = h
known_more globals os more x (Some d) h = meant_more globals os more x d.means h

other_number : (m n : ℕ) → m < n → nat_eq m n ≡ false
other_number m n h = grind (arith, nat_tests)

abbrev weight : Bool → ℕ
weight b = cond b 1 0

weight_true : (b : Bool) → b ≡ true → weight b ≡ 1
weight_true true h = refl
weight_true false h = absurd (cc)

weight_false : (b : Bool) → b ≡ false → weight b ≡ 0
weight_false true h = absurd (cc)
weight_false false h = refl

count_more : (x y : Name) (before : List Name) → number_of y (x ∷ before) ≡ weight (bytes_eq x y) + number_of y before
count_more x y before =
    let e : count_by (λ z. bytes_eq z y) (x ∷ before) ≡ weight (bytes_eq x y) + count_by (λ z. bytes_eq z y) before =
    sum_by-cons (λ z. weight (bytes_eq z y)) x before in
    omega arith

-- the number of a name behind one more
pub number_same : (x y : Name) (before : List Name) → bytes_eq x y ≡ true → number_of y (x ∷ before) ≡ number_of y before + 1
number_same x y before h =
    let e = count_more x y before in
    let one = weight_true (bytes_eq x y) h in
    omega arith

pub number_other : (x y : Name) (before : List Name) → bytes_eq x y ≡ false → number_of y (x ∷ before) ≡ number_of y before
number_other x y before h =
    let e = count_more x y before in
    let none = weight_false (bytes_eq x y) h in
    omega arith

least : (x y : Name) (before : List Name) (b : Bool) → bytes_eq x y ≡ b → number_of y before ≤ number_of y (x ∷ before)
least x y before true h = let e = number_same x y before h in omega arith
least x y before false h = let e = number_other x y before h in omega arith

module _ (P : ProgramTree) (defined : List Defined) where
  pub sees_leaving : (os more : List LocalTree) (here inner : Here) → Sees P defined os here → Sees P defined (os ++ more) inner
      → Sees P defined (os ++ more) (leaving here inner)
  sees_leaving os more here inner h i =
      record { known = λ x. known_more P.globals os more x (find_name x here.scope.names) (h.known x); bounded = i.bounded; can = h.can }

  pub sees_entering : (os : List LocalTree) (here : Here) → Sees P defined os here → Sees P defined os (entering here)
  sees_entering os here h = record { known = h.known; bounded = h.bounded; can = h.can }

  -- one more object
  pub sees_declared : (os : List LocalTree) (here : Here) (x : Name) (o : Option TypeTree) (t : TypeTree) → o ≡ Some t → Sees P defined os here
      → Sees P defined (os ++ record { name = x; number = number_of x here.before; ctype = t } ∷ []) (declaring here x o)
  sees_declared os here x None t e h = absurd (cc)
  sees_declared os here x (Some u) t e h =
      record {
        known = λ y. known y (bytes_eq x y) refl;
        bounded = λ y n below. bounded y n (bytes_eq x y) refl below;
        can = record { known = λ y. called y (bytes_eq x y) };
      }
    where
      new : LocalTree
      new = record { name = x; number = number_of x here.before; ctype = t }

      entry : Declared
      entry = record { name = x; depth = here.depth; means = local_object (number_of x here.before) u }

      known : (y : Name) (b : Bool) → bytes_eq x y ≡ b
          → IsKnown P.globals (os ++ new ∷ []) y (if b then Some entry else find_name y here.scope.names)
      known y true q =
          let named : x ≡ y = (bytes_eq-Decides x y).0 q in
          let typed : Some t ≡ Some u = sym e in
          subst (λ z. type_in (os ++ new ∷ []) z (number_of x here.before) ≡ Some u) named
          (type_new os [] new (h.bounded x (number_of x here.before) (omega arith)) ∙ typed)
      known y false q = known_more P.globals os (new ∷ []) y (find_name y here.scope.names) (h.known y)

      apart : (y : Name) (n : ℕ) (b : Bool) → bytes_eq x y ≡ b → number_of y (x ∷ here.before) ≤ n → b && nat_eq (number_of x here.before) n ≡ false
      apart y n false q below = refl
      apart y n true q below =
          let named : x ≡ y = (bytes_eq-Decides x y).0 q in
          let more = number_same x y here.before q in
          let mine : number_of x here.before ≡ number_of y here.before = ap (λ z. number_of z here.before) named in
          let less : number_of x here.before < n = omega arith in
          other_number (number_of x here.before) n less

      bounded : (y : Name) (n : ℕ) (b : Bool) → bytes_eq x y ≡ b → number_of y (x ∷ here.before) ≤ n → type_in (os ++ new ∷ []) y n ≡ None
      bounded y n b q below =
          let low = least x y here.before b q in
          none_push os new y n (h.bounded y n (omega arith))
          (ap (λ c. c && nat_eq (number_of x here.before) n) q ∙ apart y n b q below)

      called : (y : Name) (b : Bool) → IsCalledAs P defined y (if b then Some entry else find_name y here.scope.names)
      called y true = tt
      called y false = h.can.known y

-- the type of a declared object
sized_type : (o : Option TypeTree) (t : TypeTree) → o ≡ Some t → IsSized t → if_sized o ≡ Some t
sized_type None t e s = absurd (cc)
sized_type (Some u) t e s =
    let same : u ≡ t = cc in
    let p : IsTrue (is_sized u) = (is_sized-Decides u).1 (subst (λ x. IsSized x) (sym same) s) in
    rw p (ap Some same)

pub slot_type : (scope : Scope) (base : Option TypeTree) (d : Declarator) → FineSlot scope base d.dims
    → object_type scope base d.dims ≡ Some (sure_type (object_type scope base d.dims))
slot_type scope base d s =
    let e : object_type scope base d.dims ≡ Some s.ctype = sized_type (declared_type scope base d.dims) s.ctype s.is s.sized in
    e ∙ sym (ap (λ o. Some (sure_type o)) e)

-- ---- behind statements

module _ (P : ProgramTree) (defined : List Defined) where
  pub sees_var : (os : List LocalTree) (here : Here) (base : Option TypeTree) (d : Declarator) → FineVar here base d → Sees P defined os here
      → Sees P defined
      (os ++ record { name = d.name.text; number = number_of d.name.text here.before; ctype = sure_type (object_type here.scope base d.dims) } ∷ [])
      (past_var here base d)
  sees_var os here base d f h =
      sees_declared P defined os here d.name.text (object_type here.scope base d.dims) (sure_type (object_type here.scope base d.dims))
      (slot_type here.scope base d f.0) h

  regroup : (os a b : List LocalTree) (here : Here) → Sees P defined ((os ++ a) ++ b) here → Sees P defined (os ++ (a ++ b)) here
  regroup os a b here h = subst (λ ls. Sees P defined ls here) (append_assoc os a b) h

  nothing : (os : List LocalTree) (here : Here) → Sees P defined os here → Sees P defined (os ++ []) here
  nothing os here h = subst (λ ls. Sees P defined ls here) (sym (append-nil os)) h

  pub sees_vars : (os : List LocalTree) (here : Here) (base : Option TypeTree) (ds : List Declarator) → FineVars here base ds → Sees P defined os here
      → Sees P defined (os ++ vars_locals here base ds) (past_vars here base ds)
  sees_vars os here base [] f h = nothing os here h
  sees_vars os here base (d ∷ ds) f h =
      regroup os (record { name = d.name.text; number = number_of d.name.text here.before; ctype = sure_type (object_type here.scope base d.dims) } ∷ [])
      (vars_locals (past_var here base d) base ds) _
      (sees_vars
      (os ++ record { name = d.name.text; number = number_of d.name.text here.before; ctype = sure_type (object_type here.scope base d.dims) } ∷ [])
      (past_var here base d) base ds f.1 (sees_var os here base d f.0 h))

  mutual
    pub sees_past : (os : List LocalTree) (s : Surroundings) (here : Here) (a : Stmt) → FineStmt s here a → Sees P defined os here
        → Sees P defined (os ++ locals here a) (past here a)
    sees_past os s here (Line (DeclaredLine d) sp) f h = sees_vars os here (base_type here.scope d.base) d.vars f.1 h
    sees_past os s here (Line (Eval e) sp) f h = nothing os here h
    sees_past os s here (Line Empty sp) f h = nothing os here h
    sees_past os s here (Line (Block ss) sp) f h =
        sees_leaving P defined os (locals_lines (entering here) ss) here _ h (sees_lines os s (entering here) ss f (sees_entering P defined os here h))
    sees_past os s here (Line (If e a b) sp) f h =
        regroup os (locals here a) (locals_perhaps (past here a) b) _
        (sees_perhaps (os ++ locals here a) s (past here a) b f.2 (sees_past os s here a f.1 h))
    sees_past os s here (Line (While e a) sp) f h = sees_past os (in_loop s) here a f.1 h
    sees_past os s here (Line (Do a e) sp) f h = sees_past os (in_loop s) here a f.1 h
    sees_past os s here (Line (For b e g a) sp) f h =
        let first = sees_perhaps os (in_first_part s) (entering here) b f.0 (sees_entering P defined os here h) in
        let inside = sees_past (os ++ locals_perhaps (entering here) b) (in_loop s) (past_perhaps (entering here) b) a f.3 first in
        sees_leaving P defined os (locals_perhaps (entering here) b ++ locals (past_perhaps (entering here) b) a) here _ h
        (regroup os (locals_perhaps (entering here) b) (locals (past_perhaps (entering here) b) a) _ inside)
    sees_past os s here (Line (Switch e ss) sp) f h =
        sees_leaving P defined os (locals_lines (entering here) ss) here _ h
        (sees_lines os (in_switch s) (entering here) ss f.1 (sees_entering P defined os here h))
    sees_past os s here (Line (Case e) sp) f h = nothing os here h
    sees_past os s here (Line Default sp) f h = nothing os here h
    sees_past os s here (Line Break sp) f h = nothing os here h
    sees_past os s here (Line Continue sp) f h = nothing os here h
    sees_past os s here (Line (Goto x) sp) f h = nothing os here h
    sees_past os s here (Line (Label x a) sp) f h = sees_past os s here a f.1 h
    sees_past os s here (Line (Return e) sp) f h = nothing os here h

    pub sees_perhaps : (os : List LocalTree) (s : Surroundings) (here : Here) (b : Perhaps) → FinePerhaps s here b → Sees P defined os here
        → Sees P defined (os ++ locals_perhaps here b) (past_perhaps here b)
    sees_perhaps os s here NoStmt f h = nothing os here h
    sees_perhaps os s here (OneStmt a) f h = sees_past os s here a f h

    pub sees_lines : (os : List LocalTree) (s : Surroundings) (here : Here) (ss : Stmts) → FineLines s here ss → Sees P defined os here
        → Sees P defined (os ++ locals_lines here ss) (past_lines here ss)
    sees_lines os s here NoStmts f h = nothing os here h
    sees_lines os s here (MoreStmts a rest) f h =
        regroup os (locals here a) (locals_lines (past here a) rest) _
        (sees_lines (os ++ locals here a) s (past here a) rest f.1 (sees_past os s here a f.0 h))

-- ---- what is seen in a function with all its objects

module _ (P : ProgramTree) (defined : List Defined) (f : FunctionTree) where
  -- some objects are declared before, these here, and others behind
  pub record Within (ls here : List LocalTree) : Type 0 where
    pub rest : List LocalTree
    pub is : f.locals ≡ ls ++ (here ++ rest)

  pub within_left : (ls a b : List LocalTree) → Within ls (a ++ b) → Within ls a
  within_left ls a b w = record { rest = b ++ w.rest; is = w.is ∙ ap (λ xs. ls ++ xs) (append_assoc a b w.rest) }

  pub within_right : (ls a b : List LocalTree) → Within ls (a ++ b) → Within (ls ++ a) b
  within_right ls a b w =
      record { rest = w.rest; is = w.is ∙ ap (λ xs. ls ++ xs) (append_assoc a b w.rest) ∙ sym (append_assoc ls a (b ++ w.rest)) }

  abbrev pub SeesIn : List LocalTree → Here → Type 0
  SeesIn ls here = Sees P defined (map parameter_object f.params ++ ls) here

  pub stands_in : (ls more : List LocalTree) (here : Here) → Within ls more → SeesIn ls here → Stands P f defined here.scope
  stands_in ls more here w h =
      record {
        agrees =
            record {
              known = λ x. subst (λ os. IsKnown P.globals os x (find_name x here.scope.names)) all
                  (known_more P.globals (map parameter_object f.params ++ ls) (more ++ w.rest) x (find_name x here.scope.names) (h.known x));
            };
        can = h.can;
      }
    where
      all : (map parameter_object f.params ++ ls) ++ (more ++ w.rest) ≡ objects_of f
      all = append_assoc (map parameter_object f.params) ls (more ++ w.rest) ∙ sym (ap (λ xs. map parameter_object f.params ++ xs) w.is)

  pub see_more : (ls a : List LocalTree) (here : Here) → Sees P defined ((map parameter_object f.params ++ ls) ++ a) here → SeesIn (ls ++ a) here
  see_more ls a here h = subst (λ os. Sees P defined os here) (append_assoc (map parameter_object f.params) ls a) h
