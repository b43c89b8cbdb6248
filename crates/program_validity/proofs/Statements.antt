-- Statements that break no rule are those of valid programs.
use Rattle.std.proofs.Common.{◌≡◌, ◌∙◌, refl, sym, ap, subst, arith, ℕ, ◌+◌, ◌≤◌, max, List, [], ◌∷◌, ◌++◌, length, map, inl, inr, All, append_assoc, ◌||◌, bytes_eq}
use Rattle.std.proofs.Common.{Option, Some, None, Bool, true, false, IsTrue, is_some, not}
use Rattle.std.specs.List.{list_any}
use Rattle.std.proofs.lemmas.Int.{ints}
use Rattle.std.proofs.lemmas.List.Elements.{All-nil, All-cons, All-append}
use Rattle.csub_text.specs.declared.span.Span.{Span}
use Rattle.csub_types.specs.declared.kind.IntKind.{IntKind}
use Rattle.csub_types.specs.declared.kind.IntKind.TheVariants.{Int}
use Rattle.csub_types.specs.Kinds.{promote}
use Rattle.csub_tree.specs.Expressions.{Expr}
use Rattle.csub_tree.specs.Declarations.{Init, Declarator, Declare}
use Rattle.csub_tree.specs.Statements.{Stmt, Perhaps, Stmts, Line, Declared, Eval, Empty, Block, If, While, Do, For, Switch as Switched}
use Rattle.csub_tree.specs.Statements.{Case, Default, Break, Continue, Goto, Label, Return, NoStmt, OneStmt, NoStmts, MoreStmts}
use Rattle.csub_objects.specs.Types.{Name, TypeTree}
use Rattle.csub_semantics.specs.Trees.{OwnerTree, local_owner}
use Rattle.csub_semantics.specs.Labels.{LabelTree, InitTree, initialises, branches, switches, returns}
use Rattle.csub_semantics.specs.Syntax.{Stage, in_part, PartTree, LocalTree, FunctionTree, ProgramTree}
use Rattle.csub_scopes.specs.Scopes.{Scope}
use Rattle.csub_rules.specs.Uses.{Use, as_statement, as_part, as_number}
use Rattle.csub_rules.specs.BrokenUse.{FineUse}
use Rattle.csub_rules.specs.BrokenInit.{FineInit}
use Rattle.csub_rules.specs.BrokenLocal.{FineVar, FineVars, FineValue}
use Rattle.csub_rules.specs.FineStmt.{FineStmt, FinePerhaps, FineLines, FineReturn, FinePart}
use Rattle.csub_rules.specs.StmtFaults.{Surroundings, in_loop, in_switch, in_first_part, is_label}
use Rattle.csub_rules.specs.Here.{Here, entering, number_of}
use Rattle.csub_rules.specs.Locals.{past_var}
use Rattle.csub_rules.specs.Past.{past, past_perhaps}
use Rattle.csub_rules.specs.Declarators.{base_type, object_type}
use Rattle.csub_rules.specs.CaseLabels.{switch_kind}
use Rattle.csub_rules.specs.Words.{word_return}
use Rattle.csub_rules.specs.Heads.{sure_type}
use Rattle.csub_resolution.specs.Values.{Defined}
use Rattle.csub_resolution.specs.Contents.{init_count, init_value, init_calls}
use Rattle.csub_resolution.specs.Positions.{first_token}
use Rattle.csub_resolution.specs.Lines.{value, own, case_value, calls_in, effect_part, eval_part, exits_with, test_part, for_test, third_parts, switch_part}
use Rattle.csub_resolution.specs.Lines.{answer, return_part, init_part, var_parts, vars_parts, declare_parts, line, first_parts, other_line, lines}
use Rattle.csub_resolution.specs.Lines.{vars_locals, locals, locals_perhaps, locals_lines}
use Rattle.csub_resolution.specs.Programs.{part_temps, most_temps, parts_of, parts_of_all, parts_of_else}
use Rattle.csub_limits.specs.Prints.{prints, prints_perhaps, init_prints, var_prints, vars_prints, stmt_prints, perhaps_prints, lines_prints}
use Rattle.csub_validity.specs.declared.role.Role.{Role}
use Rattle.csub_validity.specs.declared.role.Role.TheVariants.{Whole, Test, Switch, Effect}
use Rattle.csub_validity.specs.declared.role.Targets.{Targets}
use Rattle.csub_validity.specs.Valid as valid
use Rattle.csub_validity.specs.Valid.{IsExpr, IsLast, IsPart, IsAnswer, IsCase, AreParts, IsForHead, IsStmt, AreStmts, IsElse, IsInitialised, declares, is_declared, scope_of, further_in, most_entries, labels_of, parameter_object, type_in, value_kind}
use Rattle.program_validity.specs.Written.{WrittenExpr, WrittenMaybe, WrittenInit, WrittenValue, WrittenVars, WrittenStmt, WrittenElse, WrittenFirst, WrittenLines}
use Rattle.program_validity.specs.Short.{ShortStmt, ShortEach, ShortElse}
use Rattle.program_validity.proofs.Printing.{Few, few_left, few_right}
use Rattle.program_validity.proofs.Inits.{init_length, init_made, init_calls_made}
use Rattle.program_validity.proofs.Parts.{MayCall, Stands, own_part, expr_part, expr_kind}
use Rattle.program_validity.proofs.Effects.{effect_made, eval_made, no_exit}
use Rattle.program_validity.proofs.Undeclared.{effect_undeclared}
use Rattle.program_validity.proofs.Seen.{sees_entering, sees_var, sees_past, sees_perhaps, type_new, none_right, slot_type, Within, within_left, within_right, SeesIn, stands_in, see_more}
use Rattle.program_validity.proofs.Cases.{cases_are}
use Rattle.program_validity.proofs.Converted.{converted}

-- ---- the most temporaries of some parts

most_append : (ps qs : List PartTree) → most_temps (ps ++ qs) ≡ max (most_temps ps) (most_temps qs)
most_append [] qs = omega arith
most_append (p ∷ ps) qs = let rest = most_append ps qs in omega arith

pub most_left : (ps qs : List PartTree) (n : ℕ) → most_temps (ps ++ qs) ≤ n → most_temps ps ≤ n
most_left ps qs n h = let e = most_append ps qs in omega arith

pub most_right : (ps qs : List PartTree) (n : ℕ) → most_temps (ps ++ qs) ≤ n → most_temps qs ≤ n
most_right ps qs n h = let e = most_append ps qs in omega arith

first_most : (p : PartTree) (ps : List PartTree) (n : ℕ) → most_temps (p ∷ ps) ≤ n → part_temps p ≤ n
first_most p ps n h = omega arith

later_most : (p : PartTree) (ps : List PartTree) (n : ℕ) → most_temps (p ∷ ps) ≤ n → most_temps ps ≤ n
later_most p ps n h = omega arith

-- ---- the kind of a `switch`

kind_behind : (cs : List Stage) (x : Stage) → valid.switch_kind (cs ++ x ∷ []) ≡ value_kind x.label
kind_behind [] x = refl
kind_behind (s ∷ []) x = refl
kind_behind (s ∷ t ∷ rest) x = kind_behind (t ∷ rest) x

module _ (P : ProgramTree) (f : FunctionTree) (defined : List Defined) (result : Option IntKind) where
  -- what stands round a statement, by the rules and in the program
  pub record Around (s : Surroundings) (to : Targets) : Type 0 where
    pub breaks : IsTrue s.can_break → IsTrue to.of_break
    pub continues : IsTrue s.can_continue → IsTrue to.of_continue
    pub labels : (x : Name) → IsTrue (is_label s.labels x) → IsTrue (list_any (λ b. bytes_eq b x) (labels_of f))
    pub given : s.result ≡ result
    pub whole : s.statement ≡ as_statement

  further : (s : Surroundings) (to : Targets) → Around s to → Around s (further_in to)
  further s to a = record { breaks = a.breaks; continues = a.continues; labels = a.labels; given = a.given; whole = a.whole }

  looping : (s : Surroundings) (to : Targets) → Around s to → Around (in_loop s) valid.in_loop
  looping s to a = record { breaks = λ h. refl; continues = λ h. refl; labels = a.labels; given = a.given; whole = a.whole }

  switching : (s : Surroundings) (to : Targets) (k : IntKind) → Around s to → Around (in_switch s) (valid.in_switch k to)
  switching s to k a = record { breaks = λ h. refl; continues = a.continues; labels = a.labels; given = a.given; whole = a.whole }

  abbrev pub Sees_in : List LocalTree → Here → Type 0
  Sees_in ls here = SeesIn P defined f ls here

  abbrev pub In : List LocalTree → List LocalTree → Type 0
  In ls more = Within P defined f ls more

  -- ---- declarations

  -- a declared object with its initialiser
  init_is : (role : Role) (ls : List LocalTree) (here : Here) (base : Option TypeTree) (d : Declarator) (x : Init) → MayCall role
      → FineVar here base d → FineInit (past_var here base d).scope false (object_type here.scope base d.dims) x → WrittenInit x → Few (init_prints x)
      → Sees_in ls here
      → In ls (record { name = d.name.text; number = number_of d.name.text here.before; ctype = sure_type (object_type here.scope base d.dims) } ∷ [])
      → part_temps (init_part defined (past_var here base d).scope d (number_of d.name.text here.before) (sure_type (object_type here.scope base d.dims)) x) ≤ f.temps
      → IsPart P f role (init_part defined (past_var here base d).scope d (number_of d.name.text here.before) (sure_type (object_type here.scope base d.dims)) x)
  init_is role ls here base d x m var fine written few sees w room =
      let scope : Scope = (past_var here base d).scope in
      let n : ℕ = number_of d.name.text here.before in
      let t : TypeTree = sure_type (object_type here.scope base d.dims) in
      let new : LocalTree = record { name = d.name.text; number = n; ctype = t } in
      let after = see_more P defined f ls (new ∷ []) (past_var here base d) (sees_var P defined _ here base d var sees) in
      let all : f.locals ≡ (ls ++ new ∷ []) ++ ([] ++ w.rest) = w.is ∙ sym (append_assoc ls (new ∷ []) w.rest) in
      let stands = stands_in P defined f (ls ++ new ∷ []) [] (past_var here base d) (record { rest = w.rest; is = all }) after in
      let typed : FineInit scope false (Some t) x = subst (λ o. FineInit scope false o x) (slot_type here.scope base d var.0) fine in
      let nowhere : type_in ls d.name.text n ≡ None =
      none_right (map parameter_object f.params) ls d.name.text n (sees.bounded d.name.text n (omega arith)) in
      let object : type_in f.locals d.name.text n ≡ Some t =
      subst (λ os. type_in os d.name.text n ≡ Some t) (sym w.is) (type_new ls w.rest new nowhere) in
      let label : LabelTree = initialises (local_owner d.name.text n) t (init_value scope 0 x) in
      let sc : valid.Scope = scope_of P f (map (in_part d.name.span) (init_calls defined scope 0 x) ++ own label d.name.span) in
      own_part P f role (init_calls defined scope 0 x) label d.name.span (init_prints x) (init_count scope x) (init_length defined scope 0 x) few room
      (λ r. init_calls_made defined scope sc stands.agrees P f stands.can 0 (Some t) x typed written r)
      (λ g. in_role role m sc (init_count scope x + 1) (local_owner d.name.text n) t (init_value scope 0 x)
      (object, init_made defined scope sc stands.agrees (init_count scope x + 1) 0 (Some t) x typed written g))
    where
      in_role : (role : Role) → MayCall role → (sc : valid.Scope) (k : ℕ) (o : OwnerTree) (t : TypeTree) (i : InitTree) → IsInitialised f sc k o t i
          → IsLast P f sc role k (initialises o t i)
      in_role Whole m sc k o t i h = h
      in_role Test m sc k o t i h = absurd m
      in_role Switch m sc k o t i h = absurd m
      in_role Effect m sc k o t i h = h

  or_true : (b c : Bool) → c ≡ true → b || c ≡ true
  or_true true c h = refl
  or_true false c h = h

  declares_own : (cs : List Stage) (o : OwnerTree) (t : TypeTree) (i : InitTree) (at : Span) → declares (cs ++ own (initialises o t i) at) ≡ true
  declares_own [] o t i at = refl
  declares_own (s ∷ cs) o t i at = or_true (is_declared s.label) _ (declares_own cs o t i at)

  record Vars (role : Role) (ps : List PartTree) : Type 0 where
    each : All (λ p. IsPart P f role p) ps
    declared : All (λ p. declares p ≡ true) ps

  var_is : (role : Role) (ls : List LocalTree) (here : Here) (base : Option TypeTree) (d : Declarator) (o : Option Init) → MayCall role
      → FineVar here base d → FineValue (past_var here base d).scope (object_type here.scope base d.dims) o → WrittenValue o → Few (var_prints o)
      → Sees_in ls here
      → In ls (record { name = d.name.text; number = number_of d.name.text here.before; ctype = sure_type (object_type here.scope base d.dims) } ∷ [])
      → most_temps (var_parts defined here base d o) ≤ f.temps → Vars role (var_parts defined here base d o)
  var_is role ls here base d None m var fine written few sees w room = record { each = All-nil (λ p. IsPart P f role p); declared = All-nil (λ p. declares p ≡ true) }
  var_is role ls here base d (Some x) m var fine written few sees w room =
      record {
        each = All-cons (λ p. IsPart P f role p) _ [] (init_is role ls here base d x m var fine written few sees w (first_most _ [] f.temps room)) (All-nil (λ p. IsPart P f role p));
        declared = All-cons (λ p. declares p ≡ true) _ [] (declares_own (map (in_part d.name.span) (init_calls defined (past_var here base d).scope 0 x)) _ _ _ d.name.span) (All-nil (λ p. declares p ≡ true));
      }

  vars_are : (role : Role) (ls : List LocalTree) (here : Here) (base : Option TypeTree) (ds : List Declarator) → MayCall role → FineVars here base ds
      → WrittenVars ds → Few (vars_prints ds) → Sees_in ls here → In ls (vars_locals here base ds)
      → most_temps (vars_parts defined here base ds) ≤ f.temps → Vars role (vars_parts defined here base ds)
  vars_are role ls here base [] m fine written few sees w room = record { each = All-nil (λ p. IsPart P f role p); declared = All-nil (λ p. declares p ≡ true) }
  vars_are role ls here base (d ∷ ds) m fine written few sees w room =
      let new : LocalTree = record { name = d.name.text; number = number_of d.name.text here.before; ctype = sure_type (object_type here.scope base d.dims) } in
      let one = var_is role ls here base d d.init m fine.0 fine.0.3 written.0 (few_left (var_prints d.init) (vars_prints ds) few) sees
      (within_left P defined f ls (new ∷ []) (vars_locals (past_var here base d) base ds) w)
      (most_left (var_parts defined here base d d.init) (vars_parts defined (past_var here base d) base ds) f.temps room) in
      let rest = vars_are role (ls ++ new ∷ []) (past_var here base d) base ds m fine.1 written.1 (few_right (var_prints d.init) (vars_prints ds) few)
      (see_more P defined f ls (new ∷ []) (past_var here base d) (sees_var P defined _ here base d fine.0 sees))
      (within_right P defined f ls (new ∷ []) (vars_locals (past_var here base d) base ds) w)
      (most_right (var_parts defined here base d d.init) (vars_parts defined (past_var here base d) base ds) f.temps room) in
      record {
        each = All-append (λ p. IsPart P f role p) (var_parts defined here base d d.init) (vars_parts defined (past_var here base d) base ds) one.each rest.each;
        declared = All-append (λ p. declares p ≡ true) (var_parts defined here base d d.init) (vars_parts defined (past_var here base d) base ds) one.declared rest.declared;
      }

  declared_are : (role : Role) (ls : List LocalTree) (here : Here) (d : Declare) → MayCall role → FineVars here (base_type here.scope d.base) d.vars
      → WrittenVars d.vars → Few (vars_prints d.vars) → Sees_in ls here → In ls (vars_locals here (base_type here.scope d.base) d.vars)
      → length (declare_parts defined here d) ≤ most_entries → most_temps (declare_parts defined here d) ≤ f.temps
      → AreParts P f role (declare_parts defined here d)
  declared_are role ls here d m fine written few sees w short room =
      let x = vars_are role ls here (base_type here.scope d.base) d.vars m fine written few sees w room in
      record { few = short; one = inr x.declared; each = x.each }

  -- ---- parts

  one_part : (role : Role) (p : PartTree) → IsPart P f role p → AreParts P f role (p ∷ [])
  one_part role p h = record { few = omega arith; one = inl (omega arith); each = All-cons (λ p. IsPart P f role p) p [] h (All-nil (λ p. IsPart P f role p)) }

  no_parts : (role : Role) → AreParts P f role []
  no_parts role = record { few = omega arith; one = inl (omega arith); each = All-nil (λ p. IsPart P f role p) }

  test_is : (scope : Scope) (e : Expr) → Stands P f defined scope → FineUse scope as_number e → WrittenExpr e → Few (prints e)
      → part_temps (test_part defined scope e) ≤ f.temps → IsPart P f Test (test_part defined scope e)
  test_is scope e stands u written few room =
      expr_part P f defined scope stands Test e (branches (value scope e)) (first_token e) (λ sc n h. h) u.0 u.1 written few room

  for_test_is : (scope : Scope) (s : Span) (o : Option Expr) → Stands P f defined scope → FinePart scope as_number o → WrittenMaybe o
      → Few (prints_perhaps o) → part_temps (for_test defined scope s o) ≤ f.temps → IsPart P f Test (for_test defined scope s o)
  for_test_is scope s None stands u written few room = (omega (arith, ints), omega (arith, ints))
  for_test_is scope s (Some e) stands u written few room = test_is scope e stands u written few room

  record Third (ps : List PartTree) : Type 0 where
    one : length ps ≤ 1
    steps : All (λ p. IsPart P f Effect p) ps
    undeclared : All (λ p. declares p ≡ false) ps

  third_is : (scope : Scope) (o : Option Expr) → Stands P f defined scope → FinePart scope as_part o → WrittenMaybe o → Few (prints_perhaps o)
      → most_temps (third_parts defined scope o) ≤ f.temps → Third (third_parts defined scope o)
  third_is scope None stands u written few room = record { one = omega arith; steps = All-nil (λ p. IsPart P f Effect p); undeclared = All-nil (λ p. declares p ≡ false) }
  third_is scope (Some e) stands u written few room =
      record {
        one = omega arith;
        steps =
            All-cons (λ p. IsPart P f Effect p) (effect_part defined scope e) []
            (effect_made scope P f defined stands Effect e tt u.0 u.1 written few (first_most (effect_part defined scope e) [] f.temps room))
            (All-nil (λ p. IsPart P f Effect p));
        undeclared = All-cons (λ p. declares p ≡ false) (effect_part defined scope e) [] (effect_undeclared defined scope e) (All-nil (λ p. declares p ≡ false));
      }

  answer_is : (scope : Scope) (r o : Option IntKind) (sc : valid.Scope) (n : ℕ) (e : Expr) → o ≡ r → IsTrue (is_some r) → IsExpr sc n (value scope e)
      → IsAnswer sc n o (answer defined r scope e)
  answer_is scope None o sc n e same s h = absurd (cc)
  answer_is scope (Some k) o sc n e same s h = subst (λ q. IsAnswer sc n q (answer defined (Some k) scope e)) (sym same) (refl, h)

  not_some : (o : Option IntKind) → IsTrue (not (is_some o)) → o ≡ None
  not_some None h = refl
  not_some (Some k) h = absurd (cc)

  return_is : (scope : Scope) (s : Surroundings) (o : Option Expr) (at : Span) → s.result ≡ result → f.result ≡ result → Stands P f defined scope
      → FineReturn s scope o → WrittenMaybe o → Few (prints_perhaps o) → part_temps (return_part defined result scope o at) ≤ f.temps
      → IsPart P f Whole (return_part defined result scope o at)
  return_is scope s None at same mine stands fine written few room =
      let none : f.result ≡ None = mine ∙ sym same ∙ not_some s.result fine in
      subst (λ q. IsAnswer (scope_of P f (own (returns None) (word_return at))) 1 q None) (sym none) tt
  return_is scope s (Some e) at same mine stands fine written few room =
      let some : IsTrue (is_some result) = subst (λ q. IsTrue (is_some q)) same fine.0 in
      expr_part P f defined scope stands Whole e (returns (answer defined result scope e)) (word_return at)
      (λ sc n h. answer_is scope result f.result sc n e mine some h) fine.1.0 fine.1.1 written few room

  -- what is evaluated as a whole statement
  eval_is : (scope : Scope) (u : Use) (e : Expr) → u ≡ as_statement → Stands P f defined scope → FineUse scope u e → WrittenExpr e → Few (prints e)
      → part_temps (eval_part defined scope e (exits_with scope e)) ≤ f.temps
      → IsPart P f Whole (eval_part defined scope e (exits_with scope e))
  eval_is scope u e same stands fine written few room =
      let whole : FineUse scope as_statement e = subst (λ v. FineUse scope v e) same fine in
      eval_made scope P f defined stands e whole.0 whole.1 written few room

  -- and as the first part of a `for`
  first_eval : (scope : Scope) (e : Expr) → Stands P f defined scope → FineUse scope as_part e → WrittenExpr e → Few (prints e)
      → part_temps (eval_part defined scope e (exits_with scope e)) ≤ f.temps
      → IsPart P f Effect (eval_part defined scope e (exits_with scope e))
  first_eval scope e stands fine written few room =
      let none : exits_with scope e ≡ None = no_exit scope e fine.0 in
      subst (λ o. IsPart P f Effect (eval_part defined scope e o)) (sym none)
      (effect_made scope P f defined stands Effect e tt fine.0 fine.1 written few
      (subst (λ o. part_temps (eval_part defined scope e o) ≤ f.temps) none room))

  first_is : (ls : List LocalTree) (s : Surroundings) (here : Here) (b : Perhaps) → FinePerhaps (in_first_part s) here b → WrittenFirst b
      → Few (perhaps_prints b) → Sees_in ls here → In ls (locals_perhaps here b) → length (first_parts defined result here b) ≤ most_entries
      → most_temps (first_parts defined result here b) ≤ f.temps → AreParts P f Effect (first_parts defined result here b)
  first_is ls s here NoStmt fine written few sees w short room = no_parts Effect
  first_is ls s here (OneStmt (Line (Declared d) at)) fine written few sees w short room =
      declared_are Effect ls here d tt fine.1 written few sees w short room
  first_is ls s here (OneStmt (Line (Eval e) at)) fine written few sees w short room =
      one_part Effect _ (first_eval here.scope e (stands_in P defined f ls [] here w sees) fine written few (first_most _ [] f.temps room))
  first_is ls s here (OneStmt (Line Empty at)) fine written few sees w short room = absurd written
  first_is ls s here (OneStmt (Line (Block ss) at)) fine written few sees w short room = absurd written
  first_is ls s here (OneStmt (Line (If e a b) at)) fine written few sees w short room = absurd written
  first_is ls s here (OneStmt (Line (While e a) at)) fine written few sees w short room = absurd written
  first_is ls s here (OneStmt (Line (Do a e) at)) fine written few sees w short room = absurd written
  first_is ls s here (OneStmt (Line (For b e g a) at)) fine written few sees w short room = absurd written
  first_is ls s here (OneStmt (Line (Switched e ss) at)) fine written few sees w short room = absurd written
  first_is ls s here (OneStmt (Line (Case e) at)) fine written few sees w short room = absurd written
  first_is ls s here (OneStmt (Line Default at)) fine written few sees w short room = absurd written
  first_is ls s here (OneStmt (Line Break at)) fine written few sees w short room = absurd written
  first_is ls s here (OneStmt (Line Continue at)) fine written few sees w short room = absurd written
  first_is ls s here (OneStmt (Line (Goto x) at)) fine written few sees w short room = absurd written
  first_is ls s here (OneStmt (Line (Label x a) at)) fine written few sees w short room = absurd written
  first_is ls s here (OneStmt (Line (Return e) at)) fine written few sees w short room = absurd written

  record IsSwitched (scope : Scope) (e : Expr) : Type 0 where
    part : IsPart P f Switch (switch_part defined scope e)
    kind : valid.switch_kind (switch_part defined scope e) ≡ switch_kind scope e

  switch_is : (scope : Scope) (e : Expr) → Stands P f defined scope → FineUse scope as_number e → WrittenExpr e → Few (prints e)
      → part_temps (switch_part defined scope e) ≤ f.temps → IsSwitched scope e
  switch_is scope e stands u written few room =
      record {
        part = expr_part P f defined scope stands Switch e (switches (value scope e)) (first_token e) (λ sc n h. h) u.0 u.1 written few room;
        kind =
            kind_behind (map (in_part (first_token e)) (calls_in defined scope e)) (record { label = switches (value scope e); span = first_token e; part = first_token e })
            ∙ ap promote (expr_kind P f defined scope stands e (switches (value scope e)) (first_token e) u.0 u.1 written few room);
      }

  module _ (mine : f.result ≡ result) where
    mutual
      pub stmt_is : (w : Bool) (s : Surroundings) (to : Targets) (kind : IntKind) (ls : List LocalTree) (here : Here) (a : Stmt)
          → (IsTrue w → to.of_case ≡ Some kind) → Around s to → Sees_in ls here → FineStmt s here a → WrittenStmt w a → Few (stmt_prints a)
          → In ls (locals here a) → ShortStmt (line defined result kind here a) → most_temps (parts_of (line defined result kind here a)) ≤ f.temps
          → IsStmt P f to (line defined result kind here a)
      stmt_is w s to kind ls here (Line (Declared d) at) c r sees fine x few i short room =
          declared_are Whole ls here d tt fine.1 x few sees i short room
      stmt_is w s to kind ls here (Line (Eval e) at) c r sees fine x few i short room =
          one_part Whole _
          (eval_is here.scope s.statement e r.whole (stands_in P defined f ls [] here i sees) fine x few (first_most _ [] f.temps room))
      stmt_is w s to kind ls here (Line Empty at) c r sees fine x few i short room = no_parts Whole
      stmt_is w s to kind ls here (Line (Block ss) at) c r sees fine x few i short room = (
        short.0,
        lines_are false s (further_in to) Int ls (entering here) ss (λ n. absurd (cc)) (further s to r) (sees_entering P defined _ here sees) fine x
            few i short.1 room,
      )
      stmt_is w s to kind ls here (Line (If e a b) at) c r sees fine x few i short room =
          let p : PartTree = test_part defined here.scope e in
          let left : List PartTree = parts_of (line defined result Int here a) in
          let right : List PartTree = parts_of_else (other_line defined result (past here a) b) in
          let behind = later_most p (left ++ right) f.temps room in
          let after = see_more P defined f ls (locals here a) (past here a) (sees_past P defined _ s here a fine.1 sees) in
          let few_ab = few_right (prints e) (stmt_prints a ++ perhaps_prints b) few in (
            test_is here.scope e (stands_in P defined f ls _ here i sees) fine.0 x.0 (few_left (prints e) (stmt_prints a ++ perhaps_prints b) few)
                (first_most p (left ++ right) f.temps room),
            stmt_is false s (further_in to) Int ls here a (λ n. absurd (cc)) (further s to r) sees fine.1 x.1 (few_left (stmt_prints a) (perhaps_prints b) few_ab)
                (within_left P defined f ls (locals here a) (locals_perhaps (past here a) b) i) short.0 (most_left left right f.temps behind),
            else_is s (further_in to) (ls ++ locals here a) (past here a) b (further s to r) after fine.2 x.2 (few_right (stmt_prints a) (perhaps_prints b) few_ab)
                (within_right P defined f ls (locals here a) (locals_perhaps (past here a) b) i) short.1 (most_right left right f.temps behind),
          )
      stmt_is w s to kind ls here (Line (While e a) at) c r sees fine x few i short room =
          let p : PartTree = test_part defined here.scope e in
          let body : List PartTree = parts_of (line defined result Int here a) in (
            test_is here.scope e (stands_in P defined f ls _ here i sees) fine.0 x.0 (few_left (prints e) (stmt_prints a) few) (first_most p body f.temps room),
            stmt_is false (in_loop s) valid.in_loop Int ls here a (λ n. absurd (cc)) (looping s to r) sees fine.1 x.1 (few_right (prints e) (stmt_prints a) few)
                i short (later_most p body f.temps room),
          )
      stmt_is w s to kind ls here (Line (Do a e) at) c r sees fine x few i short room =
          let p : PartTree = test_part defined here.scope e in
          let body : List PartTree = parts_of (line defined result Int here a) in (
            stmt_is false (in_loop s) valid.in_loop Int ls here a (λ n. absurd (cc)) (looping s to r) sees fine.1 x.0 (few_left (stmt_prints a) (prints e) few)
                i short (most_left body (p ∷ []) f.temps room),
            test_is here.scope e (stands_in P defined f ls _ here i sees) fine.0 x.1 (few_right (stmt_prints a) (prints e) few)
                (first_most p [] f.temps (most_right body (p ∷ []) f.temps room)),
          )
      stmt_is w s to kind ls here (Line (For b e g a) at) c r sees fine x few i short room =
          let inside : Here = past_perhaps (entering here) b in
          let first : List PartTree = first_parts defined result (entering here) b in
          let test : PartTree = for_test defined inside.scope at e in
          let third : List PartTree = third_parts defined inside.scope g in
          let body : List PartTree = parts_of (line defined result Int inside a) in
          let room_test = most_right first (test ∷ (third ++ body)) f.temps room in
          let room_third = later_most test (third ++ body) f.temps room_test in
          let few_test = few_right (perhaps_prints b) (prints_perhaps e ++ (prints_perhaps g ++ stmt_prints a)) few in
          let few_third = few_right (prints_perhaps e) (prints_perhaps g ++ stmt_prints a) few_test in
          let entered = sees_entering P defined _ here sees in
          let after =
          see_more P defined f ls (locals_perhaps (entering here) b) inside (sees_perhaps P defined _ (in_first_part s) (entering here) b fine.0 entered) in
          let right = within_right P defined f ls (locals_perhaps (entering here) b) (locals inside a) i in
          let stands = stands_in P defined f _ _ inside right after in
          let steps = third_is inside.scope g stands fine.2 x.2 (few_left (prints_perhaps g) (stmt_prints a) few_third) (most_left third body f.temps room_third) in (
            record {
              begins =
                  first_is ls s (entering here) b fine.0 x.0 (few_left (perhaps_prints b) (prints_perhaps e ++ (prints_perhaps g ++ stmt_prints a)) few) entered
                  (within_left P defined f ls (locals_perhaps (entering here) b) (locals inside a) i) short.0
                  (most_left first (test ∷ (third ++ body)) f.temps room);
              tests =
                  for_test_is inside.scope at e stands fine.1 x.1 (few_left (prints_perhaps e) (prints_perhaps g ++ stmt_prints a) few_test) (first_most test (third ++ body) f.temps room_test);
              one = steps.one;
              steps = steps.steps;
              undeclared = steps.undeclared;
            },
            stmt_is false (in_loop s) valid.in_loop Int _ inside a (λ n. absurd (cc)) (looping s to r) after fine.3 x.3
                (few_right (prints_perhaps g) (stmt_prints a) few_third) right short.1 (most_right third body f.temps room_third),
          )
      stmt_is w s to kind ls here (Line (Switched e ss) at) c r sees fine x few i short room =
          let p : PartTree = switch_part defined here.scope e in
          let k : IntKind = switch_kind here.scope e in
          let body : List PartTree = parts_of_all (lines defined result k (entering here) ss) in
          let entered = sees_entering P defined _ here sees in
          let one = switch_is here.scope e (stands_in P defined f ls _ here i sees) fine.0 x.0 (few_left (prints e) (lines_prints ss) few)
          (first_most p body f.temps room) in (
            one.part,
            cases_are defined result k (in_switch s) (entering here) ss fine.1 fine.2 short.0,
            subst (λ q. AreStmts P f (valid.in_switch q to) (lines defined result k (entering here) ss)) (sym one.kind)
                (lines_are true (in_switch s) (valid.in_switch k to) k ls (entering here) ss (λ n. refl) (switching s to k r) entered fine.1 x.1
                (few_right (prints e) (lines_prints ss) few) i short.1 (later_most p body f.temps room)),
          )
      stmt_is w s to kind ls here (Line (Case e) at) c r sees fine x few i short room =
          subst (λ o. IsCase o (case_value kind here.scope e)) (sym (c x)) (converted kind _)
      stmt_is w s to kind ls here (Line Default at) c r sees fine x few i short room = subst (λ o. IsTrue (is_some o)) (sym (c x)) refl
      stmt_is w s to kind ls here (Line Break at) c r sees fine x few i short room = r.breaks fine
      stmt_is w s to kind ls here (Line Continue at) c r sees fine x few i short room = r.continues fine
      stmt_is w s to kind ls here (Line (Goto y) at) c r sees fine x few i short room = (refl, r.labels y.text fine)
      stmt_is w s to kind ls here (Line (Label y a) at) c r sees fine x few i short room =
          stmt_is false s (further_in to) Int ls here a (λ n. absurd (cc)) (further s to r) sees fine.1 x few i short room
      stmt_is w s to kind ls here (Line (Return e) at) c r sees fine x few i short room =
          one_part Whole _
          (return_is here.scope s e at r.given mine (stands_in P defined f ls [] here i sees) fine x few (first_most _ [] f.temps room))

      else_is : (s : Surroundings) (to : Targets) (ls : List LocalTree) (here : Here) (b : Perhaps) → Around s to → Sees_in ls here → FinePerhaps s here b
          → WrittenElse b → Few (perhaps_prints b) → In ls (locals_perhaps here b) → ShortElse (other_line defined result here b)
          → most_temps (parts_of_else (other_line defined result here b)) ≤ f.temps → IsElse P f to (other_line defined result here b)
      else_is s to ls here NoStmt r sees fine x few i short room = tt
      else_is s to ls here (OneStmt a) r sees fine x few i short room =
          stmt_is false s to Int ls here a (λ n. absurd (cc)) r sees fine x few i short room

      pub lines_are : (w : Bool) (s : Surroundings) (to : Targets) (kind : IntKind) (ls : List LocalTree) (here : Here) (ss : Stmts)
          → (IsTrue w → to.of_case ≡ Some kind) → Around s to → Sees_in ls here → FineLines s here ss → WrittenLines w ss → Few (lines_prints ss)
          → In ls (locals_lines here ss) → ShortEach (lines defined result kind here ss)
          → most_temps (parts_of_all (lines defined result kind here ss)) ≤ f.temps → AreStmts P f to (lines defined result kind here ss)
      lines_are w s to kind ls here NoStmts c r sees fine x few i short room = tt
      lines_are w s to kind ls here (MoreStmts a rest) c r sees fine x few i short room =
          let one : List PartTree = parts_of (line defined result kind here a) in
          let more : List PartTree = parts_of_all (lines defined result kind (past here a) rest) in
          let after = see_more P defined f ls (locals here a) (past here a) (sees_past P defined _ s here a fine.0 sees) in (
            stmt_is w s to kind ls here a c r sees fine.0 x.0 (few_left (stmt_prints a) (lines_prints rest) few)
                (within_left P defined f ls (locals here a) (locals_lines (past here a) rest) i) short.0 (most_left one more f.temps room),
            lines_are w s to kind (ls ++ locals here a) (past here a) rest c r after fine.1 x.1 (few_right (stmt_prints a) (lines_prints rest) few)
                (within_right P defined f ls (locals here a) (locals_lines (past here a) rest) i) short.1 (most_right one more f.temps room),
          )
