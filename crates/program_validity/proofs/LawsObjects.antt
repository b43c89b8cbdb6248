-- Two objects of a function differ in their names or in their numbers.
use Rattle.std.proofs.Common.{◌≡◌, ℕ, arith, Bool, true, false, List, [], ◌∷◌, map, All, IsTrue, is_some, not, nat_eq, bytes_eq, Option, Some, None, refl, sym, ap, ◌∙◌}
use Rattle.std.specs.Prelude.{AllPairs, ◌||◌, if◌then◌else◌}
use Rattle.std.proofs.lemmas.Bool.Decides.{nat_tests}
use Rattle.std.proofs.lemmas.List.Elements.{All-nil, All-cons}
use Rattle.csub_tree.specs.declared.name.Name.{Name as NameAt}
use Rattle.csub_tree.specs.Declarations.{Param, Declarator, Head}
use Rattle.csub_tree.specs.Statements.{Stmt, Perhaps, Stmts, Line, Declared, Eval, Empty, Block, If, While, Do, For, Switch}
use Rattle.csub_tree.specs.Statements.{Case, Default, Break, Continue, Goto, Label, Return, NoStmt, OneStmt, NoStmts, MoreStmts}
use Rattle.csub_tree.specs.Units.{Item, Struct, Enum, Object, Prototype, Function, Source}
use Rattle.csub_objects.specs.Types.{Name, TypeTree}
use Rattle.csub_semantics.specs.Syntax.{LocalTree, FunctionTree}
use Rattle.csub_validity.specs.Valid.{AreOther, parameter_object, objects_of}
use Rattle.csub_scopes.specs.Scopes.{Declared as Named, find}
use Rattle.csub_rules.specs.Declarators.{base_type, object_type}
use Rattle.csub_rules.specs.Here.{Here, entering, number_of, local_meaning, stands_at, is_declared}
use Rattle.csub_rules.specs.Labels.{stands_in}
use Rattle.csub_rules.specs.Locals.{past_var, past_vars}
use Rattle.csub_rules.specs.Params.{param_type}
use Rattle.csub_rules.specs.Past.{past, past_perhaps, past_lines}
use Rattle.csub_rules.specs.Files.{File, no_file}
use Rattle.csub_rules.specs.Heads.{at_params, past_name, past_param, past_params, past_head, sure_type}
use Rattle.csub_rules.specs.Items.{past_item, lacks_names, is_other_main, is_misdefined}
use Rattle.csub_rules.specs.Units.{unit_fault}
use Rattle.csub_rules.specs.FineItems.{FineName, FineParams, FineItems}
use Rattle.csub_rules.proofs.LawsFineItems.{fine_unit}
use Rattle.csub_resolution.specs.Values.{Defined}
use Rattle.csub_resolution.specs.Lines.{vars_locals, locals, locals_perhaps, locals_lines}
use Rattle.csub_resolution.specs.Programs.{name_or_none, params, function_by, functions_in, defined_in, start, span_of_main, program_of}
use Rattle.program_validity.proofs.Lists.{all_pairs, first_fails, second_fails}
use Rattle.program_validity.proofs.Numbers.{count, none_counted, Numbered, no_objects, one_object, joins}

-- ---- locals

numbered_vars : (base : Option TypeTree) (ds : List Declarator) (h : Here) → Numbered h.before (past_vars h base ds).before (vars_locals h base ds)
numbered_vars base [] h = no_objects h.before
numbered_vars base (d ∷ ds) h =
    let t : TypeTree = sure_type (object_type h.scope base d.dims) in
    let o : LocalTree = record { name = d.name.text; number = number_of d.name.text h.before; ctype = t } in
    joins h.before (past_var h base d).before (past_vars (past_var h base d) base ds).before (o ∷ []) (vars_locals (past_var h base d) base ds)
    (one_object h.before d.name.text (number_of d.name.text h.before) t refl) (numbered_vars base ds (past_var h base d))

mutual
  numbered : (s : Stmt) (h : Here) → Numbered h.before (past h s).before (locals h s)
  numbered (Line (Declared d) s) h = numbered_vars (base_type h.scope d.base) d.vars h
  numbered (Line (Eval e) s) h = no_objects h.before
  numbered (Line Empty s) h = no_objects h.before
  numbered (Line (Block ss) s) h = numbered_lines ss (entering h)
  numbered (Line (If e a b) s) h =
      joins h.before (past h a).before (past_perhaps (past h a) b).before (locals h a) (locals_perhaps (past h a) b)
      (numbered a h) (numbered_perhaps b (past h a))
  numbered (Line (While e a) s) h = numbered a h
  numbered (Line (Do a e) s) h = numbered a h
  numbered (Line (For b e f a) s) h =
      let inside : Here = past_perhaps (entering h) b in
      joins h.before inside.before (past inside a).before (locals_perhaps (entering h) b) (locals inside a)
      (numbered_perhaps b (entering h)) (numbered a inside)
  numbered (Line (Switch e ss) s) h = numbered_lines ss (entering h)
  numbered (Line (Case e) s) h = no_objects h.before
  numbered (Line Default s) h = no_objects h.before
  numbered (Line Break s) h = no_objects h.before
  numbered (Line Continue s) h = no_objects h.before
  numbered (Line (Goto x) s) h = no_objects h.before
  numbered (Line (Label x a) s) h = numbered a h
  numbered (Line (Return e) s) h = no_objects h.before

  numbered_perhaps : (b : Perhaps) (h : Here) → Numbered h.before (past_perhaps h b).before (locals_perhaps h b)
  numbered_perhaps NoStmt h = no_objects h.before
  numbered_perhaps (OneStmt a) h = numbered a h

  numbered_lines : (ss : Stmts) (h : Here) → Numbered h.before (past_lines h ss).before (locals_lines h ss)
  numbered_lines NoStmts h = no_objects h.before
  numbered_lines (MoreStmts a rest) h =
      joins h.before (past h a).before (past_lines (past h a) rest).before (locals h a) (locals_lines (past h a) rest)
      (numbered a h) (numbered_lines rest (past h a))

-- ---- parameters

-- each name that is declared before is declared in this block
abbrev AreSeen : Here → Type 0
AreSeen g = (x : Name) → IsTrue (stands_in x g.before) → IsTrue (is_declared g x)

seen_first : (g : Here) → g.before ≡ [] → AreSeen g
seen_first g e x s = let none : IsTrue false = rw e at s in absurd (cc)

itself : (n : ℕ) → IsTrue (nat_eq n n)
itself n = grind (arith, nat_tests)

stands_by : (n : ℕ) (d : Named) (o : Option Named) (b c : Bool) → d.depth ≡ n → (IsTrue c → IsTrue (stands_at n o)) → IsTrue (b || c)
    → IsTrue (stands_at n (if b then Some d else o))
stands_by n d o true c e later h = rw e (itself n)
stands_by n d o false c e later h = later h

seen_more : (g : Here) (o : Option NameAt) (u : Option TypeTree) → AreSeen g → AreSeen (past_name g o u)
seen_more g None u seen = seen
seen_more g (Some x) u seen = λ y s.
    stands_by g.depth (record { name = x.text; depth = g.depth; means = local_meaning (number_of x.text g.before) u }) (find y g.scope.names)
    (bytes_eq x.text y) (stands_in y g.before) refl (seen y) s

refuted : (b c : Bool) → (IsTrue b → IsTrue c) → IsTrue (not c) → IsTrue (not b)
refuted true true f h = h
refuted true false f h = absurd (let no : IsTrue false = f refl in cc)
refuted false c f h = refl

unseen : (g : Here) (o : Option NameAt) → AreSeen g → IsTrue (is_some o) → FineName g o → count (name_or_none o) g.before ≡ 0
unseen g None seen s fine = absurd (cc)
unseen g (Some x) seen s fine =
    none_counted x.text g.before (refuted (stands_in x.text g.before) (is_declared g x.text) (seen x.text) fine.0)

one_param : (h : Here) (o : Option NameAt) (u : Option TypeTree) (t : TypeTree) → IsTrue (is_some o) → count (name_or_none o) h.before ≡ 0
    → Numbered h.before (past_name h o u).before (record { name = name_or_none o; number = 1; ctype = t } ∷ [])
one_param h None u t s z = absurd (cc)
one_param h (Some x) u t s z = one_object h.before x.text 1 t (omega arith)

same_before : (g h : Here) (o : Option NameAt) (u v : Option TypeTree) → g.before ≡ h.before → (past_name g o u).before ≡ (past_name h o v).before
same_before g h None u v e = e
same_before g h (Some x) u v e = ap (λ names. x.text ∷ names) e

first_named : (b c : Bool) → IsTrue (not (not b || c)) → IsTrue b
first_named true c h = refl
first_named false c h = absurd (cc)

later_named : (b c : Bool) → IsTrue (not (not b || c)) → IsTrue (not c)
later_named true c h = h
later_named false c h = absurd (cc)

numbered_params : (ps : List Param) (g h : Here) → AreSeen g → g.before ≡ h.before → IsTrue (not (lacks_names ps)) → FineParams g ps
    → Numbered h.before (past_params h ps).before (map parameter_object (params h ps))
numbered_params [] g h seen e n fine = no_objects h.before
numbered_params (p ∷ ps) g h seen e n fine =
    let t : TypeTree = sure_type (param_type h.scope p) in
    let o : LocalTree = record { name = name_or_none p.name; number = 1; ctype = t } in
    let s : IsTrue (is_some p.name) = first_named (is_some p.name) (lacks_names ps) n in
    let z : count (name_or_none p.name) g.before ≡ 0 = unseen g p.name seen s fine.1 in
    joins h.before (past_param h p).before (past_params (past_param h p) ps).before (o ∷ []) (map parameter_object (params (past_param h p) ps))
    (one_param h p.name (param_type h.scope p) t s (sym (ap (λ names. count (name_or_none p.name) names) e) ∙ z))
    (numbered_params ps (past_param g p) (past_param h p) (seen_more g p.name (param_type g.scope p) seen)
    (same_before g h p.name (param_type g.scope p) (param_type h.scope p) e) (later_named (is_some p.name) (lacks_names ps) n) fine.2)

-- ---- functions

abbrev ObjectsDiffer : FunctionTree → Type 0
ObjectsDiffer f = AllPairs AreOther (objects_of f)

are_named : (file : File) (h : Head) → IsTrue (not (is_misdefined file h)) → IsTrue (not (lacks_names h.params))
are_named file h n =
    first_fails (lacks_names h.params) (is_other_main h)
    (second_fails (stands_in h.name.text file.defined) (lacks_names h.params || is_other_main h) n)

module _ (defined : List Defined) where
  of_function : (file : File) (h : Head) (body : Stmts) → IsTrue (not (is_misdefined file h)) → FineParams (at_params file.scope) h.params
      → ObjectsDiffer (function_by defined file.scope h body)
  of_function file h body n fine =
      let enter : Here = at_params (past_head file.scope h) in
      let inside : Here = past_params enter h.params in
      let ps = numbered_params h.params (at_params file.scope) enter (seen_first (at_params file.scope) refl) refl (are_named file h n) fine in
      all_pairs AreOther (objects_of (function_by defined file.scope h body))
      (joins [] inside.before (past_lines inside body).before (map parameter_object (params enter h.params)) (locals_lines inside body) ps
      (numbered_lines body inside)).pairs

  of_items : (file : File) (items : List Item) → FineItems file items → All ObjectsDiffer (functions_in defined file items)
  of_items file [] fine = All-nil ObjectsDiffer
  of_items file (Struct tag ds ∷ rest) fine = of_items (past_item file (Struct tag ds)) rest fine.1
  of_items file (Enum tag cs ∷ rest) fine = of_items (past_item file (Enum tag cs)) rest fine.1
  of_items file (Object d ∷ rest) fine = of_items (past_item file (Object d)) rest fine.1
  of_items file (Prototype h ∷ rest) fine = of_items (past_item file (Prototype h)) rest fine.1
  of_items file (Function h body t ∷ rest) fine =
      All-cons ObjectsDiffer (function_by defined file.scope h body) (functions_in defined (past_item file (Function h body t)) rest)
      (of_function file h body fine.0.1 fine.0.0.3) (of_items (past_item file (Function h body t)) rest fine.1)

pub objects : (u : Source) → unit_fault u ≡ None → All (λ f. AllPairs AreOther (objects_of f)) (program_of u).functions
objects u h =
    let defined : List Defined = defined_in no_file u.items in
    let functions : List FunctionTree = functions_in defined no_file u.items in
    All-cons ObjectsDiffer (start (span_of_main functions)) functions (all_pairs AreOther [] tt) (of_items defined no_file u.items (fine_unit u h))
