-- The functions of a program whose source breaks no rule.
use Rattle.std.proofs.Common.{◌≡◌, ◌≢◌, ◌∙◌, refl, sym, ap, subst, arith, List, [], ◌∷◌, map, All, AllPairs, inl, inr, ◌⊎◌}
use Rattle.std.proofs.Common.{Option, Some, None, Bool, true, false, IsTrue, not, bytes_eq, cond, option_map, ◌||◌}
use Rattle.std.specs.List.{list_any}
use Rattle.std.proofs.lemmas.List.{append-nil}
use Rattle.std.proofs.lemmas.List.Elements.{All-nil, All-cons, All-head, All-tail}
use Rattle.std.proofs.lemmas.Slice.Eq.{bytes_eq-Decides}
use Rattle.csub_text.specs.declared.span.Span.{Span}
use Rattle.csub_types.specs.declared.kind.IntKind.{IntKind}
use Rattle.csub_types.specs.declared.kind.IntKind.TheVariants.{Int}
use Rattle.csub_tree.specs.Declarations.{Head}
use Rattle.csub_tree.specs.Statements.{Stmts}
use Rattle.csub_tree.specs.Units.{Item, Struct, Enum, Object, Prototype, Function}
use Rattle.csub_objects.specs.Types.{Name, TypeTree, main_name}
use Rattle.csub_semantics.specs.Points.{at}
use Rattle.csub_semantics.specs.Syntax.{FunctionTree, ProgramTree}
use Rattle.csub_semantics.specs.Flows.{start_name, function_in, function_of, to_exit}
use Rattle.csub_scopes.specs.Scopes.{Scope, Declared, Meaning, global_object, local_object, enum_constant, a_function, untyped, find as find_name}
use Rattle.csub_rules.specs.Faults.{fault_if}
use Rattle.csub_rules.specs.ExprSorts.{number_of}
use Rattle.csub_rules.specs.Labels.{stands_in, labels_of_lines}
use Rattle.csub_rules.specs.StmtFaults.{Surroundings}
use Rattle.csub_rules.specs.Bodies.{in_body, body_fault, FineBody}
use Rattle.csub_rules.proofs.LawsEarlier.{neither, three_none, no_test}
use Rattle.csub_rules.proofs.LawsServed.{neither_holds}
use Rattle.csub_rules.specs.Files.{File, no_file}
use Rattle.csub_rules.specs.Heads.{at_params, past_head, head_fault}
use Rattle.csub_rules.specs.Items.{past_item, past_items, item_fault, items_fault, is_misdefined, is_other_main, lacks_names, in_function}
use Rattle.csub_rules.specs.FineItems.{FineHead, FineItems}
use Rattle.csub_resolution.specs.Values.{Defined}
use Rattle.csub_resolution.specs.Lines.{locals_lines}
use Rattle.csub_resolution.specs.Programs.{defined_in, function_by, functions_in, start}
use Rattle.csub_limits.specs.Prints.{lines_prints, items_prints}
use Rattle.csub_validity.specs.declared.role.Role.TheVariants.{Whole}
use Rattle.csub_validity.specs.Valid.{AreStmts, IsPart, IsDefinedAs, labels_of, no_loop, parameter_object, start_call}
use Rattle.program_validity.specs.Short.{ShortLines}
use Rattle.program_validity.specs.Written.{WrittenItems, WrittenItem}
use Rattle.program_validity.proofs.Agreeing.{IsKnown}
use Rattle.program_validity.proofs.Printing.{Few, few_left, few_right}
use Rattle.program_validity.proofs.Calls.{CanCall, IsCallable, IsCalled, IsCalledAs}
use Rattle.program_validity.proofs.Seen.{Sees, Within, SeesIn}
use Rattle.program_validity.proofs.Marks.{marked_lines, label_stands, names_differ}
use Rattle.program_validity.proofs.Statements.{Around, lines_are}
use Rattle.program_validity.proofs.Files.{items_keep}
use Rattle.program_validity.proofs.Definitions.{IsDefined, defined_among, head_keeps_tags, ctypes}
use Rattle.program_validity.proofs.Heads.{Declares, all_fresh, sees_params}

-- ---- what is known at file scope

pub record SeesFile (P : ProgramTree) (D : List Defined) (scope : Scope) : Type 0 where
  pub known : (x : Name) → IsKnown P.globals [] x (find_name x scope.names)
  pub can : CanCall P D scope

-- what a scope knows that knows less
sees_less : (P : ProgramTree) (D : List Defined) (scope all : Scope)
    → ((x : Name) (d : Declared) → find_name x scope.names ≡ Some d → find_name x all.names ≡ Some d) → SeesFile P D all → SeesFile P D scope
sees_less P D scope all keep h =
    record {
      known = λ x. known x (find_name x scope.names) refl;
      can = record { known = λ x. called x (find_name x scope.names) refl };
    }
  where
    known : (x : Name) (o : Option Declared) → find_name x scope.names ≡ o → IsKnown P.globals [] x o
    known x None e = tt
    known x (Some d) e = subst (IsKnown P.globals [] x) (keep x d e) (h.known x)

    called : (x : Name) (o : Option Declared) → find_name x scope.names ≡ o → IsCalledAs P D x o
    called x None e = tt
    called x (Some d) e = subst (IsCalledAs P D x) (keep x d e) (h.can.known x)

-- ---- bodies

module _ (P : ProgramTree) (D : List Defined) where
  body_is : (scope : Scope) (h : Head) (body : Stmts) → FineHead scope h → lacks_names h.params ≡ false
      → FineBody (number_of h.result) (in_function scope h) body → WrittenItem (Function h body (h.name.span)) → Few (lines_prints body)
      → ShortLines (function_by D scope h body).body → SeesFile P D (past_head scope h)
      → AreStmts P (function_by D scope h body) no_loop (function_by D scope h body).body
  body_is scope h body head named fine written few short sees =
      let f : FunctionTree = function_by D scope h body in
      let s : Surroundings = in_body (number_of h.result) body in
      let at_start : Sees P D [] (at_params (past_head scope h)) = record { known = sees.known; bounded = λ x n b. refl; can = sees.can } in
      let inside : Sees P D (map parameter_object f.params) (in_function scope h) =
      sees_params P D [] (at_params scope) (at_params (past_head scope h)) h.params (head_keeps_tags scope h) head.3
      (all_fresh scope h.params named head.3) at_start in
      let seen : SeesIn P D f [] (in_function scope h) =
      subst (λ os. Sees P D os (in_function scope h)) (sym (append-nil (map parameter_object f.params))) inside in
      let around : Around P f D (number_of h.result) s no_loop = record {
        breaks = λ b. absurd (cc);
        continues = λ b. absurd (cc);
        labels = λ x b.
            subst (λ xs. IsTrue (list_any (λ l. bytes_eq l x) xs))
            (sym (marked_lines D (number_of h.result) false Int (in_function scope h) body 0 at to_exit written))
            (label_stands x (labels_of_lines body) b);
        given = refl;
        whole = refl;
      } in
      let within : Within P D f [] (locals_lines (in_function scope h) body) =
      record { rest = []; is = sym (append-nil (locals_lines (in_function scope h) body)) } in
      lines_are P f D (number_of h.result) refl false s no_loop Int [] (in_function scope h) body (λ n. absurd (cc)) around seen fine.0 written few within short.1
      (omega arith)

  names_of : (h : Head) (file : File) → is_misdefined file h ≡ false → lacks_names h.params ≡ false
  names_of h file e =
      let p = neither_holds (stands_in h.name.text file.defined) (lacks_names h.params || is_other_main h) e in
      (neither_holds (lacks_names h.params) (is_other_main h) p.1).0

  -- the functions of some items
  pub bodies_in : (file : File) (items : List Item) → FineItems file items → items_fault file items ≡ None → WrittenItems items
      → Few (items_prints items) → All (λ (f : FunctionTree). ShortLines f.body) (functions_in D file items)
      → SeesFile P D (past_items file items).scope
      → All (λ (f : FunctionTree). AreStmts P f no_loop f.body) (functions_in D file items)
  bodies_in file [] fine f written few short sees = All-nil (λ (f : FunctionTree). AreStmts P f no_loop f.body)
  bodies_in file (Struct tag ds ∷ rest) fine f written few short sees =
      bodies_in (past_item file (Struct tag ds)) rest fine.1 (neither (item_fault file (Struct tag ds)) (items_fault (past_item file (Struct tag ds)) rest) f).1 written.1 few short sees
  bodies_in file (Enum tag cs ∷ rest) fine f written few short sees =
      bodies_in (past_item file (Enum tag cs)) rest fine.1 (neither (item_fault file (Enum tag cs)) (items_fault (past_item file (Enum tag cs)) rest) f).1 written.1 few short sees
  bodies_in file (Object d ∷ rest) fine f written few short sees =
      bodies_in (past_item file (Object d)) rest fine.1 (neither (item_fault file (Object d)) (items_fault (past_item file (Object d)) rest) f).1 written.1 few short sees
  bodies_in file (Prototype g ∷ rest) fine f written few short sees =
      bodies_in (past_item file (Prototype g)) rest fine.1 (neither (item_fault file (Prototype g)) (items_fault (past_item file (Prototype g)) rest) f).1 written.1 few short sees
  bodies_in file (Function h body s ∷ rest) fine f written few short sees =
      let after : File = past_item file (Function h body s) in
      let q = neither (item_fault file (Function h body s)) (items_fault after rest) f in
      let r = three_none (head_fault file.scope h) (fault_if (is_misdefined file h) 19 h.name.span)
      (body_fault (number_of h.result) (in_function file.scope h) body) q.0 in
      let here = sees_less P D (past_head file.scope h) (past_items after rest).scope (λ x d e. items_keep after rest x d q.1 e) sees in
      All-cons (λ (f : FunctionTree). AreStmts P f no_loop f.body) (function_by D file.scope h body) (functions_in D after rest)
      (body_is file.scope h body fine.0.0 (names_of h file (no_test (is_misdefined file h) 19 h.name.span r.1)) fine.0.2 written.0
      (few_left (lines_prints body) (items_prints rest) few)
      (All-head (λ (f : FunctionTree). ShortLines f.body) (function_by D file.scope h body) (functions_in D after rest) short) here)
      (bodies_in after rest fine.1 q.1 written.1 (few_right (lines_prints body) (items_prints rest) few)
      (All-tail (λ (f : FunctionTree). ShortLines f.body) (function_by D file.scope h body) (functions_in D after rest) short) sees)

-- ---- labels

module _ (D : List Defined) where
  pub labels_in : (file : File) (items : List Item) → FineItems file items → WrittenItems items
      → All (λ (f : FunctionTree). AllPairs (λ a b. a ≢ b) (labels_of f)) (functions_in D file items)
  labels_in file [] fine written = All-nil (λ (f : FunctionTree). AllPairs (λ a b. a ≢ b) (labels_of f))
  labels_in file (Struct tag ds ∷ rest) fine written = labels_in (past_item file (Struct tag ds)) rest fine.1 written.1
  labels_in file (Enum tag cs ∷ rest) fine written = labels_in (past_item file (Enum tag cs)) rest fine.1 written.1
  labels_in file (Object d ∷ rest) fine written = labels_in (past_item file (Object d)) rest fine.1 written.1
  labels_in file (Prototype g ∷ rest) fine written = labels_in (past_item file (Prototype g)) rest fine.1 written.1
  labels_in file (Function h body s ∷ rest) fine written =
      let after : File = past_item file (Function h body s) in
      All-cons (λ (f : FunctionTree). AllPairs (λ a b. a ≢ b) (labels_of f)) (function_by D file.scope h body) (functions_in D after rest)
      (subst (λ (xs : List Name). AllPairs (λ a b. a ≢ b) xs)
      (sym (marked_lines D (number_of h.result) false Int (in_function file.scope h) body 0 at to_exit written.0))
      (names_differ [] (labels_of_lines body) fine.0.2.1))
      (labels_in after rest fine.1 written.1)

-- ---- the functions that can be called

-- a function that is defined isn't `#start`
not_start : (all : List Name) (x : Name) → IsTrue (not (stands_in start_name all)) → IsTrue (stands_in x all) → bytes_eq start_name x ≡ false
not_start all x none h = by (bytes_eq start_name x) refl
  where
    not_both : {A : Type 0} (b : Bool) → IsTrue b → IsTrue (not b) → A
    not_both true p q = absurd (cc)
    not_both false p q = absurd (cc)

    by : (b : Bool) → bytes_eq start_name x ≡ b → b ≡ false
    by true e =
        let same : start_name ≡ x = (bytes_eq-Decides start_name x).0 e in
        not_both (stands_in start_name all) (subst (λ y. IsTrue (stands_in y all)) (sym same) h) none
    by false e = refl

module _ (P : ProgramTree) (at : Span) (items : List Item) (fine : FineItems no_file items) (f : items_fault no_file items ≡ None)
    (functions : P.functions ≡ start at ∷ functions_in (defined_in no_file items) no_file items)
    (none : IsTrue (not (stands_in start_name (past_items no_file items).defined))) where
  abbrev pub D : List Defined
  D = defined_in no_file items

  -- what is defined
  pub definition : (x : Name) → IsTrue (stands_in x (past_items no_file items).defined) → IsDefined D no_file items x
  definition x h = pick (defined_among D no_file items x fine f h)
    where
      pick : (IsTrue (stands_in x no_file.defined)) ⊎ IsDefined D no_file items x → IsDefined D no_file items x
      pick (inl p) = absurd (cc)
      pick (inr d) = d

  pub found_in : (x : Name) (g : FunctionTree) → IsTrue (stands_in x (past_items no_file items).defined)
      → function_in (functions_in D no_file items) x ≡ Some g → function_of P x ≡ Some g
  found_in x g h e =
      ap (λ fs. function_in fs x) functions
      ∙ ap (λ b. cond b (Some (start at)) (function_in (functions_in D no_file items) x)) (not_start (past_items no_file items).defined x none h) ∙ e

  abbrev pub F : Scope
  F = (past_items no_file items).scope

  callable : (x : Name) (ts : List TypeTree) (r : Option IntKind) → IsTrue (stands_in x (past_items no_file items).defined)
      → option_map (λ (d : Declared). d.means) (find_name x F.names) ≡ Some (a_function ts r) → IsCallable P D x ts r
  callable x ts r h e =
      let d = definition x h in
      let both : Some (a_function (ctypes d.function.params) d.function.result) ≡ Some (a_function ts r) = sym d.means ∙ e in
      let types : ctypes d.function.params ≡ ts = cc in
      let result : d.function.result ≡ r = cc in
      record { function = d.function; found = found_in x d.function h d.found; params = sym d.params; types = types; result = result }

  -- each function of file scope can be called
  pub can_call : Declares (past_items no_file items).defined F → CanCall P D F
  can_call heads = record { known = λ x. by x (find_name x F.names) refl }
    where
      meant : (x : Name) (m : Meaning) → option_map (λ (d : Declared). d.means) (find_name x F.names) ≡ Some m → IsCalled P D x m
      meant x (global_object t) e = tt
      meant x (local_object n t) e = tt
      meant x (enum_constant v) e = tt
      meant x (a_function ts r) e = callable x ts r (heads.heads x ts r e) e
      meant x untyped e = tt

      by : (x : Name) (o : Option Declared) → find_name x F.names ≡ o → IsCalledAs P D x o
      by x None e = tt
      by x (Some d) e = meant x d.means (ap (λ o. option_map (λ (d : Declared). d.means) o) e)

  -- ---- `#start`

  starts : (g : FunctionTree) → g.params ≡ [] → g.result ≡ Some Int → (o : Option FunctionTree) → o ≡ Some g
      → IsDefinedAs o (record { callee = main_name; params = []; result = Some Int; args = []; temp = Some 1 })
  starts g p r None e = absurd (cc)
  starts g p r (Some h) e =
      let same : g ≡ h = cc in
      (subst (λ (k : FunctionTree). k.params ≡ []) same p, subst (λ (k : FunctionTree). k.result ≡ Some Int) same r)

  pub start_is : IsTrue (stands_in main_name (past_items no_file items).defined) → AreStmts P (start at) no_loop (start at).body
  start_is h =
      let d = definition main_name h in
      let m = d.main refl in
      let call : IsDefinedAs (function_of P main_name) (record { callee = main_name; params = []; result = Some Int; args = []; temp = Some 1 }) =
      starts d.function m.0 m.1 (function_of P main_name) (found_in main_name d.function h d.found) in
      let part : IsPart P (start at) Whole (record { label = start_call; span = at; part = at } ∷ []) =
      record { defined = call; args = tt; temp = refl; few = omega arith } in
      (record { few = omega arith; one = inl (omega arith); each = All-cons (λ p. IsPart P (start at) Whole p) (record { label = start_call; span = at; part = at } ∷ []) [] part (All-nil (λ p. IsPart P (start at) Whole p)) }, tt)
