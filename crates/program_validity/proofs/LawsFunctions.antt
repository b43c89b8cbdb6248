-- `#start` stands first, `main` is there as it has to be, and no two functions have one name.
use Rattle.std.proofs.Common.{◌≡◌, ◌≢◌, Bool, true, false, List, [], ◌∷◌, All, IsTrue, not, bytes_eq, Option, Some, None, refl, subst, sym, ap}
use Rattle.std.specs.Option.{option_or}
use Rattle.std.specs.Prelude.{AllPairs, ◌||◌, ◌&&◌, find, if◌then◌else◌}
use Rattle.std.proofs.lemmas.List.Elements.{All-nil, All-cons}
use Rattle.csub_text.specs.declared.span.Span.{Span}
use Rattle.csub_types.specs.declared.kind.IntKind.{IntKind}
use Rattle.csub_types.specs.declared.kind.IntKind.TheVariants.{Char, Int, Unsigned}
use Rattle.csub_tree.specs.Declarations.{Param, Head}
use Rattle.csub_tree.specs.Statements.{Stmts}
use Rattle.csub_tree.specs.Units.{Item, Struct, Enum, Object, Prototype, Function, Source}
use Rattle.csub_objects.specs.Types.{Name, main_name}
use Rattle.csub_semantics.specs.Syntax.{FunctionTree}
use Rattle.csub_semantics.specs.Flows.{start_name, function_of}
use Rattle.csub_validity.specs.Valid.{BeginsWithStart, IsMain}
use Rattle.csub_rules.specs.ExprSorts.{number_of}
use Rattle.csub_rules.specs.declared.fault.Fault.{Fault}
use Rattle.csub_rules.specs.Labels.{stands_in}
use Rattle.csub_rules.proofs.LawsEarlier.{no_test}
use Rattle.csub_rules.proofs.LawsUses.{is_false}
use Rattle.csub_scopes.specs.Scopes.{Scope}
use Rattle.csub_rules.specs.Files.{File, no_file}
use Rattle.csub_rules.specs.Heads.{at_params, past_head}
use Rattle.csub_rules.specs.Items.{past_item, past_items, is_int, has_none, is_other_main, lacks_names, is_misdefined}
use Rattle.csub_rules.specs.Units.{all_defined, placed_fault, no_place, main_fault, unit_fault}
use Rattle.csub_rules.specs.FineItems.{FineItems}
use Rattle.csub_rules.proofs.LawsFineItems.{fine_unit}
use Rattle.csub_resolution.specs.Values.{Defined}
use Rattle.csub_resolution.specs.Programs.{params, params_of, function_by, functions_in, defined_in, program_of}
use Rattle.program_validity.specs.Names.{NoneIsStart}
use Rattle.program_validity.proofs.Lists.{Pairs, all_pairs, is_same, contrary, in_first, in_second, second_fails}

-- ---- names

-- what is defined already has another name than what is defined now
differs : (file : File) (h : Head) (a : Name) → IsTrue (not (is_misdefined file h)) → IsTrue (stands_in a file.defined) → a ≢ h.name.text
differs file h a fine s e =
    let twice : IsTrue (stands_in h.name.text file.defined) = subst (λ n. IsTrue (stands_in n file.defined)) e s in
    contrary (is_misdefined file h) fine (in_first (stands_in h.name.text file.defined) (lacks_names h.params || is_other_main h) twice)

module _ (defined : List Defined) where
  apart : (a : Name) (file : File) (items : List Item) → FineItems file items → IsTrue (stands_in a file.defined)
      → All (λ (f : FunctionTree). a ≢ f.name) (functions_in defined file items)
  apart a file [] fine s = All-nil (λ (f : FunctionTree). a ≢ f.name)
  apart a file (Struct tag ds ∷ rest) fine s = apart a (past_item file (Struct tag ds)) rest fine.1 s
  apart a file (Enum tag cs ∷ rest) fine s = apart a (past_item file (Enum tag cs)) rest fine.1 s
  apart a file (Object d ∷ rest) fine s = apart a (past_item file (Object d)) rest fine.1 s
  apart a file (Prototype h ∷ rest) fine s = apart a (past_item file (Prototype h)) rest fine.1 s
  apart a file (Function h body t ∷ rest) fine s =
      All-cons (λ (f : FunctionTree). a ≢ f.name) (function_by defined file.scope h body)
      (functions_in defined (past_item file (Function h body t)) rest) (differs file h a fine.0.1 s)
      (apart a (past_item file (Function h body t)) rest fine.1 (in_second (bytes_eq h.name.text a) (stands_in a file.defined) s))

  pairs : (file : File) (items : List Item) → FineItems file items
      → Pairs (λ (f g : FunctionTree). f.name ≢ g.name) (functions_in defined file items)
  pairs file [] fine = tt
  pairs file (Struct tag ds ∷ rest) fine = pairs (past_item file (Struct tag ds)) rest fine.1
  pairs file (Enum tag cs ∷ rest) fine = pairs (past_item file (Enum tag cs)) rest fine.1
  pairs file (Object d ∷ rest) fine = pairs (past_item file (Object d)) rest fine.1
  pairs file (Prototype h ∷ rest) fine = pairs (past_item file (Prototype h)) rest fine.1
  pairs file (Function h body t ∷ rest) fine =
      let past : File = past_item file (Function h body t) in
      let here : IsTrue (stands_in h.name.text past.defined) =
      in_first (bytes_eq h.name.text h.name.text) (stands_in h.name.text file.defined) (is_same h.name.text) in
      (apart h.name.text past rest fine.1 here, pairs past rest fine.1)

  -- what is defined stays defined
  kept : (a : Name) (file : File) (items : List Item) → IsTrue (stands_in a file.defined) → IsTrue (stands_in a (past_items file items).defined)
  kept a file [] s = s
  kept a file (Struct tag ds ∷ rest) s = kept a (past_item file (Struct tag ds)) rest s
  kept a file (Enum tag cs ∷ rest) s = kept a (past_item file (Enum tag cs)) rest s
  kept a file (Object d ∷ rest) s = kept a (past_item file (Object d)) rest s
  kept a file (Prototype h ∷ rest) s = kept a (past_item file (Prototype h)) rest s
  kept a file (Function h body t ∷ rest) s =
      kept a (past_item file (Function h body t)) rest (in_second (bytes_eq h.name.text a) (stands_in a file.defined) s)

  defined_there : (a : Name) (file : File) (h : Head) (body : Stmts) (t : Span) (rest : List Item) → a ≡ h.name.text
      → IsTrue (stands_in a (past_items file (Function h body t ∷ rest)).defined)
  defined_there a file h body t rest e =
      let here : IsTrue (bytes_eq h.name.text a) = subst (λ b. IsTrue (bytes_eq h.name.text b)) (sym e) (is_same h.name.text) in
      kept a (past_item file (Function h body t)) rest (in_first (bytes_eq h.name.text a) (stands_in a file.defined) here)

  -- a name that isn't defined is that of no function
  unnamed : (a : Name) (file : File) (items : List Item) → IsTrue (not (stands_in a (past_items file items).defined))
      → All (λ (f : FunctionTree). a ≢ f.name) (functions_in defined file items)
  unnamed a file [] n = All-nil (λ (f : FunctionTree). a ≢ f.name)
  unnamed a file (Struct tag ds ∷ rest) n = unnamed a (past_item file (Struct tag ds)) rest n
  unnamed a file (Enum tag cs ∷ rest) n = unnamed a (past_item file (Enum tag cs)) rest n
  unnamed a file (Object d ∷ rest) n = unnamed a (past_item file (Object d)) rest n
  unnamed a file (Prototype h ∷ rest) n = unnamed a (past_item file (Prototype h)) rest n
  unnamed a file (Function h body t ∷ rest) n =
      All-cons (λ (f : FunctionTree). a ≢ f.name) (function_by defined file.scope h body)
      (functions_in defined (past_item file (Function h body t)) rest)
      (λ e. contrary (stands_in a (past_items file (Function h body t ∷ rest)).defined) n (defined_there a file h body t rest e))
      (unnamed a (past_item file (Function h body t)) rest n)

-- ---- main

first_holds : (a b : Bool) → IsTrue (a && b) → IsTrue a
first_holds true b h = refl
first_holds false b h = absurd (cc)

second_holds : (a b : Bool) → IsTrue (a && b) → IsTrue b
second_holds true b h = h
second_holds false b h = absurd (cc)

-- where the first holds, the second holds
implied : (a b : Bool) → IsTrue (not (a && not b)) → IsTrue a → IsTrue b
implied true true h k = refl
implied true false h k = h
implied false b h k = absurd (cc)

int_kind : (o : Option IntKind) → IsTrue (is_int o) → o ≡ Some Int
int_kind None h = absurd (cc)
int_kind (Some Char) h = absurd (cc)
int_kind (Some Int) h = refl
int_kind (Some Unsigned) h = absurd (cc)

no_params : (scope : Scope) (h : Head) (ps : List Param) → h.params ≡ ps → IsTrue (has_none ps) → params_of scope h ≡ []
no_params scope h [] e n = ap (λ ps. params (at_params (past_head scope h)) ps) e
no_params scope h (p ∷ ps) e n = absurd (cc)

module _ (defined : List Defined) where
  as_main : (file : File) (h : Head) (body : Stmts) → IsTrue (not (is_misdefined file h)) → IsTrue (bytes_eq h.name.text main_name)
      → IsMain (Some (function_by defined file.scope h body))
  as_main file h body fine m =
      let other : IsTrue (not (is_other_main h)) =
      second_fails (lacks_names h.params) (is_other_main h) (second_fails (stands_in h.name.text file.defined) (lacks_names h.params || is_other_main h) fine) in
      let both : IsTrue (is_int (number_of h.result) && has_none h.params) =
      implied (bytes_eq h.name.text main_name) (is_int (number_of h.result) && has_none h.params) other m in (
        no_params file.scope h h.params refl (second_holds (is_int (number_of h.result)) (has_none h.params) both),
        int_kind (number_of h.result) (first_holds (is_int (number_of h.result)) (has_none h.params) both),
      )

  by_name : (f : FunctionTree) (rest : List FunctionTree) (b : Bool) → (IsTrue b → IsMain (Some f))
      → (IsTrue (not b) → IsMain (find (λ (g : FunctionTree). bytes_eq g.name main_name) rest))
      → IsMain (if b then Some f else find (λ (g : FunctionTree). bytes_eq g.name main_name) rest)
  by_name f rest true here later = here refl
  by_name f rest false here later = later refl

  not_yet : (b c : Bool) → IsTrue (not b) → IsTrue (not c) → IsTrue (not (b || c))
  not_yet true c h k = h
  not_yet false c h k = k

  is_main : (file : File) (items : List Item) → FineItems file items → IsTrue (not (stands_in main_name file.defined))
      → IsTrue (stands_in main_name (past_items file items).defined)
      → IsMain (find (λ (g : FunctionTree). bytes_eq g.name main_name) (functions_in defined file items))
  is_main file [] fine n s = absurd (contrary (stands_in main_name file.defined) n s)
  is_main file (Struct tag ds ∷ rest) fine n s = is_main (past_item file (Struct tag ds)) rest fine.1 n s
  is_main file (Enum tag cs ∷ rest) fine n s = is_main (past_item file (Enum tag cs)) rest fine.1 n s
  is_main file (Object d ∷ rest) fine n s = is_main (past_item file (Object d)) rest fine.1 n s
  is_main file (Prototype h ∷ rest) fine n s = is_main (past_item file (Prototype h)) rest fine.1 n s
  is_main file (Function h body t ∷ rest) fine n s =
      let past : File = past_item file (Function h body t) in
      by_name (function_by defined file.scope h body) (functions_in defined past rest) (bytes_eq h.name.text main_name)
      (as_main file h body fine.0.1)
      (λ other. is_main past rest fine.1 (not_yet (bytes_eq h.name.text main_name) (stands_in main_name file.defined) other n) s)

-- ---- sources

none_last : (o last : Option Fault) → option_or o last ≡ None → last ≡ None
none_last None last e = e
none_last (Some f) last e = absurd (cc)

twice_not : (b : Bool) → IsTrue (not (not b)) → IsTrue b
twice_not true h = refl
twice_not false h = h

main_stands : (u : Source) → unit_fault u ≡ None → IsTrue (stands_in main_name (all_defined u.items))
main_stands u h =
    let lacks : Bool = not (stands_in main_name (all_defined u.items)) in
    twice_not (stands_in main_name (all_defined u.items))
    (is_false lacks (no_test lacks 19 no_place (none_last (placed_fault u.items) (main_fault u.items) h)))

pub start : (u : Source) → BeginsWithStart (program_of u).functions
start u = record { name = refl; params = refl; result = refl; body = refl; locals = refl; temps = refl }

pub main : (u : Source) → unit_fault u ≡ None → IsMain (function_of (program_of u) main_name)
main u h = is_main (defined_in no_file u.items) no_file u.items (fine_unit u h) refl (main_stands u h)

pub distinct : (u : Source) → unit_fault u ≡ None → NoneIsStart u → AllPairs (λ (f g : FunctionTree). f.name ≢ g.name) (program_of u).functions
distinct u h n =
    all_pairs (λ (f g : FunctionTree). f.name ≢ g.name) (program_of u).functions
    (unnamed (defined_in no_file u.items) start_name no_file u.items n, pairs (defined_in no_file u.items) no_file u.items (fine_unit u h))
