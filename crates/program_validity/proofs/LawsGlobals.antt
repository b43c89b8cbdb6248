-- The objects of file scope of a source that breaks no rule.
use Rattle.std.proofs.Common.{◌≡◌, ◌≢◌, ℤ, pos, Bool, true, false, List, [], ◌∷◌, All, IsTrue, is_some, not, bytes_eq, Option, Some, None, refl, subst}
use Rattle.std.specs.Prelude.{◌≤◌, sum_by, if◌then◌else◌}
use Rattle.std.proofs.lemmas.List.Elements.{All-nil, All-cons, All-append, All-weaker}
use Rattle.csub_tree.specs.declared.name.Name.{Name as NameAt}
use Rattle.csub_tree.specs.Declarations.{Declarator, Head}
use Rattle.csub_tree.specs.Units.{Constant, Item, Struct, Enum, Object, Prototype, Function, Source}
use Rattle.csub_objects.specs.Types.{Name, TypeTree, IsSized, kinds, cells}
use Rattle.csub_semantics.specs.Types.{GlobalTree}
use Rattle.csub_validity.specs.Valid.{AreOf, AreGlobals, most_global_cells}
use Rattle.csub_scopes.specs.Scopes.{Scope, Declared, Meaning, find}
use Rattle.csub_rules.specs.Constants.{enum_value}
use Rattle.csub_rules.specs.Declarators.{base_type, declared_type, object_type}
use Rattle.csub_rules.specs.Files.{File, no_file, naming, is_known}
use Rattle.csub_rules.specs.Objects.{past_object, past_objects}
use Rattle.csub_rules.specs.Enums.{value_after, past_constant, past_constants, past_tag}
use Rattle.csub_rules.specs.Heads.{signature, past_head}
use Rattle.csub_rules.specs.Items.{past_item}
use Rattle.csub_rules.specs.Units.{unit_fault}
use Rattle.csub_rules.specs.FineItems.{FineObjects, FineItems}
use Rattle.csub_rules.proofs.LawsFineItems.{fine_unit}
use Rattle.csub_resolution.specs.Programs.{global_by, globals_by, globals_in, program_of}
use Rattle.program_validity.proofs.Lists.{Pairs, all_pairs, pairs_append, is_same, contrary}
use Rattle.program_validity.proofs.Contents.{are_initial}
use Rattle.program_validity.proofs.Declared.{sure_sized}

-- ---- a name that is declared stays declared

known_by : (d : Declared) (o : Option Declared) (b : Bool) → IsTrue (is_some o) → IsTrue (is_some (if b then Some d else o))
known_by d o true k = refl
known_by d o false k = k

known_first : (d : Declared) (o : Option Declared) (b : Bool) → IsTrue b → IsTrue (is_some (if b then Some d else o))
known_first d o true h = refl
known_first d o false h = absurd (cc)

known_more : (scope : Scope) (x : Name) (m : Meaning) (a : Name) → IsTrue (is_known scope a) → IsTrue (is_known (naming scope x m) a)
known_more scope x m a k = known_by (record { name = x; depth = 0; means = m }) (find a scope.names) (bytes_eq x a) k

known_itself : (scope : Scope) (x : Name) (m : Meaning) → IsTrue (is_known (naming scope x m) x)
known_itself scope x m = known_first (record { name = x; depth = 0; means = m }) (find x scope.names) (bytes_eq x x) (is_same x)

module _ (a : Name) where
  known_constants : (scope : Scope) (next : ℤ) (cs : List Constant) → IsTrue (is_known scope a) → IsTrue (is_known (past_constants scope next cs) a)
  known_constants scope next [] k = k
  known_constants scope next (c ∷ cs) k =
      known_constants (past_constant scope next c) (value_after next (enum_value scope next c.value)) cs (known_more scope c.name.text _ a k)

  known_tag : (scope : Scope) (tag : Option NameAt) → IsTrue (is_known scope a) → IsTrue (is_known (past_tag scope tag) a)
  known_tag scope None k = k
  known_tag scope (Some tag) k = k

  known_objects : (base : Option TypeTree) (scope : Scope) (ds : List Declarator) → IsTrue (is_known scope a)
      → IsTrue (is_known (past_objects scope base ds) a)
  known_objects base scope [] k = k
  known_objects base scope (d ∷ ds) k = known_objects base (past_object scope base d) ds (known_more scope d.name.text _ a k)

  known_head : (scope : Scope) (h : Head) → IsTrue (is_known scope a) → IsTrue (is_known (past_head scope h) a)
  known_head scope h k = by (is_known scope h.name.text)
    where
      by : (b : Bool) → IsTrue (is_known (if b then scope else naming scope h.name.text (signature scope h)) a)
      by true = k
      by false = known_more scope h.name.text (signature scope h) a k

-- ---- names differ

-- an object that may be declared has another name than what is known
differs : (scope : Scope) (x a : Name) → IsTrue (not (is_known scope x)) → IsTrue (is_known scope a) → a ≢ x
differs scope x a n k e = contrary (is_known scope x) n (subst (λ b. IsTrue (is_known scope b)) e k)

module _ (base : Option TypeTree) where
  apart_objects : (a : Name) (scope : Scope) (ds : List Declarator) → FineObjects scope base ds → IsTrue (is_known scope a)
      → All (λ (g : GlobalTree). a ≢ g.name) (globals_by scope base ds)
  apart_objects a scope [] fine k = All-nil (λ (g : GlobalTree). a ≢ g.name)
  apart_objects a scope (d ∷ ds) fine k =
      All-cons (λ (g : GlobalTree). a ≢ g.name) (global_by scope base d) (globals_by (past_object scope base d) base ds)
      (differs scope d.name.text a fine.0.1 k)
      (apart_objects a (past_object scope base d) ds fine.1 (known_more scope d.name.text _ a k))

  pairs_objects : (scope : Scope) (ds : List Declarator) → FineObjects scope base ds
      → Pairs (λ (g k : GlobalTree). g.name ≢ k.name) (globals_by scope base ds)
  pairs_objects scope [] fine = tt
  pairs_objects scope (d ∷ ds) fine =
      (apart_objects d.name.text (past_object scope base d) ds fine.1 (known_itself scope d.name.text _), pairs_objects (past_object scope base d) ds fine.1)

  -- each is known behind them all
  all_known : (scope : Scope) (ds : List Declarator)
      → All (λ (g : GlobalTree). IsTrue (is_known (past_objects scope base ds) g.name)) (globals_by scope base ds)
  all_known scope [] = All-nil (λ (g : GlobalTree). IsTrue (is_known scope g.name))
  all_known scope (d ∷ ds) =
      let past : Scope = past_object scope base d in
      All-cons (λ (g : GlobalTree). IsTrue (is_known (past_objects past base ds) g.name)) (global_by scope base d) (globals_by past base ds)
      (known_objects d.name.text base past ds (known_itself scope d.name.text _)) (all_known past ds)

apart_items : (a : Name) (file : File) (items : List Item) → FineItems file items → IsTrue (is_known file.scope a)
    → All (λ (g : GlobalTree). a ≢ g.name) (globals_in file items)
apart_items a file [] fine k = All-nil (λ (g : GlobalTree). a ≢ g.name)
apart_items a file (Struct tag ds ∷ rest) fine k = apart_items a (past_item file (Struct tag ds)) rest fine.1 k
apart_items a file (Enum tag cs ∷ rest) fine k =
    apart_items a (past_item file (Enum tag cs)) rest fine.1 (known_constants a (past_tag file.scope tag) (pos 0) cs (known_tag a file.scope tag k))
apart_items a file (Object d ∷ rest) fine k =
    let base : Option TypeTree = base_type file.scope d.base in
    All-append (λ (g : GlobalTree). a ≢ g.name) (globals_by file.scope base d.vars) (globals_in (past_item file (Object d)) rest)
    (apart_objects base a file.scope d.vars fine.0.1 k)
    (apart_items a (past_item file (Object d)) rest fine.1 (known_objects a base file.scope d.vars k))
apart_items a file (Prototype h ∷ rest) fine k = apart_items a (past_item file (Prototype h)) rest fine.1 (known_head a file.scope h k)
apart_items a file (Function h body t ∷ rest) fine k = apart_items a (past_item file (Function h body t)) rest fine.1 (known_head a file.scope h k)

pairs_items : (file : File) (items : List Item) → FineItems file items → Pairs (λ (g k : GlobalTree). g.name ≢ k.name) (globals_in file items)
pairs_items file [] fine = tt
pairs_items file (Struct tag ds ∷ rest) fine = pairs_items (past_item file (Struct tag ds)) rest fine.1
pairs_items file (Enum tag cs ∷ rest) fine = pairs_items (past_item file (Enum tag cs)) rest fine.1
pairs_items file (Object d ∷ rest) fine =
    let base : Option TypeTree = base_type file.scope d.base in
    let past : File = past_item file (Object d) in
    pairs_append (λ (g k : GlobalTree). g.name ≢ k.name) (globals_by file.scope base d.vars) (globals_in past rest)
    (pairs_objects base file.scope d.vars fine.0.1) (pairs_items past rest fine.1)
    (All-weaker (λ (g : GlobalTree). IsTrue (is_known past.scope g.name)) (λ (g : GlobalTree). All (λ (k : GlobalTree). g.name ≢ k.name) (globals_in past rest))
    (λ g k. apart_items g.name past rest fine.1 k) (globals_by file.scope base d.vars) (all_known base file.scope d.vars))
pairs_items file (Prototype h ∷ rest) fine = pairs_items (past_item file (Prototype h)) rest fine.1
pairs_items file (Function h body t ∷ rest) fine = pairs_items (past_item file (Function h body t)) rest fine.1

-- ---- types and contents

-- an object has a type that objects may have, and a number of each of its kinds
record IsFilled (g : GlobalTree) : Type 0 where
  sized : IsSized g.ctype
  filled : AreOf (kinds g.ctype) g.initial

filled_objects : (base : Option TypeTree) (scope : Scope) (ds : List Declarator) → FineObjects scope base ds → All IsFilled (globals_by scope base ds)
filled_objects base scope [] fine = All-nil IsFilled
filled_objects base scope (d ∷ ds) fine =
    All-cons IsFilled (global_by scope base d) (globals_by (past_object scope base d) base ds)
    (record {
      sized = sure_sized (declared_type scope base d.dims);
      filled = are_initial (past_object scope base d) d.init (object_type scope base d.dims) fine.0.3;
    }) (filled_objects base (past_object scope base d) ds fine.1)

filled_items : (file : File) (items : List Item) → FineItems file items → All IsFilled (globals_in file items)
filled_items file [] fine = All-nil IsFilled
filled_items file (Struct tag ds ∷ rest) fine = filled_items (past_item file (Struct tag ds)) rest fine.1
filled_items file (Enum tag cs ∷ rest) fine = filled_items (past_item file (Enum tag cs)) rest fine.1
filled_items file (Object d ∷ rest) fine =
    let base : Option TypeTree = base_type file.scope d.base in
    All-append IsFilled (globals_by file.scope base d.vars) (globals_in (past_item file (Object d)) rest)
    (filled_objects base file.scope d.vars fine.0.1) (filled_items (past_item file (Object d)) rest fine.1)
filled_items file (Prototype h ∷ rest) fine = filled_items (past_item file (Prototype h)) rest fine.1
filled_items file (Function h body t ∷ rest) fine = filled_items (past_item file (Function h body t)) rest fine.1

-- ---- sources

pub globals : (u : Source) → unit_fault u ≡ None → sum_by (λ (g : GlobalTree). cells g.ctype) (program_of u).globals ≤ most_global_cells
    → AreGlobals (program_of u).globals
globals u h few =
    let fine = fine_unit u h in
    let filled = filled_items no_file u.items fine in
    record {
      distinct = all_pairs (λ (g k : GlobalTree). g.name ≢ k.name) (program_of u).globals (pairs_items no_file u.items fine);
      types = All-weaker IsFilled (λ (g : GlobalTree). IsSized g.ctype) (λ g f. f.sized) (program_of u).globals filled;
      contents = All-weaker IsFilled (λ (g : GlobalTree). AreOf (kinds g.ctype) g.initial) (λ g f. f.filled) (program_of u).globals filled;
      few = few;
    }
