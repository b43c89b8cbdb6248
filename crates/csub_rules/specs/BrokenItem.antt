-- The rules on functions and on whole sources, each by itself.
use Rattle.std.specs.Prelude.{◌≡◌, List, ◌∷◌, Option, Some, IsTrue, not}
use Rattle.csub_tree.specs.declared.name.Name.{Name as NameAt}
use Rattle.csub_tree.specs.Declarations.{Param, Declare, Head}
use Rattle.csub_tree.specs.Statements.{Stmts}
use Rattle.csub_tree.specs.Units.{Constant, Item, Struct, Enum, Object, Prototype, Function}
use Rattle.csub_text.specs.declared.span.Span.{Span}
use Rattle.csub_scopes.specs.Scopes.{Scope, find}
use Rattle.csub_rules.specs.declared.fault.Fault.{Fault}
use Rattle.csub_rules.specs.ExprSorts.{number_of}
use Rattle.csub_rules.specs.Params.{BrokenParam}
use Rattle.csub_rules.specs.Here.{Here, is_declared, is_reserved}
use Rattle.csub_rules.specs.Labels.{stands_in}
use Rattle.csub_rules.specs.Bodies.{BrokenBody}
use Rattle.csub_rules.specs.Files.{File, no_file}
use Rattle.csub_rules.specs.Heads.{at_params, past_param, is_taken, contradicts}
use Rattle.csub_rules.specs.Items.{past_item, lacks_names, is_other_main, in_function}
use Rattle.csub_objects.specs.Types.{main_name}
use Rattle.csub_rules.specs.Units.{all_defined, no_place}
use Rattle.csub_rules.specs.BrokenObject.{BrokenDeclaration, BrokenStruct, BrokenEnumeration, IsIn}

-- p is one of the parameters, and k is what it sees: also those before it
pub data ParamAt : Here → List Param → Here → Param → Type 0 where
  this_param : (h : Here) (p : Param) (ps : List Param) → ParamAt h (p ∷ ps) h p
  next_param : (h k : Here) (q p : Param) (ps : List Param) → ParamAt (past_param h q) ps k p → ParamAt h (q ∷ ps) k p

pub data BrokenHead (scope : Scope) (h : Head) : Fault → Type 0 where
  -- its name is declared before, and not as a function
  m2_head : IsTrue (is_taken (find h.name.text scope.names)) → BrokenHead scope h (record { rule = 2; span = h.name.span })
  m3_head : IsTrue (is_reserved h.name.text) → BrokenHead scope h (record { rule = 3; span = h.name.span })
  -- it is declared before as a function with other types, as far as its own break no rule
  m19_other : IsTrue (contradicts scope h) → BrokenHead scope h (record { rule = 19; span = h.name.span })
  -- two parameters have one name
  m2_param : (k : Here) (p : Param) (x : NameAt) → ParamAt (at_params scope) h.params k p → p.name ≡ Some x
      → IsTrue (is_declared k x.text) → BrokenHead scope h (record { rule = 2; span = x.span })
  m3_param : (k : Here) (p : Param) (x : NameAt) → ParamAt (at_params scope) h.params k p → p.name ≡ Some x
      → IsTrue (is_reserved x.text) → BrokenHead scope h (record { rule = 3; span = x.span })
  by_param : (k : Here) (p : Param) (f : Fault) → ParamAt (at_params scope) h.params k p → BrokenParam k.scope p f → BrokenHead scope h f

pub data BrokenItem (file : File) : Item → Fault → Type 0 where
  by_struct : (tag : NameAt) (ds : List Declare) (f : Fault) → BrokenStruct file.scope tag ds f → BrokenItem file (Struct tag ds) f
  by_enum : (tag : Option NameAt) (cs : List Constant) (f : Fault) → BrokenEnumeration file.scope tag cs f → BrokenItem file (Enum tag cs) f
  by_declaration : (d : Declare) (f : Fault) → BrokenDeclaration file.scope d f → BrokenItem file (Object d) f
  by_prototype : (h : Head) (f : Fault) → BrokenHead file.scope h f → BrokenItem file (Prototype h) f
  by_head : (h : Head) (body : Stmts) (s : Span) (f : Fault) → BrokenHead file.scope h f → BrokenItem file (Function h body s) f
  -- a function is defined twice
  m19_twice : (h : Head) (body : Stmts) (s : Span) → IsTrue (stands_in h.name.text file.defined)
      → BrokenItem file (Function h body s) (record { rule = 19; span = h.name.span })
  -- a parameter of a definition has no name
  m19_unnamed : (h : Head) (body : Stmts) (s : Span) → IsTrue (lacks_names h.params)
      → BrokenItem file (Function h body s) (record { rule = 19; span = h.name.span })
  -- `main` has another result than `int`, or parameters
  m19_main : (h : Head) (body : Stmts) (s : Span) → IsTrue (is_other_main h)
      → BrokenItem file (Function h body s) (record { rule = 19; span = h.name.span })
  by_body : (h : Head) (body : Stmts) (s : Span) (f : Fault) → BrokenBody (number_of h.result) (in_function file.scope h) body f
      → BrokenItem file (Function h body s) f

-- i is one of the items, and k is what is declared before it
pub data ItemAt : File → List Item → File → Item → Type 0 where
  this_item : (k : File) (i : Item) (rest : List Item) → ItemAt k (i ∷ rest) k i
  next_item : (j k : File) (h i : Item) (rest : List Item) → ItemAt (past_item j h) rest k i → ItemAt j (h ∷ rest) k i

-- a rule that is broken at a place of the source
pub data BrokenPlaced (items : List Item) : Fault → Type 0 where
  by_item : (k : File) (i : Item) (f : Fault) → ItemAt no_file items k i → BrokenItem k i f → BrokenPlaced items f
  -- a function is declared, and defined nowhere
  m19_undefined : (h : Head) → IsIn (Prototype h) items → IsTrue (not (stands_in h.name.text (all_defined items)))
      → BrokenPlaced items (record { rule = 19; span = h.name.span })

-- A rule that a source breaks: exact for whether one is broken, and which comes first (`UnitLaws`). Of the others those are
-- left out that ask for a type or a value which a broken rule leaves unknown.
pub data BrokenUnit (items : List Item) : Fault → Type 0 where
  placed : (f : Fault) → BrokenPlaced items f → BrokenUnit items f
  -- `main` is defined nowhere, which has no place in the source
  m19_missing : IsTrue (not (stands_in main_name (all_defined items))) → BrokenUnit items (record { rule = 19; span = no_place })
