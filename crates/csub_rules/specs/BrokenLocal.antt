-- The rules on declarations in blocks, each by itself, and the declarations that can be resolved.
use Rattle.std.specs.Prelude.{◌≡◌, false, List, [], ◌∷◌, Option, Some, None, IsTrue, is_some, not}
use Rattle.csub_tree.specs.Declarations.{Init, Declarator, Declare}
use Rattle.csub_objects.specs.Types.{TypeTree}
use Rattle.csub_scopes.specs.Scopes.{Scope}
use Rattle.csub_rules.specs.declared.fault.Fault.{Fault}
use Rattle.csub_rules.specs.Declarators.{base_type, object_type}
use Rattle.csub_rules.specs.BrokenSlot.{BrokenBase, BrokenSlot, FineSlot}
use Rattle.csub_rules.specs.BrokenInit.{BrokenInit, FineInit}
use Rattle.csub_rules.specs.Here.{Here, is_declared, is_reserved}
use Rattle.csub_rules.specs.Locals.{past_var}

-- d is one of the declared names, and k is what it sees: also the names before it
pub data VarAt (base : Option TypeTree) : Here → List Declarator → Here → Declarator → Type 0 where
  this_var : (h : Here) (d : Declarator) (ds : List Declarator) → VarAt base h (d ∷ ds) h d
  next_var : (h k : Here) (c d : Declarator) (ds : List Declarator) → VarAt base (past_var h base c) ds k d → VarAt base h (c ∷ ds) k d

-- a declared name, where the type that its declaration begins with is this one
pub data VarBreaks (base : Option TypeTree) : Here → Declarator → Fault → Type 0 where
  -- it is declared twice in its block
  m2 : (h : Here) (d : Declarator) → IsTrue (is_declared h d.name.text) → VarBreaks base h d (record { rule = 2; span = d.name.span })
  -- it is one of the library's
  m3 : (h : Here) (d : Declarator) → IsTrue (is_reserved d.name.text) → VarBreaks base h d (record { rule = 3; span = d.name.span })
  by_slot : (h : Here) (d : Declarator) (f : Fault) → BrokenSlot h.scope base d.name.span d.dims f → VarBreaks base h d f
  by_init : (h : Here) (d : Declarator) (t : TypeTree) (x : Init) (f : Fault) → object_type h.scope base d.dims ≡ Some t → d.init ≡ Some x
      → BrokenInit (past_var h base d).scope false t x f → VarBreaks base h d f

pub data BrokenDeclare (h : Here) (d : Declare) : Fault → Type 0 where
  by_base : (f : Fault) → BrokenBase h.scope d.base f → BrokenDeclare h d f
  by_var : (k : Here) (v : Declarator) (f : Fault) → VarAt (base_type h.scope d.base) h d.vars k v
      → VarBreaks (base_type h.scope d.base) k v f → BrokenDeclare h d f

-- what can be resolved
abbrev pub FineValue : Scope → Option TypeTree → Option Init → Type 0
FineValue scope t None = Unit {0}
FineValue scope t (Some x) = FineInit scope false t x

abbrev pub FineVar : Here → Option TypeTree → Declarator → Type 0
FineVar h base d =
    FineSlot h.scope base d.dims × IsTrue (not (is_declared h d.name.text)) × IsTrue (not (is_reserved d.name.text))
    × FineValue (past_var h base d).scope (object_type h.scope base d.dims) d.init

abbrev pub FineVars : Here → Option TypeTree → List Declarator → Type 0
FineVars h base [] = Unit {0}
FineVars h base (d ∷ ds) = FineVar h base d × FineVars (past_var h base d) base ds

abbrev pub FineDeclare : Here → Declare → Type 0
FineDeclare h d = IsTrue (is_some (base_type h.scope d.base)) × FineVars h (base_type h.scope d.base) d.vars
