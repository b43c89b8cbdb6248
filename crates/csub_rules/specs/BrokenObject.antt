-- The rules on objects of file scope, on structs and on enumerations, each by itself, and those that can be resolved.
use Rattle.std.specs.Prelude.{◌≡◌, ℤ, pos, true, List, ◌∷◌, Option, Some, IsTrue, is_some}
use Rattle.csub_text.specs.declared.span.Span.{Span}
use Rattle.csub_tree.specs.declared.name.Name.{Name as NameAt}
use Rattle.csub_tree.specs.Declarations.{Init, Declarator, Declare}
use Rattle.csub_tree.specs.Units.{Constant}
use Rattle.csub_objects.specs.Types.{TypeTree, IsSized}
use Rattle.csub_scopes.specs.Scopes.{Scope, find_tag}
use Rattle.csub_rules.specs.declared.fault.Fault.{Fault}
use Rattle.csub_rules.specs.Declarators.{base_type, object_type}
use Rattle.csub_rules.specs.BrokenSlot.{BrokenBase, BrokenSlot}
use Rattle.csub_rules.specs.BrokenInit.{BrokenInit}
use Rattle.csub_rules.specs.BrokenUse.{BrokenEnum}
use Rattle.csub_rules.specs.Constants.{enum_value}
use Rattle.csub_rules.specs.Here.{is_reserved}
use Rattle.csub_rules.specs.Labels.{NameTwice}
use Rattle.csub_rules.specs.Files.{is_known}
use Rattle.csub_rules.specs.Objects.{past_object}
use Rattle.csub_rules.specs.Structs.{field_names, defined_struct}
use Rattle.csub_rules.specs.Enums.{value_after, past_constant, past_tag}

-- a name that is declared at file scope
pub data BrokenName (scope : Scope) (x : NameAt) : Fault → Type 0 where
  m2_name : IsTrue (is_known scope x.text) → BrokenName scope x (record { rule = 2; span = x.span })
  m3_name : IsTrue (is_reserved x.text) → BrokenName scope x (record { rule = 3; span = x.span })

-- a tag
pub data BrokenTag (scope : Scope) (x : NameAt) : Fault → Type 0 where
  m2_tag : IsTrue (is_some (find_tag x.text scope.tags)) → BrokenTag scope x (record { rule = 2; span = x.span })
  m3_tag : IsTrue (is_reserved x.text) → BrokenTag scope x (record { rule = 3; span = x.span })

-- d is one of the declared objects, and k is what it sees: also the objects before it
pub data ObjectAt (base : Option TypeTree) : Scope → List Declarator → Scope → Declarator → Type 0 where
  this_object : (s : Scope) (d : Declarator) (ds : List Declarator) → ObjectAt base s (d ∷ ds) s d
  next_object : (s k : Scope) (c d : Declarator) (ds : List Declarator) → ObjectAt base (past_object s base c) ds k d
      → ObjectAt base s (c ∷ ds) k d

pub data ObjectBreaks (base : Option TypeTree) (scope : Scope) (d : Declarator) : Fault → Type 0 where
  by_object_name : (f : Fault) → BrokenName scope d.name f → ObjectBreaks base scope d f
  by_object_slot : (f : Fault) → BrokenSlot scope base d.name.span d.dims f → ObjectBreaks base scope d f
  by_object_init : (t : TypeTree) (x : Init) (f : Fault) → object_type scope base d.dims ≡ Some t → d.init ≡ Some x
      → BrokenInit (past_object scope base d) true t x f → ObjectBreaks base scope d f

pub data BrokenDeclaration (scope : Scope) (d : Declare) : Fault → Type 0 where
  by_object_base : (f : Fault) → BrokenBase scope d.base f → BrokenDeclaration scope d f
  by_object : (k : Scope) (v : Declarator) (f : Fault) → ObjectAt (base_type scope d.base) scope d.vars k v
      → ObjectBreaks (base_type scope d.base) k v f → BrokenDeclaration scope d f

-- v is a member that declaration d of the struct declares
pub data IsIn {A : Type 0} (x : A) : List A → Type 0 where
  this_one : (rest : List A) → IsIn x (x ∷ rest)
  next_one : (y : A) (rest : List A) → IsIn x rest → IsIn x (y ∷ rest)

pub data BrokenStruct (scope : Scope) (tag : NameAt) (ds : List Declare) : Fault → Type 0 where
  by_struct_tag : (f : Fault) → BrokenTag scope tag f → BrokenStruct scope tag ds f
  -- it is too large, or too many structs stand inside each other
  m10_struct : (t : TypeTree) → defined_struct scope tag.text ds ≡ Some t → (IsSized t → ⊥)
      → BrokenStruct scope tag ds (record { rule = 10; span = tag.span })
  by_field_base : (d : Declare) (f : Fault) → IsIn d ds → BrokenBase scope d.base f → BrokenStruct scope tag ds f
  -- a member's name is one of the library's
  m3_field : (d : Declare) (v : Declarator) → IsIn d ds → IsIn v d.vars → IsTrue (is_reserved v.name.text)
      → BrokenStruct scope tag ds (record { rule = 3; span = v.name.span })
  by_field_slot : (d : Declare) (v : Declarator) (f : Fault) → IsIn d ds → IsIn v d.vars
      → BrokenSlot scope (base_type scope d.base) v.name.span v.dims f → BrokenStruct scope tag ds f
  -- two members have one name
  m2_field : (at : Span) → NameTwice (field_names ds) at → BrokenStruct scope tag ds (record { rule = 2; span = at })

-- c is one of the constants, k is what it sees, and `next` the value that it has without an expression
pub data ConstantAt : Scope → ℤ → List Constant → Scope → ℤ → Constant → Type 0 where
  this_constant : (s : Scope) (next : ℤ) (c : Constant) (cs : List Constant) → ConstantAt s next (c ∷ cs) s next c
  next_constant : (s k : Scope) (next after : ℤ) (b c : Constant) (cs : List Constant)
      → ConstantAt (past_constant s next b) (value_after next (enum_value s next b.value)) cs k after c
      → ConstantAt s next (b ∷ cs) k after c

pub data BrokenEnumeration (scope : Scope) : Option NameAt → List Constant → Fault → Type 0 where
  by_enum_tag : (tag : NameAt) (cs : List Constant) (f : Fault) → BrokenTag scope tag f → BrokenEnumeration scope (Some tag) cs f
  by_constant_name : (tag : Option NameAt) (cs : List Constant) (k : Scope) (next : ℤ) (c : Constant) (f : Fault)
      → ConstantAt (past_tag scope tag) (pos 0) cs k next c → BrokenName k c.name f → BrokenEnumeration scope tag cs f
  by_constant_value : (tag : Option NameAt) (cs : List Constant) (k : Scope) (next : ℤ) (c : Constant) (f : Fault)
      → ConstantAt (past_tag scope tag) (pos 0) cs k next c → BrokenEnum k next c.name.span c.value f → BrokenEnumeration scope tag cs f
