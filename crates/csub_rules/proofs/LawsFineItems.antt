-- A source without a fault can be resolved: each item leaves each object of file scope with a type.
use Rattle.std.proofs.Common.{◌≡◌, ◌∙◌, ap, ℕ, ℤ, pos, Bool, true, false, List, [], ◌∷◌, Option, Some, None, refl, sym, subst}
use Rattle.std.specs.Option.{option_or}
use Rattle.std.proofs.Common.{IsTrue, is_some, bytes_eq, option_map, if◌then◌else◌}
use Rattle.csub_tree.specs.declared.name.Name.{Name as NameAt}
use Rattle.csub_tree.specs.declared.name.TypeName.{TypeName}
use Rattle.csub_tree.specs.declared.name.TypeName.TheVariants as names
use Rattle.csub_tree.specs.Expressions.{Expr}
use Rattle.csub_tree.specs.Declarations.{Param, Init, Declarator, Declare, Head}
use Rattle.csub_tree.specs.Units.{Constant, Item, Struct, Enum, Object, Prototype, Function, Source}
use Rattle.csub_objects.specs.Types.{Name, TypeTree, IsSized, loose_type}
use Rattle.csub_scopes.specs.Scopes.{Scope, Declared, find, find_tag, finds_type, is_typed, HasTypes}
use Rattle.csub_rules.specs.declared.fault.Fault.{Fault}
use Rattle.csub_rules.specs.Faults.{fault_if}
use Rattle.csub_rules.specs.Sizes.{is_sized}
use Rattle.csub_rules.specs.Constants.{enum_value}
use Rattle.csub_rules.specs.Uses.{enum_fault}
use Rattle.csub_rules.specs.BrokenUse.{FineEnum}
use Rattle.csub_rules.specs.ExprSorts.{number_of}
use Rattle.csub_rules.specs.Declarators.{number_base, base_type, struct_of, declared_type, if_sized, object_type, base_fault, slot_fault}
use Rattle.csub_rules.specs.Params.{param_type, param_fault}
use Rattle.csub_rules.specs.Here.{Here, local_meaning, number_of as number_of_name, is_declared, is_reserved}
use Rattle.csub_rules.specs.Bodies.{body_fault}
use Rattle.csub_rules.proofs.LawsEarlier.{neither, three_none, four_none, no_test}
use Rattle.csub_rules.proofs.LawsSizes.{is_sized-Decides}
use Rattle.csub_rules.proofs.LawsUses.{is_false, fine_enum}
use Rattle.csub_rules.proofs.LawsSlots.{fine_base, fine_slot}
use Rattle.csub_rules.proofs.LawsInits.{fine_init}
use Rattle.csub_rules.proofs.LawsParams.{fine_param}
use Rattle.csub_rules.proofs.LawsBodies.{fine_body}
use Rattle.csub_rules.specs.Files.{File, no_file, naming, is_known, name_fault}
use Rattle.csub_rules.specs.Objects.{global_meaning, past_object, past_objects, past_declaration, initial_fault, object_fault, objects_fault, declaration_fault}
use Rattle.csub_rules.specs.Enums.{value_after, constant_meaning, past_constant, past_constants, constant_fault, constants_fault, past_tag, perhaps_tag_fault}
use Rattle.csub_rules.specs.Enums.{past_enum, enumeration_fault}
use Rattle.csub_rules.specs.Heads.{at_params, past_name, past_param, past_params, param_name_fault, params_fault, signature, is_taken, contradicts}
use Rattle.csub_rules.specs.Heads.{head_fault, past_head}
use Rattle.csub_rules.specs.Items.{past_item, is_misdefined, in_function, item_fault, items_fault}
use Rattle.csub_rules.specs.Units.{all_defined, undefineds_fault, placed_fault, main_fault, unit_fault}
use Rattle.csub_rules.specs.FineItems.{FineInitial, FineObject, FineObjects, FineDeclaration, FineName, FineParams, FineHead, FineItem, FineItems}

-- ---- names with types

-- a declared name with a type leaves each name with its type
typed_more : (scope : Scope) (d : Declared) → HasTypes scope → IsTrue (is_typed d.means) → HasTypes (record scope { names = d ∷ scope.names })
typed_more scope d types h = λ name. by name (bytes_eq d.name name)
  where
    by : (name : Name) (b : Bool) → IsTrue (finds_type (if b then Some d else find name scope.names))
    by name true = h
    by name false = types name

global_typed : (o : Option TypeTree) → IsTrue (is_some o) → IsTrue (is_typed (global_meaning o))
global_typed None h = absurd (cc)
global_typed (Some t) h = refl

local_typed : (n : ℕ) (o : Option TypeTree) → IsTrue (is_some o) → IsTrue (is_typed (local_meaning n o))
local_typed n None h = absurd (cc)
local_typed n (Some t) h = refl

constant_typed : (o : Option ℤ) → IsTrue (is_some o) → IsTrue (is_typed (constant_meaning o))
constant_typed None h = absurd (cc)
constant_typed (Some v) h = refl

-- ---- objects

sized_type : (o : Option TypeTree) (t : TypeTree) → o ≡ Some t → IsSized t → IsTrue (is_some (if_sized o))
sized_type None t e s = absurd (cc)
sized_type (Some u) t e s =
    let same : u ≡ t = cc in
    let p : IsTrue (is_sized u) = (is_sized-Decides u).1 (subst (λ x. IsSized x) (sym same) s) in
    rw p refl

fine_initial : (scope : Scope) (o : Option TypeTree) (i : Option Init) → HasTypes scope → IsTrue (is_some o) → initial_fault scope o i ≡ None
    → FineInitial scope o i
fine_initial scope o None types e h = tt
fine_initial scope None (Some x) types e h = absurd (cc)
fine_initial scope (Some t) (Some x) types e h = fine_init scope true types t x h

-- what is known of an object without a fault, and of what comes behind it
record ObjectFound (scope : Scope) (base : Option TypeTree) (d : Declarator) : Type 0 where
  fine : FineObject scope base d
  types : HasTypes (past_object scope base d)

object_found : (scope : Scope) (base : TypeTree) (d : Declarator) → HasTypes scope → object_fault scope (Some base) d ≡ None
    → ObjectFound scope (Some base) d
object_found scope base d types h =
    let after : Scope = past_object scope (Some base) d in
    let ctype : Option TypeTree = object_type scope (Some base) d.dims in
    let q = three_none (name_fault scope d.name) (slot_fault scope (Some base) d.name.span d.dims) (initial_fault after ctype d.init) h in
    let n = neither (fault_if (is_known scope d.name.text) 2 d.name.span) (fault_if (is_reserved d.name.text) 3 d.name.span) q.0 in
    let s = fine_slot scope base d.name.span d.dims q.1 in
    let e = sized_type (declared_type scope (Some base) d.dims) s.ctype s.is s.sized in
    let more : HasTypes after = typed_more scope _ types (global_typed ctype e) in
    record {
      fine = (
        s,
        is_false (is_known scope d.name.text) (no_test (is_known scope d.name.text) 2 d.name.span n.0),
        is_false (is_reserved d.name.text) (no_test (is_reserved d.name.text) 3 d.name.span n.1),
        fine_initial after ctype d.init more e q.2,
      );
      types = more;
    }

record ObjectsFound (scope : Scope) (base : Option TypeTree) (ds : List Declarator) : Type 0 where
  fine : FineObjects scope base ds
  types : HasTypes (past_objects scope base ds)

objects_found : (scope : Scope) (base : TypeTree) (ds : List Declarator) → HasTypes scope → objects_fault scope (Some base) ds ≡ None
    → ObjectsFound scope (Some base) ds
objects_found scope base [] types h = record { fine = tt; types = types }
objects_found scope base (d ∷ ds) types h =
    let q = neither (object_fault scope (Some base) d) (objects_fault (past_object scope (Some base) d) (Some base) ds) h in
    let x = object_found scope base d types q.0 in
    let y = objects_found (past_object scope (Some base) d) base ds x.types q.1 in
    record { fine = (x.fine, y.fine); types = y.types }

with_base : (scope : Scope) (o : Option TypeTree) (ds : List Declarator) → IsTrue (is_some o) → HasTypes scope → objects_fault scope o ds ≡ None
    → ObjectsFound scope o ds
with_base scope None ds s types h = absurd (cc)
with_base scope (Some base) ds s types h = objects_found scope base ds types h

record DeclarationFound (scope : Scope) (d : Declare) : Type 0 where
  fine : FineDeclaration scope d
  types : HasTypes (past_declaration scope d)

declaration_found : (scope : Scope) (d : Declare) → HasTypes scope → declaration_fault scope d ≡ None → DeclarationFound scope d
declaration_found scope d types h =
    let q = neither (base_fault scope d.base) (objects_fault scope (base_type scope d.base) d.vars) h in
    let b = fine_base scope d.base q.0 in
    let x = with_base scope (base_type scope d.base) d.vars b types q.1 in
    record { fine = (b, x.fine); types = x.types }

-- ---- enumerations

has_value : (scope : Scope) (next : ℤ) (v : Option Expr) → FineEnum scope next v → IsTrue (is_some (enum_value scope next v))
has_value scope next None f = f
has_value scope next (Some e) f = f.1

constants_typed : (scope : Scope) (next : ℤ) (cs : List Constant) → HasTypes scope → constants_fault scope next cs ≡ None
    → HasTypes (past_constants scope next cs)
constants_typed scope next [] types h = types
constants_typed scope next (c ∷ cs) types h =
    let after : ℤ = value_after next (enum_value scope next c.value) in
    let q = neither (constant_fault scope next c) (constants_fault (past_constant scope next c) after cs) h in
    let r = neither (name_fault scope c.name) (enum_fault scope next c.name.span c.value) q.0 in
    let v = has_value scope next c.value (fine_enum scope types next c.name.span c.value r.1) in
    constants_typed (past_constant scope next c) after cs (typed_more scope _ types (constant_typed (enum_value scope next c.value) v)) q.1

past_tag_typed : (scope : Scope) (tag : Option NameAt) → HasTypes scope → HasTypes (past_tag scope tag)
past_tag_typed scope None types = types
past_tag_typed scope (Some tag) types = types

enum_typed : (scope : Scope) (tag : Option NameAt) (cs : List Constant) → HasTypes scope → enumeration_fault scope tag cs ≡ None
    → HasTypes (past_enum scope tag cs)
enum_typed scope tag cs types h =
    let q = neither (perhaps_tag_fault scope tag) (constants_fault (past_tag scope tag) (pos 0) cs) h in
    constants_typed (past_tag scope tag) (pos 0) cs (past_tag_typed scope tag types) q.1

-- ---- parameters

-- a parameter's type depends on the tags alone
same_base : (s t : Scope) (b : TypeName) → s.tags ≡ t.tags → base_type s b ≡ base_type t b
same_base s t names.Void e = refl
same_base s t names.Char e = refl
same_base s t names.Int e = refl
same_base s t names.Unsigned e = refl
same_base s t (names.Struct tag) e = ap (λ ts. struct_of tag.text (find_tag tag.text ts)) e

same_type : (s t : Scope) (p : Param) → s.tags ≡ t.tags → param_type s p ≡ param_type t p
same_type s t p e = ap (λ o. if p.array then option_map loose_type o else number_base p.base) (same_base s t p.base e)

name_keeps_tags : (h : Here) (x : Option NameAt) (t : Option TypeTree) → (past_name h x t).scope.tags ≡ h.scope.tags
name_keeps_tags h None t = refl
name_keeps_tags h (Some x) t = refl

param_keeps_tags : (h : Here) (p : Param) → (past_param h p).scope.tags ≡ h.scope.tags
param_keeps_tags h p = name_keeps_tags h p.name (param_type h.scope p)

fine_name : (h : Here) (x : Option NameAt) → param_name_fault h x ≡ None → FineName h x
fine_name h None e = tt
fine_name h (Some x) e =
    let q = neither (fault_if (is_declared h x.text) 2 x.span) (fault_if (is_reserved x.text) 3 x.span) e in (
      is_false (is_declared h x.text) (no_test (is_declared h x.text) 2 x.span q.0),
      is_false (is_reserved x.text) (no_test (is_reserved x.text) 3 x.span q.1),
    )

fine_params : (h : Here) (ps : List Param) → params_fault h ps ≡ None → FineParams h ps
fine_params h [] e = tt
fine_params h (p ∷ ps) e =
    let q = three_none (param_name_fault h p.name) (param_fault h.scope p) (params_fault (past_param h p) ps) e in
    (fine_param h.scope p q.1, fine_name h p.name q.0, fine_params (past_param h p) ps q.2)

name_typed : (h : Here) (x : Option NameAt) (t : Option TypeTree) → HasTypes h.scope → IsTrue (is_some t) → HasTypes (past_name h x t).scope
name_typed h None t types s = types
name_typed h (Some x) t types s = typed_more h.scope _ types (local_typed (number_of_name x.text h.before) t s)

-- parameters that can be resolved somewhere have types wherever the same tags are declared
params_typed : (h k : Here) (ps : List Param) → h.scope.tags ≡ k.scope.tags → FineParams h ps → HasTypes k.scope
    → HasTypes (past_params k ps).scope
params_typed h k [] e f types = types
params_typed h k (p ∷ ps) e f types =
    let s : IsTrue (is_some (param_type k.scope p)) = rw (sym (same_type h.scope k.scope p e)) f.0 in
    params_typed (past_param h p) (past_param k p) ps (param_keeps_tags h p ∙ e ∙ sym (param_keeps_tags k p)) f.2
    (name_typed k p.name (param_type k.scope p) types s)

-- ---- functions

fine_head : (scope : Scope) (h : Head) → head_fault scope h ≡ None → FineHead scope h
fine_head scope h e =
    let q = four_none (fault_if (is_taken (find h.name.text scope.names)) 2 h.name.span) (fault_if (is_reserved h.name.text) 3 h.name.span)
    (fault_if (contradicts scope h) 19 h.name.span) (params_fault (at_params scope) h.params) e in (
      is_false (is_taken (find h.name.text scope.names)) (no_test (is_taken (find h.name.text scope.names)) 2 h.name.span q.0),
      is_false (is_reserved h.name.text) (no_test (is_reserved h.name.text) 3 h.name.span q.1),
      is_false (contradicts scope h) (no_test (contradicts scope h) 19 h.name.span q.2),
      fine_params (at_params scope) h.params q.3,
    )

head_typed : (scope : Scope) (h : Head) → HasTypes scope → HasTypes (past_head scope h)
head_typed scope h types = by (is_known scope h.name.text)
  where
    by : (b : Bool) → HasTypes (if b then scope else naming scope h.name.text (signature scope h))
    by true = types
    by false = typed_more scope _ types refl

head_keeps_tags : (scope : Scope) (h : Head) → scope.tags ≡ (past_head scope h).tags
head_keeps_tags scope h = by (is_known scope h.name.text)
  where
    by : (b : Bool) → scope.tags ≡ (if b then scope else naming scope h.name.text (signature scope h)).tags
    by true = refl
    by false = refl

-- ---- items

record ItemFound (file : File) (i : Item) : Type 0 where
  fine : FineItem file i
  types : HasTypes (past_item file i).scope

item_found : (file : File) (i : Item) → HasTypes file.scope → item_fault file i ≡ None → ItemFound file i
item_found file (Struct tag ds) types e = record { fine = tt; types = types }
item_found file (Enum tag cs) types e = record { fine = tt; types = enum_typed file.scope tag cs types e }
item_found file (Object d) types e = let x = declaration_found file.scope d types e in record { fine = x.fine; types = x.types }
item_found file (Prototype h) types e = record { fine = fine_head file.scope h e; types = head_typed file.scope h types }
item_found file (Function h body s) types e =
    let q = three_none (head_fault file.scope h) (fault_if (is_misdefined file h) 19 h.name.span)
    (body_fault (number_of h.result) (in_function file.scope h) body) e in
    let f = fine_head file.scope h q.0 in
    let past : HasTypes (past_head file.scope h) = head_typed file.scope h types in
    let inside = params_typed (at_params file.scope) (at_params (past_head file.scope h)) h.params (head_keeps_tags file.scope h) f.3 past in
    record {
      fine = (
        f,
        is_false (is_misdefined file h) (no_test (is_misdefined file h) 19 h.name.span q.1),
        fine_body (number_of h.result) (in_function file.scope h) body inside q.2,
      );
      types = past;
    }

pub fine_items : (file : File) (items : List Item) → HasTypes file.scope → items_fault file items ≡ None → FineItems file items
fine_items file [] types e = tt
fine_items file (i ∷ rest) types e =
    let q = neither (item_fault file i) (items_fault (past_item file i) rest) e in
    let x = item_found file i types q.0 in
    (x.fine, fine_items (past_item file i) rest x.types q.1)

-- ---- sources

none_before : (o last : Option Fault) → option_or o last ≡ None → o ≡ None
none_before None last e = refl
none_before (Some f) last e = absurd (cc)

pub fine_unit : (u : Source) → unit_fault u ≡ None → FineItems no_file u.items
fine_unit u e =
    let q = neither (items_fault no_file u.items) (undefineds_fault (all_defined u.items) u.items)
    (none_before (placed_fault u.items) (main_fault u.items) e) in
    fine_items no_file u.items (λ name. refl) q.0
