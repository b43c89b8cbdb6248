-- What is declared at file scope is what the program has.
use Rattle.std.proofs.Common.{◌≡◌, ◌∙◌, refl, sym, subst, arith, ℤ, pos, negsuc, List, [], ◌∷◌, ◌++◌, find, append_assoc}
use Rattle.std.proofs.Common.{Option, Some, None, Bool, true, false, IsTrue, is_some, bytes_eq, cond, if◌then◌else◌, option_map, int_le}
use Rattle.std.specs.Option.{option_and_then}
use Rattle.std.proofs.lemmas.Int.{ints}
use Rattle.std.proofs.lemmas.List.{append-nil}
use Rattle.std.proofs.lemmas.Slice.Eq.{bytes_eq-Decides}
use Rattle.csub_types.specs.declared.kind.IntKind.TheVariants.{Int}
use Rattle.csub_types.specs.Kinds.{IsOf}
use Rattle.csub_types.specs.Settled.{fits_int}
use Rattle.csub_tree.specs.declared.name.Name.{Name as NameAt}
use Rattle.csub_tree.specs.Expressions.{Expr}
use Rattle.csub_tree.specs.Declarations.{Declarator, Head}
use Rattle.csub_tree.specs.Units.{Constant, Item, Struct, Enum, Object, Prototype, Function}
use Rattle.csub_objects.specs.Types.{Name, TypeTree}
use Rattle.csub_semantics.specs.Types.{GlobalTree}
use Rattle.csub_scopes.specs.Scopes.{Scope, Declared, Meaning, global_object, local_object, enum_constant, a_function, untyped, find as find_name}
use Rattle.csub_rules.specs.Faults.{fault_if}
use Rattle.csub_rules.specs.Here.{is_reserved}
use Rattle.csub_rules.specs.Constants.{constant, in_int, enum_value}
use Rattle.csub_rules.specs.Uses.{enum_fault}
use Rattle.csub_rules.specs.Declarators.{base_type, base_fault, object_type, slot_fault}
use Rattle.csub_rules.proofs.LawsEarlier.{neither, three_none, no_test}
use Rattle.csub_rules.proofs.LawsServed.{both_parts}
use Rattle.csub_rules.specs.Files.{File, naming, is_known, name_fault}
use Rattle.csub_rules.specs.Objects.{global_meaning, past_object, past_objects, initial_fault, object_fault, objects_fault}
use Rattle.csub_rules.specs.Enums.{value_after, constant_meaning, past_constant, past_constants, constant_fault, constants_fault, past_tag, perhaps_tag_fault}
use Rattle.csub_rules.specs.Heads.{past_head, signature}
use Rattle.csub_rules.specs.Items.{past_item, past_items, item_fault, items_fault}
use Rattle.csub_rules.specs.FineItems.{FineObjects, FineItem, FineItems}
use Rattle.csub_resolution.specs.Programs.{global_by, globals_by, globals_of, globals_in}
use Rattle.csub_validity.specs.Valid.{global_type}
use Rattle.program_validity.proofs.Agreeing.{IsKnown, IsMeant}
use Rattle.program_validity.proofs.Seen.{slot_type}

-- ---- names of file scope

unknown : (scope : Scope) (x : NameAt) → name_fault scope x ≡ None → is_known scope x.text ≡ false
unknown scope x h =
    let n = neither (fault_if (is_known scope x.text) 2 x.span) (fault_if (is_reserved x.text) 3 x.span) h in
    no_test (is_known scope x.text) 2 x.span n.0

no_both : {A : Type 0} (o : Option Declared) (d : Declared) → o ≡ Some d → is_some o ≡ false → A
no_both None d p q = absurd (cc)
no_both (Some e) d p q = absurd (cc)

-- a new name leaves the others as they are
pub kept : (scope : Scope) (y : Name) (m : Meaning) (x : Name) (d : Declared) → is_known scope y ≡ false → find_name x scope.names ≡ Some d
    → find_name x (naming scope y m).names ≡ Some d
kept scope y m x d new h = by (bytes_eq y x) refl
  where
    by : (b : Bool) → bytes_eq y x ≡ b → (if b then Some (record { name = y; depth = 0; means = m }) else find_name x scope.names) ≡ Some d
    by true e =
        let same : y ≡ x = (bytes_eq-Decides y x).0 e in
        no_both (find_name x scope.names) d h (subst (λ z. is_known scope z ≡ false) same new)
    by false e = h

objects_keep : (scope : Scope) (base : Option TypeTree) (ds : List Declarator) (x : Name) (d : Declared) → objects_fault scope base ds ≡ None
    → find_name x scope.names ≡ Some d → find_name x (past_objects scope base ds).names ≡ Some d
objects_keep scope base [] x d f h = h
objects_keep scope base (v ∷ vs) x d f h =
    let q = neither (object_fault scope base v) (objects_fault (past_object scope base v) base vs) f in
    let r = three_none (name_fault scope v.name) (slot_fault scope base v.name.span v.dims)
    (initial_fault (past_object scope base v) (object_type scope base v.dims) v.init) q.0 in
    objects_keep (past_object scope base v) base vs x d q.1 (kept scope v.name.text _ x d (unknown scope v.name r.0) h)

constants_keep : (scope : Scope) (next : ℤ) (cs : List Constant) (x : Name) (d : Declared) → constants_fault scope next cs ≡ None
    → find_name x scope.names ≡ Some d → find_name x (past_constants scope next cs).names ≡ Some d
constants_keep scope next [] x d f h = h
constants_keep scope next (c ∷ cs) x d f h =
    let after : ℤ = value_after next (enum_value scope next c.value) in
    let q = neither (constant_fault scope next c) (constants_fault (past_constant scope next c) after cs) f in
    let r = neither (name_fault scope c.name) (enum_fault scope next c.name.span c.value) q.0 in
    constants_keep (past_constant scope next c) after cs x d q.1 (kept scope c.name.text _ x d (unknown scope c.name r.0) h)

tag_keeps : (scope : Scope) (tag : Option NameAt) → (past_tag scope tag).names ≡ scope.names
tag_keeps scope None = refl
tag_keeps scope (Some tag) = refl

head_keeps : (scope : Scope) (h : Head) (x : Name) (d : Declared) → find_name x scope.names ≡ Some d → find_name x (past_head scope h).names ≡ Some d
head_keeps scope h x d e = by (is_known scope h.name.text) refl
  where
    by : (b : Bool) → is_known scope h.name.text ≡ b
        → find_name x (if b then scope else naming scope h.name.text (signature scope h)).names ≡ Some d
    by true k = e
    by false k = kept scope h.name.text (signature scope h) x d k e

item_keeps : (file : File) (i : Item) (x : Name) (d : Declared) → item_fault file i ≡ None → find_name x file.scope.names ≡ Some d
    → find_name x (past_item file i).scope.names ≡ Some d
item_keeps file (Struct tag ds) x d f h = h
item_keeps file (Enum tag cs) x d f h =
    let q = neither (perhaps_tag_fault file.scope tag) (constants_fault (past_tag file.scope tag) (pos 0) cs) f in
    constants_keep (past_tag file.scope tag) (pos 0) cs x d q.1 (subst (λ ns. find_name x ns ≡ Some d) (sym (tag_keeps file.scope tag)) h)
item_keeps file (Object v) x d f h =
    let q = neither (base_fault file.scope v.base) (objects_fault file.scope (base_type file.scope v.base) v.vars) f in
    objects_keep file.scope (base_type file.scope v.base) v.vars x d q.1 h
item_keeps file (Prototype g) x d f h = head_keeps file.scope g x d h
item_keeps file (Function g body s) x d f h = head_keeps file.scope g x d h

-- a name means behind some items what it means before them
pub items_keep : (file : File) (items : List Item) (x : Name) (d : Declared) → items_fault file items ≡ None → find_name x file.scope.names ≡ Some d
    → find_name x (past_items file items).scope.names ≡ Some d
items_keep file [] x d f h = h
items_keep file (i ∷ rest) x d f h =
    let q = neither (item_fault file i) (items_fault (past_item file i) rest) f in
    items_keep (past_item file i) rest x d q.1 (item_keeps file i x d q.0 h)

-- ---- objects of file scope

abbrev found : Option GlobalTree → Option TypeTree
found o = option_map (λ (g : GlobalTree). g.ctype) o

abbrev Is : Name → GlobalTree → Bool
Is x = λ (g : GlobalTree). bytes_eq g.name x

left_step : (b : Bool) (g : GlobalTree) (p q : Option GlobalTree) (t : TypeTree) → (found p ≡ Some t → found q ≡ Some t) → found (cond b (Some g) p) ≡ Some t
    → found (cond b (Some g) q) ≡ Some t
left_step true g p q t rest h = h
left_step false g p q t rest h = rest h

global_left : (gs more : List GlobalTree) (x : Name) (t : TypeTree) → global_type gs x ≡ Some t → global_type (gs ++ more) x ≡ Some t
global_left [] more x t h = absurd (cc)
global_left (g ∷ gs) more x t h = left_step (bytes_eq g.name x) g (find (Is x) gs) (find (Is x) (gs ++ more)) t (λ e. global_left gs more x t e) h

here_step : (b : Bool) (g : GlobalTree) → IsTrue b → found (cond b (Some g) None) ≡ Some g.ctype
here_step true g h = refl
here_step false g h = absurd (cc)

new_step : (b : Bool) (g : GlobalTree) (p q : Option GlobalTree) (t : TypeTree) → (found p ≡ None → found q ≡ Some t) → found (cond b (Some g) p) ≡ None
    → found (cond b (Some g) q) ≡ Some t
new_step true g p q t rest h = absurd (cc)
new_step false g p q t rest h = rest h

global_new : (gs : List GlobalTree) (g : GlobalTree) → global_type gs g.name ≡ None → global_type (gs ++ g ∷ []) g.name ≡ Some g.ctype
global_new [] g h = here_step (bytes_eq g.name g.name) g ((bytes_eq-Decides g.name g.name).1 refl)
global_new (k ∷ gs) g h =
    new_step (bytes_eq k.name g.name) k (find (Is g.name) gs) (find (Is g.name) (gs ++ g ∷ [])) g.ctype (λ e. global_new gs g e) h

none_step : (b : Bool) (g : GlobalTree) (t : TypeTree) → b ≡ false → found (cond b (Some g) None) ≡ Some t → None ≡ Some t
none_step true g t e h = absurd (cc)
none_step false g t e h = h

global_other : (gs : List GlobalTree) (g : GlobalTree) (x : Name) (t : TypeTree) → bytes_eq g.name x ≡ false → global_type (gs ++ g ∷ []) x ≡ Some t
    → global_type gs x ≡ Some t
global_other [] g x t e h = none_step (bytes_eq g.name x) g t e h
global_other (k ∷ gs) g x t e h =
    left_step (bytes_eq k.name x) k (find (Is x) (gs ++ g ∷ [])) (find (Is x) gs) t (λ q. global_other gs g x t e q) h

-- the objects so far are those that a scope knows
pub record Holds (gs : List GlobalTree) (scope : Scope) : Type 0 where
  pub known : (x : Name) → IsKnown gs [] x (find_name x scope.names)
  pub old : (x : Name) (t : TypeTree) → global_type gs x ≡ Some t → IsTrue (is_known scope x)

meant_longer : (gs more : List GlobalTree) (x : Name) (m : Meaning) → IsMeant gs [] x m → IsMeant (gs ++ more) [] x m
meant_longer gs more x (global_object t) h = global_left gs more x t h
meant_longer gs more x (local_object n t) h = h
meant_longer gs more x (enum_constant v) h = h
meant_longer gs more x (a_function params result) h = h
meant_longer gs more x untyped h = h

known_longer : (gs more : List GlobalTree) (x : Name) (d : Option Declared) → IsKnown gs [] x d → IsKnown (gs ++ more) [] x d
known_longer gs more x None h = h
known_longer gs more x (Some d) h = meant_longer gs more x d.means h

-- one more name that is no object
named_holds : (gs : List GlobalTree) (scope : Scope) (y : Name) (m : Meaning) → IsMeant gs [] y m → Holds gs scope → Holds gs (naming scope y m)
named_holds gs scope y m meant h = record { known = λ x. known x (bytes_eq y x) refl; old = λ x t e. old x (bytes_eq y x) (h.old x t e) }
  where
    entry : Declared
    entry = record { name = y; depth = 0; means = m }

    known : (x : Name) (b : Bool) → bytes_eq y x ≡ b → IsKnown gs [] x (if b then Some entry else find_name x scope.names)
    known x true e = subst (λ z. IsMeant gs [] z m) ((bytes_eq-Decides y x).0 e) meant
    known x false e = h.known x

    old : (x : Name) (b : Bool) → IsTrue (is_known scope x) → IsTrue (is_some (if b then Some entry else find_name x scope.names))
    old x true k = refl
    old x false k = k

object_holds : (gs : List GlobalTree) (scope : Scope) (g : GlobalTree) (o : Option TypeTree) → o ≡ Some g.ctype → is_known scope g.name ≡ false
    → Holds gs scope → Holds (gs ++ g ∷ []) (naming scope g.name (global_meaning o))
object_holds gs scope g None typed new h = absurd (cc)
object_holds gs scope g (Some t) typed new h =
    record { known = λ x. known x (bytes_eq g.name x) refl; old = λ x u e. old x u (bytes_eq g.name x) refl e }
  where
    entry : Declared
    entry = record { name = g.name; depth = 0; means = global_object t }

    none : (o : Option TypeTree) → ((u : TypeTree) → o ≡ Some u → IsTrue (is_known scope g.name)) → o ≡ None
    none None k = refl
    none (Some u) k = let known = k u refl in absurd (cc)

    nowhere : global_type gs g.name ≡ None
    nowhere = none (global_type gs g.name) (h.old g.name)

    known : (x : Name) (b : Bool) → bytes_eq g.name x ≡ b → IsKnown (gs ++ g ∷ []) [] x (if b then Some entry else find_name x scope.names)
    known x true e = subst (λ z. global_type (gs ++ g ∷ []) z ≡ Some t) ((bytes_eq-Decides g.name x).0 e) (global_new gs g nowhere ∙ sym typed)
    known x false e = known_longer gs (g ∷ []) x (find_name x scope.names) (h.known x)

    old : (x : Name) (u : TypeTree) (b : Bool) → bytes_eq g.name x ≡ b → global_type (gs ++ g ∷ []) x ≡ Some u
        → IsTrue (is_some (if b then Some entry else find_name x scope.names))
    old x u true e k = refl
    old x u false e k = h.old x u (global_other gs g x u e k)

regroup : (gs a b : List GlobalTree) (scope : Scope) → Holds ((gs ++ a) ++ b) scope → Holds (gs ++ (a ++ b)) scope
regroup gs a b scope h = subst (λ xs. Holds xs scope) (append_assoc gs a b) h

nothing : (gs : List GlobalTree) (scope : Scope) → Holds gs scope → Holds (gs ++ []) scope
nothing gs scope h = subst (λ xs. Holds xs scope) (sym (append-nil gs)) h

objects_hold : (gs : List GlobalTree) (scope : Scope) (base : Option TypeTree) (ds : List Declarator) → FineObjects scope base ds
    → objects_fault scope base ds ≡ None → Holds gs scope → Holds (gs ++ globals_by scope base ds) (past_objects scope base ds)
objects_hold gs scope base [] fine f h = nothing gs scope h
objects_hold gs scope base (v ∷ vs) fine f h =
    let q = neither (object_fault scope base v) (objects_fault (past_object scope base v) base vs) f in
    let r = three_none (name_fault scope v.name) (slot_fault scope base v.name.span v.dims)
    (initial_fault (past_object scope base v) (object_type scope base v.dims) v.init) q.0 in
    let one : Holds (gs ++ global_by scope base v ∷ []) (past_object scope base v) =
    object_holds gs scope (global_by scope base v) (object_type scope base v.dims) (slot_type scope base v fine.0.0) (unknown scope v.name r.0) h in
    regroup gs (global_by scope base v ∷ []) (globals_by (past_object scope base v) base vs) _
    (objects_hold (gs ++ global_by scope base v ∷ []) (past_object scope base v) base vs fine.1 q.1 one)

is_int : (v : ℤ) → IsTrue (fits_int v) → IsOf Int v
is_int v h = let p = both_parts (int_le (negsuc 2147483647) v) (int_le v (pos 2147483647)) h in (grind (arith, ints), grind (arith, ints))

in_int_is : (v w : ℤ) → in_int v ≡ Some w → IsOf Int w
in_int_is v w h = by (fits_int v) refl h
  where
    by : (b : Bool) → fits_int v ≡ b → (if b then Some v else None) ≡ Some w → IsOf Int w
    by true e h = let same : v ≡ w = cc in subst (IsOf Int) same (is_int v e)
    by false e h = absurd (cc)

value_is : (scope : Scope) (next : ℤ) (e : Option Expr) (v : ℤ) → enum_value scope next e ≡ Some v → IsOf Int v
value_is scope next None v h = in_int_is next v h
value_is scope next (Some e) v h = by (constant scope e) h
  where
    by : (o : Option ℤ) → option_and_then in_int o ≡ Some v → IsOf Int v
    by None h = absurd (cc)
    by (Some w) h = in_int_is w v h

constant_is : (gs : List GlobalTree) (x : Name) (o : Option ℤ) → ((v : ℤ) → o ≡ Some v → IsOf Int v) → IsMeant gs [] x (constant_meaning o)
constant_is gs x None h = tt
constant_is gs x (Some v) h = h v refl

constants_hold : (gs : List GlobalTree) (scope : Scope) (next : ℤ) (cs : List Constant) → Holds gs scope → Holds gs (past_constants scope next cs)
constants_hold gs scope next [] h = h
constants_hold gs scope next (c ∷ cs) h =
    constants_hold gs (past_constant scope next c) (value_after next (enum_value scope next c.value)) cs
    (named_holds gs scope c.name.text _ (constant_is gs c.name.text (enum_value scope next c.value) (λ v e. value_is scope next c.value v e)) h)

tag_holds : (gs : List GlobalTree) (scope : Scope) (tag : Option NameAt) → Holds gs scope → Holds gs (past_tag scope tag)
tag_holds gs scope None h = h
tag_holds gs scope (Some tag) h = record { known = h.known; old = h.old }

head_holds : (gs : List GlobalTree) (scope : Scope) (h : Head) → Holds gs scope → Holds gs (past_head scope h)
head_holds gs scope h k = by (is_known scope h.name.text)
  where
    by : (b : Bool) → Holds gs (if b then scope else naming scope h.name.text (signature scope h))
    by true = k
    by false = named_holds gs scope h.name.text (signature scope h) tt k

item_holds : (gs : List GlobalTree) (file : File) (i : Item) → FineItem file i → item_fault file i ≡ None → Holds gs file.scope
    → Holds (gs ++ globals_of file i) (past_item file i).scope
item_holds gs file (Struct tag ds) fine f h = nothing gs _ (record { known = h.known; old = h.old })
item_holds gs file (Enum tag cs) fine f h = nothing gs _ (constants_hold gs (past_tag file.scope tag) (pos 0) cs (tag_holds gs file.scope tag h))
item_holds gs file (Object v) fine f h =
    let q = neither (base_fault file.scope v.base) (objects_fault file.scope (base_type file.scope v.base) v.vars) f in
    objects_hold gs file.scope (base_type file.scope v.base) v.vars fine.1 q.1 h
item_holds gs file (Prototype g) fine f h = nothing gs _ (head_holds gs file.scope g h)
item_holds gs file (Function g body s) fine f h = nothing gs _ (head_holds gs file.scope g h)

-- behind some items
pub items_hold : (gs : List GlobalTree) (file : File) (items : List Item) → FineItems file items → items_fault file items ≡ None → Holds gs file.scope
    → Holds (gs ++ globals_in file items) (past_items file items).scope
items_hold gs file [] fine f h = nothing gs file.scope h
items_hold gs file (i ∷ rest) fine f h =
    let q = neither (item_fault file i) (items_fault (past_item file i) rest) f in
    regroup gs (globals_of file i) (globals_in (past_item file i) rest) _
    (items_hold (gs ++ globals_of file i) (past_item file i) rest fine.1 q.1 (item_holds gs file i fine.0 q.0 h))
