-- The laws of declarations in blocks.
use Rattle.std.proofs.Common.{◌≡◌, ℕ, Bool, true, false, List, [], ◌∷◌, Option, Some, None}
use Rattle.std.proofs.Common.{refl, sym, subst, IsTrue, is_some, bytes_eq, if◌then◌else◌}
use Rattle.csub_tree.specs.Declarations.{Init, Declarator, Declare}
use Rattle.csub_objects.specs.Types.{Name, TypeTree, IsSized}
use Rattle.csub_scopes.specs.Scopes.{Scope, Declared, find, finds_type, is_typed, HasTypes}
use Rattle.csub_rules.specs.declared.fault.Fault.{Fault}
use Rattle.csub_rules.specs.Faults.{fault_if, Covers}
use Rattle.csub_rules.specs.Sizes.{is_sized}
use Rattle.csub_rules.specs.Declarators.{base_type, declared_type, if_sized, object_type, base_fault, slot_fault}
use Rattle.csub_rules.specs.Initialisers.{init_fault}
use Rattle.csub_rules.specs.Here.{Here, local_meaning, is_declared, is_reserved}
use Rattle.csub_rules.specs.Locals.{past_var, past_vars, past_declare, value_fault, var_fault, vars_fault, declare_fault}
use Rattle.csub_rules.specs.BrokenLocal.{VarAt, this_var, next_var, VarBreaks, m2, m3, by_slot, by_init, BrokenDeclare, by_base, by_var}
use Rattle.csub_rules.specs.BrokenLocal.{FineValue, FineVar, FineVars, FineDeclare}
use Rattle.csub_rules.proofs.LawsEarlier.{on_left, on_right, tested, neither, four_none, no_test}
use Rattle.csub_rules.proofs.LawsSizes.{is_sized-Decides}
use Rattle.csub_rules.proofs.LawsSound.{Gives, nothing, join, tells}
use Rattle.csub_rules.proofs.LawsUses.{is_false}
use Rattle.csub_rules.proofs.LawsSlots.{sound_base, covered_base, fine_base, sound_slot, covered_slot, fine_slot}
use Rattle.csub_rules.proofs.LawsInits.{no_part, sound_init, covered_init, fine_init}

-- ---- least

of_init : (scope : Scope) (o : Option TypeTree) (i : Option Init) (t : TypeTree) (x : Init) (f : Fault) → o ≡ Some t → i ≡ Some x
    → Covers (init_fault scope false (Some t) x) f → Covers (value_fault scope o i) f
of_init scope o i t x f p q c = rw (p, q) c

own : (base : Option TypeTree) (h : Here) (d : Declarator) (f : Fault) → VarBreaks base h d f → Covers (var_fault h base d) f
own base h d f (m2 h' d' p) = search (on_left, on_right, tested)
own base h d f (m3 h' d' p) = search (on_left, on_right, tested)
own base h d f (by_slot h' d' g b) = search (on_left, on_right, covered_slot h.scope base d.name.span d.dims f b)
own base h d f (by_init h' d' t x g p q b) =
    search (
      on_right,
      of_init (past_var h base d).scope (object_type h.scope base d.dims) d.init t x f p q
          (covered_init (past_var h base d).scope false t x f b),
    )

among : (base : Option TypeTree) (h : Here) (ds : List Declarator) (k : Here) (d : Declarator) (f : Fault) → VarAt base h ds k d
    → VarBreaks base k d f → Covers (vars_fault h base ds) f
among base h ds k d f (this_var h' d' rest) b = search (on_left, own base h d f b)
among base h ds k d f (next_var h' k' c d' rest w) b = search (on_right, among base (past_var h base c) rest k d f w b)

pub covered_declare : (h : Here) (d : Declare) (f : Fault) → BrokenDeclare h d f → Covers (declare_fault h d) f
covered_declare h d f (by_base g b) = search (on_left, covered_base h.scope d.base f b)
covered_declare h d f (by_var k v g w b) = search (on_right, among (base_type h.scope d.base) h d.vars k v f w b)

-- ---- sound

of_value : (base : Option TypeTree) (h : Here) (d : Declarator) (o : Option TypeTree) (i : Option Init) → object_type h.scope base d.dims ≡ o → d.init ≡ i
    → Gives (value_fault (past_var h base d).scope o i) (VarBreaks base h d)
of_value base h d o None p q = nothing
of_value base h d None (Some x) p q = record {
  holds = λ f g.
      let n : init_fault (past_var h base d).scope false None x ≡ None = no_part (past_var h base d).scope false x in
      absurd (cc);
}
of_value base h d (Some t) (Some x) p q =
    record { holds = λ f g. by_init h d t x f p q ((sound_init (past_var h base d).scope false t x).holds f g) }

sound_var : (base : Option TypeTree) (h : Here) (d : Declarator) → Gives (var_fault h base d) (VarBreaks base h d)
sound_var base h d =
    join (join (join (tells {P = VarBreaks base h d} (is_declared h d.name.text) 2 d.name.span (λ p. m2 h d p))
    (tells {P = VarBreaks base h d} (is_reserved d.name.text) 3 d.name.span (λ p. m3 h d p)))
    (record { holds = λ f g. by_slot h d f ((sound_slot h.scope base d.name.span d.dims).holds f g) }))
    (of_value base h d (object_type h.scope base d.dims) d.init refl refl)

sound_vars : (top : Here) (decl : Declare) (h : Here) (ds : List Declarator)
    → ((k : Here) (d : Declarator) → VarAt (base_type top.scope decl.base) h ds k d → VarAt (base_type top.scope decl.base) top decl.vars k d)
    → Gives (vars_fault h (base_type top.scope decl.base) ds) (BrokenDeclare top decl)
sound_vars top decl h [] step = nothing
sound_vars top decl h (d ∷ ds) step =
    let base : Option TypeTree = base_type top.scope decl.base in
    join (record { holds = λ f g. by_var h d f (step h d (this_var h d ds)) ((sound_var base h d).holds f g) })
    (sound_vars top decl (past_var h base d) ds (λ k e w. step k e (next_var h k d e ds w)))

pub sound_declare : (h : Here) (d : Declare) → Gives (declare_fault h d) (BrokenDeclare h d)
sound_declare h d = join (record { holds = λ f g. by_base f ((sound_base h.scope d.base).holds f g) }) (sound_vars h d h d.vars (λ k e w. w))

-- ---- fine

-- a declared object with a type leaves each name with its type
typed_more : (scope : Scope) (d : Declared) → HasTypes scope → IsTrue (is_typed d.means) → HasTypes (record scope { names = d ∷ scope.names })
typed_more scope d types h = λ name. by name (bytes_eq d.name name)
  where
    by : (name : Name) (b : Bool) → IsTrue (finds_type (if b then Some d else find name scope.names))
    by name true = h
    by name false = types name

sized_type : (o : Option TypeTree) (t : TypeTree) → o ≡ Some t → IsSized t → if_sized o ≡ Some t
sized_type None t e s = absurd (cc)
sized_type (Some u) t e s =
    let same : u ≡ t = cc in
    let p : IsTrue (is_sized u) = (is_sized-Decides u).1 (subst (λ x. IsSized x) (sym same) s) in
    rw (p, same) refl

fine_value : (scope : Scope) (o : Option TypeTree) (i : Option Init) (t : TypeTree) → HasTypes scope → o ≡ Some t → value_fault scope o i ≡ None
    → FineValue scope o i
fine_value scope o None t types e h = tt
fine_value scope None (Some x) t types e h = absurd (cc)
fine_value scope (Some u) (Some x) t types e h = fine_init scope false types u x h

record VarFound (h : Here) (base : Option TypeTree) (d : Declarator) : Type 0 where
  fine : FineVar h base d
  types : HasTypes (past_var h base d).scope

meant : (n : ℕ) (o : Option TypeTree) (t : TypeTree) → o ≡ Some t → IsTrue (is_typed (local_meaning n o))
meant n None t e = absurd (cc)
meant n (Some u) t e = refl

var_found : (h : Here) (base : TypeTree) (d : Declarator) → HasTypes h.scope → var_fault h (Some base) d ≡ None → VarFound h (Some base) d
var_found h base d types p =
    let q = four_none (fault_if (is_declared h d.name.text) 2 d.name.span) (fault_if (is_reserved d.name.text) 3 d.name.span)
    (slot_fault h.scope (Some base) d.name.span d.dims)
    (value_fault (past_var h (Some base) d).scope (object_type h.scope (Some base) d.dims) d.init) p in
    let s = fine_slot h.scope base d.name.span d.dims q.2 in
    let e = sized_type (declared_type h.scope (Some base) d.dims) s.ctype s.is s.sized in
    let more : HasTypes (past_var h (Some base) d).scope = typed_more h.scope _ types (meant _ (object_type h.scope (Some base) d.dims) s.ctype e) in
    record {
      fine = (
        s,
        is_false (is_declared h d.name.text) (no_test (is_declared h d.name.text) 2 d.name.span q.0),
        is_false (is_reserved d.name.text) (no_test (is_reserved d.name.text) 3 d.name.span q.1),
        fine_value (past_var h (Some base) d).scope (object_type h.scope (Some base) d.dims) d.init s.ctype more e q.3,
      );
      types = more;
    }

record VarsFound (h : Here) (base : Option TypeTree) (ds : List Declarator) : Type 0 where
  fine : FineVars h base ds
  types : HasTypes (past_vars h base ds).scope

vars_found : (h : Here) (base : TypeTree) (ds : List Declarator) → HasTypes h.scope → vars_fault h (Some base) ds ≡ None → VarsFound h (Some base) ds
vars_found h base [] types p = record { fine = tt; types = types }
vars_found h base (d ∷ ds) types p =
    let q = neither (var_fault h (Some base) d) (vars_fault (past_var h (Some base) d) (Some base) ds) p in
    let x = var_found h base d types q.0 in
    let y = vars_found (past_var h (Some base) d) base ds x.types q.1 in
    record { fine = (x.fine, y.fine); types = y.types }

pub record DeclareFound (h : Here) (d : Declare) : Type 0 where
  pub fine : FineDeclare h d
  pub types : HasTypes (past_declare h d).scope

with_base : (h : Here) (o : Option TypeTree) (ds : List Declarator) → IsTrue (is_some o) → HasTypes h.scope → vars_fault h o ds ≡ None → VarsFound h o ds
with_base h None ds s types p = absurd (cc)
with_base h (Some base) ds s types p = vars_found h base ds types p

pub declare_found : (h : Here) (d : Declare) → HasTypes h.scope → declare_fault h d ≡ None → DeclareFound h d
declare_found h d types p =
    let q = neither (base_fault h.scope d.base) (vars_fault h (base_type h.scope d.base) d.vars) p in
    let b = fine_base h.scope d.base q.0 in
    let x = with_base h (base_type h.scope d.base) d.vars b types q.1 in
    record { fine = (b, x.fine); types = x.types }
