-- Each function that a scope knows is defined, and the parameters of a function are its first objects.
use Rattle.std.proofs.Common.{◌≡◌, ◌∙◌, refl, sym, subst, arith, ℕ, ℤ, pos, List, [], ◌∷◌, ◌++◌, map, append_assoc}
use Rattle.std.proofs.Common.{Option, Some, None, Bool, true, false, IsTrue, is_some, not, bytes_eq, nat_eq, if◌then◌else◌, option_map, ◌||◌}
use Rattle.std.proofs.lemmas.List.{append-nil}
use Rattle.std.proofs.lemmas.Bool.Decides.{nat_tests}
use Rattle.std.proofs.lemmas.Slice.Eq.{bytes_eq-Decides}
use Rattle.csub_types.specs.declared.kind.IntKind.{IntKind}
use Rattle.csub_tree.specs.declared.name.Name.{Name as NameAt}
use Rattle.csub_tree.specs.Declarations.{Param, Declarator, Head}
use Rattle.csub_tree.specs.Units.{Constant, Item, Struct, Enum, Object, Prototype, Function}
use Rattle.csub_objects.specs.Types.{Name, TypeTree, MemberTree}
use Rattle.csub_semantics.specs.Syntax.{LocalTree, ProgramTree}
use Rattle.csub_scopes.specs.Scopes.{Scope, Declared, Meaning, a_function, find as find_name}
use Rattle.csub_rules.specs.Constants.{enum_value}
use Rattle.csub_rules.specs.Declarators.{base_type, object_type}
use Rattle.csub_rules.specs.Params.{param_type}
use Rattle.csub_rules.specs.Here.{Here, declaring, local_meaning, number_of, stands_at, is_declared}
use Rattle.csub_rules.specs.Labels.{stands_in}
use Rattle.csub_rules.proofs.LawsEarlier.{neither}
use Rattle.csub_rules.proofs.LawsServed.{holds}
use Rattle.csub_rules.specs.Files.{File, naming, is_known}
use Rattle.csub_rules.specs.Objects.{global_meaning, past_object, past_objects}
use Rattle.csub_rules.specs.Enums.{past_constant, past_constants, past_tag, value_after, constant_meaning}
use Rattle.csub_rules.specs.Heads.{at_params, past_name, past_param, past_params, sure_type, signature, past_head}
use Rattle.csub_rules.specs.Items.{past_item, past_items, lacks_names}
use Rattle.csub_rules.specs.Units.{undefined_fault, undefineds_fault}
use Rattle.csub_rules.specs.FineItems.{FineName, FineParams}
use Rattle.csub_resolution.specs.Values.{Defined}
use Rattle.csub_resolution.specs.Programs.{params, name_or_none}
use Rattle.csub_validity.specs.Valid.{parameter_object}
use Rattle.program_validity.proofs.Seen.{Sees, sees_declared, number_other}
use Rattle.program_validity.proofs.Definitions.{same_type, param_keeps_tags}

-- ---- declared functions are defined

abbrev pub Means : Name → Scope → List TypeTree → Option IntKind → Type 0
Means x scope ts r = option_map (λ (d : Declared). d.means) (find_name x scope.names) ≡ Some (a_function ts r)

-- each function that a scope knows has one of these names
pub record Declares (all : List Name) (scope : Scope) : Type 0 where
  pub heads : (x : Name) (ts : List TypeTree) (r : Option IntKind) → Means x scope ts r → IsTrue (stands_in x all)

module _ (all : List Name) where
  named_heads : (scope : Scope) (y : Name) (m : Meaning) → ((ts : List TypeTree) (r : Option IntKind) → m ≡ a_function ts r → IsTrue (stands_in y all))
      → Declares all scope → Declares all (naming scope y m)
  named_heads scope y m mine h = record { heads = λ x ts r e. by x ts r (bytes_eq y x) refl e }
    where
      entry : Declared
      entry = record { name = y; depth = 0; means = m }

      by : (x : Name) (ts : List TypeTree) (r : Option IntKind) (b : Bool) → bytes_eq y x ≡ b
          → option_map (λ (d : Declared). d.means) (if b then Some entry else find_name x scope.names) ≡ Some (a_function ts r) → IsTrue (stands_in x all)
      by x ts r true e k =
          let named : y ≡ x = (bytes_eq-Decides y x).0 e in
          let is : m ≡ a_function ts r = cc in
          subst (λ z. IsTrue (stands_in z all)) named (mine ts r is)
      by x ts r false e k = h.heads x ts r k

  object_is_none : {A : Type 0} (o : Option TypeTree) (ts : List TypeTree) (r : Option IntKind) → global_meaning o ≡ a_function ts r → A
  object_is_none None ts r e = absurd (cc)
  object_is_none (Some t) ts r e = absurd (cc)

  constant_is_none : {A : Type 0} (o : Option ℤ) (ts : List TypeTree) (r : Option IntKind) → constant_meaning o ≡ a_function ts r → A
  constant_is_none None ts r e = absurd (cc)
  constant_is_none (Some v) ts r e = absurd (cc)

  objects_heads : (scope : Scope) (base : Option TypeTree) (ds : List Declarator) → Declares all scope → Declares all (past_objects scope base ds)
  objects_heads scope base [] h = h
  objects_heads scope base (d ∷ ds) h =
      objects_heads (past_object scope base d) base ds
      (named_heads scope d.name.text _ (λ ts r e. object_is_none (object_type scope base d.dims) ts r e) h)

  constants_heads : (scope : Scope) (next : ℤ) (cs : List Constant) → Declares all scope → Declares all (past_constants scope next cs)
  constants_heads scope next [] h = h
  constants_heads scope next (c ∷ cs) h =
      constants_heads (past_constant scope next c) (value_after next (enum_value scope next c.value)) cs
      (named_heads scope c.name.text _ (λ ts r e. constant_is_none (enum_value scope next c.value) ts r e) h)

  tag_heads : (scope : Scope) (tag : Option NameAt) → Declares all scope → Declares all (past_tag scope tag)
  tag_heads scope None h = h
  tag_heads scope (Some tag) h = record { heads = h.heads }

  head_heads : (scope : Scope) (g : Head) → IsTrue (stands_in g.name.text all) → Declares all scope → Declares all (past_head scope g)
  head_heads scope g mine h = by (is_known scope g.name.text)
    where
      by : (b : Bool) → Declares all (if b then scope else naming scope g.name.text (signature scope g))
      by true = h
      by false = named_heads scope g.name.text (signature scope g) (λ ts r e. mine) h

  or_right : (a b : Bool) → IsTrue b → IsTrue (a || b)
  or_right true b h = refl
  or_right false b h = h

  -- what is defined before some items is defined behind them
  pub defined_keeps : (file : File) (items : List Item) (x : Name) → IsTrue (stands_in x file.defined) → IsTrue (stands_in x (past_items file items).defined)
  defined_keeps file [] x h = h
  defined_keeps file (Struct tag ds ∷ rest) x h = defined_keeps (past_item file (Struct tag ds)) rest x h
  defined_keeps file (Enum tag cs ∷ rest) x h = defined_keeps (past_item file (Enum tag cs)) rest x h
  defined_keeps file (Object d ∷ rest) x h = defined_keeps (past_item file (Object d)) rest x h
  defined_keeps file (Prototype g ∷ rest) x h = defined_keeps (past_item file (Prototype g)) rest x h
  defined_keeps file (Function g body s ∷ rest) x h =
      defined_keeps (past_item file (Function g body s)) rest x (or_right (bytes_eq g.name.text x) (stands_in x file.defined) h)

  or_left : (a b : Bool) → IsTrue a → IsTrue (a || b)
  or_left true b h = refl
  or_left false b h = absurd (cc)

  -- behind some items
  pub items_heads : (file : File) (items : List Item) → ((x : Name) → IsTrue (stands_in x (past_items file items).defined) → IsTrue (stands_in x all))
      → undefineds_fault all items ≡ None → Declares all file.scope → Declares all (past_items file items).scope
  items_heads file [] into u h = h
  items_heads file (Struct tag ds ∷ rest) into u h = items_heads (past_item file (Struct tag ds)) rest into u (record { heads = h.heads })
  items_heads file (Enum tag cs ∷ rest) into u h =
      items_heads (past_item file (Enum tag cs)) rest into u (constants_heads (past_tag file.scope tag) (pos 0) cs (tag_heads file.scope tag h))
  items_heads file (Object d ∷ rest) into u h =
      items_heads (past_item file (Object d)) rest into u (objects_heads file.scope (base_type file.scope d.base) d.vars h)
  items_heads file (Prototype g ∷ rest) into u h =
      let q = neither (undefined_fault all (Prototype g)) (undefineds_fault all rest) u in
      items_heads (past_item file (Prototype g)) rest into q.1
      (head_heads file.scope g (holds (stands_in g.name.text all) 19 g.name.span q.0) h)
  items_heads file (Function g body s ∷ rest) into u h =
      let after : File = past_item file (Function g body s) in
      let mine : IsTrue (stands_in g.name.text after.defined) =
      or_left (bytes_eq g.name.text g.name.text) (stands_in g.name.text file.defined) ((bytes_eq-Decides g.name.text g.name.text).1 refl) in
      items_heads after rest into u (head_heads file.scope g (into g.name.text (defined_keeps after rest g.name.text mine)) h)

-- ---- parameters

abbrev pub behind : List Name → Option NameAt → List Name
behind before None = before
behind before (Some x) = x.text ∷ before

-- each parameter has a name, and is the first of it
abbrev pub FreshName : List Name → Option NameAt → Type 0
FreshName before None = ⊥
FreshName before (Some x) = number_of x.text before ≡ 1

abbrev pub Fresh : List Name → List Param → Type 0
Fresh before [] = Unit {0}
Fresh before (p ∷ ps) = FreshName before p.name × Fresh (behind before p.name) ps

-- a name that isn't declared in the block of the parameters stands nowhere among those before
record Once (here : Here) : Type 0 where
  once : (x : Name) → IsTrue (not (is_declared here x)) → number_of x here.before ≡ 1

once_more : (here : Here) (x : Name) (o : Option TypeTree) → Once here → Once (declaring here x o)
once_more here x o h = record { once = λ y e. by y (bytes_eq x y) refl e }
  where
    entry : Declared
    entry = record { name = x; depth = here.depth; means = local_meaning (number_of x here.before) o }

    again : (n : ℕ) → IsTrue (nat_eq n n)
    again n = grind (arith, nat_tests)

    not_both : {A : Type 0} (b : Bool) → IsTrue b → IsTrue (not b) → A
    not_both true p q = absurd (cc)
    not_both false p q = absurd (cc)

    by : (y : Name) (b : Bool) → bytes_eq x y ≡ b → IsTrue (not (stands_at here.depth (if b then Some entry else find_name y here.scope.names)))
        → number_of y (x ∷ here.before) ≡ 1
    by y true e k = not_both (nat_eq here.depth here.depth) (again here.depth) k
    by y false e k =
        number_other x y here.before e ∙ h.once y k

past_before : (here : Here) (x : Option NameAt) (o : Option TypeTree) → (past_name here x o).before ≡ behind here.before x
past_before here None o = refl
past_before here (Some x) o = refl

once_name : (here : Here) (x : Option NameAt) (o : Option TypeTree) → Once here → Once (past_name here x o)
once_name here None o h = h
once_name here (Some x) o h = once_more here x.text o h

named : (x : Option NameAt) (b : Bool) → (not (is_some x) || b) ≡ false → (IsTrue (is_some x)) × (b ≡ false)
named None b h = absurd (cc)
named (Some x) b h = (refl, h)

fresh_name : (here : Here) (x : Option NameAt) → IsTrue (is_some x) → FineName here x → Once here → FreshName here.before x
fresh_name here None s f h = absurd (cc)
fresh_name here (Some x) s f h = h.once x.text f.0

fresh : (here : Here) (ps : List Param) → lacks_names ps ≡ false → FineParams here ps → Once here → Fresh here.before ps
fresh here [] n f h = tt
fresh here (p ∷ ps) n f h =
    let q = named p.name (lacks_names ps) n in (
      fresh_name here p.name q.0 f.1 h,
      subst (λ before. Fresh before ps) (past_before here p.name (param_type here.scope p))
          (fresh (past_param here p) ps q.1 f.2 (once_name here p.name (param_type here.scope p) h)),
    )

-- of the parameters of a function
pub all_fresh : (scope : Scope) (ps : List Param) → lacks_names ps ≡ false → FineParams (at_params scope) ps → Fresh [] ps
all_fresh scope ps n f = fresh (at_params scope) ps n f (record { once = λ x e. refl })

sure : (o : Option TypeTree) → IsTrue (is_some o) → o ≡ Some (sure_type o)
sure None h = absurd (cc)
sure (Some t) h = refl

module _ (P : ProgramTree) (defined : List Defined) where
  sees_name : (os : List LocalTree) (here : Here) (x : Option NameAt) (o : Option TypeTree) → FreshName here.before x → IsTrue (is_some o)
      → Sees P defined os here
      → Sees P defined (os ++ parameter_object (record { name = name_or_none x; ctype = sure_type o }) ∷ []) (past_name here x o)
  sees_name os here None o f s h = absurd f
  sees_name os here (Some x) o f s h =
      subst (λ n. Sees P defined (os ++ record { name = x.text; number = n; ctype = sure_type o } ∷ []) (declaring here x.text o)) f
      (sees_declared P defined os here x.text o (sure_type o) (sure o s) h)

  -- behind the parameters: they are known by the tags that are seen where the function is declared
  pub sees_params : (os : List LocalTree) (h k : Here) (ps : List Param) → h.scope.tags ≡ k.scope.tags → FineParams h ps → Fresh k.before ps
      → Sees P defined os k → Sees P defined (os ++ map parameter_object (params k ps)) (past_params k ps)
  sees_params os h k [] e f n s = subst (λ xs. Sees P defined xs k) (sym (append-nil os)) s
  sees_params os h k (p ∷ ps) e f n s =
      let some : IsTrue (is_some (param_type k.scope p)) = subst (λ o. IsTrue (is_some o)) (same_type h.scope k.scope p e) f.0 in
      let m : MemberTree = record { name = name_or_none p.name; ctype = sure_type (param_type k.scope p) } in
      let one = sees_name os k p.name (param_type k.scope p) n.0 some s in
      let next : Fresh (past_param k p).before ps = subst (λ before. Fresh before ps) (sym (past_before k p.name (param_type k.scope p))) n.1 in
      subst (λ xs. Sees P defined xs (past_params (past_param k p) ps))
      (append_assoc os (parameter_object m ∷ []) (map parameter_object (params (past_param k p) ps)))
      (sees_params (os ++ parameter_object m ∷ []) (past_param h p) (past_param k p) ps (param_keeps_tags h p ∙ e ∙ sym (param_keeps_tags k p)) f.2 next one)
