-- Each function that is declared is defined once, with the types of its declarations.
use Rattle.std.proofs.Common.{◌≡◌, ◌∙◌, refl, sym, ap, subst, List, [], ◌∷◌, ◌++◌, map, find, inl, inr, ◌⊎◌}
use Rattle.std.proofs.Common.{Option, Some, None, Bool, true, false, IsTrue, is_some, not, bytes_eq, cond, if◌then◌else◌, option_map, ◌&&◌, ◌||◌}
use Rattle.std.proofs.lemmas.Slice.Eq.{bytes_eq-Decides}
use Rattle.csub_text.specs.declared.span.Span.{Span}
use Rattle.csub_types.specs.declared.kind.IntKind.{IntKind}
use Rattle.csub_types.specs.declared.kind.IntKind.TheVariants.{Char, Int, Unsigned}
use Rattle.csub_tree.specs.declared.name.Name.{Name as NameAt}
use Rattle.csub_tree.specs.declared.name.TypeName.{TypeName}
use Rattle.csub_tree.specs.declared.name.TypeName.TheVariants as names
use Rattle.csub_tree.specs.Declarations.{Param, Head}
use Rattle.csub_tree.specs.Statements.{Stmts}
use Rattle.csub_tree.specs.Units.{Item, Struct, Enum, Object, Prototype, Function}
use Rattle.csub_objects.specs.Types.{Name, TypeTree, type_eq, kind_eq, loose_type, MemberTree, main_name}
use Rattle.csub_objects.proofs.LawsTypes.{type_eq-Decides}
use Rattle.csub_semantics.specs.Syntax.{FunctionTree}
use Rattle.csub_semantics.specs.Flows.{function_in}
use Rattle.csub_scopes.specs.Scopes.{Scope, Declared, Meaning, global_object, local_object, enum_constant, a_function, untyped, find as find_name, find_tag}
use Rattle.csub_rules.specs.Faults.{fault_if}
use Rattle.csub_rules.specs.ExprSorts.{number_of}
use Rattle.csub_rules.specs.Declarators.{number_base, base_type, struct_of}
use Rattle.csub_rules.specs.Params.{param_type}
use Rattle.csub_rules.specs.Here.{Here}
use Rattle.csub_rules.specs.Labels.{stands_in}
use Rattle.csub_rules.specs.Bodies.{body_fault}
use Rattle.csub_rules.proofs.LawsEarlier.{neither, three_none, no_test}
use Rattle.csub_rules.proofs.LawsServed.{both, both_parts, neither_holds, no_not}
use Rattle.csub_rules.specs.Files.{File, naming, is_known}
use Rattle.csub_rules.specs.Heads.{at_params, past_name, past_param, sure_type, param_types, signature, agrees, params_agree, results_eq, is_other, is_taken, disagrees, is_declared_otherwise, past_head, head_fault}
use Rattle.csub_rules.specs.Items.{past_item, past_items, item_fault, items_fault, is_misdefined, is_other_main, lacks_names, has_none, in_function}
use Rattle.csub_rules.specs.Items as items
use Rattle.csub_rules.specs.FineItems.{FineHead, FineParams, FineItems}
use Rattle.csub_resolution.specs.Values.{Defined, params_in, params_or}
use Rattle.csub_resolution.specs.Programs.{params, params_of, defined_by, defined_in, function_by, functions_by, functions_in}
use Rattle.program_validity.proofs.Files.{items_keep}

-- ---- types of parameters

same_base : (s t : Scope) (b : TypeName) → s.tags ≡ t.tags → base_type s b ≡ base_type t b
same_base s t names.Void e = refl
same_base s t names.Char e = refl
same_base s t names.Int e = refl
same_base s t names.Unsigned e = refl
same_base s t (names.Struct tag) e = ap (λ ts. struct_of tag.text (find_tag tag.text ts)) e

pub same_type : (s t : Scope) (p : Param) → s.tags ≡ t.tags → param_type s p ≡ param_type t p
same_type s t p e = ap (λ o. if p.array then option_map loose_type o else number_base p.base) (same_base s t p.base e)

name_keeps_tags : (h : Here) (x : Option NameAt) (t : Option TypeTree) → (past_name h x t).scope.tags ≡ h.scope.tags
name_keeps_tags h None t = refl
name_keeps_tags h (Some x) t = refl

pub param_keeps_tags : (h : Here) (p : Param) → (past_param h p).scope.tags ≡ h.scope.tags
param_keeps_tags h p = name_keeps_tags h p.name (param_type h.scope p)

pub head_keeps_tags : (scope : Scope) (h : Head) → scope.tags ≡ (past_head scope h).tags
head_keeps_tags scope h = by (is_known scope h.name.text)
  where
    by : (b : Bool) → scope.tags ≡ (if b then scope else naming scope h.name.text (signature scope h)).tags
    by true = refl
    by false = refl

abbrev pub ctypes : List MemberTree → List TypeTree
ctypes ms = map (λ (m : MemberTree). m.ctype) ms

params_types : (h k : Here) (ps : List Param) → h.scope.tags ≡ k.scope.tags → ctypes (params h ps) ≡ param_types k ps
params_types h k [] e = refl
params_types h k (p ∷ ps) e =
    let one : sure_type (param_type h.scope p) ≡ sure_type (param_type k.scope p) = ap sure_type (same_type h.scope k.scope p e) in
    ap (λ t. t ∷ ctypes (params (past_param h p) ps)) one
    ∙ ap (λ ts. sure_type (param_type k.scope p) ∷ ts)
    (params_types (past_param h p) (past_param k p) ps (param_keeps_tags h p ∙ e ∙ sym (param_keeps_tags k p)))

-- the parameters of a definition have the types that its calls see
defined_types : (scope : Scope) (h : Head) → ctypes (params_of scope h) ≡ param_types (at_params scope) h.params
defined_types scope h = params_types (at_params (past_head scope h)) (at_params scope) h.params (sym (head_keeps_tags scope h))

-- ---- declarations of a function agree

same_sure : (t : TypeTree) (o : Option TypeTree) → IsTrue (is_some o) → IsTrue (agrees t o) → t ≡ sure_type o
same_sure t None s h = absurd (cc)
same_sure t (Some u) s h = (type_eq-Decides t u).0 h

-- parameters that can be resolved have the types with which they agree
same_types : (here : Here) (scope : Scope) (ts : List TypeTree) (ps : List Param) → here.scope.tags ≡ scope.tags → FineParams here ps
    → IsTrue (params_agree scope ts ps) → ts ≡ param_types here ps
same_types here scope [] [] e f h = refl
same_types here scope [] (p ∷ ps) e f h = absurd (cc)
same_types here scope (t ∷ ts) [] e f h = absurd (cc)
same_types here scope (t ∷ ts) (p ∷ ps) e f h =
    let q = both_parts (agrees t (param_type scope p)) (params_agree scope ts ps) h in
    let one : t ≡ sure_type (param_type here.scope p) =
    same_sure t (param_type here.scope p) f.0 (subst (λ o. IsTrue (agrees t o)) (sym (same_type here.scope scope p e)) q.0) in
    let rest : ts ≡ param_types (past_param here p) ps = same_types (past_param here p) scope ts ps (param_keeps_tags here p ∙ e) f.2 q.1 in
    cc

same_kind : (j k : IntKind) → IsTrue (kind_eq j k) → j ≡ k
same_kind Char Char h = refl
same_kind Char Int h = absurd (cc)
same_kind Char Unsigned h = absurd (cc)
same_kind Int Char h = absurd (cc)
same_kind Int Int h = refl
same_kind Int Unsigned h = absurd (cc)
same_kind Unsigned Char h = absurd (cc)
same_kind Unsigned Int h = absurd (cc)
same_kind Unsigned Unsigned h = refl

same_result : (r s : Option IntKind) → IsTrue (results_eq r s) → r ≡ s
same_result None None h = refl
same_result None (Some k) h = absurd (cc)
same_result (Some j) None h = absurd (cc)
same_result (Some j) (Some k) h = ap Some (same_kind j k h)

abbrev pub Means : Name → Scope → List TypeTree → Option IntKind → Type 0
Means x scope ts r = option_map (λ (d : Declared). d.means) (find_name x scope.names) ≡ Some (a_function ts r)

not_not : (b : Bool) → IsTrue (not (not b)) → IsTrue b
not_not true h = refl
not_not false h = absurd (cc)

agreed : (o : Option Declared) (scope : Scope) (h : Head) → IsTrue (is_some o) → IsTrue (not (is_taken o)) → FineParams (at_params scope) h.params
    → IsTrue (not (is_declared_otherwise o scope h))
    → option_map (λ (d : Declared). d.means) o ≡ Some (a_function (param_types (at_params scope) h.params) (number_of h.result))
agreed None scope h some taken f other = absurd (cc)
agreed (Some d) scope h some taken f other = by d.means taken other
  where
    by : (m : Meaning) → IsTrue (not (is_other m)) → IsTrue (not (disagrees m scope h))
        → Some m ≡ Some (a_function (param_types (at_params scope) h.params) (number_of h.result))
    by (global_object t) taken other = absurd (cc)
    by (local_object n t) taken other = absurd (cc)
    by (enum_constant v) taken other = absurd (cc)
    by (a_function ts r) taken other =
        let p = both_parts (params_agree scope ts h.params) (results_eq r (number_of h.result))
        (not_not (params_agree scope ts h.params && results_eq r (number_of h.result)) other) in
        let types : ts ≡ param_types (at_params scope) h.params = same_types (at_params scope) scope ts h.params refl f p.0 in
        let results : r ≡ number_of h.result = same_result r (number_of h.result) p.1 in
        cc
    by untyped taken other = absurd (cc)

-- behind its head a function means what the head says
head_means : (scope : Scope) (h : Head) → FineHead scope h
    → Means h.name.text (past_head scope h) (param_types (at_params scope) h.params) (number_of h.result)
head_means scope h f = by (is_known scope h.name.text) refl
  where
    mine : IsTrue (bytes_eq h.name.text h.name.text)
    mine = (bytes_eq-Decides h.name.text h.name.text).1 refl

    first : (b : Bool) (d : Declared) (o : Option Declared) → IsTrue b → option_map (λ (d : Declared). d.means) (if b then Some d else o) ≡ Some d.means
    first true d o p = refl
    first false d o p = absurd (cc)

    by : (b : Bool) → is_known scope h.name.text ≡ b
        → Means h.name.text (if b then scope else naming scope h.name.text (signature scope h)) (param_types (at_params scope) h.params) (number_of h.result)
    by true known =
        agreed (find_name h.name.text scope.names) scope h known f.0 f.3 f.2
    by false new = first (bytes_eq h.name.text h.name.text) (record { name = h.name.text; depth = 0; means = signature scope h }) (find_name h.name.text scope.names) mine

-- ---- definitions

module _ (D : List Defined) where
  -- the definition of a name among some items, which stands there with the types that all calls behind see
  pub record IsDefined (file : File) (items : List Item) (x : Name) : Type 0 where
    pub function : FunctionTree
    pub found : function_in (functions_in D file items) x ≡ Some function
    pub params : params_in (defined_in file items) x ≡ function.params
    pub means : Means x (past_items file items).scope (ctypes function.params) function.result
    pub main : IsTrue (bytes_eq x main_name) → (function.params ≡ []) × (function.result ≡ Some Int)

  stood : (a b : Bool) → IsTrue (a || b) → (IsTrue a) ⊎ (IsTrue b)
  stood true b h = inl refl
  stood false b h = inr h

  persists : (file : File) (items : List Item) (x : Name) (ts : List TypeTree) (r : Option IntKind) → items_fault file items ≡ None
      → Means x file.scope ts r → Means x (past_items file items).scope ts r
  persists file items x ts r f h = by (find_name x file.scope.names) refl h
    where
      by : (o : Option Declared) → find_name x file.scope.names ≡ o → option_map (λ (d : Declared). d.means) o ≡ Some (a_function ts r)
          → Means x (past_items file items).scope ts r
      by None e h = absurd (cc)
      by (Some d) e h = ap (λ o. option_map (λ (d : Declared). d.means) o) (items_keep file items x d f e) ∙ h

  main_types : (m t n : Bool) → IsTrue m → (m && not (t && n)) ≡ false → IsTrue (t && n)
  main_types true t n h e = no_not (t && n) e
  main_types false t n h e = absurd (cc)

  no_params : (ps : List Param) → IsTrue (has_none ps) → ps ≡ []
  no_params [] h = refl
  no_params (p ∷ ps) h = absurd (cc)

  int_result : (r : Option IntKind) → IsTrue (items.is_int r) → r ≡ Some Int
  int_result None h = absurd (cc)
  int_result (Some k) h = ap Some (same_kind k Int h)

  main_is : (file : File) (h : Head) → is_misdefined file h ≡ false → IsTrue (bytes_eq h.name.text main_name)
      → (params_of file.scope h ≡ []) × (number_of h.result ≡ Some Int)
  main_is file h e m =
      let p = neither_holds (stands_in h.name.text file.defined) (lacks_names h.params || is_other_main h) e in
      let q = neither_holds (lacks_names h.params) (is_other_main h) p.1 in
      let r = both_parts _ _ (main_types (bytes_eq h.name.text main_name) (items.is_int (number_of h.result)) (has_none h.params) m q.1) in (
        ap (params (at_params (past_head file.scope h))) (no_params h.params r.1),
        int_result (number_of h.result) r.0,
      )

  -- a definition behind one item more
  later : (file : File) (i : Item) (rest : List Item) (x : Name) → functions_by D file i ≡ [] → defined_by file i ≡ []
      → IsDefined (past_item file i) rest x → IsDefined file (i ∷ rest) x
  later file i rest x p q d =
      record {
        function = d.function;
        found = ap (λ fs. function_in (fs ++ functions_in D (past_item file i) rest) x) p ∙ d.found;
        params = ap (λ ds. params_in (ds ++ defined_in (past_item file i) rest) x) q ∙ d.params;
        means = d.means;
        main = d.main;
      }

  -- the function of an item is the one, or a later one
  this_or_later : (file : File) (h : Head) (body : Stmts) (s : Span) (rest : List Item) (x : Name) (b : Bool) → bytes_eq h.name.text x ≡ b
      → FineHead file.scope h → is_misdefined file h ≡ false → items_fault (past_item file (Function h body s)) rest ≡ None
      → (b ≡ false → IsDefined (past_item file (Function h body s)) rest x) → IsDefined file (Function h body s ∷ rest) x
  this_or_later file h body s rest x true e fine fit f more =
      let named : h.name.text ≡ x = (bytes_eq-Decides h.name.text x).0 e in
      let g : FunctionTree = function_by D file.scope h body in
      let after : File = past_item file (Function h body s) in
      let here : Means x (past_head file.scope h) (param_types (at_params file.scope) h.params) (number_of h.result) =
      subst (λ y. Means y (past_head file.scope h) (param_types (at_params file.scope) h.params) (number_of h.result)) named (head_means file.scope h fine) in
      record {
        function = g;
        found = ap (λ b. cond b (Some g) (function_in (functions_in D after rest) x)) e;
        params = ap (λ b. params_or (cond b (Some (record { name = h.name.text; params = params_of file.scope h })) (find (λ (d : Defined). bytes_eq d.name x) (defined_in after rest)))) e;
        means = subst (λ ts. Means x (past_items after rest).scope ts (number_of h.result)) (sym (defined_types file.scope h)) (persists after rest x (param_types (at_params file.scope) h.params) (number_of h.result) f here);
        main = λ m. main_is file h fit (subst (λ y. IsTrue (bytes_eq y main_name)) (sym named) m);
      }
  this_or_later file h body s rest x false e fine fit f more =
      let d = more refl in
      let after : File = past_item file (Function h body s) in
      record {
        function = d.function;
        found = ap (λ b. cond b (Some (function_by D file.scope h body)) (function_in (functions_in D after rest) x)) e ∙ d.found;
        params =
            ap (λ b. params_or (cond b (Some (record { name = h.name.text; params = params_of file.scope h })) (find (λ (d : Defined). bytes_eq d.name x) (defined_in after rest)))) e
            ∙ d.params;
        means = d.means;
        main = d.main;
      }

  skip : (file : File) (i : Item) (rest : List Item) (x : Name) → functions_by D file i ≡ [] → defined_by file i ≡ []
      → (IsTrue (stands_in x file.defined)) ⊎ IsDefined (past_item file i) rest x → (IsTrue (stands_in x file.defined)) ⊎ IsDefined file (i ∷ rest) x
  skip file i rest x p q (inl h) = inl h
  skip file i rest x p q (inr d) = inr (later file i rest x p q d)

  first : (file : File) (h : Head) (body : Stmts) (s : Span) (rest : List Item) (x : Name) → FineHead file.scope h → is_misdefined file h ≡ false
      → items_fault (past_item file (Function h body s)) rest ≡ None → (IsTrue (bytes_eq h.name.text x)) ⊎ (IsTrue (stands_in x file.defined))
      → (IsTrue (stands_in x file.defined)) ⊎ IsDefined file (Function h body s ∷ rest) x
  first file h body s rest x fine fit f (inl e) = inr (this_or_later file h body s rest x true e fine fit f (λ n. absurd (cc)))
  first file h body s rest x fine fit f (inr p) = inl p

  behind : (file : File) (i : Item) (rest : List Item) → items_fault file (i ∷ rest) ≡ None → items_fault (past_item file i) rest ≡ None
  behind file i rest f = (neither (item_fault file i) (items_fault (past_item file i) rest) f).1

  -- the function that is defined is among those before some items, or among these
  pub defined_among : (file : File) (items : List Item) (x : Name) → FineItems file items → items_fault file items ≡ None
      → IsTrue (stands_in x (past_items file items).defined) → (IsTrue (stands_in x file.defined)) ⊎ IsDefined file items x
  defined_among file [] x fine f h = inl h
  defined_among file (Struct tag ds ∷ rest) x fine f h = skip file (Struct tag ds) rest x refl refl (defined_among (past_item file (Struct tag ds)) rest x fine.1 (behind file (Struct tag ds) rest f) h)
  defined_among file (Enum tag cs ∷ rest) x fine f h = skip file (Enum tag cs) rest x refl refl (defined_among (past_item file (Enum tag cs)) rest x fine.1 (behind file (Enum tag cs) rest f) h)
  defined_among file (Object d ∷ rest) x fine f h = skip file (Object d) rest x refl refl (defined_among (past_item file (Object d)) rest x fine.1 (behind file (Object d) rest f) h)
  defined_among file (Prototype g ∷ rest) x fine f h = skip file (Prototype g) rest x refl refl (defined_among (past_item file (Prototype g)) rest x fine.1 (behind file (Prototype g) rest f) h)
  defined_among file (Function g body s ∷ rest) x fine f h =
      let q = neither (item_fault file (Function g body s)) (items_fault (past_item file (Function g body s)) rest) f in
      let r = three_none (head_fault file.scope g) (fault_if (is_misdefined file g) 19 g.name.span)
      (body_fault (number_of g.result) (in_function file.scope g) body) q.0 in
      let fit = no_test (is_misdefined file g) 19 g.name.span r.1 in
      elim (defined_among (past_item file (Function g body s)) rest x fine.1 q.1 h) [
        | inl p ↦ first file g body s rest x fine.0.0 fit q.1 (stood (bytes_eq g.name.text x) (stands_in x file.defined) p)
        | inr d ↦ inr (this_or_later file g body s rest x (bytes_eq g.name.text x) refl fine.0.0 fit q.1 (λ e. d))
      ]
