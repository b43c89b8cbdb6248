-- The types of a program: those of its objects, and the structs in them.
use Rattle.std.proofs.Common.{◌≡◌, ℤ, pos, Bool, true, false, List, [], ◌∷◌, ◌++◌, map, All, IsTrue, is_some, not, Option, Some, None, refl, subst, sym, ap, ◌∙◌}
use Rattle.std.specs.Option.{option_or}
use Rattle.std.specs.Prelude.{if◌then◌else◌}
use Rattle.std.specs.List.{flat_map}
use Rattle.std.proofs.lemmas.List.Elements.{All-nil, All-cons, All-append, All-map, All-weaker}
use Rattle.csub_tree.specs.declared.name.Name.{Name as NameAt}
use Rattle.csub_tree.specs.Declarations.{Declarator, Declare, Head}
use Rattle.csub_tree.specs.Statements.{Stmts}
use Rattle.csub_tree.specs.Units.{Constant, Item, Struct, Enum, Object, Prototype, Function, Source}
use Rattle.csub_objects.specs.Types.{TypeTree, MemberTree, MemberTrees, IsSized}
use Rattle.csub_semantics.specs.Types.{GlobalTree}
use Rattle.csub_semantics.specs.Syntax.{LocalTree, FunctionTree, ProgramTree}
use Rattle.csub_validity.specs.Valid.{AreDeclared, IsParameter, HasOwnNames, StructTree, structs_in, declared_types, AgreeOn, AgreeOnTags, objects_of, parameter_object}
use Rattle.csub_scopes.specs.Scopes.{Scope, Tagged, find_tag}
use Rattle.csub_rules.specs.declared.fault.Fault.{Fault}
use Rattle.csub_rules.specs.Faults.{fault_if}
use Rattle.csub_rules.specs.Constants.{enum_value}
use Rattle.csub_rules.specs.Declarators.{base_type}
use Rattle.csub_rules.specs.Here.{Here, is_reserved}
use Rattle.csub_rules.proofs.LawsEarlier.{neither, no_test}
use Rattle.csub_rules.proofs.LawsUses.{is_false}
use Rattle.csub_rules.specs.Files.{File, no_file, naming, is_known, tag_fault}
use Rattle.csub_rules.specs.Objects.{past_object, past_objects}
use Rattle.csub_rules.specs.Structs.{struct_fault, sound_members}
use Rattle.csub_rules.specs.Enums.{value_after, past_constant, past_constants, past_tag, past_enum, constants_fault, perhaps_tag_fault, enumeration_fault}
use Rattle.csub_rules.specs.Heads.{at_params, past_params, past_head, signature}
use Rattle.csub_rules.specs.Items.{past_item, past_items, item_fault, items_fault}
use Rattle.csub_rules.specs.Units.{all_defined, undefineds_fault, placed_fault, main_fault, unit_fault}
use Rattle.csub_resolution.specs.Values.{Defined}
use Rattle.csub_resolution.specs.Lines.{locals_lines}
use Rattle.csub_resolution.specs.Programs.{params, function_by, functions_in, globals_by, globals_in, defined_in, start, span_of_main, program_of}
use Rattle.program_validity.proofs.Lists.{all_flat}
use Rattle.program_validity.proofs.Known.{members_at, IsGood, AreGood, IsOfTag, all_of_tags, Grows, good_more, grows_tag, good_tags}
use Rattle.program_validity.proofs.Declared.{good_base, IsGoodGlobal, good_globals, IsLocal, good_lines, IsParam, good_params, params_keep}
use Rattle.program_validity.proofs.Members.{fresh_tag, defined_is}

-- ---- a function

abbrev IsGoodObject : List Tagged → LocalTree → Type 0
IsGoodObject tags o = IsGood tags o.ctype

record IsTyped (tags : List Tagged) (f : FunctionTree) : Type 0 where
  declared : AreDeclared f
  objects : All (IsGoodObject tags) (objects_of f)

head_keeps : (scope : Scope) (h : Head) → (past_head scope h).tags ≡ scope.tags
head_keeps scope h = by (is_known scope h.name.text)
  where
    by : (b : Bool) → (if b then scope else naming scope h.name.text (signature scope h)).tags ≡ scope.tags
    by true = refl
    by false = refl

of_function : (defined : List Defined) (scope : Scope) (h : Head) (body : Stmts) → AreGood scope.tags → IsTyped scope.tags (function_by defined scope h body)
of_function defined scope h body good =
    let tags : List Tagged = scope.tags in
    let enter : Here = at_params (past_head scope h) in
    let inside : Here = past_params enter h.params in
    let ps : List MemberTree = params enter h.params in
    let os : List LocalTree = locals_lines inside body in
    let p : All (IsParam tags) ps = good_params tags good h.params enter (head_keeps scope h) in
    let l : All (IsLocal tags) os = good_lines tags good body inside (params_keep h.params enter ∙ head_keeps scope h) in
    record {
      declared = record {
        params = All-weaker (IsParam tags) (λ (m : MemberTree). IsParameter m.ctype) (λ m x. x.is) ps p;
        locals = All-weaker (IsLocal tags) (λ (o : LocalTree). IsSized o.ctype) (λ o x. x.sized) os l;
      };
      objects =
          All-append (IsGoodObject tags) (map parameter_object ps) os
          (All-map (IsGoodObject tags) parameter_object ps
          (All-weaker (IsParam tags) (λ (m : MemberTree). IsGoodObject tags (parameter_object m)) (λ m x. x.good) ps p))
          (All-weaker (IsLocal tags) (IsGoodObject tags) (λ o x. x.good) os l);
    }

-- ---- what items declare

record AreTyped (tags : List Tagged) (fs : List FunctionTree) (gs : List GlobalTree) : Type 0 where
  functions : All (IsTyped tags) fs
  globals : All (IsGoodGlobal tags) gs

typed_more : (ts us : List Tagged) → Grows ts us → (f : FunctionTree) → IsTyped ts f → IsTyped us f
typed_more ts us grows f t = record {
  declared = t.declared;
  objects = All-weaker (IsGoodObject ts) (IsGoodObject us) (λ o g. good_more ts us grows o.ctype g) (objects_of f) t.objects;
}

-- behind some items the tags of structs mean on what they mean, and the types of what the items declare are good
record AreWalked (defined : List Defined) (file : File) (items : List Item) : Type 0 where
  grows : Grows file.scope.tags (past_items file items).scope.tags
  typed : AreTyped (past_items file items).scope.tags (functions_in defined file items) (globals_in file items)

objects_keep : (base : Option TypeTree) (scope : Scope) (ds : List Declarator) → (past_objects scope base ds).tags ≡ scope.tags
objects_keep base scope [] = refl
objects_keep base scope (d ∷ ds) = objects_keep base (past_object scope base d) ds

constants_keep : (scope : Scope) (next : ℤ) (cs : List Constant) → (past_constants scope next cs).tags ≡ scope.tags
constants_keep scope next [] = refl
constants_keep scope next (c ∷ cs) = constants_keep (past_constant scope next c) (value_after next (enum_value scope next c.value)) cs

record IsPast (ts us : List Tagged) : Type 0 where
  good : AreGood us
  grows : Grows ts us

same_tags : (ts us : List Tagged) → us ≡ ts → AreGood ts → IsPast ts us
same_tags ts us e good = subst (λ l. IsPast ts l) (sym e) (record { good = good; grows = λ tag ms h. h })

is_fresh : (scope : Scope) (tag : NameAt) → tag_fault scope tag ≡ None → IsTrue (not (is_some (find_tag tag.text scope.tags)))
is_fresh scope tag e =
    let q = neither (fault_if (is_some (find_tag tag.text scope.tags)) 2 tag.span) (fault_if (is_reserved tag.text) 3 tag.span) e in
    is_false (is_some (find_tag tag.text scope.tags)) (no_test (is_some (find_tag tag.text scope.tags)) 2 tag.span q.0)

past_struct_good : (scope : Scope) (tag : NameAt) (ds : List Declare) → AreGood scope.tags → struct_fault scope tag ds ≡ None
    → IsPast scope.tags (record { tag = tag.text; members = sound_members scope tag ds } ∷ scope.tags)
past_struct_good scope tag ds good e =
    let d : Tagged = record { tag = tag.text; members = sound_members scope tag ds } in
    let fresh : IsTrue (not (is_some (find_tag tag.text scope.tags))) = is_fresh scope tag (fresh_tag scope tag ds good e) in
    record { good = good_tags d scope.tags fresh good (defined_is scope tag ds good e); grows = grows_tag d scope.tags fresh }

past_tag_good : (scope : Scope) (tag : Option NameAt) → AreGood scope.tags → perhaps_tag_fault scope tag ≡ None → IsPast scope.tags (past_tag scope tag).tags
past_tag_good scope None good e = same_tags scope.tags scope.tags refl good
past_tag_good scope (Some tag) good e =
    let d : Tagged = record { tag = tag.text; members = None } in
    let fresh : IsTrue (not (is_some (find_tag tag.text scope.tags))) = is_fresh scope tag e in
    record { good = good_tags d scope.tags fresh good (λ ms h. absurd (cc)); grows = grows_tag d scope.tags fresh }

past_enum_good : (scope : Scope) (tag : Option NameAt) (cs : List Constant) → AreGood scope.tags → enumeration_fault scope tag cs ≡ None
    → IsPast scope.tags (past_enum scope tag cs).tags
past_enum_good scope tag cs good e =
    let q = neither (perhaps_tag_fault scope tag) (constants_fault (past_tag scope tag) (pos 0) cs) e in
    subst (λ l. IsPast scope.tags l) (sym (constants_keep (past_tag scope tag) (pos 0) cs)) (past_tag_good scope tag good q.0)

module _ (defined : List Defined) where
  -- behind an item that declares no object and no function
  walked : (file past : File) (rest : List Item) → IsPast file.scope.tags past.scope.tags → AreWalked defined past rest
      → (fs : List FunctionTree) (gs : List GlobalTree) → All (IsTyped file.scope.tags) fs → All (IsGoodGlobal file.scope.tags) gs
      → Grows file.scope.tags (past_items past rest).scope.tags × AreTyped (past_items past rest).scope.tags (fs ++ functions_in defined past rest) (gs ++ globals_in past rest)
  walked file past rest p w fs gs f g =
      let ts : List Tagged = file.scope.tags in
      let us : List Tagged = (past_items past rest).scope.tags in
      let grows : Grows ts us = λ tag ms h. w.grows tag ms (p.grows tag ms h) in (
        grows,
        record {
          functions =
              All-append (IsTyped us) fs (functions_in defined past rest) (All-weaker (IsTyped ts) (IsTyped us) (typed_more ts us grows) fs f) w.typed.functions;
          globals =
              All-append (IsGoodGlobal us) gs (globals_in past rest)
              (All-weaker (IsGoodGlobal ts) (IsGoodGlobal us) (λ x y. good_more ts us grows x.ctype y) gs g) w.typed.globals;
        },
      )

  no_functions : (tags : List Tagged) → All (IsTyped tags) []
  no_functions tags = All-nil (IsTyped tags)

  no_globals : (tags : List Tagged) → All (IsGoodGlobal tags) []
  no_globals tags = All-nil (IsGoodGlobal tags)

  walk : (file : File) (items : List Item) → AreGood file.scope.tags → items_fault file items ≡ None → AreWalked defined file items
  walk file [] good e = record {
    grows = λ tag ms h. h;
    typed = record { functions = no_functions file.scope.tags; globals = no_globals file.scope.tags };
  }
  walk file (Struct tag ds ∷ rest) good e =
      let past : File = past_item file (Struct tag ds) in
      let q = neither (item_fault file (Struct tag ds)) (items_fault past rest) e in
      let p : IsPast file.scope.tags past.scope.tags = past_struct_good file.scope tag ds good q.0 in
      let w = walked file past rest p (walk past rest p.good q.1) [] [] (no_functions file.scope.tags) (no_globals file.scope.tags) in
      record { grows = w.0; typed = w.1 }
  walk file (Enum tag cs ∷ rest) good e =
      let past : File = past_item file (Enum tag cs) in
      let q = neither (item_fault file (Enum tag cs)) (items_fault past rest) e in
      let p : IsPast file.scope.tags past.scope.tags = past_enum_good file.scope tag cs good q.0 in
      let w = walked file past rest p (walk past rest p.good q.1) [] [] (no_functions file.scope.tags) (no_globals file.scope.tags) in
      record { grows = w.0; typed = w.1 }
  walk file (Object d ∷ rest) good e =
      let past : File = past_item file (Object d) in
      let base : Option TypeTree = base_type file.scope d.base in
      let q = neither (item_fault file (Object d)) (items_fault past rest) e in
      let p : IsPast file.scope.tags past.scope.tags = same_tags file.scope.tags past.scope.tags (objects_keep base file.scope d.vars) good in
      let w =
      walked file past rest p (walk past rest p.good q.1) [] (globals_by file.scope base d.vars) (no_functions file.scope.tags)
      (good_globals file.scope.tags base (good_base file.scope.tags good file.scope refl d.base) file.scope d.vars) in
      record { grows = w.0; typed = w.1 }
  walk file (Prototype h ∷ rest) good e =
      let past : File = past_item file (Prototype h) in
      let q = neither (item_fault file (Prototype h)) (items_fault past rest) e in
      let p : IsPast file.scope.tags past.scope.tags = same_tags file.scope.tags past.scope.tags (head_keeps file.scope h) good in
      let w = walked file past rest p (walk past rest p.good q.1) [] [] (no_functions file.scope.tags) (no_globals file.scope.tags) in
      record { grows = w.0; typed = w.1 }
  walk file (Function h body s ∷ rest) good e =
      let past : File = past_item file (Function h body s) in
      let q = neither (item_fault file (Function h body s)) (items_fault past rest) e in
      let p : IsPast file.scope.tags past.scope.tags = same_tags file.scope.tags past.scope.tags (head_keeps file.scope h) good in
      let f : FunctionTree = function_by defined file.scope h body in
      let w =
      walked file past rest p (walk past rest p.good q.1) (f ∷ []) []
      (All-cons (IsTyped file.scope.tags) f [] (of_function defined file.scope h body good) (no_functions file.scope.tags))
      (no_globals file.scope.tags) in
      record { grows = w.0; typed = w.1 }

-- ---- sources

none_before : (o last : Option Fault) → option_or o last ≡ None → o ≡ None
none_before None last e = refl
none_before (Some f) last e = absurd (cc)

no_tags : AreGood []
no_tags tag ms e = absurd (cc)

-- the tags behind the last item
abbrev tags_of : Source → List Tagged
tags_of u = (past_items no_file u.items).scope.tags

module _ (u : Source) (h : unit_fault u ≡ None) where
  typed : AreTyped (tags_of u) (program_of u).functions (program_of u).globals
  typed =
      let defined : List Defined = defined_in no_file u.items in
      let fs : List FunctionTree = functions_in defined no_file u.items in
      let q =
      neither (items_fault no_file u.items) (undefineds_fault (all_defined u.items) u.items)
      (none_before (placed_fault u.items) (main_fault u.items) h) in
      let w = (walk defined no_file u.items no_tags q.0).typed in
      let first : IsTyped (tags_of u) (start (span_of_main fs)) = record {
        declared = record { params = All-nil (λ (m : MemberTree). IsParameter m.ctype); locals = All-nil (λ (o : LocalTree). IsSized o.ctype) };
        objects = All-nil (IsGoodObject (tags_of u));
      } in
      record { functions = All-cons (IsTyped (tags_of u)) (start (span_of_main fs)) fs first w.functions; globals = w.globals }

  pub types : All AreDeclared (program_of u).functions
  types = All-weaker (IsTyped (tags_of u)) AreDeclared (λ f t. t.declared) (program_of u).functions typed.functions

  good_types : All (IsGood (tags_of u)) (declared_types (program_of u))
  good_types =
      let P : ProgramTree = program_of u in
      let T : List Tagged = tags_of u in
      All-append (IsGood T) (map (λ (g : GlobalTree). g.ctype) P.globals)
      (flat_map (λ (f : FunctionTree). map (λ (o : LocalTree). o.ctype) (objects_of f)) P.functions)
      (All-map (IsGood T) (λ (g : GlobalTree). g.ctype) P.globals typed.globals)
      (all_flat (IsGood T) (λ (f : FunctionTree). map (λ (o : LocalTree). o.ctype) (objects_of f)) P.functions
      (All-weaker (IsTyped T) (λ (f : FunctionTree). All (IsGood T) (map (λ (o : LocalTree). o.ctype) (objects_of f)))
      (λ f t. All-map (IsGood T) (λ (o : LocalTree). o.ctype) (objects_of f) t.objects) P.functions typed.functions))

  pub names : All HasOwnNames (declared_types (program_of u))
  names = All-weaker (IsGood (tags_of u)) HasOwnNames (λ t g. g.names) (declared_types (program_of u)) good_types

  agree : (a b : StructTree) → IsOfTag (tags_of u) a → IsOfTag (tags_of u) b → AgreeOn a b
  agree a b p q e =
      let same : members_at (tags_of u) a.tag ≡ members_at (tags_of u) b.tag = ap (members_at (tags_of u)) e in
      let both : ◌≡◌ {A = Option MemberTrees} (Some a.members) (Some b.members) = sym p ∙ same ∙ q in cc

  pub tags : AgreeOnTags (flat_map structs_in (declared_types (program_of u)))
  tags =
      let T : List Tagged = tags_of u in
      let structs : List StructTree = flat_map structs_in (declared_types (program_of u)) in
      let each : All (IsOfTag T) structs =
      all_flat (IsOfTag T) structs_in (declared_types (program_of u))
      (All-weaker (IsGood T) (λ t. All (IsOfTag T) (structs_in t)) (λ t g. all_of_tags T t g.known) (declared_types (program_of u)) good_types) in
      All-weaker (IsOfTag T) (λ a. All (AgreeOn a) structs)
      (λ a p. All-weaker (IsOfTag T) (AgreeOn a) (λ b q. agree a b p q) structs each) structs each
