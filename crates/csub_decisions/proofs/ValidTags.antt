-- What holds of all structs of a type, by its parts, and of all objects of a function or a program.
use Rattle.std.proofs.Common.{◌≡◌, ◌↔◌, ◌⊎◌, inl, inr, ap, ℕ, List, [], ◌∷◌, ◌++◌, map, slice_index_or, All, sym, subst}
use Rattle.std.specs.List.{flat_map}
use Rattle.std.proofs.lemmas.List.Elements.{All-nil, All-cons, All-head, All-tail}
use Rattle.csub_types.specs.declared.kind.IntKind.{IntKind}
use Rattle.csub_objects.specs.declared.types.CType.{CType}
use Rattle.csub_objects.specs.declared.types.CType.TheVariants.{Array, Loose}
use Rattle.csub_objects.specs.declared.types.Member.{Member}
use Rattle.csub_objects.specs.Meaning.{type_tree, member_tree}
use Rattle.csub_objects.specs.Types.{Name, TypeTree, number_type, struct_type, members_of}
use Rattle.csub_semantics.specs.declared.types.GlobalVar.{GlobalVar}
use Rattle.csub_semantics.specs.declared.function.LocalVar.{LocalVar}
use Rattle.csub_semantics.specs.declared.function.Function.{Function}
use Rattle.csub_semantics.specs.Types.{GlobalTree, global_tree}
use Rattle.csub_semantics.specs.Syntax.{LocalTree, FunctionTree, local_tree, function_tree}
use Rattle.csub_decisions.specs.declared.site.Definitions.{Definitions}
use Rattle.csub_validity.specs.Valid.{StructTree, structs_in, structs_of, objects_of, parameter_object, AgreeOn, AgreeOnTags}
use Rattle.csub_decisions.specs.Checks.{tree_of, struct_tree, declared_structs, AllAgree, OfObjects}
use Rattle.csub_validity.proofs.LawsLists.{All-of_map}
use Rattle.csub_decisions.proofs.ValidLists.{All-append}

-- what holds of each struct in a type
abbrev pub InType : (StructTree → Type 0) → TypeTree → Type 0
InType Q t = All Q (structs_in t)

-- what holds of each element of lists, joined
pub All-flat_map : {X Y : Type 0} (Q : Y → Type 0) (f : X → List Y) (xs : List X) → All Q (flat_map f xs) ↔ All (λ x. All Q (f x)) xs
All-flat_map Q f [] = (λ h. All-nil (λ x. All Q (f x)), λ h. All-nil Q)
All-flat_map Q f (x ∷ xs) =
    let both = All-append Q (f x) (flat_map f xs) in
    let rest = All-flat_map Q f xs in
    (λ h. let parts = both.0 h in All-cons (λ y. All Q (f y)) x xs parts.0 (rest.0 parts.1), λ h. both.1 (All-head (λ y. All Q (f y)) x xs h, rest.1 (All-tail (λ y. All Q (f y)) x xs h)))

-- the types of a function's objects are those of its parameters and of its locals
pub OfObjects-split : (R : TypeTree → Type 0) (f : Function)
    → OfObjects R (function_tree f) ↔ (All (λ (m : Member). R (type_tree m.ctype)) f.params.items × All (λ (l : LocalVar). R (type_tree l.ctype)) f.locals.items)
OfObjects-split R f =
    let P = λ (o : LocalTree). R o.ctype in
    let both = All-append P (map parameter_object (map member_tree f.params.items)) (map local_tree f.locals.items) in
    let objects = All-of_map P parameter_object (map member_tree f.params.items) in
    let params = All-of_map (λ p. R p.ctype) member_tree f.params.items in
    let locals = All-of_map P local_tree f.locals.items in (
      λ h. let parts = both.0 h in (params.0 (objects.0 parts.0), locals.0 parts.1),
      λ h. both.1 (objects.1 (params.1 h.0), locals.1 h.1),
    )

module _ (Q : StructTree → Type 0) where
  -- the structs in members
  InType-members : (ms : List Member) → All Q (structs_of (members_of (map member_tree ms))) ↔ All (λ (m : Member). InType Q (type_tree m.ctype)) ms
  InType-members [] = (λ h. All-nil (λ (m : Member). InType Q (type_tree m.ctype)), λ h. All-nil Q)
  InType-members (m ∷ ms) =
      let both = All-append Q (structs_in (type_tree m.ctype)) (structs_of (members_of (map member_tree ms))) in
      let rest = InType-members ms in
      let P = λ (x : Member). InType Q (type_tree x.ctype) in (
        λ h. let parts = both.0 h in All-cons P m ms parts.0 (rest.0 parts.1),
        λ h. both.1 (All-head P m ms h, rest.1 (All-tail P m ms h)),
      )

  -- a struct type has the struct itself, and those of its members
  pub InType-struct : (t : TypeTree) (tag : Name) (ms : List Member) → t ≡ struct_type tag (members_of (map member_tree ms))
      → InType Q t ↔ (Q (struct_tree tag ms) × All (λ (m : Member). InType Q (type_tree m.ctype)) ms)
  InType-struct t tag ms e =
      let a = struct_tree tag ms in
      let inner = structs_of (members_of (map member_tree ms)) in
      let rest = InType-members ms in (
        λ h. let all = subst (InType Q) e h in (All-head Q a inner all, rest.0 (All-tail Q a inner all)),
        λ h. subst (InType Q) (sym e) (All-cons Q a inner h.0 (rest.1 h.1)),
      )

  -- the structs of the objects of functions
  in_functions : (fs : List FunctionTree) → All Q (flat_map structs_in (flat_map (λ f. map (λ o. o.ctype) (objects_of f)) fs)) ↔ All (OfObjects (InType Q)) fs
  in_functions fs =
      let types = λ (f : FunctionTree). map (λ (o : LocalTree). o.ctype) (objects_of f) in
      let structs = All-flat_map Q structs_in (flat_map types fs) in
      let each = All-flat_map (InType Q) types fs in (
        λ h k d below. (All-of_map (InType Q) (λ (o : LocalTree). o.ctype) (objects_of (slice_index_or fs k d))).0 (each.0 (structs.0 h) k d below),
        λ h. structs.1 (each.1 (λ k d below. (All-of_map (InType Q) (λ (o : LocalTree). o.ctype) (objects_of (slice_index_or fs k d))).1 (h k d below))),
      )

  -- the structs of a program are those of the objects of file scope and of its functions
  pub declared_split : (d : Definitions) → All Q (declared_structs (tree_of d))
      ↔ (All (λ (g : GlobalVar). InType Q (type_tree g.ctype)) d.globals.now × All (λ (f : Function). OfObjects (InType Q) (function_tree f)) d.functions.now)
  declared_split d =
      let gs = map global_tree d.globals.now in
      let fs = map function_tree d.functions.now in
      let types = flat_map (λ (f : FunctionTree). map (λ (o : LocalTree). o.ctype) (objects_of f)) fs in
      let all = All-flat_map Q structs_in (map (λ (g : GlobalTree). g.ctype) gs ++ types) in
      let both = All-append (InType Q) (map (λ (g : GlobalTree). g.ctype) gs) types in
      let kinds = All-of_map (InType Q) (λ (g : GlobalTree). g.ctype) gs in
      let globals = All-of_map (λ g. InType Q g.ctype) global_tree d.globals.now in
      let structs = All-flat_map Q structs_in types in
      let each = in_functions fs in
      let functions = All-of_map (OfObjects (InType Q)) function_tree d.functions.now in (
        λ h. let parts = both.0 (all.0 h) in (globals.0 (kinds.0 parts.0), functions.0 (each.0 (structs.1 parts.1))),
        λ h. all.1 (both.1 (kinds.1 (globals.1 h.0), structs.0 (each.1 (functions.1 h.1)))),
      )

-- the structs of a type agree with all of a program, by its parts
module _ (structs : List StructTree) where
  pub AllAgree-number : (k : IntKind) → AllAgree structs (number_type k)
  unfolding AllAgree
  AllAgree-number k = All-nil (λ a. All (AgreeOn a) structs)

  -- an array, and an array parameter, have the structs of their elements
  pub AllAgree-element : (u : CType) (t : TypeTree) → ((n : ℕ) × (u ≡ Array t n)) ⊎ (u ≡ Loose t) → AllAgree structs t ↔ AllAgree structs (type_tree u)
  unfolding AllAgree
  AllAgree-element u t (inl h) =
      let e = sym (ap type_tree h.1) in (λ g. subst (AllAgree structs) e g, λ g. subst (AllAgree structs) (sym e) g)
  AllAgree-element u t (inr h) =
      let e = sym (ap type_tree h) in (λ g. subst (AllAgree structs) e g, λ g. subst (AllAgree structs) (sym e) g)

  pub AllAgree-struct : (t : TypeTree) (tag : Name) (ms : List Member) → t ≡ struct_type tag (members_of (map member_tree ms))
      → AllAgree structs t ↔ (All (AgreeOn (struct_tree tag ms)) structs × All (λ (m : Member). AllAgree structs (type_tree m.ctype)) ms)
  unfolding AllAgree
  AllAgree-struct t tag ms e = InType-struct (λ a. All (AgreeOn a) structs) t tag ms e

-- the structs of a program agree with each other where those of its objects agree with all
pub AllAgree-declared : (d : Definitions) → AgreeOnTags (declared_structs (tree_of d))
    ↔ (All (λ (g : GlobalVar). AllAgree (declared_structs (tree_of d)) (type_tree g.ctype)) d.globals.now
    × All (λ (f : Function). OfObjects (AllAgree (declared_structs (tree_of d))) (function_tree f)) d.functions.now)
unfolding AllAgree
AllAgree-declared d = declared_split (λ a. All (AgreeOn a) (declared_structs (tree_of d))) d
