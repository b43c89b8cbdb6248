-- The types of what is declared where the tags of structs are good.
use Rattle.std.proofs.Common.{◌≡◌, ℕ, arith, Bool, true, false, List, [], ◌∷◌, All, IsTrue, Option, Some, None, option_map, refl, subst, sym, ap, ◌∙◌}
use Rattle.std.specs.Prelude.{if◌then◌else◌}
use Rattle.std.proofs.lemmas.List.Elements.{All-nil, All-cons, All-append}
use Rattle.csub_types.specs.declared.kind.IntKind.{IntKind}
use Rattle.csub_types.specs.declared.kind.IntKind.TheVariants.{Char, Int, Unsigned}
use Rattle.csub_tree.specs.declared.name.Name.{Name as NameAt}
use Rattle.csub_tree.specs.declared.name.TypeName.{TypeName}
use Rattle.csub_tree.specs.declared.name.TypeName.TheVariants as names
use Rattle.csub_tree.specs.Expressions.{Expr}
use Rattle.csub_tree.specs.Declarations.{Param, Declarator}
use Rattle.csub_tree.specs.Statements.{Stmt, Perhaps, Stmts, Line, Declared, Eval, Empty, Block, If, While, Do, For, Switch}
use Rattle.csub_tree.specs.Statements.{Case, Default, Break, Continue, Goto, Label, Return, NoStmt, OneStmt, NoStmts, MoreStmts}
use Rattle.csub_objects.specs.Types.{Name, TypeTree, number_type, array_type, struct_type, loose_type, MemberTree, MemberTrees, IsSized}
use Rattle.csub_semantics.specs.Types.{GlobalTree}
use Rattle.csub_semantics.specs.Syntax.{LocalTree}
use Rattle.csub_validity.specs.Valid.{IsParameter}
use Rattle.csub_scopes.specs.Scopes.{Scope, Tagged, find_tag}
use Rattle.csub_rules.specs.Sizes.{is_sized}
use Rattle.csub_rules.specs.Constants.{constant}
use Rattle.csub_rules.specs.Declarators.{struct_of, number_base, base_type, length_of, array_of, declared_type, if_sized, object_type}
use Rattle.csub_rules.specs.Here.{Here, entering, number_of}
use Rattle.csub_rules.specs.Locals.{past_var}
use Rattle.csub_rules.specs.Params.{param_type}
use Rattle.csub_rules.specs.Past.{past, past_perhaps}
use Rattle.csub_rules.proofs.LawsSizes.{is_sized-Decides}
use Rattle.csub_bodies.proofs.LawsGrows.{grows, grows_perhaps}
use Rattle.csub_rules.specs.Objects.{past_object}
use Rattle.csub_rules.specs.Heads.{past_name, past_param, past_params, sure_type}
use Rattle.csub_resolution.specs.Lines.{vars_locals, locals, locals_perhaps, locals_lines}
use Rattle.csub_resolution.specs.Programs.{name_or_none, params, global_by, globals_by}
use Rattle.program_validity.proofs.Known.{members_of_tag, members_at, IsGood, AreGood, number_good, array_good, loose_good, struct_good}

number_sized : (k : IntKind) → IsSized (number_type k)
number_sized k = record { arrays = tt; cells = omega arith; levels = omega arith }

pub sure_sized : (o : Option TypeTree) → IsSized (sure_type (if_sized o))
sure_sized None = number_sized Int
sure_sized (Some t) = by (is_sized t) (λ h. (is_sized-Decides t).0 h)
  where
    by : (b : Bool) → (IsTrue b → IsSized t) → IsSized (sure_type (if b then Some t else None))
    by true h = h refl
    by false h = number_sized Int

name_keeps : (h : Here) (x : Option NameAt) (t : Option TypeTree) → (past_name h x t).scope.tags ≡ h.scope.tags
name_keeps h None t = refl
name_keeps h (Some x) t = refl

pub params_keep : (ps : List Param) (h : Here) → (past_params h ps).scope.tags ≡ h.scope.tags
params_keep [] h = refl
params_keep (p ∷ ps) h = params_keep ps (past_param h p) ∙ name_keeps h p.name (param_type h.scope p)

module _ (tags : List Tagged) where
  -- a type with which a declaration begins
  record IsBase (t : TypeTree) : Type 0 where
    pub sized : IsSized t
    pub good : IsGood tags t

  abbrev IsBaseOf : Option TypeTree → Type 0
  IsBaseOf o = (t : TypeTree) → o ≡ Some t → IsBase t

  number_based : (k : IntKind) (t : TypeTree) → ◌≡◌ {A = Option TypeTree} (Some (number_type k)) (Some t) → IsBase t
  number_based k t e = let same : number_type k ≡ t = cc in subst (λ u. IsBase u) same (record { sized = number_sized k; good = number_good tags k })

  struct_based : AreGood tags → (tag : Name) (o : Option Tagged) → find_tag tag tags ≡ o → IsBaseOf (struct_of tag o)
  struct_based good tag None f t e = absurd (cc)
  struct_based good tag (Some d) f t e = by d.members refl e
    where
      by : (m : Option MemberTrees) → d.members ≡ m → option_map (struct_type tag) m ≡ Some t → IsBase t
      by None h i = absurd (cc)
      by (Some ms) h i =
          let same : struct_type tag ms ≡ t = cc in
          let found : members_at tags tag ≡ Some ms = ap members_of_tag f ∙ h in
          let s = good tag ms found in
          subst (λ u. IsBase u) same (record { sized = s.sized; good = struct_good tags tag ms found s })

  is_base : AreGood tags → (scope : Scope) → scope.tags ≡ tags → (b : TypeName) → IsBaseOf (base_type scope b)
  is_base good scope s names.Void t e = number_based Int t e
  is_base good scope s names.Char t e = number_based Char t e
  is_base good scope s names.Int t e = number_based Int t e
  is_base good scope s names.Unsigned t e = number_based Unsigned t e
  is_base good scope s (names.Struct tag) t e = struct_based good tag.text (find_tag tag.text scope.tags) (ap (find_tag tag.text) (sym s)) t e

  abbrev pub IsGoodWhere : Option TypeTree → Type 0
  IsGoodWhere o = (t : TypeTree) → o ≡ Some t → IsGood tags t

  pub good_base : AreGood tags → (scope : Scope) → scope.tags ≡ tags → (b : TypeName) → IsGoodWhere (base_type scope b)
  good_base good scope s b t e = (is_base good scope s b t e).good

  arrays_good : (n : Option ℕ) (o : Option TypeTree) → IsGoodWhere o → IsGoodWhere (array_of n o)
  arrays_good None o g t e = absurd (cc)
  arrays_good (Some n) None g t e = absurd (cc)
  arrays_good (Some n) (Some u) g t e = let same : array_type u n ≡ t = cc in subst (λ v. IsGood tags v) same (array_good tags u n (g u refl))

  declared_good : (scope : Scope) (base : Option TypeTree) (dims : List Expr) → IsGoodWhere base → IsGoodWhere (declared_type scope base dims)
  declared_good scope base [] g = g
  declared_good scope base (d ∷ dims) g =
      arrays_good (length_of (constant scope d)) (declared_type scope base dims) (declared_good scope base dims g)

  if_sized_good : (o : Option TypeTree) → IsGoodWhere o → IsGoodWhere (if_sized o)
  if_sized_good None g t e = g t e
  if_sized_good (Some u) g t e = by (is_sized u) e
    where
      by : (b : Bool) → (if b then Some u else None) ≡ Some t → IsGood tags t
      by true h = g t h
      by false h = absurd (cc)

  sure_good : (o : Option TypeTree) → IsGoodWhere o → IsGood tags (sure_type o)
  sure_good None g = number_good tags Int
  sure_good (Some t) g = g t refl

  pub object_good : (scope : Scope) (base : Option TypeTree) (dims : List Expr) → IsGoodWhere base → IsGoodWhere (object_type scope base dims)
  object_good scope base dims g = if_sized_good (declared_type scope base dims) (declared_good scope base dims g)

  sure_object : (scope : Scope) (base : Option TypeTree) (dims : List Expr) → IsGoodWhere base → IsGood tags (sure_type (object_type scope base dims))
  sure_object scope base dims g = sure_good (object_type scope base dims) (object_good scope base dims g)

  -- ---- objects of file scope

  abbrev pub IsGoodGlobal : GlobalTree → Type 0
  IsGoodGlobal g = IsGood tags g.ctype

  pub good_globals : (base : Option TypeTree) → IsGoodWhere base → (scope : Scope) (ds : List Declarator) → All IsGoodGlobal (globals_by scope base ds)
  good_globals base g scope [] = All-nil IsGoodGlobal
  good_globals base g scope (d ∷ ds) =
      All-cons IsGoodGlobal (global_by scope base d) (globals_by (past_object scope base d) base ds) (sure_object scope base d.dims g)
      (good_globals base g (past_object scope base d) ds)

  -- ---- locals

  pub record IsLocal (o : LocalTree) : Type 0 where
    pub sized : IsSized o.ctype
    pub good : IsGood tags o.ctype

  good_vars : (base : Option TypeTree) → IsGoodWhere base → (ds : List Declarator) (h : Here) → All IsLocal (vars_locals h base ds)
  good_vars base g [] h = All-nil IsLocal
  good_vars base g (d ∷ ds) h =
      All-cons IsLocal
      (record { name = d.name.text; number = number_of d.name.text h.before; ctype = sure_type (object_type h.scope base d.dims) })
      (vars_locals (past_var h base d) base ds)
      (record { sized = sure_sized (declared_type h.scope base d.dims); good = sure_object h.scope base d.dims g })
      (good_vars base g ds (past_var h base d))

  module _ (good : AreGood tags) where
    mutual
      good_locals : (s : Stmt) (h : Here) → h.scope.tags ≡ tags → All IsLocal (locals h s)
      good_locals (Line (Declared d) s) h e = good_vars (base_type h.scope d.base) (good_base good h.scope e d.base) d.vars h
      good_locals (Line (Eval x) s) h e = All-nil IsLocal
      good_locals (Line Empty s) h e = All-nil IsLocal
      good_locals (Line (Block ss) s) h e = good_lines ss (entering h) e
      good_locals (Line (If x a b) s) h e =
          All-append IsLocal (locals h a) (locals_perhaps (past h a) b) (good_locals a h e) (good_perhaps b (past h a) ((grows a h).tags ∙ e))
      good_locals (Line (While x a) s) h e = good_locals a h e
      good_locals (Line (Do a x) s) h e = good_locals a h e
      good_locals (Line (For b x f a) s) h e =
          let inside : Here = past_perhaps (entering h) b in
          All-append IsLocal (locals_perhaps (entering h) b) (locals inside a) (good_perhaps b (entering h) e)
          (good_locals a inside ((grows_perhaps b (entering h)).tags ∙ e))
      good_locals (Line (Switch x ss) s) h e = good_lines ss (entering h) e
      good_locals (Line (Case x) s) h e = All-nil IsLocal
      good_locals (Line Default s) h e = All-nil IsLocal
      good_locals (Line Break s) h e = All-nil IsLocal
      good_locals (Line Continue s) h e = All-nil IsLocal
      good_locals (Line (Goto x) s) h e = All-nil IsLocal
      good_locals (Line (Label x a) s) h e = good_locals a h e
      good_locals (Line (Return x) s) h e = All-nil IsLocal

      good_perhaps : (b : Perhaps) (h : Here) → h.scope.tags ≡ tags → All IsLocal (locals_perhaps h b)
      good_perhaps NoStmt h e = All-nil IsLocal
      good_perhaps (OneStmt a) h e = good_locals a h e

      pub good_lines : (ss : Stmts) (h : Here) → h.scope.tags ≡ tags → All IsLocal (locals_lines h ss)
      good_lines NoStmts h e = All-nil IsLocal
      good_lines (MoreStmts a rest) h e =
          All-append IsLocal (locals h a) (locals_lines (past h a) rest) (good_locals a h e) (good_lines rest (past h a) ((grows a h).tags ∙ e))

  -- ---- parameters

  pub record IsParam (p : MemberTree) : Type 0 where
    pub is : IsParameter p.ctype
    pub good : IsGood tags p.ctype

  record Fits (t : TypeTree) : Type 0 where
    is : IsParameter t
    fine : IsGood tags t

  number_fits : (k : IntKind) → Fits (number_type k)
  number_fits k = record { is = tt; fine = number_good tags k }

  plain : (b : TypeName) → Fits (sure_type (number_base b))
  plain names.Void = number_fits Int
  plain names.Char = number_fits Char
  plain names.Int = number_fits Int
  plain names.Unsigned = number_fits Unsigned
  plain (names.Struct tag) = number_fits Int

  loose : (o : Option TypeTree) → IsBaseOf o → Fits (sure_type (option_map loose_type o))
  loose None b = number_fits Int
  loose (Some t) b = let base = b t refl in record { is = base.sized; fine = loose_good tags t base.good }

  fits : AreGood tags → (scope : Scope) → scope.tags ≡ tags → (base : TypeName) (array : Bool)
      → Fits (sure_type (if array then option_map loose_type (base_type scope base) else number_base base))
  fits good scope e base true = loose (base_type scope base) (is_base good scope e base)
  fits good scope e base false = plain base

  pub good_params : AreGood tags → (ps : List Param) (h : Here) → h.scope.tags ≡ tags → All IsParam (params h ps)
  good_params good [] h e = All-nil IsParam
  good_params good (p ∷ ps) h e =
      let f = fits good h.scope e p.base p.array in
      All-cons IsParam (record { name = name_or_none p.name; ctype = sure_type (param_type h.scope p) }) (params (past_param h p) ps)
      (record { is = f.is; good = f.fine }) (good_params good ps (past_param h p) (name_keeps h p.name (param_type h.scope p) ∙ e))
