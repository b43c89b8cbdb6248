-- A unit that is spelled so is read.
use Rattle.std.proofs.Common.{◌≡◌, ℕ, zero, suc, ◌<◌, ◌≤◌, map, List, [], ◌∷◌, ◌++◌, length, Option, Some, None, Ok, true, false, refl, sym, ap, subst, ◌∙◌, arith, append_assoc, length-append}
use Rattle.std.proofs.lemmas.Bool.{le-leb}
use Rattle.csub_text.specs.declared.span.Span.{Span}
use Rattle.csub_lex.specs.declared.token.Key.TheVariants as keys
use Rattle.csub_lex.specs.declared.token.Mark.TheVariants as marks
use Rattle.csub_lex.specs.declared.token.Token.{Token}
use Rattle.csub_tree.specs.declared.name.Name.{Name}
use Rattle.csub_tree.specs.declared.name.TypeName.{TypeName}
use Rattle.csub_tree.specs.declared.name.TypeName.TheVariants as types
use Rattle.csub_tree.specs.Declarations.{Declarator, Declare, Param, Head}
use Rattle.csub_tree.specs.Statements.{Stmts}
use Rattle.csub_tree.specs.Units.{Constant, Item, Struct, Enum, Object, Prototype, Function, Source}
use Rattle.csub_tree.specs.Depth.{most, declarator_depth, declare_depth, param_depth, head_depth, stmts_depth, constant_depth, item_depth, unit_depth}
use Rattle.csub_tree.specs.Tokens.{mark, key, id, last}
use Rattle.csub_tree.specs.Lists.{Each, one_more, Separated, Optional, missing, present, Trailing, no_comma, comma}
use Rattle.csub_tree.specs.SpellsExpressions.{SpellsNumber, conditional}
use Rattle.csub_tree.specs.SpellsDeclarations.{numeric, structure, SpellsVar, SpellsField, SpellsDecl, decl, SpellsName, identifier, SpellsParams, nothing, value, SpellsHead, head}
use Rattle.csub_tree.specs.SpellsStatements.{SpellsLines}
use Rattle.csub_tree.specs.Spells as spells
use Rattle.csub_tree.specs.Spells.{SpellsConstant, counted, valued, SpellsItem, Spells, unit}
use Rattle.csub_expr.specs.Looks.{begins, begins_key, op_at, tail_at, rest, head_span}
use Rattle.csub_expr.specs.Answers.{done, expect, expect_name}
use Rattle.csub_expr.specs.ListDescent.{separated, repeated}
use Rattle.csub_expr.specs.Laws.{Ends}
use Rattle.csub_expr.proofs.LawsExpressions.{complete_conditional, depth_pos}
use Rattle.csub_expr.proofs.LawsTokens.{last_token, last_behind, nonempty_append}
use Rattle.csub_stmt.specs.Openings.{begins_name}
use Rattle.csub_stmt.specs.DeclarationDescent.{from_to, decl_after, field_at}
use Rattle.csub_parse.specs.UnitDescent.{at_end, constant_after, constant_at, enum_behind, enum_at, fields_after, members_at, object_behind, object_after, tagged_at, struct_at, body_at, head_after, function_at, void_at, numbered_after, numbered_at, item_from, item_at, read_item, read_unit}
use Rattle.csub_stmt.proofs.LawsSequences.{each_reads, some_reads, trailing_reads}
use Rattle.csub_stmt.proofs.LawsDeclarations.{field_some, decl_some, span_again, numeric_reads, number_opens, field_opens, row_behind, decl_behind_reads, field_reads, params_reads}
use Rattle.csub_stmt.proofs.LawsStatements.{list_again, lines_complete}
use Rattle.csub_parse.proofs.UnitSound.{item_some}

-- what may follow a constant
abbrev OkayConstant : List Token → Type 0
OkayConstant r = (begins marks.Equal r ≡ false) × Ends conditional r

constant_comma : (a : Span) (r : List Token) → OkayConstant (mark marks.Comma a ∷ r)
unfolding begins op_at tail_at
constant_comma a r = (refl, ((refl, refl), (λ j lt. refl), refl))

constant_brace : (a : Span) (r : List Token) → OkayConstant (mark marks.CloseBrace a ∷ r)
unfolding begins op_at tail_at
constant_brace a r = (refl, ((refl, refl), (λ j lt. refl), refl))

constant_opens : (c : Constant) (s : List Token) → SpellsConstant c s → (r : List Token) → begins marks.CloseBrace (s ++ r) ≡ false
unfolding begins
constant_opens _ _ (counted n) r = refl
constant_opens _ _ (valued n a h) r = refl

abbrev Any : List Token → Type 0
Any r = Unit {0}

numeric_no_int : (n : Name) (r : List Token) → begins_key keys.Int (id n ∷ r) ≡ false
unfolding begins_key
numeric_no_int n r = refl

name_no_brace : (n : Name) (r : List Token) → begins marks.OpenBrace (id n ∷ r) ≡ false
unfolding begins
name_no_brace n r = refl

name_here : (n : Name) (u : List Token) → expect_name (id n ∷ u) ≡ Ok (n, u)
unfolding expect_name rest head_span
name_here n u = refl

module _ (d : ℕ) where
  constant_reads : (c : Constant) (s : List Token) → SpellsConstant c s → constant_depth c ≤ d → (r : List Token) → OkayConstant r → constant_at d (s ++ r) ≡ Ok (c, r)
  unfolding constant_at constant_after expect_name begins rest head_span
  constant_reads _ _ (counted n) fits r okay = rw (begins, okay.0) refl
  constant_reads _ _ (valued {e = e} n a h) fits r okay = rw (le-leb 1 d (omega (arith, fits, depth_pos e)), complete_conditional _ _ h d fits r okay.1) refl

  -- constants, and a comma more
  constants_read : {cs : List Constant} {t u : List Token} → Separated Constant SpellsConstant cs t → most (map constant_depth cs) ≤ d → Trailing u → (a : Span) (r : List Token) → (f : ℕ) → length t < f
      → separated (constant_at d) (begins marks.CloseBrace) f (t ++ (u ++ (mark marks.CloseBrace a ∷ r))) ≡ Ok (cs, mark marks.CloseBrace a ∷ r)
  unfolding begins
  constants_read h fits no_comma a r f lt = some_reads Constant SpellsConstant constant_depth d (constant_at d) OkayConstant constant_reads (begins marks.CloseBrace) constant_opens constant_comma h fits f lt (mark marks.CloseBrace a ∷ r) (constant_brace a r) refl
  constants_read h fits (comma b) a r f lt = trailing_reads Constant SpellsConstant constant_depth d (constant_at d) OkayConstant constant_reads (begins marks.CloseBrace) constant_opens constant_comma h fits f lt b (mark marks.CloseBrace a ∷ r) refl

  enum_behind_reads : (n : Option Name) {cs : List Constant} {t u : List Token} → Separated Constant SpellsConstant cs t → most (map constant_depth cs) ≤ d → Trailing u → (b c e : Span) (r : List Token)
      → enum_behind d n (mark marks.OpenBrace b ∷ (t ++ (u ++ (mark marks.CloseBrace c ∷ mark marks.Semicolon e ∷ r)))) ≡ Ok (Enum n cs, r)
  unfolding enum_behind expect begins rest head_span
  enum_behind_reads n {t = t} {u = u} h fits trail b c e r =
      let q = mark marks.CloseBrace c ∷ mark marks.Semicolon e ∷ r in
      rw (constants_read h fits trail c (mark marks.Semicolon e ∷ r) (suc (length (t ++ (u ++ q)))) (omega (arith, length-append t (u ++ q)))) refl

  enum_reads : {n : Option Name} {cs : List Constant} {s t u : List Token} → Optional Name SpellsName n s → Separated Constant SpellsConstant cs t → most (map constant_depth cs) ≤ d → Trailing u → (b c e : Span) (r : List Token)
      → enum_at d (s ++ (mark marks.OpenBrace b ∷ (t ++ (u ++ (mark marks.CloseBrace c ∷ mark marks.Semicolon e ∷ r))))) ≡ Ok (Enum n cs, r)
  unfolding enum_at begins_name expect_name rest head_span
  enum_reads missing h fits trail b c e r = enum_behind_reads None h fits trail b c e r
  enum_reads (present (identifier n)) h fits trail b c e r = enum_behind_reads (Some n) h fits trail b c e r

  field_okay : (x : Declare) (s : List Token) → SpellsField x s → declare_depth x ≤ d → (r : List Token) → (begins marks.CloseBrace (s ++ r) ≡ false) × Any (s ++ r)
  field_okay x s h fits r = ((field_opens h r).no_brace, tt)

  members_reads : (n : Name) {x : Declare} {xs : List Declare} {s : List Token} → Each Declare SpellsField (x ∷ xs) s → most (map declare_depth (x ∷ xs)) ≤ d → (c e : Span) (r : List Token)
      → members_at d n (s ++ (mark marks.CloseBrace c ∷ mark marks.Semicolon e ∷ r)) ≡ Ok (Struct n (x ∷ xs), r)
  unfolding members_at fields_after expect begins rest head_span
  members_reads n {x = x} (one_more {s = s} {t = t} h hs) fits c e r =
      let q = mark marks.CloseBrace c ∷ mark marks.Semicolon e ∷ r in
      rw (
        append_assoc s t q,
        field_reads d x s h (omega (arith, fits)) (t ++ q) tt,
        each_reads Declare SpellsField declare_depth d (field_at d) Any (field_reads d) (begins marks.CloseBrace) field_okay (λ y w k. field_some k) hs (omega (arith, fits)) (suc (length (t ++ q))) (omega (arith, length-append t q)) q tt refl,
      ) refl

  -- objects: what was read first decides that no other item can stand here
  object_after_reads : (b : TypeName) (start : ℕ) (n : Name) (ts : List Token) (x : Declare) (r : List Token) → decl_after d b start n ts ≡ Ok (x, r) → begins marks.OpenParen ts ≡ false → numbered_after d b start n ts ≡ Ok (Object x, r)
  unfolding numbered_after object_after
  object_after_reads b start n ts x r e none = rw (none, e) refl

  object_numeric : {b : TypeName} {s : List Token} (start : ℕ) → SpellsNumber b s → {vs : List Declarator} {t : List Token} → Separated Declarator SpellsVar vs t → most (map declarator_depth vs) ≤ d → (a : Span) (r : List Token)
      → item_from d start (s ++ (t ++ (mark marks.Semicolon a ∷ r))) ≡ Ok (Object (record { base = b; vars = vs; span = from_to start a.end }), r)
  unfolding item_from numbered_at
  object_numeric {b = b} {s = s} start hb {vs = vs} {t = t} h fits a r =
      let w = row_behind d h fits in
      let q = mark marks.Semicolon a ∷ r in
      let o = number_opens hb (t ++ q) in
      let named : t ++ q ≡ id w.n ∷ (w.t ++ q) = ap (λ (u : List Token). u ++ q) w.parts in
      let no_int : begins_key keys.Int (t ++ q) ≡ false = ap (begins_key keys.Int) named ∙ numeric_no_int w.n (w.t ++ q) in
      rw (o.no_struct, o.no_enum, o.no_void, numeric_reads hb (t ++ q) no_int, named, name_here w.n (w.t ++ q)) (object_after_reads b start w.n (w.t ++ q) (record { base = b; vars = vs; span = from_to start a.end }) r (w.reads b start a r) (w.no_paren a r))

  object_struct : (k : Span) (m : Name) {vs : List Declarator} {t : List Token} → Separated Declarator SpellsVar vs t → most (map declarator_depth vs) ≤ d → (start : ℕ) (a : Span) (r : List Token)
      → item_from d start (key keys.Struct k ∷ id m ∷ (t ++ (mark marks.Semicolon a ∷ r))) ≡ Ok (Object (record { base = types.Struct m; vars = vs; span = from_to start a.end }), r)
  unfolding item_from struct_at tagged_at object_behind expect_name begins_key rest head_span
  object_struct k m {t = t} h fits start a r =
      let w = row_behind d h fits in
      let q = mark marks.Semicolon a ∷ r in
      let no_brace : begins marks.OpenBrace (t ++ q) ≡ false = ap (λ (u : List Token). begins marks.OpenBrace (u ++ q)) w.parts ∙ name_no_brace w.n (w.t ++ q) in
      rw (no_brace, decl_behind_reads d (types.Struct m) start h fits a r) refl

  object_reads : (x : Declare) (s : List Token) → SpellsDecl x s → declare_depth x ≤ d → (r : List Token) → item_at d (s ++ r) ≡ Ok (Object x, r)
  unfolding item_at
  object_reads x _ (decl {b = b} {ds = ds} {s = s} {t = t} a (numeric hb) h) fits r =
      let c = mark marks.Semicolon a in
      let all : List Token = s ++ t ++ c ∷ [] in
      let start = (head_span (all ++ r)).start in
      let shape : all ++ r ≡ s ++ (t ++ (c ∷ r)) = append_assoc (s ++ t) (c ∷ []) r ∙ append_assoc s t (c ∷ r) in
      ap (λ (u : List Token). item_from d start u) shape
      ∙ object_numeric start hb h fits a r
      ∙ ap (λ (sp : Span). done (Object (record { base = b; vars = ds; span = sp })) r) (span_again all r a.end (decl_some (decl a (numeric hb) h)) (sym (last_token (s ++ t) c)))
  object_reads x _ (decl {ds = ds} {t = t} a (structure k m) h) fits r =
      let c = mark marks.Semicolon a in
      let s : List Token = key keys.Struct k ∷ id m ∷ [] in
      let all : List Token = s ++ t ++ c ∷ [] in
      let start = (head_span (all ++ r)).start in
      let shape : all ++ r ≡ s ++ (t ++ (c ∷ r)) = append_assoc (s ++ t) (c ∷ []) r ∙ append_assoc s t (c ∷ r) in
      ap (λ (u : List Token). item_from d start u) shape
      ∙ object_struct k m h fits start a r
      ∙ ap (λ (sp : Span). done (Object (record { base = types.Struct m; vars = ds; span = sp })) r) (span_again all r a.end (decl_some (decl a (structure k m) h)) (sym (last_token (s ++ t) c)))

  -- heads: what stands behind them decides between a prototype and a definition
  function_reads : (b : TypeName) (start : ℕ) (n : Name) {ps : List Param} {t : List Token} → SpellsParams ps t → most (map param_depth ps) ≤ d → (c : Span) (r : List Token)
      → function_at d b start n (t ++ (mark marks.CloseParen c ∷ r)) ≡ head_after d (record { result = b; name = n; params = ps }) start r
  unfolding function_at expect begins rest head_span
  function_reads b start n h fits c r = rw (params_reads d h fits c r) refl

  numbered_function : (b : TypeName) (start : ℕ) (n : Name) (o : Span) (ts : List Token) → numbered_after d b start n (mark marks.OpenParen o ∷ ts) ≡ function_at d b start n ts
  unfolding numbered_after begins rest
  numbered_function b start n o ts = refl

  void_function : (k : Span) (start : ℕ) (n : Name) (o : Span) (ts : List Token) → item_from d start (key keys.Void k ∷ id n ∷ mark marks.OpenParen o ∷ ts) ≡ function_at d types.Void start n ts
  unfolding item_from void_at expect_name expect begins_key begins rest head_span
  void_function k start n o ts = refl

  number_function : {b : TypeName} {s : List Token} → SpellsNumber b s → (start : ℕ) (n : Name) (o : Span) (ts : List Token) → item_from d start (s ++ (id n ∷ mark marks.OpenParen o ∷ ts)) ≡ function_at d b start n ts
  unfolding item_from numbered_at
  number_function {b = b} h start n o ts =
      let q = id n ∷ mark marks.OpenParen o ∷ ts in
      let w = number_opens h q in
      rw (w.no_struct, w.no_enum, w.no_void, numeric_reads h q (numeric_no_int n (mark marks.OpenParen o ∷ ts)), name_here n (mark marks.OpenParen o ∷ ts)) (numbered_function b start n o ts)

  head_reads : {h : Head} {s : List Token} → SpellsHead h s → head_depth h ≤ d → (start : ℕ) (r : List Token) → item_from d start (s ++ r) ≡ head_after d h start r
  head_reads (head {t = t} n a b (nothing k) ps) fits start r =
      let o = mark marks.OpenParen a in
      let c = mark marks.CloseParen b in
      ap (λ (u : List Token). item_from d start (key keys.Void k ∷ id n ∷ o ∷ u)) (append_assoc t (c ∷ []) r) ∙ void_function k start n a (t ++ (c ∷ r)) ∙ function_reads types.Void start n ps fits b r
  head_reads (head {r = y} {s = s} {t = t} n a b (value h) ps) fits start r =
      let o = mark marks.OpenParen a in
      let c = mark marks.CloseParen b in
      let shape : (s ++ id n ∷ o ∷ (t ++ c ∷ [])) ++ r ≡ s ++ (id n ∷ o ∷ (t ++ (c ∷ r))) = append_assoc s (id n ∷ o ∷ (t ++ c ∷ [])) r ∙ ap (λ (u : List Token). s ++ (id n ∷ o ∷ u)) (append_assoc t (c ∷ []) r) in
      ap (λ (u : List Token). item_from d start u) shape ∙ number_function h start n a (t ++ (c ∷ r)) ∙ function_reads y start n ps fits b r

  prototype_end : (h : Head) (start : ℕ) (a : Span) (r : List Token) → head_after d h start (mark marks.Semicolon a ∷ r) ≡ Ok (Prototype h, r)
  unfolding head_after begins rest
  prototype_end h start a r = refl

  body_reads : (h : Head) (start : ℕ) {xs : Stmts} {t : List Token} → SpellsLines xs t → stmts_depth xs ≤ d → (a b : Span) (r : List Token) → head_after d h start (mark marks.OpenBrace a ∷ (t ++ (mark marks.CloseBrace b ∷ r))) ≡ Ok (Function h xs (from_to start b.end), r)
  unfolding head_after body_at expect begins rest head_span
  body_reads h start {xs = xs} {t = t} ls fits a b r =
      let c = mark marks.CloseBrace b in
      rw (lines_complete ls d fits (c ∷ r) refl, list_again xs) refl

  item_at_reads : {x : Item} {s : List Token} → SpellsItem x s → item_depth x ≤ suc d → (r : List Token) → item_at d (s ++ r) ≡ Ok (x, r)
  unfolding item_at item_from struct_at tagged_at expect_name begins_key begins rest head_span
  item_at_reads (spells.struct {d = x} {ds = xs} {s = s} n a b c e h) fits r =
      rw (append_assoc s (mark marks.CloseBrace c ∷ mark marks.Semicolon e ∷ []) r, members_reads n h (omega (arith, fits)) c e r) refl
  item_at_reads (spells.enum {s = s} {t = t} {u = u} a b c e hn hs trail) fits r =
      let l = mark marks.OpenBrace b in
      let q = mark marks.CloseBrace c ∷ mark marks.Semicolon e ∷ [] in
      let shape : (s ++ l ∷ (t ++ u ++ q)) ++ r ≡ s ++ (l ∷ (t ++ (u ++ (mark marks.CloseBrace c ∷ mark marks.Semicolon e ∷ r)))) = append_assoc s (l ∷ (t ++ u ++ q)) r ∙ ap (λ (v : List Token). s ++ (l ∷ v)) (append_assoc (t ++ u) q r ∙ append_assoc t u (mark marks.CloseBrace c ∷ mark marks.Semicolon e ∷ r)) in
      rw (shape, enum_reads hn hs (omega (arith, fits)) trail b c e r) refl
  item_at_reads (spells.object {d = x} {s = s} h) fits r = object_reads x s h (omega (arith, fits)) r
  item_at_reads (spells.prototype {h = h} {s = s} a k) fits r =
      let m = mark marks.Semicolon a in
      let start = (head_span ((s ++ m ∷ []) ++ r)).start in
      ap (λ (u : List Token). item_from d start u) (append_assoc s (m ∷ []) r) ∙ head_reads k (omega (arith, fits)) start (m ∷ r) ∙ prototype_end h start a r
  item_at_reads (spells.function {h = h} {ss = xs} {s = s} {t = t} a b k ls) fits r =
      let o = mark marks.OpenBrace a in
      let c = mark marks.CloseBrace b in
      let all : List Token = s ++ o ∷ (t ++ c ∷ []) in
      let start = (head_span (all ++ r)).start in
      let shape : all ++ r ≡ s ++ (o ∷ (t ++ (c ∷ r))) = append_assoc s (o ∷ (t ++ c ∷ [])) r ∙ ap (λ (u : List Token). s ++ (o ∷ u)) (append_assoc t (c ∷ []) r) in
      let ends : b.end ≡ last all = sym (last_behind s o (t ++ c ∷ []) (nonempty_append t c []) ∙ last_token t c) in
      ap (λ (u : List Token). item_from d start u) shape
      ∙ head_reads k (omega (arith, fits)) start (o ∷ (t ++ (c ∷ r)))
      ∙ body_reads h start ls (omega (arith, fits)) a b r
      ∙ ap (λ (sp : Span). done (Function h xs sp) r) (span_again all r b.end (nonempty_append s o (t ++ c ∷ [])) ends)

item_deep : (x : Item) → 0 < item_depth x
item_deep (Struct n ds) = omega arith
item_deep (Enum n cs) = omega arith
item_deep (Object x) = omega arith
item_deep (Prototype h) = omega arith
item_deep (Function h xs sp) = omega arith

pub item_reads : (d : ℕ) (x : Item) (s : List Token) → SpellsItem x s → item_depth x ≤ d → (r : List Token) → Any r → read_item d (s ++ r) ≡ Ok (x, r)
unfolding read_item
item_reads zero x s h fits r any = absurd (omega (arith, fits, item_deep x))
item_reads (suc d) x s h fits r any = item_at_reads d h fits r

some_at_end : (s r : List Token) → 0 < length s → at_end (s ++ r) ≡ false
unfolding at_end
some_at_end [] r some = elim some [ ]
some_at_end (t ∷ s) r some = refl

nothing_at_end : at_end [] ≡ true
unfolding at_end
nothing_at_end = refl

append_nothing : (s : List Token) → s ++ [] ≡ s
append_nothing [] = refl
append_nothing (t ∷ s) = ap (λ (u : List Token). t ∷ u) (append_nothing s)

pub unit_reads : (d : ℕ) {x : Source} {s : List Token} → Spells x s → unit_depth x ≤ d → read_unit d s ≡ Ok (x, [])
unfolding read_unit
unit_reads zero (unit h) fits = absurd (omega (arith, fits))
unit_reads (suc d) {s = s} (unit {is = is} h) fits =
    let whole : repeated (read_item d) at_end (suc (length s)) s ≡ Ok (is, []) = subst (λ (u : List Token). repeated (read_item d) at_end (suc (length s)) u ≡ Ok (is, [])) (append_nothing s)
    (each_reads Item SpellsItem item_depth d (read_item d) Any (item_reads d) at_end (λ x t k fits_x r. (some_at_end t r (item_some k), tt)) (λ x t k. item_some k) h (omega (arith, fits)) (suc (length s)) (omega arith) [] tt nothing_at_end) in
    rw whole refl
