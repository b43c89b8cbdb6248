-- A unit that is read is spelled so, within the depth.
use Rattle.std.proofs.Common.{◌≡◌, ℕ, zero, suc, ◌<◌, ◌≤◌, map, List, [], ◌∷◌, ◌++◌, length, Option, Some, None, Ok, true, cond, refl, sym, ap, subst, ◌∙◌, arith, append_assoc, inl, inr}
use Rattle.std.specs.Prelude.{nat_le, ◌&&◌}
use Rattle.csub_text.specs.declared.span.Span.{Span}
use Rattle.csub_lex.specs.declared.token.Key.TheVariants as keys
use Rattle.csub_lex.specs.declared.token.Mark.TheVariants as marks
use Rattle.csub_lex.specs.declared.token.Token.{Token}
use Rattle.csub_tree.specs.declared.name.Name.{Name}
use Rattle.csub_tree.specs.declared.name.TypeName.{TypeName}
use Rattle.csub_tree.specs.declared.name.TypeName.TheVariants as types
use Rattle.csub_tree.specs.Declarations.{Declare, Head}
use Rattle.csub_tree.specs.Statements.{stmts_of}
use Rattle.csub_tree.specs.Units.{Constant, Item, Struct, Enum, Object, Prototype, Function, Source}
use Rattle.csub_tree.specs.Depth.{most, declare_depth, head_depth, constant_depth, item_depth, unit_depth}
use Rattle.csub_tree.specs.Tokens.{mark, key, id, first, last, runs}
use Rattle.csub_tree.specs.Lists.{Each, one_more, Optional, missing, present}
use Rattle.csub_tree.specs.SpellsExpressions.{SpellsNumber, conditional}
use Rattle.csub_tree.specs.SpellsDeclarations.{numeric, structure, SpellsField, SpellsDecl, SpellsName, identifier, SpellsResult, nothing, value, SpellsHead, head}
use Rattle.csub_tree.specs.Spells as spells
use Rattle.csub_tree.specs.Spells.{SpellsConstant, counted, valued, SpellsItem, Spells, unit}
use Rattle.csub_expr.specs.Looks.{begins, begins_key, rest, head_span}
use Rattle.csub_expr.specs.Answers.{Answer, ◌>>=◌, done, expect, expect_name}
use Rattle.csub_expr.specs.ListDescent.{separated, repeated}
use Rattle.csub_expr.specs.ExprDescent.{read}
use Rattle.csub_expr.proofs.LawsAnswers.{bind_ok, ok_value, ok_rest, chosen, and_true}
use Rattle.csub_expr.proofs.LawsTokens.{begins_is, begins_key_is, expect_is, expect_name_is, first_append, last_token, nonempty_append}
use Rattle.csub_expr.proofs.LawsExpressions as expressions
use Rattle.csub_stmt.specs.Openings.{begins_name}
use Rattle.csub_stmt.specs.DeclarationDescent.{from_to, numeric_at, decl_after, decl_behind, field_at, params_at}
use Rattle.csub_stmt.specs.StatementDescent.{read_lines}
use Rattle.csub_parse.specs.UnitDescent.{at_end, constant_after, constant_at, enum_behind, enum_at, fields_after, members_at, object_behind, object_after, tagged_at, struct_at, body_at, head_after, function_at, void_at, numbered_after, numbered_at, item_from, item_at, read_item, read_unit}
use Rattle.csub_stmt.proofs.LawsTakes.{Took, Sound, Shorter, took_done, took_at, took_as, took_shorter, cut_two, cut_at}
use Rattle.csub_stmt.proofs.LawsSequences.{repeated_sound, some_sound}
use Rattle.csub_stmt.proofs.LawsDeclarations.{numeric_sound, starts_at, base_some, decl_some, span_from, decl_after_sound, decl_behind_sound, field_sound, params_sound}
use Rattle.csub_stmt.proofs.LawsStatements.{lines_sound}

pub constant_some : {c : Constant} {s : List Token} → SpellsConstant c s → 0 < length s
constant_some (counted n) = omega arith
constant_some (valued n a h) = omega arith

result_some : {n : TypeName} {s : List Token} → SpellsResult n s → 0 < length s
result_some (nothing a) = omega arith
result_some (value h) = base_some (numeric h)

pub head_some : {h : Head} {s : List Token} → SpellsHead h s → 0 < length s
head_some (head {s = s} {t = t} n a b h ps) = nonempty_append s (id n) (mark marks.OpenParen a ∷ (t ++ mark marks.CloseParen b ∷ []))

pub item_some : {x : Item} {s : List Token} → SpellsItem x s → 0 < length s
item_some (spells.struct n a b c e h) = omega arith
item_some (spells.enum a b c d n cs u) = omega arith
item_some (spells.object h) = decl_some h
item_some (spells.prototype {s = s} a h) = nonempty_append s (mark marks.Semicolon a) []
item_some (spells.function {s = s} {t = t} a b h ls) = nonempty_append s (mark marks.OpenBrace a) (t ++ mark marks.CloseBrace b ∷ [])

-- what is read of the tokens ts
abbrev TookItem : ℕ → List Token → Item → List Token → Type 0
TookItem d = Took Item SpellsItem item_depth (suc d)

-- a head that was read, and where it begins
record TookHead (d : ℕ) (h : Head) (start : ℕ) (ts us : List Token) : Type 0 where
  s : List Token
  parts : ts ≡ s ++ us
  spelled : SpellsHead h s
  fits : head_depth h ≤ d
  starts : start ≡ first s

module _ (d : ℕ) where
  constant_after_sound : (n : Name) (ts : List Token) (c : Constant) (r : List Token) → constant_after d n ts ≡ Ok (c, r) → Took Constant SpellsConstant constant_depth d (id n ∷ ts) c r
  unfolding constant_after
  constant_after_sound n ts c r h = elim (chosen (begins marks.Equal ts && nat_le 1 d) (read d conditional (rest ts) >>= λ e. done (record { name = n; value = Some e.0 }) e.1) (done (record { name = n; value = None }) ts) (Ok (c, r)) h) [
    | inl p ↦
        let b = and_true (begins marks.Equal ts) (nat_le 1 d) p.0 in
        let i = bind_ok (read d conditional (rest ts)) (λ e. done (record { name = n; value = Some e.0 }) e.1) (c, r) p.1 in
        let t = expressions.sound d conditional (rest ts) i.0.0 i.0.1 i.1 in
        let m = mark marks.Equal (head_span ts) in
        took_done Constant SpellsConstant constant_depth d (id n ∷ ts) c (record { name = n; value = Some i.0.0 }) r i.0.1
        (record { s = id n ∷ m ∷ t.s; parts = ap (λ (u : List Token). id n ∷ u) (begins_is marks.Equal ts b.0 ∙ ap (λ (u : List Token). m ∷ u) t.parts); spelled = valued n (head_span ts) t.spelled; fits = t.fits }) i.2
    | inr p ↦ took_done Constant SpellsConstant constant_depth d (id n ∷ ts) c (record { name = n; value = None }) r ts (record { s = id n ∷ []; parts = refl; spelled = counted n; fits = omega arith }) p.1
  ]

  pub constant_sound : Sound Constant SpellsConstant constant_depth d (constant_at d)
  unfolding constant_at
  constant_sound ts c r h =
      let n = bind_ok (expect_name ts) (λ n. constant_after d n.0 n.1) (c, r) h in
      took_at Constant SpellsConstant constant_depth d ts (id n.0.0 ∷ n.0.1) c r (expect_name_is ts n.0.0 n.0.1 n.1) (constant_after_sound n.0.0 n.0.1 c r n.2)

  pub constant_shorter : Shorter Constant (constant_at d)
  constant_shorter = took_shorter Constant SpellsConstant constant_depth d (constant_at d) constant_sound (λ x s h. constant_some h)

  enum_behind_sound : (a : Span) (n : Option Name) (s ts us : List Token) → Optional Name SpellsName n s → ts ≡ s ++ us → (x : Item) (r : List Token) → enum_behind d n us ≡ Ok (x, r) → TookItem d (key keys.Enum a ∷ ts) x r
  unfolding enum_behind
  enum_behind_sound a n s ts us hn parts x r h =
      let last_part : List Constant → Span × List Token → Answer Item = λ cs c. expect marks.Semicolon c.1 >>= λ e. done (Enum n cs) e.1 in
      let o = bind_ok (expect marks.OpenBrace us) (λ o. separated (constant_at d) (begins marks.CloseBrace) (suc (length o.1)) o.1 >>= λ cs. expect marks.CloseBrace cs.1 >>= last_part cs.0) (x, r) h in
      let i = bind_ok (separated (constant_at d) (begins marks.CloseBrace) (suc (length o.0.1)) o.0.1) (λ cs. expect marks.CloseBrace cs.1 >>= last_part cs.0) (x, r) o.2 in
      let c = bind_ok (expect marks.CloseBrace i.0.1) (last_part i.0.0) (x, r) i.2 in
      let e = bind_ok (expect marks.Semicolon c.0.1) (λ e. done (Enum n i.0.0) e.1) (x, r) c.2 in
      let t = some_sound Constant SpellsConstant constant_depth d (constant_at d) (begins marks.CloseBrace) constant_sound (suc (length o.0.1)) o.0.1 i.0.0 i.0.1 i.1 in
      let k = key keys.Enum a in
      let l = mark marks.OpenBrace o.0.0 in
      let m = mark marks.CloseBrace c.0.0 in
      let w = mark marks.Semicolon e.0.0 in
      let body : i.0.1 ≡ (m ∷ w ∷ []) ++ e.0.1 = expect_is marks.CloseBrace i.0.1 c.0.0 c.0.1 c.1 ∙ ap (λ (u : List Token). m ∷ u) (expect_is marks.Semicolon c.0.1 e.0.0 e.0.1 e.1) in
      took_done Item SpellsItem item_depth (suc d) (k ∷ ts) x (Enum n i.0.0) r e.0.1 (record {
        s = k ∷ (s ++ l ∷ (t.s ++ t.u ++ m ∷ w ∷ []));
        parts = ap (λ (u : List Token). k ∷ u) (cut_at s (t.s ++ t.u ++ m ∷ w ∷ []) l ts o.0.1 e.0.1 (parts ∙ ap (λ (u : List Token). s ++ u) (expect_is marks.OpenBrace us o.0.0 o.0.1 o.1))
            (cut_two (t.s ++ t.u) (m ∷ w ∷ []) o.0.1 i.0.1 e.0.1 (t.parts ∙ sym (append_assoc t.s t.u i.0.1)) body));
        spelled = spells.enum a o.0.0 c.0.0 e.0.0 hn t.spelled t.trail;
        fits = omega (arith, t.fits);
      }) e.2

  enum_sound : (a : Span) (ts : List Token) (x : Item) (r : List Token) → enum_at d ts ≡ Ok (x, r) → TookItem d (key keys.Enum a ∷ ts) x r
  unfolding enum_at
  enum_sound a ts x r h = elim (chosen (begins_name ts) (expect_name ts >>= λ n. enum_behind d (Some n.0) n.1) (enum_behind d None ts) (Ok (x, r)) h) [
    | inl p ↦
        let n = bind_ok (expect_name ts) (λ n. enum_behind d (Some n.0) n.1) (x, r) p.1 in
        enum_behind_sound a (Some n.0.0) (id n.0.0 ∷ []) ts n.0.1 (present (identifier n.0.0)) (expect_name_is ts n.0.0 n.0.1 n.1) x r n.2
    | inr p ↦ enum_behind_sound a None [] ts ts missing refl x r p.1
  ]

  record TookFields (ts : List Token) (xs : List Declare) (r : List Token) : Type 0 where
    x : Declare
    more : List Declare
    all : x ∷ more ≡ xs
    s : List Token
    parts : ts ≡ s ++ r
    spelled : Each Declare SpellsField (x ∷ more) s
    fits : most (map declare_depth (x ∷ more)) ≤ d

  fields_sound : (ts : List Token) (x : Declare) (us : List Token) → Took Declare SpellsField declare_depth d ts x us → (xs : List Declare) (r : List Token) → fields_after d x us ≡ Ok (xs, r) → TookFields ts xs r
  unfolding fields_after
  fields_sound ts x us one xs r h =
      let i = bind_ok (repeated (field_at d) (begins marks.CloseBrace) (suc (length us)) us) (λ ys. done (x ∷ ys.0) ys.1) (xs, r) h in
      let t = repeated_sound Declare SpellsField declare_depth d (field_at d) (begins marks.CloseBrace) (field_sound d) (suc (length us)) us i.0.0 i.0.1 i.1 in
      record {
        x = x;
        more = i.0.0;
        all = ok_value (x ∷ i.0.0) xs i.0.1 r i.2;
        s = one.s ++ t.s;
        parts = cut_two one.s t.s ts us r one.parts (t.parts ∙ ap (λ (u : List Token). t.s ++ u) (ok_rest (x ∷ i.0.0) xs i.0.1 r i.2));
        spelled = one_more one.spelled t.spelled;
        fits = omega (arith, one.fits, t.fits);
      }

  members_sound : (a b : Span) (n : Name) (ts : List Token) (x : Item) (r : List Token) → members_at d n ts ≡ Ok (x, r) → TookItem d (key keys.Struct a ∷ id n ∷ mark marks.OpenBrace b ∷ ts) x r
  unfolding members_at
  members_sound a b n ts x r h =
      let last_part : List Declare → Span × List Token → Answer Item = λ xs c. expect marks.Semicolon c.1 >>= λ e. done (Struct n xs) e.1 in
      let y = bind_ok (field_at d ts) (λ y. fields_after d y.0 y.1 >>= λ xs. expect marks.CloseBrace xs.1 >>= last_part xs.0) (x, r) h in
      let i = bind_ok (fields_after d y.0.0 y.0.1) (λ xs. expect marks.CloseBrace xs.1 >>= last_part xs.0) (x, r) y.2 in
      let c = bind_ok (expect marks.CloseBrace i.0.1) (last_part i.0.0) (x, r) i.2 in
      let e = bind_ok (expect marks.Semicolon c.0.1) (λ e. done (Struct n i.0.0) e.1) (x, r) c.2 in
      let t = fields_sound ts y.0.0 y.0.1 (field_sound d ts y.0.0 y.0.1 y.1) i.0.0 i.0.1 i.1 in
      let k = key keys.Struct a in
      let l = mark marks.OpenBrace b in
      let m = mark marks.CloseBrace c.0.0 in
      let w = mark marks.Semicolon e.0.0 in
      let body : i.0.1 ≡ m ∷ (w ∷ e.0.1) = expect_is marks.CloseBrace i.0.1 c.0.0 c.0.1 c.1 ∙ ap (λ (u : List Token). m ∷ u) (expect_is marks.Semicolon c.0.1 e.0.0 e.0.1 e.1) in
      took_done Item SpellsItem item_depth (suc d) (k ∷ id n ∷ l ∷ ts) x (Struct n i.0.0) r e.0.1
      (took_as Item SpellsItem item_depth (suc d) (k ∷ id n ∷ l ∷ ts) (Struct n (t.x ∷ t.more)) (Struct n i.0.0) e.0.1 (ap (λ (xs : List Declare). Struct n xs) (sym t.all))
      (record {
        s = k ∷ id n ∷ l ∷ (t.s ++ m ∷ w ∷ []);
        parts = ap (λ (u : List Token). k ∷ id n ∷ l ∷ u) (cut_at t.s (w ∷ []) m ts (w ∷ e.0.1) e.0.1 (t.parts ∙ ap (λ (u : List Token). t.s ++ u) body) refl);
        spelled = spells.struct n a b c.0.0 e.0.0 t.spelled;
        fits = omega (arith, t.fits);
      })) e.2

  object_took : (ts : List Token) (p : Answer Declare) → ((y : Declare) (q : List Token) → p ≡ Ok (y, q) → Took Declare SpellsDecl declare_depth d ts y q) → (x : Item) (r : List Token) → (p >>= λ y. done (Object y.0) y.1) ≡ Ok (x, r) → TookItem d ts x r
  object_took ts p sound x r h =
      let y = bind_ok p (λ y. done (Object y.0) y.1) (x, r) h in
      let t = sound y.0.0 y.0.1 y.1 in
      took_done Item SpellsItem item_depth (suc d) ts x (Object y.0.0) r y.0.1 (record { s = t.s; parts = t.parts; spelled = spells.object t.spelled; fits = omega (arith, t.fits) }) y.2

  tagged_sound : (a : Span) (n : Name) (us : List Token) (x : Item) (r : List Token) → tagged_at d a.start n us ≡ Ok (x, r) → TookItem d (key keys.Struct a ∷ id n ∷ us) x r
  unfolding tagged_at object_behind
  tagged_sound a n us x r h = elim (chosen (begins marks.OpenBrace us) (members_at d n (rest us)) (decl_behind d (types.Struct n) a.start us >>= λ y. done (Object y.0) y.1) (Ok (x, r)) h) [
    | inl p ↦ took_at Item SpellsItem item_depth (suc d) (key keys.Struct a ∷ id n ∷ us) (key keys.Struct a ∷ id n ∷ mark marks.OpenBrace (head_span us) ∷ rest us) x r (ap (λ (u : List Token). key keys.Struct a ∷ id n ∷ u) (begins_is marks.OpenBrace us p.0)) (members_sound a (head_span us) n (rest us) x r p.1)
    | inr p ↦ object_took (key keys.Struct a ∷ id n ∷ us) (decl_behind d (types.Struct n) a.start us) (λ y q e. decl_behind_sound d (types.Struct n) (key keys.Struct a ∷ id n ∷ []) a.start (key keys.Struct a ∷ id n ∷ us) us (structure a n) refl refl y q e) x r p.1
  ]

  struct_sound : (a : Span) (ts : List Token) (x : Item) (r : List Token) → struct_at d a.start ts ≡ Ok (x, r) → TookItem d (key keys.Struct a ∷ ts) x r
  unfolding struct_at
  struct_sound a ts x r h =
      let n = bind_ok (expect_name ts) (λ n. tagged_at d a.start n.0 n.1) (x, r) h in
      took_at Item SpellsItem item_depth (suc d) (key keys.Struct a ∷ ts) (key keys.Struct a ∷ id n.0.0 ∷ n.0.1) x r (ap (λ (u : List Token). key keys.Struct a ∷ u) (expect_name_is ts n.0.0 n.0.1 n.1)) (tagged_sound a n.0.0 n.0.1 x r n.2)

  body_sound : (h : Head) (start : ℕ) (a : Span) (ts us : List Token) → TookHead d h start ts (mark marks.OpenBrace a ∷ us) → (x : Item) (r : List Token) → body_at d h start us ≡ Ok (x, r) → TookItem d ts x r
  unfolding body_at
  body_sound h start a ts us f x r e =
      let i = bind_ok (read_lines d us) (λ all. expect marks.CloseBrace all.1 >>= λ c. done (Function h (stmts_of all.0) (from_to start c.0.end)) c.1) (x, r) e in
      let c = bind_ok (expect marks.CloseBrace i.0.1) (λ c. done (Function h (stmts_of i.0.0) (from_to start c.0.end)) c.1) (x, r) i.2 in
      let t = lines_sound d us i.0.0 i.0.1 i.1 in
      let o = mark marks.OpenBrace a in
      let m = mark marks.CloseBrace c.0.0 in
      let whole : List Token = f.s ++ o ∷ (t.s ++ m ∷ []) in
      let ends : c.0.0.end ≡ last whole = sym (ap last (sym (append_assoc f.s (o ∷ t.s) (m ∷ []))) ∙ last_token (f.s ++ o ∷ t.s) m) in
      took_done Item SpellsItem item_depth (suc d) ts x (Function h (stmts_of i.0.0) (from_to start c.0.0.end)) r c.0.1
      (took_as Item SpellsItem item_depth (suc d) ts (Function h (stmts_of i.0.0) (runs whole)) (Function h (stmts_of i.0.0) (from_to start c.0.0.end)) c.0.1
      (ap (λ (sp : Span). Function h (stmts_of i.0.0) sp) (span_from start c.0.0.end whole (f.starts ∙ sym (first_append f.s (o ∷ (t.s ++ m ∷ [])) (head_some f.spelled))) ends))
      (record {
        s = whole;
        parts = cut_at f.s (t.s ++ m ∷ []) o ts us c.0.1 f.parts (cut_at t.s [] m us c.0.1 c.0.1 (t.parts ∙ ap (λ (u : List Token). t.s ++ u) (expect_is marks.CloseBrace i.0.1 c.0.0 c.0.1 c.1)) refl);
        spelled = spells.function a c.0.0 f.spelled t.spelled;
        fits = omega (arith, f.fits, t.fits);
      })) c.2

  head_after_sound : (h : Head) (start : ℕ) (ts us : List Token) → TookHead d h start ts us → (x : Item) (r : List Token) → head_after d h start us ≡ Ok (x, r) → TookItem d ts x r
  unfolding head_after
  head_after_sound h start ts us f x r e = elim (chosen (begins marks.Semicolon us) (done (Prototype h) (rest us)) (expect marks.OpenBrace us >>= λ o. body_at d h start o.1) (Ok (x, r)) e) [
    | inl p ↦
        let m = mark marks.Semicolon (head_span us) in
        took_done Item SpellsItem item_depth (suc d) ts x (Prototype h) r (rest us) (record {
          s = f.s ++ m ∷ [];
          parts = cut_at f.s [] m ts (rest us) (rest us) (f.parts ∙ ap (λ (u : List Token). f.s ++ u) (begins_is marks.Semicolon us p.0)) refl;
          spelled = spells.prototype (head_span us) f.spelled;
          fits = omega (arith, f.fits);
        }) p.1
    | inr p ↦
        let o = bind_ok (expect marks.OpenBrace us) (λ o. body_at d h start o.1) (x, r) p.1 in
        let f' = subst (λ (u : List Token). TookHead d h start ts u) (expect_is marks.OpenBrace us o.0.0 o.0.1 o.1) f in
        body_sound h start o.0.0 ts o.0.1 f' x r o.2
  ]

  function_sound : (b : TypeName) (bs : List Token) (start : ℕ) (n : Name) (a : Span) (ts us : List Token) → SpellsResult b bs → start ≡ first bs → ts ≡ bs ++ id n ∷ (mark marks.OpenParen a ∷ us) → (x : Item) (r : List Token) → function_at d b start n us ≡ Ok (x, r) → TookItem d ts x r
  unfolding function_at
  function_sound b bs start n a ts us hb at parts x r e =
      let i = bind_ok (params_at d us) (λ ps. expect marks.CloseParen ps.1 >>= λ c. head_after d (record { result = b; name = n; params = ps.0 }) start c.1) (x, r) e in
      let c = bind_ok (expect marks.CloseParen i.0.1) (λ c. head_after d (record { result = b; name = n; params = i.0.0 }) start c.1) (x, r) i.2 in
      let t = params_sound d us i.0.0 i.0.1 i.1 in
      let o = mark marks.OpenParen a in
      let m = mark marks.CloseParen c.0.0 in
      head_after_sound (record { result = b; name = n; params = i.0.0 }) start ts c.0.1 (record {
        s = bs ++ id n ∷ o ∷ (t.s ++ m ∷ []);
        parts = cut_at bs (o ∷ (t.s ++ m ∷ [])) (id n) ts (o ∷ us) c.0.1 parts (ap (λ (u : List Token). o ∷ u) (cut_at t.s [] m us c.0.1 c.0.1 (t.parts ∙ ap (λ (u : List Token). t.s ++ u) (expect_is marks.CloseParen i.0.1 c.0.0 c.0.1 c.1)) refl));
        spelled = head n a c.0.0 hb t.spelled;
        fits = t.fits;
        starts = at ∙ sym (first_append bs (id n ∷ o ∷ (t.s ++ m ∷ [])) (result_some hb));
      }) x r c.2

  void_sound : (a : Span) (ts : List Token) (x : Item) (r : List Token) → void_at d a.start ts ≡ Ok (x, r) → TookItem d (key keys.Void a ∷ ts) x r
  unfolding void_at
  void_sound a ts x r h =
      let n = bind_ok (expect_name ts) (λ n. expect marks.OpenParen n.1 >>= λ o. function_at d types.Void a.start n.0 o.1) (x, r) h in
      let o = bind_ok (expect marks.OpenParen n.0.1) (λ o. function_at d types.Void a.start n.0.0 o.1) (x, r) n.2 in
      function_sound types.Void (key keys.Void a ∷ []) a.start n.0.0 o.0.0 (key keys.Void a ∷ ts) o.0.1 (nothing a) refl
      (ap (λ (u : List Token). key keys.Void a ∷ u) (expect_name_is ts n.0.0 n.0.1 n.1 ∙ ap (λ (u : List Token). id n.0.0 ∷ u) (expect_is marks.OpenParen n.0.1 o.0.0 o.0.1 o.1))) x r o.2

  numbered_after_sound : (b : TypeName) (bs : List Token) (start : ℕ) (n : Name) (ts us : List Token) → SpellsNumber b bs → start ≡ first bs → ts ≡ bs ++ id n ∷ us → (x : Item) (r : List Token) → numbered_after d b start n us ≡ Ok (x, r) → TookItem d ts x r
  unfolding numbered_after object_after
  numbered_after_sound b bs start n ts us hb at parts x r h = elim (chosen (begins marks.OpenParen us) (function_at d b start n (rest us)) (decl_after d b start n us >>= λ y. done (Object y.0) y.1) (Ok (x, r)) h) [
    | inl p ↦ function_sound b bs start n (head_span us) ts (rest us) (value hb) at (parts ∙ ap (λ (u : List Token). bs ++ id n ∷ u) (begins_is marks.OpenParen us p.0)) x r p.1
    | inr p ↦ object_took ts (decl_after d b start n us) (λ y q e. decl_after_sound d b bs start n ts us (numeric hb) at parts y q e) x r p.1
  ]

  numbered_sound : (ts : List Token) (x : Item) (r : List Token) → numbered_at d (head_span ts).start ts ≡ Ok (x, r) → TookItem d ts x r
  unfolding numbered_at
  numbered_sound ts x r h =
      let start = (head_span ts).start in
      let b = bind_ok (numeric_at ts) (λ b. expect_name b.1 >>= λ n. numbered_after d b.0.0 start n.0 n.1) (x, r) h in
      let n = bind_ok (expect_name b.0.1) (λ n. numbered_after d b.0.0.0 start n.0 n.1) (x, r) b.2 in
      let t = numeric_sound ts b.0.0 b.0.1 b.1 in
      numbered_after_sound b.0.0.0 t.s start n.0.0 ts n.0.1 t.spelled.0 (starts_at t.s ts b.0.1 t.parts (base_some (numeric t.spelled.0))) (t.parts ∙ ap (λ (u : List Token). t.s ++ u) (expect_name_is b.0.1 n.0.0 n.0.1 n.1)) x r n.2

  item_at_sound : Sound Item SpellsItem item_depth (suc d) (item_at d)
  unfolding item_at item_from
  item_at_sound ts x r h = elim (chosen (begins_key keys.Struct ts) (struct_at d (head_span ts).start (rest ts)) (cond (begins_key keys.Enum ts) (enum_at d (rest ts)) (cond (begins_key keys.Void ts) (void_at d (head_span ts).start (rest ts)) (numbered_at d (head_span ts).start ts))) (Ok (x, r)) h) [
    | inl p ↦ took_at Item SpellsItem item_depth (suc d) ts (key keys.Struct (head_span ts) ∷ rest ts) x r (begins_key_is keys.Struct ts p.0) (struct_sound (head_span ts) (rest ts) x r p.1)
    | inr p ↦ elim (chosen (begins_key keys.Enum ts) (enum_at d (rest ts)) (cond (begins_key keys.Void ts) (void_at d (head_span ts).start (rest ts)) (numbered_at d (head_span ts).start ts)) (Ok (x, r)) p.1) [
      | inl q ↦ took_at Item SpellsItem item_depth (suc d) ts (key keys.Enum (head_span ts) ∷ rest ts) x r (begins_key_is keys.Enum ts q.0) (enum_sound (head_span ts) (rest ts) x r q.1)
      | inr q ↦ elim (chosen (begins_key keys.Void ts) (void_at d (head_span ts).start (rest ts)) (numbered_at d (head_span ts).start ts) (Ok (x, r)) q.1) [
        | inl w ↦ took_at Item SpellsItem item_depth (suc d) ts (key keys.Void (head_span ts) ∷ rest ts) x r (begins_key_is keys.Void ts w.0) (void_sound (head_span ts) (rest ts) x r w.1)
        | inr w ↦ numbered_sound ts x r w.1
      ]
    ]
  ]

pub item_sound : (d : ℕ) → Sound Item SpellsItem item_depth d (read_item d)
unfolding read_item
item_sound zero ts x r h = absurd cc
item_sound (suc d) ts x r h = item_at_sound d ts x r h

pub item_shorter : (d : ℕ) → Shorter Item (read_item d)
item_shorter d = took_shorter Item SpellsItem item_depth d (read_item d) (item_sound d) (λ x s h. item_some h)

-- a whole unit
pub record TookUnit (d : ℕ) (ts : List Token) (x : Source) (r : List Token) : Type 0 where
  pub spelled : Spells x ts
  pub fits : unit_depth x ≤ d
  pub none : r ≡ []

end_is : (ts : List Token) → at_end ts ≡ true → ts ≡ []
unfolding at_end
end_is [] e = refl
end_is (t ∷ ts) e = absurd cc

append_nothing : (s : List Token) → s ++ [] ≡ s
append_nothing [] = refl
append_nothing (t ∷ s) = ap (λ (u : List Token). t ∷ u) (append_nothing s)

pub unit_sound : (d : ℕ) (ts : List Token) (x : Source) (r : List Token) → read_unit d ts ≡ Ok (x, r) → TookUnit d ts x r
unfolding read_unit
unit_sound zero ts x r h = absurd cc
unit_sound (suc d) ts x r h =
    let i = bind_ok (repeated (read_item d) at_end (suc (length ts)) ts) (λ is. done (record { items = is.0 }) is.1) (x, r) h in
    let t = repeated_sound Item SpellsItem item_depth d (read_item d) at_end (item_sound d) (suc (length ts)) ts i.0.0 i.0.1 i.1 in
    let same : record { items = i.0.0 } ≡ x = ok_value (record { items = i.0.0 }) x i.0.1 r i.2 in
    let none : i.0.1 ≡ [] = end_is i.0.1 t.ends in
    let whole : t.s ≡ ts = sym (t.parts ∙ ap (λ (u : List Token). t.s ++ u) none ∙ append_nothing t.s) in
    record {
      spelled = subst (λ (v : Source). Spells v ts) same (subst (λ (u : List Token). Spells (record { items = i.0.0 }) u) whole (unit t.spelled));
      fits = subst (λ (v : Source). unit_depth v ≤ suc d) same (omega (arith, t.fits));
      none = sym (ok_rest (record { items = i.0.0 }) x i.0.1 r i.2) ∙ none;
    }
