-- A declaration that is read is spelled so, within the depth.
use Rattle.std.proofs.Common.{◌≡◌, ℕ, suc, ◌<◌, ◌≤◌, map, List, [], ◌∷◌, ◌++◌, length, Option, Some, None, Ok, Bool, true, false, cond, refl, sym, ap, subst, ◌∙◌, arith, append_assoc, inl, inr}
use Rattle.std.specs.Prelude.{nat_le, ◌&&◌}
use Rattle.csub_text.specs.declared.span.Span.{Span}
use Rattle.csub_lex.specs.declared.token.Key.TheVariants as keys
use Rattle.csub_lex.specs.declared.token.Mark.TheVariants as marks
use Rattle.csub_lex.specs.declared.token.Token.{Token}
use Rattle.csub_tree.specs.declared.name.Name.{Name}
use Rattle.csub_tree.specs.declared.name.TypeName.{TypeName}
use Rattle.csub_tree.specs.Expressions.{Expr}
use Rattle.csub_tree.specs.Declarations.{Init, Declarator, Declare, Param}
use Rattle.csub_tree.specs.Depth.{most, if_there, expr_depth, init_depth, declarator_depth, declare_depth, param_depth}
use Rattle.csub_tree.specs.Tokens.{mark, key, id, first, last, runs}
use Rattle.csub_tree.specs.Lists.{Optional, missing, present}
use Rattle.csub_tree.specs.SpellsExpressions.{SpellsExpr, conditional}
use Rattle.csub_tree.specs.SpellsDeclarations.{SpellsBase, SpellsLength, bracketed, SpellsSlot, slot, SpellsVar, no_init, with_init, SpellsField, field, SpellsDecl, decl, SpellsBrackets, no_brackets, brackets, SpellsName, identifier, SpellsParam, param, SpellsParams, empty, void, params, SpellsInit}
use Rattle.csub_expr.specs.Looks.{begins, begins_key, rest, head_span}
use Rattle.csub_expr.specs.Answers.{◌>>=◌, done, expect, expect_name}
use Rattle.csub_expr.specs.ListDescent.{separated, repeated, never}
use Rattle.csub_expr.specs.ExprDescent.{read}
use Rattle.csub_expr.specs.InitDescent.{read_init}
use Rattle.csub_expr.proofs.LawsAnswers.{bind_ok, chosen, and_true}
use Rattle.csub_expr.proofs.LawsTokens.{begins_is, begins_key_is, expect_is, expect_name_is, append_nil, last_append, first_append, last_token}
use Rattle.csub_expr.proofs.LawsExpressions as expressions
use Rattle.csub_stmt.specs.Openings.{begins_name}
use Rattle.csub_stmt.specs.DeclarationDescent.{from_to, base_at, following, with_value, length_at, no_length, slot_after, value_after, var_after, slot_at, var_at, declare_end, decl_after, decl_behind, decl_from, decl_at, field_behind, field_from, field_at, length_or_none, array_after, param_behind, param_from, param_at, params_at}
use Rattle.csub_stmt.proofs.LawsTakes.{Took, Sound, Shorter, took_done, took_at, took_as, took_shorter, cut_two, cut_at, cut_first}
use Rattle.csub_stmt.proofs.LawsSequences.{TookRow, repeated_sound, row_sound, following_sound}
use Rattle.csub_stmt.proofs.BaseSound.{base_some, base_sound, decl_some, field_some, length_some, param_some, slot_some, span_from, starts_at, var_some}

module _ (d : ℕ) where
  pub length_sound : Sound Expr SpellsLength expr_depth d (length_at d)
  unfolding length_at
  length_sound ts e r h =
      let o = bind_ok (expect marks.OpenBracket ts) (λ o. read d conditional o.1 >>= λ e. expect marks.CloseBracket e.1 >>= λ c. done e.0 c.1) (e, r) h in
      let i = bind_ok (read d conditional o.0.1) (λ e. expect marks.CloseBracket e.1 >>= λ c. done e.0 c.1) (e, r) o.2 in
      let c = bind_ok (expect marks.CloseBracket i.0.1) (λ c. done i.0.0 c.1) (e, r) i.2 in
      let t = expressions.sound d conditional o.0.1 i.0.0 i.0.1 i.1 in
      let x = mark marks.OpenBracket o.0.0 in
      let y = mark marks.CloseBracket c.0.0 in
      took_done Expr SpellsLength expr_depth d ts e i.0.0 r c.0.1 (record {
        s = x ∷ (t.s ++ y ∷ []);
        parts = cut_first (t.s ++ y ∷ []) x ts o.0.1 c.0.1 (expect_is marks.OpenBracket ts o.0.0 o.0.1 o.1) (cut_at t.s [] y o.0.1 c.0.1 c.0.1 (t.parts ∙ ap (λ (u : List Token). t.s ++ u) (expect_is marks.CloseBracket i.0.1 c.0.0 c.0.1 c.1)) refl);
        spelled = bracketed o.0.0 c.0.0 t.spelled;
        fits = t.fits;
      }) c.2

  pub length_shorter : Shorter Expr (length_at d)
  length_shorter = took_shorter Expr SpellsLength expr_depth d (length_at d) length_sound (λ x s h. length_some h)

  slot_after_sound : (n : Name) (ts : List Token) (v : Declarator) (r : List Token) → slot_after d n ts ≡ Ok (v, r) → Took Declarator SpellsSlot declarator_depth d (id n ∷ ts) v r
  unfolding slot_after
  slot_after_sound n ts v r h =
      let i = bind_ok (repeated (length_at d) (no_length d) (suc (length ts)) ts) (λ es. done (record { name = n; dims = es.0; init = None }) es.1) (v, r) h in
      let t = repeated_sound Expr SpellsLength expr_depth d (length_at d) (no_length d) length_sound (suc (length ts)) ts i.0.0 i.0.1 i.1 in
      took_done Declarator SpellsSlot declarator_depth d (id n ∷ ts) v (record { name = n; dims = i.0.0; init = None }) r i.0.1 (record {
        s = id n ∷ t.s;
        parts = ap (λ (u : List Token). id n ∷ u) t.parts;
        spelled = slot n t.spelled;
        fits = omega (arith, t.fits);
      }) i.2

  pub slot_sound : Sound Declarator SpellsSlot declarator_depth d (slot_at d)
  unfolding slot_at
  slot_sound ts v r h =
      let n = bind_ok (expect_name ts) (λ n. slot_after d n.0 n.1) (v, r) h in
      took_at Declarator SpellsSlot declarator_depth d ts (id n.0.0 ∷ n.0.1) v r (expect_name_is ts n.0.0 n.0.1 n.1) (slot_after_sound n.0.0 n.0.1 v r n.2)

  pub slot_shorter : Shorter Declarator (slot_at d)
  slot_shorter = took_shorter Declarator SpellsSlot declarator_depth d (slot_at d) slot_sound (λ x s h. slot_some h)

  -- a slot with a value
  with_init_made : (v : Declarator) (i : Init) (s t : List Token) (a : Span) → SpellsSlot v s → SpellsInit i t → declarator_depth v ≤ d → init_depth i ≤ d → SpellsVar (with_value v i) (s ++ mark marks.Equal a ∷ t) × (declarator_depth (with_value v i) ≤ d)
  with_init_made _ i s t a (slot n h) k fits fits_i = (with_init a (slot n h) k, omega (arith, fits, fits_i))

module _ (d : ℕ) where
  value_sound : (ts : List Token) (v : Declarator) (us : List Token) → Took Declarator SpellsSlot declarator_depth d ts v us → (x : Declarator) (r : List Token) → value_after d v us ≡ Ok (x, r) → Took Declarator SpellsVar declarator_depth d ts x r
  unfolding value_after
  value_sound ts v us t x r h = elim (chosen (begins marks.Equal us && nat_le 2 d) (read_init d (rest us) >>= λ i. done (with_value v i.0) i.1) (done v us) (Ok (x, r)) h) [
    | inl p ↦
        let b = and_true (begins marks.Equal us) (nat_le 2 d) p.0 in
        let i = bind_ok (read_init d (rest us)) (λ i. done (with_value v i.0) i.1) (x, r) p.1 in
        let k = expressions.sound_init d (rest us) i.0.0 i.0.1 i.1 in
        let made = with_init_made d v i.0.0 t.s k.s (head_span us) t.spelled k.spelled t.fits k.fits in
        took_done Declarator SpellsVar declarator_depth d ts x (with_value v i.0.0) r i.0.1 (record {
          s = t.s ++ mark marks.Equal (head_span us) ∷ k.s;
          parts = cut_at t.s k.s (mark marks.Equal (head_span us)) ts (rest us) i.0.1 (t.parts ∙ ap (λ (u : List Token). t.s ++ u) (begins_is marks.Equal us b.0)) k.parts;
          spelled = made.0;
          fits = made.1;
        }) i.2
    | inr p ↦ took_done Declarator SpellsVar declarator_depth d ts x v r us (record { s = t.s; parts = t.parts; spelled = no_init t.spelled; fits = t.fits }) p.1
  ]

  var_after_sound : (n : Name) (ts : List Token) (v : Declarator) (r : List Token) → var_after d n ts ≡ Ok (v, r) → Took Declarator SpellsVar declarator_depth d (id n ∷ ts) v r
  unfolding var_after
  var_after_sound n ts v r h =
      let i = bind_ok (slot_after d n ts) (λ x. value_after d x.0 x.1) (v, r) h in
      value_sound (id n ∷ ts) i.0.0 i.0.1 (slot_after_sound d n ts i.0.0 i.0.1 i.1) v r i.2

  pub var_sound : Sound Declarator SpellsVar declarator_depth d (var_at d)
  unfolding var_at
  var_sound ts v r h =
      let n = bind_ok (expect_name ts) (λ n. var_after d n.0 n.1) (v, r) h in
      took_at Declarator SpellsVar declarator_depth d ts (id n.0.0 ∷ n.0.1) v r (expect_name_is ts n.0.0 n.0.1 n.1) (var_after_sound n.0.0 n.0.1 v r n.2)

  pub var_shorter : Shorter Declarator (var_at d)
  var_shorter = took_shorter Declarator SpellsVar declarator_depth d (var_at d) var_sound (λ x s h. var_some h)

  make_decl : (b : TypeName) (bs : List Token) (start : ℕ) (a : Span) (ts us : List Token) (vs : List Declarator) (r : List Token) → SpellsBase b bs → start ≡ first bs → ts ≡ bs ++ us → TookRow Declarator SpellsVar declarator_depth d us vs (mark marks.Semicolon a ∷ r)
      → Took Declare SpellsDecl declare_depth d ts (record { base = b; vars = vs; span = from_to start a.end }) r
  make_decl b bs start a ts us vs r h at parts t =
      let c = mark marks.Semicolon a in
      let all : List Token = bs ++ t.s ++ c ∷ [] in
      took_as Declare SpellsDecl declare_depth d ts (record { base = b; vars = vs; span = runs all }) (record { base = b; vars = vs; span = from_to start a.end }) r
      (ap (λ (sp : Span). record { base = b; vars = vs; span = sp }) (span_from start a.end all (at ∙ sym (ap first (append_assoc bs t.s (c ∷ [])) ∙ first_append bs (t.s ++ c ∷ []) (base_some h))) (sym (last_token (bs ++ t.s) c))))
      (record {
        s = all;
        parts = cut_at (bs ++ t.s) [] c ts r r (cut_two bs t.s ts us (c ∷ r) parts t.parts) refl;
        spelled = decl a h t.spelled;
        fits = t.fits;
      })

  decl_end_sound : (b : TypeName) (bs : List Token) (start : ℕ) (ts us : List Token) (vs : List Declarator) (q : List Token) → SpellsBase b bs → start ≡ first bs → ts ≡ bs ++ us → TookRow Declarator SpellsVar declarator_depth d us vs q
      → (x : Declare) (r : List Token) → declare_end d b start vs q ≡ Ok (x, r) → Took Declare SpellsDecl declare_depth d ts x r
  unfolding declare_end
  decl_end_sound b bs start ts us vs q h at parts t x r e =
      let c = bind_ok (expect marks.Semicolon q) (λ semi. done (record { base = b; vars = vs; span = from_to start semi.0.end }) semi.1) (x, r) e in
      let t' = subst (λ (u : List Token). TookRow Declarator SpellsVar declarator_depth d us vs u) (expect_is marks.Semicolon q c.0.0 c.0.1 c.1) t in
      took_done Declare SpellsDecl declare_depth d ts x (record { base = b; vars = vs; span = from_to start c.0.0.end }) r c.0.1 (make_decl b bs start c.0.0 ts us vs c.0.1 h at parts t') c.2

  pub decl_after_sound : (b : TypeName) (bs : List Token) (start : ℕ) (n : Name) (ts us : List Token) → SpellsBase b bs → start ≡ first bs → ts ≡ bs ++ id n ∷ us → (x : Declare) (r : List Token) → decl_after d b start n us ≡ Ok (x, r) → Took Declare SpellsDecl declare_depth d ts x r
  unfolding decl_after
  decl_after_sound b bs start n ts us h at parts x r e =
      let v = bind_ok (var_after d n us) (λ v. following (var_at d) v.0 v.1 >>= λ vs. declare_end d b start vs.0 vs.1) (x, r) e in
      let vs = bind_ok (following (var_at d) v.0.0 v.0.1) (λ vs. declare_end d b start vs.0 vs.1) (x, r) v.2 in
      let t = following_sound Declarator SpellsVar declarator_depth d (var_at d) var_sound (id n ∷ us) v.0.0 v.0.1 (var_after_sound n us v.0.0 v.0.1 v.1) vs.0.0 vs.0.1 vs.1 in
      decl_end_sound b bs start ts (id n ∷ us) vs.0.0 vs.0.1 h at parts t x r vs.2

  pub decl_behind_sound : (b : TypeName) (bs : List Token) (start : ℕ) (ts us : List Token) → SpellsBase b bs → start ≡ first bs → ts ≡ bs ++ us → (x : Declare) (r : List Token) → decl_behind d b start us ≡ Ok (x, r) → Took Declare SpellsDecl declare_depth d ts x r
  unfolding decl_behind
  decl_behind_sound b bs start ts us h at parts x r e =
      let n = bind_ok (expect_name us) (λ n. decl_after d b start n.0 n.1) (x, r) e in
      decl_after_sound b bs start n.0.0 ts n.0.1 h at (parts ∙ ap (λ (u : List Token). bs ++ u) (expect_name_is us n.0.0 n.0.1 n.1)) x r n.2

  pub decl_sound : Sound Declare SpellsDecl declare_depth d (decl_at d)
  unfolding decl_at decl_from
  decl_sound ts x r h =
      let b = bind_ok (base_at ts) (λ b. decl_behind d b.0.0 (head_span ts).start b.1) (x, r) h in
      let t = base_sound ts b.0.0 b.0.1 b.1 in
      decl_behind_sound b.0.0.0 t.s (head_span ts).start ts b.0.1 t.spelled.0 (starts_at t.s ts b.0.1 t.parts (base_some t.spelled.0)) t.parts x r b.2

  pub decl_shorter : Shorter Declare (decl_at d)
  decl_shorter = took_shorter Declare SpellsDecl declare_depth d (decl_at d) decl_sound (λ x s h. decl_some h)

-- members of structs
module _ (d : ℕ) where
  make_field : (b : TypeName) (bs : List Token) (start : ℕ) (a : Span) (ts us : List Token) (vs : List Declarator) (r : List Token) → SpellsBase b bs → start ≡ first bs → ts ≡ bs ++ us → TookRow Declarator SpellsSlot declarator_depth d us vs (mark marks.Semicolon a ∷ r)
      → Took Declare SpellsField declare_depth d ts (record { base = b; vars = vs; span = from_to start a.end }) r
  make_field b bs start a ts us vs r h at parts t =
      let c = mark marks.Semicolon a in
      let all : List Token = bs ++ t.s ++ c ∷ [] in
      took_as Declare SpellsField declare_depth d ts (record { base = b; vars = vs; span = runs all }) (record { base = b; vars = vs; span = from_to start a.end }) r
      (ap (λ (sp : Span). record { base = b; vars = vs; span = sp }) (span_from start a.end all (at ∙ sym (ap first (append_assoc bs t.s (c ∷ [])) ∙ first_append bs (t.s ++ c ∷ []) (base_some h))) (sym (last_token (bs ++ t.s) c))))
      (record {
        s = all;
        parts = cut_at (bs ++ t.s) [] c ts r r (cut_two bs t.s ts us (c ∷ r) parts t.parts) refl;
        spelled = field a h t.spelled;
        fits = t.fits;
      })

  field_end_sound : (b : TypeName) (bs : List Token) (start : ℕ) (ts us : List Token) (vs : List Declarator) (q : List Token) → SpellsBase b bs → start ≡ first bs → ts ≡ bs ++ us → TookRow Declarator SpellsSlot declarator_depth d us vs q
      → (x : Declare) (r : List Token) → declare_end d b start vs q ≡ Ok (x, r) → Took Declare SpellsField declare_depth d ts x r
  unfolding declare_end
  field_end_sound b bs start ts us vs q h at parts t x r e =
      let c = bind_ok (expect marks.Semicolon q) (λ semi. done (record { base = b; vars = vs; span = from_to start semi.0.end }) semi.1) (x, r) e in
      let t' = subst (λ (u : List Token). TookRow Declarator SpellsSlot declarator_depth d us vs u) (expect_is marks.Semicolon q c.0.0 c.0.1 c.1) t in
      took_done Declare SpellsField declare_depth d ts x (record { base = b; vars = vs; span = from_to start c.0.0.end }) r c.0.1 (make_field b bs start c.0.0 ts us vs c.0.1 h at parts t') c.2

  field_behind_sound : (b : TypeName) (bs : List Token) (start : ℕ) (ts us : List Token) → SpellsBase b bs → start ≡ first bs → ts ≡ bs ++ us → (x : Declare) (r : List Token) → field_behind d b start us ≡ Ok (x, r) → Took Declare SpellsField declare_depth d ts x r
  unfolding field_behind
  field_behind_sound b bs start ts us h at parts x r e =
      let vs = bind_ok (separated (slot_at d) never (suc (length us)) us) (λ vs. declare_end d b start vs.0 vs.1) (x, r) e in
      field_end_sound b bs start ts us vs.0.0 vs.0.1 h at parts (row_sound Declarator SpellsSlot declarator_depth d (slot_at d) (slot_sound d) (suc (length us)) us vs.0.0 vs.0.1 vs.1) x r vs.2

  pub field_sound : Sound Declare SpellsField declare_depth d (field_at d)
  unfolding field_at field_from
  field_sound ts x r h =
      let b = bind_ok (base_at ts) (λ b. field_behind d b.0.0 (head_span ts).start b.1) (x, r) h in
      let t = base_sound ts b.0.0 b.0.1 b.1 in
      field_behind_sound b.0.0.0 t.s (head_span ts).start ts b.0.1 t.spelled.0 (starts_at t.s ts b.0.1 t.parts (base_some t.spelled.0)) t.parts x r b.2

  pub field_shorter : Shorter Declare (field_at d)
  field_shorter = took_shorter Declare SpellsField declare_depth d (field_at d) field_sound (λ x s h. field_some h)

-- parameters
module _ (d : ℕ) where
  length_or_none_sound : Sound (Option Expr) (Optional Expr (SpellsExpr conditional)) (if_there expr_depth) d (length_or_none d)
  unfolding length_or_none
  length_or_none_sound ts e r h = elim (chosen (begins marks.CloseBracket ts) (done None ts) (read d conditional ts >>= λ x. done (Some x.0) x.1) (Ok (e, r)) h) [
    | inl p ↦ took_done (Option Expr) (Optional Expr (SpellsExpr conditional)) (if_there expr_depth) d ts e None r ts (record { s = []; parts = refl; spelled = missing; fits = omega arith }) p.1
    | inr p ↦
        let i = bind_ok (read d conditional ts) (λ x. done (Some x.0) x.1) (e, r) p.1 in
        let t = expressions.sound d conditional ts i.0.0 i.0.1 i.1 in
        took_done (Option Expr) (Optional Expr (SpellsExpr conditional)) (if_there expr_depth) d ts e (Some i.0.0) r i.0.1 (record { s = t.s; parts = t.parts; spelled = present t.spelled; fits = t.fits }) i.2
  ]

  -- what was read of a parameter before its brackets
  record Front (b : TypeName) (n : Option Name) (start end : ℕ) (ts us : List Token) : Type 0 where
    s : List Token
    t : List Token
    parts : ts ≡ (s ++ t) ++ us
    base : SpellsBase b s
    named : Optional Name SpellsName n t
    starts : start ≡ first s
    ends : end ≡ last (s ++ t)

  make_param : (b : TypeName) (n : Option Name) (start end : ℕ) (array : Bool) (e : Option Expr) (u ts us r : List Token) → Front b n start end ts us → us ≡ u ++ r → SpellsBrackets array e u → if_there expr_depth e ≤ d
      → (stop : ℕ) → (u ≡ [] → stop ≡ end) → (0 < length u → stop ≡ last u) → Took Param SpellsParam param_depth d ts (record { base = b; name = n; array = array; length = e; span = from_to start stop }) r
  make_param b n start end array e u ts us r f parts h fits stop none some =
      let all : List Token = f.s ++ f.t ++ u in
      took_as Param SpellsParam param_depth d ts (record { base = b; name = n; array = array; length = e; span = runs all }) (record { base = b; name = n; array = array; length = e; span = from_to start stop }) r
      (ap (λ (sp : Span). record { base = b; name = n; array = array; length = e; span = sp }) (span_from start stop all (f.starts ∙ sym (ap first (append_assoc f.s f.t u) ∙ first_append f.s (f.t ++ u) (base_some f.base))) (go u none some)))
      (record {
        s = all;
        parts = cut_two (f.s ++ f.t) u ts us r f.parts parts;
        spelled = param f.base f.named h;
        fits = fits;
      })
    where
      go : (w : List Token) → (w ≡ [] → stop ≡ end) → (0 < length w → stop ≡ last w) → stop ≡ last (f.s ++ f.t ++ w)
      go [] no_more yes_more = no_more refl ∙ f.ends ∙ ap last (sym (append_nil (f.s ++ f.t)))
      go (c ∷ w) no_more yes_more = yes_more (omega arith) ∙ sym (last_append (f.s ++ f.t) (c ∷ w) (omega arith))

  array_sound : (b : TypeName) (n : Option Name) (start end : ℕ) (ts us : List Token) → Front b n start end ts us → (x : Param) (r : List Token) → array_after d b n start end us ≡ Ok (x, r) → Took Param SpellsParam param_depth d ts x r
  unfolding array_after
  array_sound b n start end ts us f x r h = elim (chosen (begins marks.OpenBracket us) (length_or_none d (rest us) >>= λ e. expect marks.CloseBracket e.1 >>= λ c. done (record { base = b; name = n; array = true; length = e.0; span = from_to start c.0.end }) c.1) (done (record { base = b; name = n; array = false; length = None; span = from_to start end }) us) (Ok (x, r)) h) [
    | inl p ↦
        let i = bind_ok (length_or_none d (rest us)) (λ e. expect marks.CloseBracket e.1 >>= λ c. done (record { base = b; name = n; array = true; length = e.0; span = from_to start c.0.end }) c.1) (x, r) p.1 in
        let c = bind_ok (expect marks.CloseBracket i.0.1) (λ c. done (record { base = b; name = n; array = true; length = i.0.0; span = from_to start c.0.end }) c.1) (x, r) i.2 in
        let t = length_or_none_sound (rest us) i.0.0 i.0.1 i.1 in
        let y = mark marks.OpenBracket (head_span us) in
        let z = mark marks.CloseBracket c.0.0 in
        took_done Param SpellsParam param_depth d ts x (record { base = b; name = n; array = true; length = i.0.0; span = from_to start c.0.0.end }) r c.0.1
        (make_param b n start end true i.0.0 (y ∷ (t.s ++ z ∷ [])) ts us c.0.1 f (cut_first (t.s ++ z ∷ []) y us (rest us) c.0.1 (begins_is marks.OpenBracket us p.0) (cut_at t.s [] z (rest us) c.0.1 c.0.1 (t.parts ∙ ap (λ (u : List Token). t.s ++ u) (expect_is marks.CloseBracket i.0.1 c.0.0 c.0.1 c.1)) refl))
        (brackets (head_span us) c.0.0 t.spelled) t.fits c.0.0.end (λ no. absurd (cc no)) (λ yes'. sym (last_token (y ∷ t.s) z))) c.2
    | inr p ↦ took_done Param SpellsParam param_depth d ts x (record { base = b; name = n; array = false; length = None; span = from_to start end }) r us
        (make_param b n start end false None [] ts us us f refl no_brackets (omega arith) end (λ no. refl) (λ yes'. elim yes' [ ])) p.1
  ]

  param_behind_sound : (b : TypeName) (start end : ℕ) (s ts us : List Token) → SpellsBase b s → start ≡ first s → end ≡ last s → ts ≡ s ++ us → (x : Param) (r : List Token) → param_behind d b start end us ≡ Ok (x, r) → Took Param SpellsParam param_depth d ts x r
  unfolding param_behind
  param_behind_sound b start end s ts us h at to parts x r e = elim (chosen (begins_name us) (expect_name us >>= λ n. array_after d b (Some n.0) start n.0.span.end n.1) (array_after d b None start end us) (Ok (x, r)) e) [
    | inl p ↦
        let n = bind_ok (expect_name us) (λ n. array_after d b (Some n.0) start n.0.span.end n.1) (x, r) p.1 in
        array_sound b (Some n.0.0) start n.0.0.span.end ts n.0.1 (record {
          s = s;
          t = id n.0.0 ∷ [];
          parts = cut_two s (id n.0.0 ∷ []) ts us n.0.1 parts (expect_name_is us n.0.0 n.0.1 n.1);
          base = h;
          named = present (identifier n.0.0);
          starts = at;
          ends = sym (last_token s (id n.0.0));
        }) x r n.2
    | inr p ↦ array_sound b None start end ts us (record { s = s; t = []; parts = parts ∙ ap (λ (u : List Token). u ++ us) (sym (append_nil s)); base = h; named = missing; starts = at; ends = to ∙ ap last (sym (append_nil s)) }) x r p.1
  ]

  pub param_sound : Sound Param SpellsParam param_depth d (param_at d)
  unfolding param_at param_from
  param_sound ts x r h =
      let b = bind_ok (base_at ts) (λ b. param_behind d b.0.0 (head_span ts).start b.0.1 b.1) (x, r) h in
      let t = base_sound ts b.0.0 b.0.1 b.1 in
      param_behind_sound b.0.0.0 (head_span ts).start b.0.0.1 t.s ts b.0.1 t.spelled.0 (starts_at t.s ts b.0.1 t.parts (base_some t.spelled.0)) t.spelled.1 t.parts x r b.2

  pub param_shorter : Shorter Param (param_at d)
  param_shorter = took_shorter Param SpellsParam param_depth d (param_at d) param_sound (λ x s h. param_some h)

  pub params_sound : Sound (List Param) SpellsParams (λ ps. most (map param_depth ps)) d (params_at d)
  unfolding params_at
  params_sound ts ps r h = elim (chosen (begins marks.CloseParen ts) (done [] ts) (cond (begins_key keys.Void ts) (done [] (rest ts)) (separated (param_at d) never (suc (length ts)) ts)) (Ok (ps, r)) h) [
    | inl p ↦ took_done (List Param) SpellsParams (λ qs. most (map param_depth qs)) d ts ps [] r ts (record { s = []; parts = refl; spelled = empty; fits = omega arith }) p.1
    | inr p ↦ elim (chosen (begins_key keys.Void ts) (done [] (rest ts)) (separated (param_at d) never (suc (length ts)) ts) (Ok (ps, r)) p.1) [
      | inl q ↦ took_done (List Param) SpellsParams (λ qs. most (map param_depth qs)) d ts ps [] r (rest ts) (record { s = key keys.Void (head_span ts) ∷ []; parts = begins_key_is keys.Void ts q.0; spelled = void (head_span ts); fits = omega arith }) q.1
      | inr q ↦ let t = row_sound Param SpellsParam param_depth d (param_at d) param_sound (suc (length ts)) ts ps r q.1 in record { s = t.s; parts = t.parts; spelled = params t.spelled; fits = t.fits }
    ]
  ]
