-- A declaration that is spelled so is read.
use Rattle.std.proofs.Common.{◌≡◌, ℕ, suc, ◌<◌, ◌≤◌, map, List, [], ◌∷◌, ◌++◌, length, Option, Some, None, Ok, Bool, true, false, refl, sym, ap, subst, ◌∙◌, arith, append_assoc, length-append}
use Rattle.std.proofs.lemmas.Bool.{le-leb}
use Rattle.csub_text.specs.declared.span.Span.{Span}
use Rattle.csub_lex.specs.declared.token.Key.TheVariants as keys
use Rattle.csub_lex.specs.declared.token.Mark.TheVariants as marks
use Rattle.csub_lex.specs.declared.token.Token.{Token}
use Rattle.csub_tree.specs.declared.name.Name.{Name}
use Rattle.csub_tree.specs.declared.name.TypeName.{TypeName}
use Rattle.csub_tree.specs.Expressions.{Expr}
use Rattle.csub_tree.specs.Declarations.{Init, Declarator, Declare, Param}
use Rattle.csub_tree.specs.Depth.{most, if_there, expr_depth, init_depth, declarator_depth, declare_depth, param_depth}
use Rattle.csub_tree.specs.Tokens.{mark, id, last}
use Rattle.csub_tree.specs.Lists.{Each, Separated, last_one, before, Optional, missing, present}
use Rattle.csub_tree.specs.SpellsExpressions.{SpellsExpr, conditional}
use Rattle.csub_tree.specs.SpellsDeclarations.{SpellsInit, SpellsLength, bracketed, SpellsSlot, slot, SpellsVar, no_init, with_init, SpellsField, field, SpellsDecl, decl, SpellsBrackets, no_brackets, brackets, SpellsName, identifier, SpellsParam, param, SpellsParams, empty, void, params}
use Rattle.csub_expr.specs.Looks.{begins, begins_key, rest, head_span}
use Rattle.csub_expr.specs.Answers.{Answer, ◌>>=◌, done, expect, expect_name}
use Rattle.csub_expr.specs.ListDescent.{never}
use Rattle.csub_expr.proofs.LawsTokens.{append_nil, last_append, last_token}
use Rattle.csub_expr.proofs.LawsExpressions.{depth_pos, lead, lead_no_mark}
use Rattle.csub_stmt.specs.Openings.{begins_name}
use Rattle.csub_stmt.specs.DeclarationDescent.{from_to, base_at, with_value, length_at, no_length, slot_after, value_after, var_after, slot_at, var_at, declare_end, decl_after, decl_behind, decl_from, decl_at, field_behind, field_from, field_at, length_or_none, array_after, param_behind, param_from, param_at, params_at}
use Rattle.csub_stmt.proofs.ExpressionEnds.{EndsAssignment, conditional_reads, init_reads, stops_bracket}
use Rattle.csub_stmt.proofs.LawsSequences.{each_reads, some_reads, following_ends, following_reads}
use Rattle.csub_stmt.proofs.BaseSound.{length_some, base_some, decl_some, field_some}
use Rattle.csub_stmt.proofs.DeclarationOpens.{Any, Based, OkaySlot, OkayVar, base_reads, decl_behind_name, equal_no_paren, equal_okay, init_deep, lengths_no_paren, okay_comma, okay_semicolon, param_opens, span_again, var_at_name}

module _ (d : ℕ) where
  length_reads : (e : Expr) (s : List Token) → SpellsLength e s → expr_depth e ≤ d → (r : List Token) → Any r → length_at d (s ++ r) ≡ Ok (e, r)
  unfolding length_at expect begins rest head_span
  length_reads e _ (bracketed {s = s} a b h) fits r any =
      let c = mark marks.CloseBracket b in
      rw (append_assoc s (c ∷ []) r, conditional_reads h d fits (c ∷ r) (stops_bracket b r)) refl

  length_opens : (e : Expr) (s : List Token) → SpellsLength e s → expr_depth e ≤ d → (r : List Token) → (no_length d (s ++ r) ≡ false) × Any (s ++ r)
  unfolding begins
  length_opens e _ (bracketed a b h) fits r = (rw (le-leb 1 d (omega (arith, fits, depth_pos e))) refl, tt)

  slot_after_reads : (n : Name) {es : List Expr} {s : List Token} → Each Expr SpellsLength es s → most (map expr_depth es) ≤ d → (r : List Token) → OkaySlot r → slot_after d n (s ++ r) ≡ Ok (record { name = n; dims = es; init = None }, r)
  unfolding slot_after
  slot_after_reads n {s = s} h fits r okay =
      let ends : no_length d r ≡ true = rw okay refl in
      rw (each_reads Expr SpellsLength expr_depth d (length_at d) Any length_reads (no_length d) length_opens (λ x t k. length_some k) h fits (suc (length (s ++ r))) (omega (arith, length-append s r)) r tt ends) refl

  slot_reads : (v : Declarator) (s : List Token) → SpellsSlot v s → declarator_depth v ≤ d → (r : List Token) → OkaySlot r → slot_at d (s ++ r) ≡ Ok (v, r)
  unfolding slot_at expect_name rest head_span
  slot_reads _ _ (slot n h) fits r okay = slot_after_reads n h (omega (arith, fits)) r okay

  value_none : (v : Declarator) (r : List Token) → begins marks.Equal r ≡ false → value_after d v r ≡ Ok (v, r)
  unfolding value_after
  value_none v r none = rw none refl

  value_some : (v : Declarator) (i : Init) (t : List Token) (a : Span) → SpellsInit i t → init_depth i ≤ d → (r : List Token) → EndsAssignment r → value_after d v (mark marks.Equal a ∷ (t ++ r)) ≡ Ok (with_value v i, r)
  unfolding value_after begins rest
  value_some v i t a h fits r ends = rw (le-leb 2 d (omega (arith, fits, init_deep h)), init_reads h d fits r ends) refl

  -- a declarator, from behind its name on
  record Behind (v : Declarator) (s : List Token) : Type 0 where
    n : Name
    t : List Token
    parts : s ≡ id n ∷ t
    reads : (r : List Token) → OkayVar r → var_after d n (t ++ r) ≡ Ok (v, r)
    no_paren : (r : List Token) → begins marks.OpenParen r ≡ false → begins marks.OpenParen (t ++ r) ≡ false

  var_behind : {v : Declarator} {s : List Token} → SpellsVar v s → declarator_depth v ≤ d → Behind v s
  unfolding var_after
  var_behind (no_init (slot {es = es} {s = s} n h)) fits = record {
    n = n;
    t = s;
    parts = refl;
    reads = λ r okay. rw (slot_after_reads n h (omega (arith, fits)) r okay.0, value_none (record { name = n; dims = es; init = None }) r okay.1) refl;
    no_paren = λ r none. lengths_no_paren h r none;
  }
  var_behind (with_init {i = i} {t = t} a (slot {es = es} {s = s} n h) k) fits =
      let c = mark marks.Equal a in
      record {
        n = n;
        t = s ++ c ∷ t;
        parts = refl;
        reads = λ r okay. rw (append_assoc s (c ∷ t) r, slot_after_reads n h (omega (arith, fits)) (c ∷ (t ++ r)) (equal_okay a (t ++ r)), value_some (record { name = n; dims = es; init = None }) i t a k (omega (arith, fits)) r okay.2) refl;
        no_paren = λ r none. rw (append_assoc s (c ∷ t) r) (lengths_no_paren h (c ∷ (t ++ r)) (equal_no_paren a (t ++ r)));
      }

  var_reads : (v : Declarator) (s : List Token) → SpellsVar v s → declarator_depth v ≤ d → (r : List Token) → OkayVar r → var_at d (s ++ r) ≡ Ok (v, r)
  var_reads v s h fits r okay = let b = var_behind h fits in subst (λ (u : List Token). var_at d (u ++ r) ≡ Ok (v, r)) (sym b.parts) (var_at_name d b.n (b.t ++ r) ∙ b.reads r okay)

  -- declarators and a semicolon, from behind the first name on
  pub record Row (vs : List Declarator) (s : List Token) : Type 0 where
    pub n : Name
    pub t : List Token
    pub parts : s ≡ id n ∷ t
    pub no_paren : (a : Span) (r : List Token) → begins marks.OpenParen (t ++ (mark marks.Semicolon a ∷ r)) ≡ false
    pub reads : (b : TypeName) (start : ℕ) (a : Span) (r : List Token) → decl_after d b start n (t ++ (mark marks.Semicolon a ∷ r)) ≡ Ok (record { base = b; vars = vs; span = from_to start a.end }, r)

  pub row_behind : {vs : List Declarator} {s : List Token} → Separated Declarator SpellsVar vs s → most (map declarator_depth vs) ≤ d → Row vs s
  unfolding decl_after declare_end expect begins rest head_span
  row_behind (last_one {x = x} h) fits =
      let v = var_behind h (omega (arith, fits)) in
      record {
        n = v.n;
        t = v.t;
        parts = v.parts;
        no_paren = λ a r. v.no_paren (mark marks.Semicolon a ∷ r) refl;
        reads = λ b start a r. rw (v.reads (mark marks.Semicolon a ∷ r) (okay_semicolon a r), following_ends Declarator SpellsVar declarator_depth d (var_at d) OkayVar var_reads x (mark marks.Semicolon a ∷ r) refl) refl;
      }
  row_behind (before {x = x} {xs = xs} {t = t} c h hs) fits =
      let v = var_behind h (omega (arith, fits)) in
      let m = mark marks.Comma c in
      record {
        n = v.n;
        t = v.t ++ m ∷ t;
        parts = ap (λ (u : List Token). u ++ m ∷ t) v.parts;
        no_paren = λ a r. rw (append_assoc v.t (m ∷ t) (mark marks.Semicolon a ∷ r)) (v.no_paren (m ∷ (t ++ (mark marks.Semicolon a ∷ r))) refl);
        reads = λ b start a r.
            let e = mark marks.Semicolon a in
            rw (append_assoc v.t (m ∷ t) (e ∷ r), v.reads (m ∷ (t ++ (e ∷ r))) (okay_comma c (t ++ (e ∷ r))), following_reads Declarator SpellsVar declarator_depth d (var_at d) OkayVar var_reads okay_comma x c hs (omega (arith, fits)) (e ∷ r) (okay_semicolon a r) refl) refl;
      }

  pub decl_behind_reads : (b : TypeName) (start : ℕ) {vs : List Declarator} {s : List Token} → Separated Declarator SpellsVar vs s → most (map declarator_depth vs) ≤ d → (a : Span) (r : List Token)
      → decl_behind d b start (s ++ (mark marks.Semicolon a ∷ r)) ≡ Ok (record { base = b; vars = vs; span = from_to start a.end }, r)
  decl_behind_reads b start {vs = vs} h fits a r =
      let w = row_behind h fits in
      subst (λ (u : List Token). decl_behind d b start (u ++ (mark marks.Semicolon a ∷ r)) ≡ Ok (record { base = b; vars = vs; span = from_to start a.end }, r)) (sym w.parts) (decl_behind_name d b start w.n (w.t ++ (mark marks.Semicolon a ∷ r)) ∙ w.reads b start a r)

  -- no keyword stands where a name does
  pub vars_no_int : {vs : List Declarator} {s : List Token} → Separated Declarator SpellsVar vs s → (r : List Token) → begins_key keys.Int (s ++ r) ≡ false
  unfolding begins_key
  vars_no_int (last_one (no_init (slot n h))) r = refl
  vars_no_int (last_one (with_init a (slot n h) k)) r = refl
  vars_no_int (before c (no_init (slot n h)) hs) r = refl
  vars_no_int (before c (with_init a (slot n h) k) hs) r = refl

  slots_no_int : {vs : List Declarator} {s : List Token} → Separated Declarator SpellsSlot vs s → (r : List Token) → begins_key keys.Int (s ++ r) ≡ false
  unfolding begins_key
  slots_no_int (last_one (slot n h)) r = refl
  slots_no_int (before c (slot n h) hs) r = refl

  pub decl_reads : (x : Declare) (s : List Token) → SpellsDecl x s → declare_depth x ≤ d → (r : List Token) → decl_at d (s ++ r) ≡ Ok (x, r)
  unfolding decl_at decl_from
  decl_reads x _ (decl {b = b} {ds = ds} {s = s} {t = t} a hb h) fits r =
      let c = mark marks.Semicolon a in
      let all : List Token = s ++ t ++ c ∷ [] in
      let start = (head_span (all ++ r)).start in
      let shape : all ++ r ≡ s ++ (t ++ (c ∷ r)) = append_assoc (s ++ t) (c ∷ []) r ∙ append_assoc s t (c ∷ r) in
      ap (λ (u : List Token). base_at u >>= λ b. decl_behind d b.0.0 start b.1) shape
      ∙ ap (λ (q : Answer (TypeName × ℕ)). q >>= λ b. decl_behind d b.0.0 start b.1) (base_reads hb (t ++ (c ∷ r)) (vars_no_int h (c ∷ r)))
      ∙ decl_behind_reads b start h fits a r
      ∙ ap (λ (sp : Span). done (record { base = b; vars = ds; span = sp }) r) (span_again all r a.end (decl_some (decl a hb h)) (sym (last_token (s ++ t) c)))

  slot_comma : (a : Span) (r : List Token) → OkaySlot (mark marks.Comma a ∷ r)
  unfolding begins
  slot_comma a r = refl

  field_behind_reads : (b : TypeName) (start : ℕ) {vs : List Declarator} {s : List Token} → Separated Declarator SpellsSlot vs s → most (map declarator_depth vs) ≤ d → (a : Span) (r : List Token)
      → field_behind d b start (s ++ (mark marks.Semicolon a ∷ r)) ≡ Ok (record { base = b; vars = vs; span = from_to start a.end }, r)
  unfolding field_behind declare_end expect begins rest head_span
  field_behind_reads b start {s = s} h fits a r =
      let c = mark marks.Semicolon a in
      rw (some_reads Declarator SpellsSlot declarator_depth d (slot_at d) OkaySlot slot_reads never (λ x t k q. refl) slot_comma h fits (suc (length (s ++ (c ∷ r)))) (omega (arith, length-append s (c ∷ r))) (c ∷ r) refl refl) refl

  pub field_reads : (x : Declare) (s : List Token) → SpellsField x s → declare_depth x ≤ d → (r : List Token) → Any r → field_at d (s ++ r) ≡ Ok (x, r)
  unfolding field_at field_from
  field_reads x _ (field {b = b} {ds = ds} {s = s} {t = t} a hb h) fits r any =
      let c = mark marks.Semicolon a in
      let all : List Token = s ++ t ++ c ∷ [] in
      let start = (head_span (all ++ r)).start in
      let shape : all ++ r ≡ s ++ (t ++ (c ∷ r)) = append_assoc (s ++ t) (c ∷ []) r ∙ append_assoc s t (c ∷ r) in
      ap (λ (u : List Token). base_at u >>= λ b. field_behind d b.0.0 start b.1) shape
      ∙ ap (λ (q : Answer (TypeName × ℕ)). q >>= λ b. field_behind d b.0.0 start b.1) (base_reads hb (t ++ (c ∷ r)) (slots_no_int h (c ∷ r)))
      ∙ field_behind_reads b start h fits a r
      ∙ ap (λ (sp : Span). done (record { base = b; vars = ds; span = sp }) r) (span_again all r a.end (field_some (field a hb h)) (sym (last_token (s ++ t) c)))

  -- parameters
  length_or_none_reads : {e : Option Expr} {s : List Token} → Optional Expr (SpellsExpr conditional) e s → if_there expr_depth e ≤ d → (b : Span) (r : List Token) → length_or_none d (s ++ (mark marks.CloseBracket b ∷ r)) ≡ Ok (e, mark marks.CloseBracket b ∷ r)
  unfolding length_or_none begins
  length_or_none_reads missing fits b r = refl
  length_or_none_reads (present {s = s} h) fits b r =
      let c = mark marks.CloseBracket b in
      rw (begins, lead_no_mark (lead h (c ∷ r)) marks.CloseBracket refl refl, conditional_reads h d fits (c ∷ r) (stops_bracket b r)) refl

  array_reads : (b : TypeName) (n : Option Name) (start end stop : ℕ) {array : Bool} {e : Option Expr} {u : List Token} → SpellsBrackets array e u → if_there expr_depth e ≤ d → (u ≡ [] → stop ≡ end) → (0 < length u → stop ≡ last u)
      → (r : List Token) → OkaySlot r → array_after d b n start end (u ++ r) ≡ Ok (record { base = b; name = n; array = array; length = e; span = from_to start stop }, r)
  unfolding array_after begins rest expect head_span
  array_reads b n start end stop no_brackets fits none some r okay = rw (begins, okay, none refl) refl
  array_reads b n start end stop (brackets {s = s} p q h) fits none some r okay =
      let o = mark marks.OpenBracket p in
      let c = mark marks.CloseBracket q in
      let to : stop ≡ q.end = some (omega arith) ∙ last_token (o ∷ s) c in
      rw (append_assoc s (c ∷ []) r, length_or_none_reads h fits q r, to) refl

  abbrev OkayParam : List Token → Type 0
  OkayParam r = (begins_name r ≡ false) × (begins marks.OpenBracket r ≡ false) × (begins_key keys.Int r ≡ false)

  brackets_no_name : {array : Bool} {e : Option Expr} {u : List Token} → SpellsBrackets array e u → (r : List Token) → OkayParam r → (begins_name (u ++ r) ≡ false) × (begins_key keys.Int (u ++ r) ≡ false)
  unfolding begins_name begins_key
  brackets_no_name no_brackets r okay = (okay.0, okay.2)
  brackets_no_name (brackets a b h) r okay = (refl, refl)

  name_no_int : {n : Option Name} {t : List Token} → Optional Name SpellsName n t → (r : List Token) → begins_key keys.Int r ≡ false → begins_key keys.Int (t ++ r) ≡ false
  unfolding begins_key
  name_no_int missing r none = none
  name_no_int (present (identifier n)) r none = refl

  param_behind_reads : (b : TypeName) (start : ℕ) (s : List Token) {n : Option Name} {t : List Token} {array : Bool} {e : Option Expr} {u : List Token} → Optional Name SpellsName n t → SpellsBrackets array e u → if_there expr_depth e ≤ d
      → (r : List Token) → OkayParam r → param_behind d b start (last s) (t ++ (u ++ r)) ≡ Ok (record { base = b; name = n; array = array; length = e; span = from_to start (last (s ++ t ++ u)) }, r)
  unfolding param_behind begins_name expect_name rest head_span
  param_behind_reads b start s {u = u} missing h fits r okay =
      rw (begins_name, (brackets_no_name h r okay).0) (array_reads b None start (last s) (last (s ++ [] ++ u)) h fits (λ none. ap (λ (w : List Token). last (s ++ [] ++ w)) none ∙ ap last (append_nil (s ++ []) ∙ append_nil s)) (λ some. last_append (s ++ []) u some) r okay.1)
  param_behind_reads b start s {u = u} (present (identifier n)) h fits r okay =
      array_reads b (Some n) start n.span.end (last (s ++ (id n ∷ []) ++ u)) h fits (λ none. ap (λ (w : List Token). last (s ++ (id n ∷ []) ++ w)) none ∙ ap last (append_nil (s ++ id n ∷ [])) ∙ last_token s (id n)) (λ some. last_append (s ++ (id n ∷ [])) u some) r okay.1

  param_reads : (x : Param) (s : List Token) → SpellsParam x s → param_depth x ≤ d → (r : List Token) → OkayParam r → param_at d (s ++ r) ≡ Ok (x, r)
  unfolding param_at param_from
  param_reads x _ (param {b = b} {n = n} {array = array} {e = e} {s = s} {t = t} {u = u} hb hn h) fits r okay =
      let all : List Token = s ++ t ++ u in
      let start = (head_span (all ++ r)).start in
      let shape : all ++ r ≡ s ++ (t ++ (u ++ r)) = append_assoc (s ++ t) u r ∙ append_assoc s t (u ++ r) in
      let some : 0 < length all = omega (arith, base_some hb, length-append s t, length-append (s ++ t) u) in
      ap (λ (w : List Token). base_at w >>= λ b. param_behind d b.0.0 start b.0.1 b.1) shape
      ∙ ap (λ (q : Answer (TypeName × ℕ)). q >>= λ b. param_behind d b.0.0 start b.0.1 b.1) (base_reads hb (t ++ (u ++ r)) (name_no_int hn (u ++ r) (brackets_no_name h r okay).1))
      ∙ param_behind_reads b start s hn h fits r okay
      ∙ ap (λ (sp : Span). done (record { base = b; name = n; array = array; length = e; span = sp }) r) (span_again all r (last all) some refl)

  param_comma : (a : Span) (r : List Token) → OkayParam (mark marks.Comma a ∷ r)
  unfolding begins_name begins begins_key
  param_comma a r = (refl, refl, refl)

  param_close : (a : Span) (r : List Token) → OkayParam (mark marks.CloseParen a ∷ r)
  unfolding begins_name begins begins_key
  param_close a r = (refl, refl, refl)

  params_opens : {ps : List Param} {s : List Token} → Separated Param SpellsParam ps s → (r : List Token) → Based (s ++ r)
  params_opens (last_one h) r = param_opens h r
  params_opens (before {s = s} {t = t} a h hs) r = rw (append_assoc s (mark marks.Comma a ∷ t) r) (param_opens h (mark marks.Comma a ∷ (t ++ r)))

  pub params_reads : {ps : List Param} {s : List Token} → SpellsParams ps s → most (map param_depth ps) ≤ d → (a : Span) (r : List Token) → params_at d (s ++ (mark marks.CloseParen a ∷ r)) ≡ Ok (ps, mark marks.CloseParen a ∷ r)
  unfolding params_at begins begins_key rest
  params_reads empty fits a r = refl
  params_reads (void b) fits a r = refl
  params_reads (params {s = s} h) fits a r =
      let c = mark marks.CloseParen a in
      let o = params_opens h (c ∷ r) in
      rw (begins, begins_key, o.no_close, o.no_void, some_reads Param SpellsParam param_depth d (param_at d) OkayParam param_reads never (λ x t k q. refl) param_comma h fits (suc (length (s ++ (c ∷ r)))) (omega (arith, length-append s (c ∷ r))) (c ∷ r) (param_close a r) refl) refl
