-- The descent of declarations depends on what it took, and on the token after it.
use Rattle.std.proofs.Common.{ℕ, suc, List, [], length, Option, Some, None, Err, Bool, true, false, cond, refl, ap}
use Rattle.std.specs.Prelude.{nat_le, ◌&&◌, ◌||◌, not}
use Rattle.csub_text.specs.declared.span.Span.{Span}
use Rattle.csub_lex.specs.declared.token.Key.TheVariants as keys
use Rattle.csub_lex.specs.declared.token.Mark.TheVariants as marks
use Rattle.csub_lex.specs.declared.token.Token.{Token}
use Rattle.csub_tree.specs.declared.name.Name.{Name}
use Rattle.csub_tree.specs.declared.name.TypeName.{TypeName}
use Rattle.csub_tree.specs.declared.name.TypeName.TheVariants as types
use Rattle.csub_tree.specs.Expressions.{Expr}
use Rattle.csub_tree.specs.Declarations.{Init, Declarator, Declare, Param}
use Rattle.csub_tree.specs.SpellsExpressions.{conditional}
use Rattle.csub_expr.specs.Looks.{begins, begins_key, rest, head_span}
use Rattle.csub_expr.specs.Answers.{Answer, ◌>>=◌, done, refuse, expect, expect_name}
use Rattle.csub_expr.specs.ListDescent.{separated, repeated, never}
use Rattle.csub_expr.specs.ExprDescent.{read}
use Rattle.csub_expr.specs.InitDescent.{read_init}
use Rattle.csub_expr.proofs.LawsLocal.{Local, SameAtHead, local_bind, local_done, local_refuse, local_rest, local_at, local_if, local_token, local_expect, local_name, same_begins, same_begins_key, same_begins_number, same_head_span, same_by}
use Rattle.csub_expr.proofs.LawsExpressions.{local_read, local_init}
use Rattle.csub_stmt.specs.Openings.{begins_name, begins_base, is_name}
use Rattle.csub_stmt.specs.DeclarationDescent.{from_to, unsigned_at, numeric_at, tag_at, base_at, following, with_value, length_at, no_length, slot_after, value_after, var_after, slot_at, var_at, declare_end, decl_after, decl_behind, decl_from, decl_at, field_behind, field_from, field_at, length_or_none, array_after, param_behind, param_from, param_at, params_at}
use Rattle.csub_stmt.proofs.LawsSequences.{local_repeated, local_row, local_following}
use Rattle.csub_stmt.proofs.DeclarationSound.{length_shorter, slot_shorter, var_shorter, param_shorter}

pub same_begins_name : SameAtHead Bool begins_name
unfolding begins_name
same_begins_name = same_by Bool begins_name (λ t. is_name t.kind) (λ t ts. refl)

pub same_begins_base : SameAtHead Bool begins_base
unfolding begins_base
same_begins_base ts us e = λ i. same_begins_key keys.Struct ts us e i || same_begins_number ts us e i

-- a reading that is told where the first token begins
pub local_start : (A : Type 0) (p : ℕ → List Token → Answer A) → ((start : ℕ) → Local A (p start)) → Local A (λ ts. p (head_span ts).start ts)
local_start A p h = local_at A Span head_span same_head_span (λ sp ts. p sp.start ts) (λ sp. h sp.start)

-- the first token with its end, and the tokens behind it
local_end : (A : Type 0) (p : ℕ → List Token → Answer A) → ((end : ℕ) → Local A (p end)) → Local A (λ ts. p (head_span ts).end (rest ts))
local_end A p h = local_token A (λ sp. p sp.end) (λ sp. h sp.end)

abbrev Base : Type 0
Base = TypeName × ℕ

local_type : (t : TypeName) → Local Base (λ ts. done (t, (head_span ts).end) (rest ts))
local_type t = local_end Base (λ end. done (t, end)) (λ end. local_done Base (t, end))

local_unsigned : (end : ℕ) → Local Base (unsigned_at end)
unfolding unsigned_at
local_unsigned end = local_if Base (begins_key keys.Int) (same_begins_key keys.Int) (λ ts. done (types.Unsigned, (head_span ts).end) (rest ts)) (done (types.Unsigned, end)) (local_type types.Unsigned) (local_done Base (types.Unsigned, end))

pub local_numeric : Local Base numeric_at
unfolding numeric_at
local_numeric = local_if Base (begins_key keys.Char) (same_begins_key keys.Char) (λ ts. done (types.Char, (head_span ts).end) (rest ts)) (λ ts. cond (begins_key keys.Int ts) (done (types.Int, (head_span ts).end) (rest ts)) (cond (begins_key keys.Unsigned ts) (unsigned_at (head_span ts).end (rest ts)) (Err (length ts)))) (local_type types.Char)
    (local_if Base (begins_key keys.Int) (same_begins_key keys.Int) (λ ts. done (types.Int, (head_span ts).end) (rest ts)) (λ ts. cond (begins_key keys.Unsigned ts) (unsigned_at (head_span ts).end (rest ts)) (Err (length ts))) (local_type types.Int)
    (local_if Base (begins_key keys.Unsigned) (same_begins_key keys.Unsigned) (λ ts. unsigned_at (head_span ts).end (rest ts)) refuse (local_end Base unsigned_at local_unsigned) (local_refuse Base)))

local_tag : Local Base tag_at
unfolding tag_at
local_tag = local_bind Name Base expect_name (λ n. done (types.Struct n, n.span.end)) local_name (λ n. local_done Base (types.Struct n, n.span.end))

pub local_base : Local Base base_at
unfolding base_at
local_base = local_if Base (begins_key keys.Struct) (same_begins_key keys.Struct) (λ ts. tag_at (rest ts)) numeric_at (local_rest Base tag_at local_tag) local_numeric

module _ (d : ℕ) where
  local_length : Local Expr (length_at d)
  unfolding length_at
  local_length = local_bind Span Expr (expect marks.OpenBracket) (λ o us. read d conditional us >>= λ e. expect marks.CloseBracket e.1 >>= λ c. done e.0 c.1) (local_expect marks.OpenBracket)
      (λ o. local_bind Expr Expr (read d conditional) (λ e us. expect marks.CloseBracket us >>= λ c. done e c.1) (local_read d conditional)
      (λ e. local_bind Span Expr (expect marks.CloseBracket) (λ c. done e) (local_expect marks.CloseBracket) (λ c. local_done Expr e)))

  same_no_length : SameAtHead Bool (no_length d)
  same_no_length ts us e = ap (λ (b : Bool). not (b && nat_le 1 d)) (same_begins marks.OpenBracket ts us e)

  local_slot_after : (n : Name) → Local Declarator (slot_after d n)
  unfolding slot_after
  local_slot_after n = local_bind (List Expr) Declarator (λ ts. repeated (length_at d) (no_length d) (suc (length ts)) ts) (λ es. done (record { name = n; dims = es; init = None })) (local_repeated Expr (length_at d) (no_length d) (length_shorter d) local_length same_no_length)
      (λ es. local_done Declarator (record { name = n; dims = es; init = None }))

  local_value : (v : Declarator) → Local Declarator (value_after d v)
  unfolding value_after
  local_value v = local_if Declarator (λ ts. begins marks.Equal ts && nat_le 2 d) (λ ts us e. ap (λ (b : Bool). b && nat_le 2 d) (same_begins marks.Equal ts us e)) (λ ts. read_init d (rest ts) >>= λ i. done (with_value v i.0) i.1) (done v)
      (local_rest Declarator (λ ts. read_init d ts >>= λ i. done (with_value v i.0) i.1) (local_bind Init Declarator (read_init d) (λ i. done (with_value v i)) (local_init d) (λ i. local_done Declarator (with_value v i))))
      (local_done Declarator v)

  local_var_after : (n : Name) → Local Declarator (var_after d n)
  unfolding var_after
  local_var_after n = local_bind Declarator Declarator (slot_after d n) (λ v. value_after d v) (local_slot_after n) local_value

  local_slot : Local Declarator (slot_at d)
  unfolding slot_at
  local_slot = local_bind Name Declarator expect_name (λ n. slot_after d n) local_name local_slot_after

  local_var : Local Declarator (var_at d)
  unfolding var_at
  local_var = local_bind Name Declarator expect_name (λ n. var_after d n) local_name local_var_after

  local_declare_end : (b : TypeName) (start : ℕ) (vs : List Declarator) → Local Declare (declare_end d b start vs)
  unfolding declare_end
  local_declare_end b start vs = local_bind Span Declare (expect marks.Semicolon) (λ c. done (record { base = b; vars = vs; span = from_to start c.end })) (local_expect marks.Semicolon) (λ c. local_done Declare (record { base = b; vars = vs; span = from_to start c.end }))

  pub local_decl_after : (b : TypeName) (start : ℕ) (n : Name) → Local Declare (decl_after d b start n)
  unfolding decl_after
  local_decl_after b start n = local_bind Declarator Declare (var_after d n) (λ v us. following (var_at d) v us >>= λ vs. declare_end d b start vs.0 vs.1) (local_var_after n)
      (λ v. local_bind (List Declarator) Declare (following (var_at d) v) (λ vs. declare_end d b start vs) (local_following Declarator (var_at d) (var_shorter d) local_var v) (λ vs. local_declare_end b start vs))

  pub local_decl_behind : (b : TypeName) (start : ℕ) → Local Declare (decl_behind d b start)
  unfolding decl_behind
  local_decl_behind b start = local_bind Name Declare expect_name (λ n. decl_after d b start n) local_name (local_decl_after b start)

  pub local_decl : Local Declare (decl_at d)
  unfolding decl_at decl_from
  local_decl = local_start Declare (λ start ts. base_at ts >>= λ b. decl_behind d b.0.0 start b.1) (λ start. local_bind Base Declare base_at (λ b. decl_behind d b.0 start) local_base (λ b. local_decl_behind b.0 start))

  local_field_behind : (b : TypeName) (start : ℕ) → Local Declare (field_behind d b start)
  unfolding field_behind
  local_field_behind b start = local_bind (List Declarator) Declare (λ ts. separated (slot_at d) never (suc (length ts)) ts) (λ vs. declare_end d b start vs) (local_row Declarator (slot_at d) (slot_shorter d) local_slot) (λ vs. local_declare_end b start vs)

  pub local_field : Local Declare (field_at d)
  unfolding field_at field_from
  local_field = local_start Declare (λ start ts. base_at ts >>= λ b. field_behind d b.0.0 start b.1) (λ start. local_bind Base Declare base_at (λ b. field_behind d b.0 start) local_base (λ b. local_field_behind b.0 start))

  local_length_or_none : Local (Option Expr) (length_or_none d)
  unfolding length_or_none
  local_length_or_none = local_if (Option Expr) (begins marks.CloseBracket) (same_begins marks.CloseBracket) (done None) (λ ts. read d conditional ts >>= λ e. done (Some e.0) e.1) (local_done (Option Expr) None)
      (local_bind Expr (Option Expr) (read d conditional) (λ e. done (Some e)) (local_read d conditional) (λ e. local_done (Option Expr) (Some e)))

  local_array : (b : TypeName) (n : Option Name) (start end : ℕ) → Local Param (array_after d b n start end)
  unfolding array_after
  local_array b n start end = local_if Param (begins marks.OpenBracket) (same_begins marks.OpenBracket) (λ ts. length_or_none d (rest ts) >>= λ e. expect marks.CloseBracket e.1 >>= λ c. done (record { base = b; name = n; array = true; length = e.0; span = from_to start c.0.end }) c.1) (done (record { base = b; name = n; array = false; length = None; span = from_to start end }))
      (local_rest Param (λ ts. length_or_none d ts >>= λ e. expect marks.CloseBracket e.1 >>= λ c. done (record { base = b; name = n; array = true; length = e.0; span = from_to start c.0.end }) c.1)
      (local_bind (Option Expr) Param (length_or_none d) (λ e us. expect marks.CloseBracket us >>= λ c. done (record { base = b; name = n; array = true; length = e; span = from_to start c.0.end }) c.1) local_length_or_none
      (λ e. local_bind Span Param (expect marks.CloseBracket) (λ c. done (record { base = b; name = n; array = true; length = e; span = from_to start c.end })) (local_expect marks.CloseBracket) (λ c. local_done Param (record { base = b; name = n; array = true; length = e; span = from_to start c.end })))))
      (local_done Param (record { base = b; name = n; array = false; length = None; span = from_to start end }))

  local_param_behind : (b : TypeName) (start end : ℕ) → Local Param (param_behind d b start end)
  unfolding param_behind
  local_param_behind b start end = local_if Param begins_name same_begins_name (λ ts. expect_name ts >>= λ n. array_after d b (Some n.0) start n.0.span.end n.1) (array_after d b None start end)
      (local_bind Name Param expect_name (λ n. array_after d b (Some n) start n.span.end) local_name (λ n. local_array b (Some n) start n.span.end)) (local_array b None start end)

  local_param : Local Param (param_at d)
  unfolding param_at param_from
  local_param = local_start Param (λ start ts. base_at ts >>= λ b. param_behind d b.0.0 start b.0.1 b.1) (λ start. local_bind Base Param base_at (λ b. param_behind d b.0 start b.1) local_base (λ b. local_param_behind b.0 start b.1))

  pub local_params : Local (List Param) (params_at d)
  unfolding params_at
  local_params = local_if (List Param) (begins marks.CloseParen) (same_begins marks.CloseParen) (done []) (λ ts. cond (begins_key keys.Void ts) (done [] (rest ts)) (separated (param_at d) never (suc (length ts)) ts)) (local_done (List Param) [])
      (local_if (List Param) (begins_key keys.Void) (same_begins_key keys.Void) (λ ts. done [] (rest ts)) (λ ts. separated (param_at d) never (suc (length ts)) ts) (local_rest (List Param) (done []) (local_done (List Param) []))
      (local_row Param (param_at d) (param_shorter d) local_param))
