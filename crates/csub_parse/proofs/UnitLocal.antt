-- The descent of units depends on what it took, and on the token after it.
use Rattle.std.proofs.Common.{ℕ, zero, suc, List, [], ◌∷◌, length, Option, Some, None, Bool, cond, refl, ap}
use Rattle.std.specs.Prelude.{nat_le, ◌&&◌}
use Rattle.csub_text.specs.declared.span.Span.{Span}
use Rattle.csub_lex.specs.declared.token.Key.TheVariants as keys
use Rattle.csub_lex.specs.declared.token.Mark.TheVariants as marks
use Rattle.csub_tree.specs.declared.name.Name.{Name}
use Rattle.csub_tree.specs.declared.name.TypeName.{TypeName}
use Rattle.csub_tree.specs.declared.name.TypeName.TheVariants as types
use Rattle.csub_tree.specs.Expressions.{Expr}
use Rattle.csub_tree.specs.Declarations.{Declare, Param, Head}
use Rattle.csub_tree.specs.Statements.{Stmt, stmts_of}
use Rattle.csub_tree.specs.Units.{Constant, Item, Struct, Enum, Object, Prototype, Function, Source}
use Rattle.csub_tree.specs.SpellsExpressions.{conditional}
use Rattle.csub_expr.specs.Looks.{begins, begins_key, rest}
use Rattle.csub_expr.specs.Answers.{◌>>=◌, done, expect, expect_name}
use Rattle.csub_expr.specs.ListDescent.{separated, repeated}
use Rattle.csub_expr.specs.ExprDescent.{read}
use Rattle.csub_expr.proofs.LawsLocal.{Local, SameAtHead, local_bind, local_done, local_refuse, local_rest, local_if, local_expect, local_name, same_begins, same_begins_key}
use Rattle.csub_expr.proofs.LawsLists.{local_separated}
use Rattle.csub_expr.proofs.LawsExpressions.{local_read}
use Rattle.csub_stmt.specs.Openings.{begins_name}
use Rattle.csub_stmt.specs.DeclarationDescent.{from_to, numeric_at, decl_after, decl_behind, field_at, params_at}
use Rattle.csub_stmt.specs.StatementDescent.{read_lines}
use Rattle.csub_parse.specs.UnitDescent.{at_end, constant_after, constant_at, enum_behind, enum_at, fields_after, members_at, object_behind, object_after, tagged_at, struct_at, body_at, head_after, function_at, void_at, numbered_after, numbered_at, item_from, item_at, read_item, read_unit}
use Rattle.csub_stmt.proofs.LawsSequences.{local_repeated}
use Rattle.csub_stmt.proofs.LawsDeclarations.{field_shorter, same_begins_name, local_start, local_numeric, local_decl_after, local_decl_behind, local_field, local_params}
use Rattle.csub_stmt.proofs.LawsStatements.{lines_local}
use Rattle.csub_parse.proofs.UnitSound.{constant_shorter, item_shorter}

pub same_at_end : SameAtHead Bool at_end
unfolding at_end
same_at_end [] [] e = refl
same_at_end [] (u ∷ us) e = absurd cc
same_at_end (t ∷ ts) [] e = absurd cc
same_at_end (t ∷ ts) (u ∷ us) e = refl

module _ (d : ℕ) where
  local_constant_after : (n : Name) → Local Constant (constant_after d n)
  unfolding constant_after
  local_constant_after n = local_if Constant (λ ts. begins marks.Equal ts && nat_le 1 d) (λ ts us e. ap (λ (b : Bool). b && nat_le 1 d) (same_begins marks.Equal ts us e)) (λ ts. read d conditional (rest ts) >>= λ e. done (record { name = n; value = Some e.0 }) e.1) (done (record { name = n; value = None }))
      (local_rest Constant (λ ts. read d conditional ts >>= λ e. done (record { name = n; value = Some e.0 }) e.1) (local_bind Expr Constant (read d conditional) (λ e. done (record { name = n; value = Some e })) (local_read d conditional) (λ e. local_done Constant (record { name = n; value = Some e }))))
      (local_done Constant (record { name = n; value = None }))

  local_constant : Local Constant (constant_at d)
  unfolding constant_at
  local_constant = local_bind Name Constant expect_name (λ n. constant_after d n) local_name local_constant_after

  local_enum_behind : (n : Option Name) → Local Item (enum_behind d n)
  unfolding enum_behind
  local_enum_behind n = local_bind Span Item (expect marks.OpenBrace) (λ o us. separated (constant_at d) (begins marks.CloseBrace) (suc (length us)) us >>= λ cs. expect marks.CloseBrace cs.1 >>= λ c. expect marks.Semicolon c.1 >>= λ e. done (Enum n cs.0) e.1) (local_expect marks.OpenBrace)
      (λ o. local_bind (List Constant) Item (λ us. separated (constant_at d) (begins marks.CloseBrace) (suc (length us)) us) (λ cs us. expect marks.CloseBrace us >>= λ c. expect marks.Semicolon c.1 >>= λ e. done (Enum n cs) e.1)
      (local_separated (constant_at d) (begins marks.CloseBrace) (constant_shorter d) local_constant (same_begins marks.CloseBrace))
      (λ cs. local_bind Span Item (expect marks.CloseBrace) (λ c us. expect marks.Semicolon us >>= λ e. done (Enum n cs) e.1) (local_expect marks.CloseBrace)
      (λ c. local_bind Span Item (expect marks.Semicolon) (λ e. done (Enum n cs)) (local_expect marks.Semicolon) (λ e. local_done Item (Enum n cs)))))

  local_enum : Local Item (enum_at d)
  unfolding enum_at
  local_enum = local_if Item begins_name same_begins_name (λ ts. expect_name ts >>= λ n. enum_behind d (Some n.0) n.1) (enum_behind d None) (local_bind Name Item expect_name (λ n. enum_behind d (Some n)) local_name (λ n. local_enum_behind (Some n))) (local_enum_behind None)

  local_fields : (x : Declare) → Local (List Declare) (fields_after d x)
  unfolding fields_after
  local_fields x = local_bind (List Declare) (List Declare) (λ us. repeated (field_at d) (begins marks.CloseBrace) (suc (length us)) us) (λ xs. done (x ∷ xs))
      (local_repeated Declare (field_at d) (begins marks.CloseBrace) (field_shorter d) (local_field d) (same_begins marks.CloseBrace)) (λ xs. local_done (List Declare) (x ∷ xs))

  local_members : (n : Name) → Local Item (members_at d n)
  unfolding members_at
  local_members n = local_bind Declare Item (field_at d) (λ x us. fields_after d x us >>= λ xs. expect marks.CloseBrace xs.1 >>= λ c. expect marks.Semicolon c.1 >>= λ e. done (Struct n xs.0) e.1) (local_field d)
      (λ x. local_bind (List Declare) Item (fields_after d x) (λ xs us. expect marks.CloseBrace us >>= λ c. expect marks.Semicolon c.1 >>= λ e. done (Struct n xs) e.1) (local_fields x)
      (λ xs. local_bind Span Item (expect marks.CloseBrace) (λ c us. expect marks.Semicolon us >>= λ e. done (Struct n xs) e.1) (local_expect marks.CloseBrace)
      (λ c. local_bind Span Item (expect marks.Semicolon) (λ e. done (Struct n xs)) (local_expect marks.Semicolon) (λ e. local_done Item (Struct n xs)))))

  local_object_behind : (b : TypeName) (start : ℕ) → Local Item (object_behind d b start)
  unfolding object_behind
  local_object_behind b start = local_bind Declare Item (decl_behind d b start) (λ x. done (Object x)) (local_decl_behind d b start) (λ x. local_done Item (Object x))

  local_object_after : (b : TypeName) (start : ℕ) (n : Name) → Local Item (object_after d b start n)
  unfolding object_after
  local_object_after b start n = local_bind Declare Item (decl_after d b start n) (λ x. done (Object x)) (local_decl_after d b start n) (λ x. local_done Item (Object x))

  local_tagged : (start : ℕ) (n : Name) → Local Item (tagged_at d start n)
  unfolding tagged_at
  local_tagged start n = local_if Item (begins marks.OpenBrace) (same_begins marks.OpenBrace) (λ ts. members_at d n (rest ts)) (object_behind d (types.Struct n) start) (local_rest Item (members_at d n) (local_members n)) (local_object_behind (types.Struct n) start)

  local_struct : (start : ℕ) → Local Item (struct_at d start)
  unfolding struct_at
  local_struct start = local_bind Name Item expect_name (λ n. tagged_at d start n) local_name (local_tagged start)

  local_body : (h : Head) (start : ℕ) → Local Item (body_at d h start)
  unfolding body_at
  local_body h start = local_bind (List Stmt) Item (read_lines d) (λ xs us. expect marks.CloseBrace us >>= λ c. done (Function h (stmts_of xs) (from_to start c.0.end)) c.1)
      (lines_local d)
      (λ xs. local_bind Span Item (expect marks.CloseBrace) (λ c. done (Function h (stmts_of xs) (from_to start c.end))) (local_expect marks.CloseBrace) (λ c. local_done Item (Function h (stmts_of xs) (from_to start c.end))))

  local_head_after : (h : Head) (start : ℕ) → Local Item (head_after d h start)
  unfolding head_after
  local_head_after h start = local_if Item (begins marks.Semicolon) (same_begins marks.Semicolon) (λ ts. done (Prototype h) (rest ts)) (λ ts. expect marks.OpenBrace ts >>= λ o. body_at d h start o.1) (local_rest Item (done (Prototype h)) (local_done Item (Prototype h)))
      (local_bind Span Item (expect marks.OpenBrace) (λ o. body_at d h start) (local_expect marks.OpenBrace) (λ o. local_body h start))

  local_function : (b : TypeName) (start : ℕ) (n : Name) → Local Item (function_at d b start n)
  unfolding function_at
  local_function b start n = local_bind (List Param) Item (params_at d) (λ ps us. expect marks.CloseParen us >>= λ c. head_after d (record { result = b; name = n; params = ps }) start c.1) (local_params d)
      (λ ps. local_bind Span Item (expect marks.CloseParen) (λ c. head_after d (record { result = b; name = n; params = ps }) start) (local_expect marks.CloseParen) (λ c. local_head_after (record { result = b; name = n; params = ps }) start))

  local_void : (start : ℕ) → Local Item (void_at d start)
  unfolding void_at
  local_void start = local_bind Name Item expect_name (λ n us. expect marks.OpenParen us >>= λ o. function_at d types.Void start n o.1) local_name
      (λ n. local_bind Span Item (expect marks.OpenParen) (λ o. function_at d types.Void start n) (local_expect marks.OpenParen) (λ o. local_function types.Void start n))

  local_numbered_after : (b : TypeName) (start : ℕ) (n : Name) → Local Item (numbered_after d b start n)
  unfolding numbered_after
  local_numbered_after b start n = local_if Item (begins marks.OpenParen) (same_begins marks.OpenParen) (λ ts. function_at d b start n (rest ts)) (object_after d b start n) (local_rest Item (function_at d b start n) (local_function b start n)) (local_object_after b start n)

  local_numbered : (start : ℕ) → Local Item (numbered_at d start)
  unfolding numbered_at
  local_numbered start = local_bind (TypeName × ℕ) Item numeric_at (λ b us. expect_name us >>= λ n. numbered_after d b.0 start n.0 n.1) local_numeric
      (λ b. local_bind Name Item expect_name (λ n. numbered_after d b.0 start n) local_name (local_numbered_after b.0 start))

  local_item_from : (start : ℕ) → Local Item (item_from d start)
  unfolding item_from
  local_item_from start = local_if Item (begins_key keys.Struct) (same_begins_key keys.Struct) (λ ts. struct_at d start (rest ts)) (λ ts. cond (begins_key keys.Enum ts) (enum_at d (rest ts)) (cond (begins_key keys.Void ts) (void_at d start (rest ts)) (numbered_at d start ts))) (local_rest Item (struct_at d start) (local_struct start))
      (local_if Item (begins_key keys.Enum) (same_begins_key keys.Enum) (λ ts. enum_at d (rest ts)) (λ ts. cond (begins_key keys.Void ts) (void_at d start (rest ts)) (numbered_at d start ts)) (local_rest Item (enum_at d) local_enum)
      (local_if Item (begins_key keys.Void) (same_begins_key keys.Void) (λ ts. void_at d start (rest ts)) (numbered_at d start) (local_rest Item (void_at d start) (local_void start)) (local_numbered start)))

  local_item_at : Local Item (item_at d)
  unfolding item_at
  local_item_at = local_start Item (item_from d) local_item_from

pub local_item : (d : ℕ) → Local Item (read_item d)
unfolding read_item
local_item zero = local_refuse Item
local_item (suc d) = local_item_at d

pub local_unit : (d : ℕ) → Local Source (read_unit d)
unfolding read_unit
local_unit zero = local_refuse Source
local_unit (suc d) = local_bind (List Item) Source (λ ts. repeated (read_item d) at_end (suc (length ts)) ts) (λ is. done (record { items = is })) (local_repeated Item (read_item d) at_end (item_shorter d) (local_item d) same_at_end) (λ is. local_done Source (record { items = is }))
