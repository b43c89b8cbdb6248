-- The descent of units as a function on lists of tokens; d is the depth that is left for what stands inside.
use Rattle.std.specs.Prelude.{ℕ, zero, suc, List, [], ◌∷◌, length, Option, Some, None, Ok, Err, Bool, true, false, nat_le, ◌&&◌, if◌then◌else◌}
use Rattle.csub_lex.specs.declared.token.Key.TheVariants as keys
use Rattle.csub_lex.specs.declared.token.Mark.TheVariants as marks
use Rattle.csub_lex.specs.declared.token.Token.{Token}
use Rattle.csub_tree.specs.declared.name.Name.{Name}
use Rattle.csub_tree.specs.declared.name.TypeName.{TypeName}
use Rattle.csub_tree.specs.declared.name.TypeName.TheVariants as types
use Rattle.csub_tree.specs.Declarations.{Declare, Head}
use Rattle.csub_tree.specs.Statements.{stmts_of}
use Rattle.csub_tree.specs.Units.{Constant, Item, Struct, Enum, Object, Prototype, Function, Source}
use Rattle.csub_tree.specs.SpellsExpressions.{conditional}
use Rattle.csub_expr.specs.Looks.{begins, begins_key, rest, head_span}
use Rattle.csub_expr.specs.Answers.{Answer, ◌>>=◌, expect, expect_name}
use Rattle.csub_expr.specs.ListDescent.{separated, repeated}
use Rattle.csub_expr.specs.ExprDescent.{read}
use Rattle.csub_stmt.specs.Openings.{begins_name}
use Rattle.csub_stmt.specs.DeclarationDescent.{from_to, numeric_at, decl_after, decl_behind, field_at, params_at}
use Rattle.csub_stmt.specs.StatementDescent.{read_lines}

-- nothing comes any more
unfoldable pub at_end : List Token → Bool
at_end [] = true
at_end (t ∷ ts) = false

module _ (d : ℕ) where
  -- const, behind its name
  unfoldable pub constant_after : Name → List Token → Answer Constant
  constant_after n ts =
      if begins marks.Equal ts && nat_le 1 d then (
      read d conditional (rest ts) >>= λ e.
      Ok (record { name = n; value = Some e.0 }, e.1)
      ) else Ok (record { name = n; value = None }, ts)

  -- const
  unfoldable pub constant_at : List Token → Answer Constant
  constant_at ts = do
    n ← expect_name ts
    constant_after n.0 n.1

  -- "enum" [ID] was read
  unfoldable pub enum_behind : Option Name → List Token → Answer Item
  enum_behind n ts = do
    open_mark ← expect marks.OpenBrace ts
    cs ← separated constant_at (begins marks.CloseBrace) (suc (length open_mark.1)) open_mark.1
    close ← expect marks.CloseBrace cs.1
    semi ← expect marks.Semicolon close.1
    Ok (Enum n cs.0, semi.1)

  -- behind "enum"
  unfoldable pub enum_at : List Token → Answer Item
  enum_at ts = if begins_name ts then (expect_name ts >>= λ n. enum_behind (Some n.0) n.1) else enum_behind None ts

  -- field+, the first of which is read already
  unfoldable pub fields_after : Declare → List Token → Answer (List Declare)
  fields_after x ts = do
    xs ← repeated (field_at d) (begins marks.CloseBrace) (suc (length ts)) ts
    Ok (x ∷ xs.0, xs.1)

  -- "struct" ID "{" was read
  unfoldable pub members_at : Name → List Token → Answer Item
  members_at n ts = do
    x ← field_at d ts
    xs ← fields_after x.0 x.1
    close ← expect marks.CloseBrace xs.1
    semi ← expect marks.Semicolon close.1
    Ok (Struct n xs.0, semi.1)

  -- the declaration whose base was read
  unfoldable pub object_behind : TypeName → ℕ → List Token → Answer Item
  object_behind b start ts = do
    x ← decl_behind d b start ts
    Ok (Object x.0, x.1)

  -- the declaration whose base and first name were read
  unfoldable pub object_after : TypeName → ℕ → Name → List Token → Answer Item
  object_after b start n ts = do
    x ← decl_after d b start n ts
    Ok (Object x.0, x.1)

  -- "struct" ID was read
  unfoldable pub tagged_at : ℕ → Name → List Token → Answer Item
  tagged_at start n ts = if begins marks.OpenBrace ts then members_at n (rest ts) else object_behind (types.Struct n) start ts

  -- behind "struct"
  unfoldable pub struct_at : ℕ → List Token → Answer Item
  struct_at start ts = do
    n ← expect_name ts
    tagged_at start n.0 n.1

  -- a head was read, and "{"
  unfoldable pub body_at : Head → ℕ → List Token → Answer Item
  body_at h start ts = do
    all ← read_lines d ts
    close ← expect marks.CloseBrace all.1
    Ok (Function h (stmts_of all.0) (from_to start close.0.end), close.1)

  -- a head was read
  unfoldable pub head_after : Head → ℕ → List Token → Answer Item
  head_after h start ts =
      if begins marks.Semicolon ts then Ok (Prototype h, rest ts) else (
      expect marks.OpenBrace ts >>= λ open_mark.
      body_at h start open_mark.1
      )

  -- the result, the name and "(" were read
  unfoldable pub function_at : TypeName → ℕ → Name → List Token → Answer Item
  function_at b start n ts = do
    ps ← params_at d ts
    close ← expect marks.CloseParen ps.1
    head_after (record { result = b; name = n; params = ps.0 }) start close.1

  -- behind "void"
  unfoldable pub void_at : ℕ → List Token → Answer Item
  void_at start ts = do
    n ← expect_name ts
    open_mark ← expect marks.OpenParen n.1
    function_at types.Void start n.0 open_mark.1

  -- number ID was read: a head or a declaration
  unfoldable pub numbered_after : TypeName → ℕ → Name → List Token → Answer Item
  numbered_after b start n ts = if begins marks.OpenParen ts then function_at b start n (rest ts) else object_after b start n ts

  -- an item that begins with a number type
  unfoldable pub numbered_at : ℕ → List Token → Answer Item
  numbered_at start ts = do
    b ← numeric_at ts
    n ← expect_name b.1
    numbered_after b.0.0 start n.0 n.1

  -- item, which begins at start
  unfoldable pub item_from : ℕ → List Token → Answer Item
  item_from start ts =
      if begins_key keys.Struct ts then struct_at start (rest ts) else (
      if begins_key keys.Enum ts then enum_at (rest ts) else (
      if begins_key keys.Void ts then void_at start (rest ts) else numbered_at start ts))

  -- item
  unfoldable pub item_at : List Token → Answer Item
  item_at ts = item_from (head_span ts).start ts

-- an item of at most this depth
unfoldable pub read_item : ℕ → List Token → Answer Item
read_item zero ts = Err (length ts)
read_item (suc d) ts = item_at d ts

-- a unit of at most this depth
unfoldable pub read_unit : ℕ → List Token → Answer Source
read_unit zero ts = Err (length ts)
read_unit (suc d) ts = repeated (read_item d) at_end (suc (length ts)) ts >>= λ is. Ok (record { items = is.0 }, is.1)
