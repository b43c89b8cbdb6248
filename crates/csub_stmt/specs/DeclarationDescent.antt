-- The descent of declarations as a function on lists of tokens; d is the depth that is left for what stands inside.
use Rattle.std.specs.Prelude.{ℕ, suc, List, [], ◌∷◌, length, Option, Some, None, Ok, Err, Bool, true, false, ◌&&◌, not, nat_le, if◌then◌else◌}
use Rattle.csub_text.specs.declared.span.Span.{Span}
use Rattle.csub_lex.specs.declared.token.Key.TheVariants as keys
use Rattle.csub_lex.specs.declared.token.Mark.TheVariants as marks
use Rattle.csub_lex.specs.declared.token.Token.{Token}
use Rattle.csub_tree.specs.declared.name.Name.{Name}
use Rattle.csub_tree.specs.declared.name.TypeName.{TypeName}
use Rattle.csub_tree.specs.declared.name.TypeName.TheVariants as types
use Rattle.csub_tree.specs.Expressions.{Expr}
use Rattle.csub_tree.specs.Declarations.{Init, Declarator, Declare, Param}
use Rattle.csub_tree.specs.SpellsExpressions.{conditional}
use Rattle.csub_expr.specs.Looks.{begins, begins_key, rest, head_span}
use Rattle.csub_expr.specs.Answers.{Answer, ◌>>=◌, expect, expect_name}
use Rattle.csub_expr.specs.ListDescent.{separated, repeated, never}
use Rattle.csub_expr.specs.ExprDescent.{read}
use Rattle.csub_expr.specs.InitDescent.{read_init}
use Rattle.csub_stmt.specs.Openings.{begins_name}

-- from one byte to another
abbrev pub from_to : ℕ → ℕ → Span
from_to start end = record { start = start; end = end }

-- behind "unsigned", which ended at end
unfoldable pub unsigned_at : ℕ → List Token → Answer (TypeName × ℕ)
unsigned_at end ts =
    if begins_key keys.Int ts then Ok ((types.Unsigned, (head_span ts).end), rest ts) else Ok ((types.Unsigned, end), ts)

-- number, and where it ends
unfoldable pub numeric_at : List Token → Answer (TypeName × ℕ)
numeric_at ts =
    if begins_key keys.Char ts then Ok ((types.Char, (head_span ts).end), rest ts) else (
    if begins_key keys.Int ts then Ok ((types.Int, (head_span ts).end), rest ts) else (
    if begins_key keys.Unsigned ts then unsigned_at (head_span ts).end (rest ts) else Err (length ts)))

-- behind "struct"
unfoldable pub tag_at : List Token → Answer (TypeName × ℕ)
tag_at ts = do
  n ← expect_name ts
  Ok ((types.Struct n.0, n.0.span.end), n.1)

-- base, and where it ends
unfoldable pub base_at : List Token → Answer (TypeName × ℕ)
base_at ts = if begins_key keys.Struct ts then tag_at (rest ts) else numeric_at ts

-- ("," x)* behind the first x
unfoldable pub following : {A : Type 0} → (List Token → Answer A) → A → List Token → Answer (List A)
following item x ts =
    if begins marks.Comma ts then (
    separated item never (suc (length (rest ts))) (rest ts) >>= λ xs.
    Ok (x ∷ xs.0, xs.1)
    ) else Ok (x ∷ [], ts)

-- a declarator with an initialiser
abbrev pub with_value : Declarator → Init → Declarator
with_value v i = record { name = v.name; dims = v.dims; init = Some i }

-- a parameter from one byte to another; `array` says whether it has brackets
abbrev pub param_of : TypeName → Option Name → Bool → Option Expr → ℕ → ℕ → Param
param_of b n array e start end = record { base = b; name = n; array = array; length = e; span = from_to start end }

module _ (d : ℕ) where
  -- "[" cond "]"
  unfoldable pub length_at : List Token → Answer Expr
  length_at ts = do
    open_mark ← expect marks.OpenBracket ts
    e ← read d conditional open_mark.1
    close ← expect marks.CloseBracket e.1
    Ok (e.0, close.1)

  -- no length comes, or no depth is left for one
  abbrev pub no_length : List Token → Bool
  no_length ts = not (begins marks.OpenBracket ts && nat_le 1 d)

  -- the slot whose name was read
  unfoldable pub slot_after : Name → List Token → Answer Declarator
  slot_after n ts = do
    es ← repeated length_at no_length (suc (length ts)) ts
    Ok (record { name = n; dims = es.0; init = None }, es.1)

  -- ["=" init]; an initialiser has an expression inside, so "=" is refused where there is no depth for both
  unfoldable pub value_after : Declarator → List Token → Answer Declarator
  value_after v ts =
      if begins marks.Equal ts && nat_le 2 d then (read_init d (rest ts) >>= λ i. Ok (with_value v i.0, i.1)) else Ok (v, ts)

  -- the var whose name was read
  unfoldable pub var_after : Name → List Token → Answer Declarator
  var_after n ts = do
    v ← slot_after n ts
    value_after v.0 v.1

  -- slot
  unfoldable pub slot_at : List Token → Answer Declarator
  slot_at ts = do
    n ← expect_name ts
    slot_after n.0 n.1

  -- var
  unfoldable pub var_at : List Token → Answer Declarator
  var_at ts = do
    n ← expect_name ts
    var_after n.0 n.1

  -- what ends a declaration
  unfoldable pub declare_end : TypeName → ℕ → List Declarator → List Token → Answer Declare
  declare_end b start vs ts = do
    semi ← expect marks.Semicolon ts
    Ok (record { base = b; vars = vs; span = from_to start semi.0.end }, semi.1)

  -- the declaration whose base, which began at start, and first name were read
  unfoldable pub decl_after : TypeName → ℕ → Name → List Token → Answer Declare
  decl_after b start n ts = do
    v ← var_after n ts
    vs ← following var_at v.0 v.1
    declare_end b start vs.0 vs.1

  -- the declaration whose base was read
  unfoldable pub decl_behind : TypeName → ℕ → List Token → Answer Declare
  decl_behind b start ts = do
    n ← expect_name ts
    decl_after b start n.0 n.1

  -- decl, which begins at start
  unfoldable pub decl_from : ℕ → List Token → Answer Declare
  decl_from start ts = do
    b ← base_at ts
    decl_behind b.0.0 start b.1

  -- decl
  unfoldable pub decl_at : List Token → Answer Declare
  decl_at ts = decl_from (head_span ts).start ts

  -- the field whose base was read
  unfoldable pub field_behind : TypeName → ℕ → List Token → Answer Declare
  field_behind b start ts = do
    vs ← separated slot_at never (suc (length ts)) ts
    declare_end b start vs.0 vs.1

  -- field, which begins at start
  unfoldable pub field_from : ℕ → List Token → Answer Declare
  field_from start ts = do
    b ← base_at ts
    field_behind b.0.0 start b.1

  -- field
  unfoldable pub field_at : List Token → Answer Declare
  field_at ts = field_from (head_span ts).start ts

  -- [cond] before "]"
  unfoldable pub length_or_none : List Token → Answer (Option Expr)
  length_or_none ts =
      if begins marks.CloseBracket ts then Ok (None, ts) else (read d conditional ts >>= λ e. Ok (Some e.0, e.1))

  -- ["[" [cond] "]"] of a parameter that so far runs from start to end
  unfoldable pub array_after : TypeName → Option Name → ℕ → ℕ → List Token → Answer Param
  array_after b n start end ts =
      if begins marks.OpenBracket ts then (
      length_or_none (rest ts) >>= λ e.
      expect marks.CloseBracket e.1 >>= λ close.
      Ok (param_of b n true e.0 start close.0.end, close.1)
      ) else Ok (param_of b n false None start end, ts)

  -- the parameter whose base was read, which runs from start to end
  unfoldable pub param_behind : TypeName → ℕ → ℕ → List Token → Answer Param
  param_behind b start end ts =
      if begins_name ts then (
      expect_name ts >>= λ n.
      array_after b (Some n.0) start n.0.span.end n.1
      ) else array_after b None start end ts

  -- param, which begins at start
  unfoldable pub param_from : ℕ → List Token → Answer Param
  param_from start ts = do
    b ← base_at ts
    param_behind b.0.0 start b.0.1 b.1

  -- param
  unfoldable pub param_at : List Token → Answer Param
  param_at ts = param_from (head_span ts).start ts

  -- ["void" | param ("," param)*] before ")"
  unfoldable pub params_at : List Token → Answer (List Param)
  params_at ts =
      if begins marks.CloseParen ts then Ok ([], ts) else (
      if begins_key keys.Void ts then Ok ([], rest ts) else separated param_at never (suc (length ts)) ts)
