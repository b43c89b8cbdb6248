-- The descent of statements as a function on lists of tokens; d is the depth that is left for what stands inside.
use Rattle.std.specs.Prelude.{ℕ, zero, suc, List, length, Option, Some, None, Ok, Err, nat_le, if◌then◌else◌}
use Rattle.csub_text.specs.declared.span.Span.{Span}
use Rattle.csub_lex.specs.declared.token.Key.{Key}
use Rattle.csub_lex.specs.declared.token.Key.TheVariants as keys
use Rattle.csub_lex.specs.declared.token.Mark.{Mark}
use Rattle.csub_lex.specs.declared.token.Mark.TheVariants as marks
use Rattle.csub_lex.specs.declared.token.Token.{Token}
use Rattle.csub_tree.specs.declared.name.Name.{Name}
use Rattle.csub_tree.specs.Expressions.{Expr, Node, Named, span_of}
use Rattle.csub_tree.specs.Statements.{Stmt, StmtKind, Perhaps, Line, Declared, Eval, Empty, Block, If, While, Do, For, Switch, Case, Default}
use Rattle.csub_tree.specs.Statements.{Break, Continue, Goto, Label, Return, NoStmt, OneStmt, stmts_of}
use Rattle.csub_tree.specs.SpellsExpressions.{assignment, conditional}
use Rattle.csub_stmt.specs.declared.opening.Opening.{Opening}
use Rattle.csub_stmt.specs.declared.opening.Opening.TheVariants as openings
use Rattle.csub_expr.specs.Looks.{begins, begins_key, rest, head_span}
use Rattle.csub_expr.specs.Answers.{Answer, ◌>>=◌, expect, expect_name}
use Rattle.csub_expr.specs.ListDescent.{repeated}
use Rattle.csub_expr.specs.ExprDescent.{read}
use Rattle.csub_stmt.specs.Openings.{opening_at, begins_base}
use Rattle.csub_stmt.specs.DeclarationDescent.{from_to, decl_at}

-- where a statement stands
abbrev pub stmt_span : Stmt → Span
stmt_span (Line k s) = s

-- a statement from one byte to another
abbrev pub line : StmtKind → ℕ → ℕ → Stmt
line k start end = Line k (from_to start end)

-- the name that an expression is
abbrev pub bare_name : Expr → Option Name
bare_name (Node (Named n) s) = Some n
bare_name (Node _ s) = None

-- a keyword that has to come
unfoldable pub expect_key : Key → List Token → Answer Span
expect_key k ts = if begins_key k ts then Ok (head_span ts, rest ts) else Err (length ts)

-- [assign] before a mark
unfoldable pub maybe_at : ℕ → Mark → List Token → Answer (Option Expr)
maybe_at d m ts = if begins m ts then Ok (None, ts) else (read d assignment ts >>= λ e. Ok (Some e.0, e.1))

-- decl as a line
unfoldable pub declared_at : ℕ → List Token → Answer Stmt
declared_at d ts = do
  x ← decl_at d ts
  Ok (Line (Declared x.0) x.0.span, x.1)

-- ";" behind an expression
unfoldable pub evaluated_end : Expr → List Token → Answer Stmt
evaluated_end e ts = do
  semi ← expect marks.Semicolon ts
  Ok (line (Eval e) (span_of e).start semi.0.end, semi.1)

-- assign ";"
unfoldable pub evaluated_at : ℕ → List Token → Answer Stmt
evaluated_at d ts = do
  e ← read d assignment ts
  evaluated_end e.0 e.1

-- the first part of a `for`
unfoldable pub first_at : ℕ → List Token → Answer Perhaps
first_at zero ts = if begins marks.Semicolon ts then Ok (NoStmt, rest ts) else Err (length ts)
first_at (suc d) ts =
    if begins marks.Semicolon ts then Ok (NoStmt, rest ts) else (
    if begins_base ts then (declared_at d ts >>= λ x. Ok (OneStmt x.0, x.1)) else (evaluated_at d ts >>= λ x. Ok (OneStmt x.0, x.1)))

-- line, by how a statement of the same depth is read
unfoldable pub line_by : (List Token → Answer Stmt) → ℕ → List Token → Answer Stmt
line_by stmt zero ts = Err (length ts)
line_by stmt (suc d) ts = if begins_base ts then declared_at d ts else stmt ts

-- behind "case"
unfoldable pub case_at : ℕ → ℕ → List Token → Answer Stmt
case_at d start ts = do
  e ← read d conditional ts
  colon ← expect marks.Colon e.1
  Ok (line (Case e.0) start colon.0.end, colon.1)

-- behind "default"
unfoldable pub default_at : ℕ → List Token → Answer Stmt
default_at start ts = do
  colon ← expect marks.Colon ts
  Ok (line Default start colon.0.end, colon.1)

-- line | "case" cond ":" | "default" ":"
unfoldable pub switch_line_by : (List Token → Answer Stmt) → ℕ → List Token → Answer Stmt
switch_line_by stmt zero ts = Err (length ts)
switch_line_by stmt (suc d) ts =
    if begins_key keys.Case ts then (
    if nat_le 1 d then case_at d (head_span ts).start (rest ts) else Err (length ts)
    ) else (
    if begins_key keys.Default ts then default_at (head_span ts).start (rest ts) else line_by stmt (suc d) ts)

-- ";" behind a statement's other tokens
unfoldable pub ended_by : StmtKind → ℕ → List Token → Answer Stmt
ended_by k start ts = do
  semi ← expect marks.Semicolon ts
  Ok (line k start semi.0.end, semi.1)

module _ (below : List Token → Answer Stmt) (d : ℕ) where
  -- "(" assign ")"
  unfoldable pub test_at : List Token → Answer Expr
  test_at ts = do
    open_mark ← expect marks.OpenParen ts
    e ← read d assignment open_mark.1
    close ← expect marks.CloseParen e.1
    Ok (e.0, close.1)

  -- behind "{", which began at start
  unfoldable pub block_at : ℕ → List Token → Answer Stmt
  block_at start ts = do
    all ← repeated (line_by below d) (begins marks.CloseBrace) (suc (length ts)) ts
    close ← expect marks.CloseBrace all.1
    Ok (line (Block (stmts_of all.0)) start close.0.end, close.1)

  -- behind the first statement of an `if`
  unfoldable pub else_at : ℕ → Expr → Stmt → List Token → Answer Stmt
  else_at start e x ts =
      if begins_key keys.Else ts then (
      below (rest ts) >>= λ y.
      Ok (line (If e x (OneStmt y.0)) start (stmt_span y.0).end, y.1)
      ) else Ok (line (If e x NoStmt) start (stmt_span x).end, ts)

  -- behind "if"
  unfoldable pub if_at : ℕ → List Token → Answer Stmt
  if_at start ts = do
    e ← test_at ts
    x ← below e.1
    else_at start e.0 x.0 x.1

  -- behind "while"
  unfoldable pub while_at : ℕ → List Token → Answer Stmt
  while_at start ts = do
    e ← test_at ts
    x ← below e.1
    Ok (line (While e.0 x.0) start (stmt_span x.0).end, x.1)

  -- behind "do"
  unfoldable pub do_at : ℕ → List Token → Answer Stmt
  do_at start ts = do
    x ← below ts
    word ← expect_key keys.While x.1
    e ← test_at word.1
    ended_by (Do x.0 e.0) start e.1

  -- behind the third part of a `for`
  unfoldable pub for_body : ℕ → Perhaps → Option Expr → Option Expr → List Token → Answer Stmt
  for_body start p e f ts = do
    close ← expect marks.CloseParen ts
    x ← below close.1
    Ok (line (For p e f x.0) start (stmt_span x.0).end, x.1)

  -- behind the first part
  unfoldable pub for_parts : ℕ → Perhaps → List Token → Answer Stmt
  for_parts start p ts = do
    e ← maybe_at d marks.Semicolon ts
    semi ← expect marks.Semicolon e.1
    f ← maybe_at d marks.CloseParen semi.1
    for_body start p e.0 f.0 f.1

  -- behind "for"
  unfoldable pub for_at : ℕ → List Token → Answer Stmt
  for_at start ts = do
    open_mark ← expect marks.OpenParen ts
    p ← first_at d open_mark.1
    for_parts start p.0 p.1

  -- behind the "{" of a `switch`
  unfoldable pub switch_body : ℕ → Expr → List Token → Answer Stmt
  switch_body start e ts = do
    all ← repeated (switch_line_by below d) (begins marks.CloseBrace) (suc (length ts)) ts
    close ← expect marks.CloseBrace all.1
    Ok (line (Switch e (stmts_of all.0)) start close.0.end, close.1)

  -- behind "switch"
  unfoldable pub switch_at : ℕ → List Token → Answer Stmt
  switch_at start ts = do
    e ← test_at ts
    open_mark ← expect marks.OpenBrace e.1
    switch_body start e.0 open_mark.1

  -- behind "goto"
  unfoldable pub goto_at : ℕ → List Token → Answer Stmt
  goto_at start ts = do
    n ← expect_name ts
    ended_by (Goto n.0) start n.1

  -- behind "return"
  unfoldable pub return_at : ℕ → List Token → Answer Stmt
  return_at start ts = do
    e ← maybe_at d marks.Semicolon ts
    ended_by (Return e.0) start e.1

  -- behind a name and ":"
  unfoldable pub label_at : Name → ℕ → List Token → Answer Stmt
  label_at n start ts = do
    x ← below ts
    Ok (line (Label n x.0) start (stmt_span x.0).end, x.1)

  -- behind an expression: a name alone may be a label
  unfoldable pub after_at : Option Name → Expr → List Token → Answer Stmt
  after_at None e ts = evaluated_end e ts
  after_at (Some n) e ts = if begins marks.Colon ts then label_at n (span_of e).start (rest ts) else evaluated_end e ts

  -- a statement that begins with an expression
  unfoldable pub plain_at : List Token → Answer Stmt
  plain_at ts = do
    e ← read d assignment ts
    after_at (bare_name e.0) e.0 e.1

  -- behind the first token, which began at start; a statement with another inside is refused at its first token where no
  -- depth is left for that
  unfoldable pub inner : (ℕ → List Token → Answer Stmt) → List Token → Answer Stmt
  inner p ts = if nat_le 1 d then p (head_span ts).start (rest ts) else Err (length ts)

  -- behind the first token, which began at start
  unfoldable pub outer : (ℕ → List Token → Answer Stmt) → List Token → Answer Stmt
  outer p ts = p (head_span ts).start (rest ts)

  -- ";"
  unfoldable pub empty_at : List Token → Answer Stmt
  empty_at ts = Ok (Line Empty (head_span ts), rest ts)

  -- a statement by how it begins
  unfoldable pub stmt_by : Opening → List Token → Answer Stmt
  stmt_by openings.Brace ts = outer block_at ts
  stmt_by openings.Semicolon ts = empty_at ts
  stmt_by openings.If ts = inner if_at ts
  stmt_by openings.While ts = inner while_at ts
  stmt_by openings.Do ts = inner do_at ts
  stmt_by openings.For ts = inner for_at ts
  stmt_by openings.Switch ts = inner switch_at ts
  stmt_by openings.Break ts = outer (ended_by Break) ts
  stmt_by openings.Continue ts = outer (ended_by Continue) ts
  stmt_by openings.Goto ts = outer goto_at ts
  stmt_by openings.Return ts = outer return_at ts
  stmt_by openings.Plain ts = plain_at ts

  -- stmt
  unfoldable pub stmt_at : List Token → Answer Stmt
  stmt_at ts = stmt_by (opening_at ts) ts

-- a statement of at most this depth
unfoldable pub read_stmt : ℕ → List Token → Answer Stmt
read_stmt zero ts = Err (length ts)
read_stmt (suc d) ts = stmt_at (read_stmt d) d ts

-- a line of a block, of at most this depth
unfoldable pub read_line : ℕ → List Token → Answer Stmt
read_line d ts = line_by (read_stmt d) d ts

-- the lines of a block up to its closing brace, each of at most this depth
abbrev pub read_lines : ℕ → List Token → Answer (List Stmt)
read_lines d ts = repeated (read_line d) (begins marks.CloseBrace) (suc (length ts)) ts
