-- What statements stand for: their parts, and the objects that they declare.
use Rattle.std.specs.Prelude.{ℕ, ℤ, pos, List, [], ◌∷◌, ◌++◌, map, Bool, true, false, Option, Some, None, if◌then◌else◌}
use Rattle.std.specs.Option.{unwrap_or}
use Rattle.csub_text.specs.declared.span.Span.{Span}
use Rattle.csub_types.specs.declared.kind.IntKind.{IntKind}
use Rattle.csub_types.specs.declared.kind.IntKind.TheVariants.{Int}
use Rattle.csub_types.specs.Kinds.{convert}
use Rattle.csub_tree.specs.Expressions.{Expr, Kind, Exprs, Node, Paren, Call, MoreExprs}
use Rattle.csub_tree.specs.Declarations.{Init, Declarator, Declare}
use Rattle.csub_tree.specs.Statements.{Stmt, StmtKind, Perhaps, Stmts, Line, Declared, Eval, Empty, Block, If, While, Do, For, Switch}
use Rattle.csub_tree.specs.Statements.{Case, Default, Break, Continue, Goto, Label, Return, NoStmt, OneStmt, NoStmts, MoreStmts}
use Rattle.csub_objects.specs.Types.{TypeTree}
use Rattle.csub_semantics.specs.Trees.{local_owner, constant, NamedExpr}
use Rattle.csub_semantics.specs.Labels.{LabelTree, AnswerTree, evaluates, initialises, branches, switches, returns, jumps, halts}
use Rattle.csub_semantics.specs.Syntax.{CallAt, in_part, PartTree, StmtTree, StmtTrees, ElseTree, parts, block, conditional, while_loop, do_loop}
use Rattle.csub_semantics.specs.Syntax.{for_loop, switch_on, case_label, default_label, breaks, continues, goes_to, marked, no_stmt, more_stmts}
use Rattle.csub_semantics.specs.Syntax.{no_else, else_stmt, LocalTree}
use Rattle.csub_scopes.specs.Scopes.{Scope}
use Rattle.csub_rules.specs.Callees.{Callee, no_function, user_function, getchar_function, putchar_function, printf_function, exit_function}
use Rattle.csub_rules.specs.Callees.{callee_of}
use Rattle.csub_rules.specs.Constants as rules
use Rattle.csub_rules.specs.Declarators.{base_type, object_type}
use Rattle.csub_rules.specs.Here.{Here, entering, number_of}
use Rattle.csub_rules.specs.Locals.{past_var}
use Rattle.csub_rules.specs.Past.{past, past_perhaps}
use Rattle.csub_rules.specs.CaseLabels.{switch_kind}
use Rattle.csub_rules.specs.Heads.{sure_type}
use Rattle.csub_rules.specs.Words.{word_return, word_goto, word_for}
use Rattle.csub_resolution.specs.Positions.{first_token}
use Rattle.csub_resolution.specs.Values as values
use Rattle.csub_resolution.specs.Contents.{init_value, init_calls}

-- what an expression gives that stands first in its part
abbrev pub value : Scope → Expr → NamedExpr
value scope e = values.value scope 0 e

-- an expression is a call of one of the source's functions, in parentheses or not
abbrev pub is_own : Callee → Bool
is_own no_function = false
is_own (user_function params result) = true
is_own getchar_function = false
is_own putchar_function = false
is_own printf_function = false
is_own exit_function = false

abbrev mutual
  pub is_call : Scope → Expr → Bool
  is_call scope (Node k s) = is_call_kind scope k

  pub is_call_kind : Scope → Kind → Bool
  is_call_kind scope (Paren e) = is_call scope e
  is_call_kind scope (Call f args) = is_own (callee_of scope f.text)
  is_call_kind scope k = false

-- the argument of `exit`, where an expression is a call of it, in parentheses or not
abbrev pub exit_argument : Callee → Exprs → Option Expr
exit_argument exit_function (MoreExprs e rest) = Some e
exit_argument callee args = None

abbrev mutual
  pub exits_with : Scope → Expr → Option Expr
  exits_with scope (Node k s) = exits_with_kind scope k

  pub exits_with_kind : Scope → Kind → Option Expr
  exits_with_kind scope (Paren e) = exits_with scope e
  exits_with_kind scope (Call f args) = exit_argument (callee_of scope f.text) args
  exits_with_kind scope k = None

-- the own point of a part, at its place
abbrev pub own : LabelTree → Span → PartTree
own label at = record { label = label; span = at; part = at } ∷ []

-- the parts of an expression statement or a declaration, as the first part of a `for` is one (C11 6.8.5.3p1)
abbrev pub own_parts : StmtTree → List PartTree
own_parts (parts ps) = ps
own_parts s = []

-- the value of a `case`, converted to the kind of its `switch` (C11 6.8.4.2p5)
abbrev pub case_value : IntKind → Scope → Expr → ℤ
case_value kind scope e = convert kind (unwrap_or (rules.constant scope e) (pos 0))

module _ (defined : List values.Defined) where
  abbrev pub calls_in : Scope → Expr → List CallAt
  calls_in scope e = values.calls_in defined scope 0 e

  -- an expression that is evaluated for its effects: where it is itself a call, that has no point of its own beside it, and
  -- the part stands at the expression's first token
  abbrev pub effect_part : Scope → Expr → PartTree
  effect_part scope e =
      map (in_part (first_token e)) (calls_in scope e) ++ (if is_call scope e then [] else own (evaluates (value scope e)) (first_token e))

  -- an expression statement, which may be an `exit`
  abbrev pub exit_part : Scope → Expr → Expr → PartTree
  exit_part scope e status = map (in_part (first_token e)) (calls_in scope status) ++ own (halts (value scope status)) (first_token e)

  abbrev pub eval_part : Scope → Expr → Option Expr → PartTree
  eval_part scope e None = effect_part scope e
  eval_part scope e (Some status) = exit_part scope e status

  -- the test of an `if` or a loop; where a `for` has none it is 1 (C11 6.8.5.3p2)
  abbrev pub test_part : Scope → Expr → PartTree
  test_part scope e = map (in_part (first_token e)) (calls_in scope e) ++ own (branches (value scope e)) (first_token e)

  abbrev pub for_test : Scope → Span → Option Expr → PartTree
  for_test scope s None = own (branches (constant Int (pos 1))) (word_for s)
  for_test scope s (Some e) = test_part scope e

  abbrev pub third_parts : Scope → Option Expr → List PartTree
  third_parts scope None = []
  third_parts scope (Some e) = effect_part scope e ∷ []

  abbrev pub switch_part : Scope → Expr → PartTree
  switch_part scope e = map (in_part (first_token e)) (calls_in scope e) ++ own (switches (value scope e)) (first_token e)

  -- a `return`, with the result type of its function
  abbrev pub answer : Option IntKind → Scope → Expr → Option AnswerTree
  answer None scope e = None
  answer (Some kind) scope e = Some (record { kind = kind; value = value scope e })

  abbrev pub return_part : Option IntKind → Scope → Option Expr → Span → PartTree
  return_part result scope None s = own (returns None) (word_return s)
  return_part result scope (Some e) s =
      map (in_part (word_return s)) (calls_in scope e) ++ own (returns (answer result scope e)) (word_return s)

  -- a declared object with an initialiser has a part, which sees its name (C11 6.2.1p7)
  abbrev pub init_part : Scope → Declarator → ℕ → TypeTree → Init → PartTree
  init_part scope d n t x =
      map (in_part d.name.span) (init_calls defined scope 0 x)
      ++ own (initialises (local_owner d.name.text n) t (init_value scope 0 x)) d.name.span

  abbrev pub var_parts : Here → Option TypeTree → Declarator → Option Init → List PartTree
  var_parts here base d None = []
  var_parts here base d (Some x) =
      init_part (past_var here base d).scope d (number_of d.name.text here.before) (sure_type (object_type here.scope base d.dims)) x ∷ []

  abbrev pub vars_parts : Here → Option TypeTree → List Declarator → List PartTree
  vars_parts here base [] = []
  vars_parts here base (d ∷ ds) = var_parts here base d d.init ++ vars_parts (past_var here base d) base ds

  abbrev pub declare_parts : Here → Declare → List PartTree
  declare_parts here d = vars_parts here (base_type here.scope d.base) d.vars

  module _ (result : Option IntKind) where
    -- a statement of a function with this result, among the lines of a `switch` of a kind
    abbrev mutual
      pub line : IntKind → Here → Stmt → StmtTree
      line kind here (Line k s) = line_kind kind here k s

      pub line_kind : IntKind → Here → StmtKind → Span → StmtTree
      line_kind kind here (Declared d) s = parts (declare_parts here d)
      line_kind kind here (Eval e) s = parts (eval_part here.scope e (exits_with here.scope e) ∷ [])
      line_kind kind here Empty s = parts []
      line_kind kind here (Block ss) s = block (lines Int (entering here) ss)
      line_kind kind here (If e a b) s = conditional (test_part here.scope e) (line Int here a) (other_line (past here a) b)
      line_kind kind here (While e a) s = while_loop (test_part here.scope e) (line Int here a)
      line_kind kind here (Do a e) s = do_loop (line Int here a) (test_part here.scope e)
      line_kind kind here (For b e f a) s =
          let inside = past_perhaps (entering here) b in
          for_loop (first_parts (entering here) b) (for_test inside.scope s e) (third_parts inside.scope f) (line Int inside a)
      line_kind kind here (Switch e ss) s = switch_on (switch_part here.scope e) (lines (switch_kind here.scope e) (entering here) ss)
      line_kind kind here (Case e) s = case_label (case_value kind here.scope e)
      line_kind kind here Default s = default_label
      line_kind kind here Break s = breaks
      line_kind kind here Continue s = continues
      line_kind kind here (Goto x) s = goes_to x.text (own jumps (word_goto s))
      line_kind kind here (Label x a) s = marked x.text (line Int here a)
      line_kind kind here (Return e) s = parts (return_part result here.scope e s ∷ [])

      pub first_parts : Here → Perhaps → List PartTree
      first_parts here NoStmt = []
      first_parts here (OneStmt a) = own_parts (line Int here a)

      pub other_line : Here → Perhaps → ElseTree
      other_line here NoStmt = no_else
      other_line here (OneStmt a) = else_stmt (line Int here a)

      -- each line sees what the lines before it declare
      pub lines : IntKind → Here → Stmts → StmtTrees
      lines kind here NoStmts = no_stmt
      lines kind here (MoreStmts a rest) = more_stmts (line kind here a) (lines kind (past here a) rest)

-- the objects that a statement declares, in the order of the text
abbrev pub vars_locals : Here → Option TypeTree → List Declarator → List LocalTree
vars_locals here base [] = []
vars_locals here base (d ∷ ds) =
    record { name = d.name.text; number = number_of d.name.text here.before; ctype = sure_type (object_type here.scope base d.dims) }
    ∷ vars_locals (past_var here base d) base ds

abbrev mutual
  pub locals : Here → Stmt → List LocalTree
  locals here (Line k s) = locals_kind here k

  pub locals_kind : Here → StmtKind → List LocalTree
  locals_kind here (Declared d) = vars_locals here (base_type here.scope d.base) d.vars
  locals_kind here (Eval e) = []
  locals_kind here Empty = []
  locals_kind here (Block ss) = locals_lines (entering here) ss
  locals_kind here (If e a b) = locals here a ++ locals_perhaps (past here a) b
  locals_kind here (While e a) = locals here a
  locals_kind here (Do a e) = locals here a
  locals_kind here (For b e f a) = locals_perhaps (entering here) b ++ locals (past_perhaps (entering here) b) a
  locals_kind here (Switch e ss) = locals_lines (entering here) ss
  locals_kind here (Case e) = []
  locals_kind here Default = []
  locals_kind here Break = []
  locals_kind here Continue = []
  locals_kind here (Goto x) = []
  locals_kind here (Label x a) = locals here a
  locals_kind here (Return e) = []

  pub locals_perhaps : Here → Perhaps → List LocalTree
  locals_perhaps here NoStmt = []
  locals_perhaps here (OneStmt a) = locals here a

  pub locals_lines : Here → Stmts → List LocalTree
  locals_lines here NoStmts = []
  locals_lines here (MoreStmts a rest) = locals here a ++ locals_lines (past here a) rest
