-- Programs as values: functions with their statements, each statement with its parts.
use Rattle.std.specs.Prelude.{ℕ, ℤ, List, [], ◌∷◌, ◌++◌, map, Option, Some, None}
use Rattle.std.specs.Option.{option_map}
use Rattle.csub_text.specs.declared.span.Span.{Span}
use Rattle.csub_types.specs.declared.kind.IntKind.{IntKind}
use Rattle.csub_objects.specs.Types.{Name, TypeTree, MemberTree}
use Rattle.csub_objects.specs.Meaning.{type_tree, member_tree}
use Rattle.csub_semantics.specs.Types.{GlobalTree, global_tree}
use Rattle.csub_semantics.specs.Labels.{LabelTree, calls, label_tree, call_tree}
use Rattle.csub_semantics.specs.declared.function.RCall.{RCall}
use Rattle.csub_semantics.specs.declared.function.RPart.{RPart}
use Rattle.csub_semantics.specs.declared.function.RStmt.{RStmt, Parts, Block', If', While', Do', For', Switch', Case}
use Rattle.csub_semantics.specs.declared.function.RStmt.{Default, Break, Continue, Goto, Mark', Row_of-RStmt, end_of-RStmt}
use Rattle.csub_semantics.specs.declared.function.RStmt.{more_of-RStmt, Held-RStmt-If-2, None', Some'}
use Rattle.csub_semantics.specs.declared.function.LocalVar.{LocalVar}
use Rattle.csub_semantics.specs.declared.function.Function.{Function}
use Rattle.csub_semantics.specs.declared.types.GlobalVar.{GlobalVar}

-- a call of a part: its label, and the place in the source that is named for it
pub record CallAt : Type 0 where
  pub label : LabelTree
  pub span : Span

-- one stage of a part: a call or the part's own point, with the place in the source that is named for it; and the part's
-- place: that of its own point or, where it has none, that of its expression's first token
pub record Stage : Type 0 where
  pub label : LabelTree
  pub span : Span
  pub part : Span

-- a part: an expression of a statement. Its stages are its calls in the order in which they are made, and last its
-- own point, where it has one
abbrev pub PartTree : Type 0
PartTree = List Stage

mutual
  pub data StmtTree : Type 0 where
    parts : List PartTree → StmtTree
    block : StmtTrees → StmtTree
    conditional : PartTree → StmtTree → ElseTree → StmtTree
    while_loop : PartTree → StmtTree → StmtTree
    do_loop : StmtTree → PartTree → StmtTree
    for_loop : List PartTree → PartTree → List PartTree → StmtTree → StmtTree
    switch_on : PartTree → StmtTrees → StmtTree
    case_label : ℤ → StmtTree
    default_label : StmtTree
    breaks : StmtTree
    continues : StmtTree
    goes_to : Name → PartTree → StmtTree
    marked : Name → StmtTree → StmtTree

  pub data StmtTrees : Type 0 where
    no_stmt : StmtTrees
    more_stmts : StmtTree → StmtTrees → StmtTrees

  pub data ElseTree : Type 0 where
    no_else : ElseTree
    else_stmt : StmtTree → ElseTree

-- a local object that is no parameter: the number-th of its name in its function
pub record LocalTree : Type 0 where
  pub name : Name
  pub number : ℕ
  pub ctype : TypeTree

pub record FunctionTree : Type 0 where
  pub name : Name
  pub params : List MemberTree
  pub result : Option IntKind
  pub body : StmtTrees
  pub span : Span
  pub locals : List LocalTree
  pub temps : ℕ

-- a program: its functions, first `#start`, which calls `main`, and then the others in the order of the source; and its
-- objects of file scope in that order
pub record ProgramTree : Type 0 where
  pub functions : List FunctionTree
  pub globals : List GlobalTree

-- a program as the code holds it
pub record ProgramParts : Type 0 where
  pub functions : List Function
  pub globals : List GlobalVar

-- what the code holds, as trees
abbrev pub call_at : RCall → CallAt
call_at c = record { label = calls (call_tree c.label); span = c.span }

-- a call as a stage of the part at a place
abbrev pub in_part : Span → CallAt → Stage
in_part part c = record { label = c.label; span = c.span; part = part }

abbrev pub call_stage : Span → RCall → Stage
call_stage part c = in_part part (call_at c)

abbrev pub own_stage : Span → Option LabelTree → PartTree
own_stage span None = []
own_stage span (Some label) = record { label = label; span = span; part = span } ∷ []

abbrev pub part_tree : RPart → PartTree
part_tree p = map (call_stage p.span) p.calls.items ++ own_stage p.span (option_map label_tree p.main)

abbrev mutual
  pub stmt_tree : RStmt → StmtTree
  stmt_tree (Parts row) = parts (map part_tree row.items)
  stmt_tree (Block' shape row) = block (row_trees row)
  stmt_tree (If' part p t e) = conditional (part_tree part) (stmt_tree t) (else_tree e)
  stmt_tree (While' part p s) = while_loop (part_tree part) (stmt_tree s)
  stmt_tree (Do' p s part) = do_loop (stmt_tree s) (part_tree part)
  stmt_tree (For' first part third p s) = for_loop (map part_tree first.items) (part_tree part) (map part_tree third.items) (stmt_tree s)
  stmt_tree (Switch' part shape row) = switch_on (part_tree part) (row_trees row)
  stmt_tree (Case v) = case_label v
  stmt_tree Default = default_label
  stmt_tree Break = breaks
  stmt_tree Continue = continues
  stmt_tree (Goto name part) = goes_to name (part_tree part)
  stmt_tree (Mark' name p s) = marked name (stmt_tree s)

  pub else_tree : Held-RStmt-If-2 → ElseTree
  else_tree None' = no_else
  else_tree (Some' p s) = else_stmt (stmt_tree s)

  pub row_trees : {m : _} → Row_of-RStmt m → StmtTrees
  row_trees end_of-RStmt = no_stmt
  row_trees (more_of-RStmt s rest) = more_stmts (stmt_tree s) (row_trees rest)

-- the trees of a list
abbrev pub stmts_of : List StmtTree → StmtTrees
stmts_of [] = no_stmt
stmts_of (s ∷ rest) = more_stmts s (stmts_of rest)

abbrev pub local_tree : LocalVar → LocalTree
local_tree v = record { name = v.name; number = v.number; ctype = type_tree v.ctype }

abbrev pub function_tree : Function → FunctionTree
function_tree f = record {
  name = f.name;
  params = map member_tree f.params.items;
  result = f.result;
  body = stmts_of (map stmt_tree f.body.items);
  span = f.span;
  locals = map local_tree f.locals.items;
  temps = f.temps;
}

abbrev pub program_tree : ProgramParts → ProgramTree
program_tree p = record { functions = map function_tree p.functions; globals = map global_tree p.globals }
