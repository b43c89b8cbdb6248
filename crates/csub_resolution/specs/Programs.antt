-- The program that a source stands for.
use Rattle.std.specs.Prelude.{ℕ, ◌+◌, max, List, [], ◌∷◌, ◌++◌, Option, Some, None, find, bytes_eq}
use Rattle.csub_text.specs.declared.span.Span.{Span}
use Rattle.csub_types.specs.declared.kind.IntKind.{IntKind}
use Rattle.csub_types.specs.declared.kind.IntKind.TheVariants.{Int}
use Rattle.csub_tree.specs.declared.name.Name.{Name as NameAt}
use Rattle.csub_tree.specs.Declarations.{Param, Head, Declarator}
use Rattle.csub_tree.specs.Statements.{Stmts}
use Rattle.csub_tree.specs.Units.{Item, Object, Function, Source}
use Rattle.csub_objects.specs.Types.{Name, TypeTree, MemberTree, main_name}
use Rattle.csub_semantics.specs.Types.{GlobalTree}
use Rattle.csub_semantics.specs.Syntax.{PartTree, StmtTree, StmtTrees, ElseTree, parts, block, conditional, while_loop, do_loop, for_loop}
use Rattle.csub_semantics.specs.Syntax.{switch_on, case_label, default_label, breaks, continues, goes_to, marked, no_stmt, more_stmts}
use Rattle.csub_semantics.specs.Syntax.{no_else, else_stmt, FunctionTree, ProgramTree}
use Rattle.csub_semantics.specs.Flows.{start_name}
use Rattle.csub_validity.specs.Valid.{stage_result, start_call}
use Rattle.csub_scopes.specs.Scopes.{Scope}
use Rattle.csub_rules.specs.ExprSorts.{number_of}
use Rattle.csub_rules.specs.Params.{param_type}
use Rattle.csub_rules.specs.Declarators.{base_type, object_type}
use Rattle.csub_rules.specs.Here.{Here}
use Rattle.csub_rules.specs.Files.{File, no_file}
use Rattle.csub_rules.specs.Objects.{past_object}
use Rattle.csub_rules.specs.Heads.{at_params, past_param, past_head, sure_type}
use Rattle.csub_rules.specs.Items.{past_item, in_function}
use Rattle.csub_resolution.specs.Values.{Defined}
use Rattle.csub_resolution.specs.Contents.{initial}
use Rattle.csub_resolution.specs.Lines.{lines, locals_lines}

-- the temporaries of a part: one for each call with a result
abbrev pub some_count : Option IntKind → ℕ
some_count None = 0
some_count (Some k) = 1

abbrev pub part_temps : PartTree → ℕ
part_temps [] = 0
part_temps (s ∷ rest) = some_count (stage_result s) + part_temps rest

abbrev pub most_temps : List PartTree → ℕ
most_temps [] = 0
most_temps (p ∷ rest) = max (part_temps p) (most_temps rest)

-- the parts of a statement
abbrev mutual
  pub parts_of : StmtTree → List PartTree
  parts_of (parts ps) = ps
  parts_of (block ss) = parts_of_all ss
  parts_of (conditional p t e) = p ∷ (parts_of t ++ parts_of_else e)
  parts_of (while_loop p s) = p ∷ parts_of s
  parts_of (do_loop s p) = parts_of s ++ p ∷ []
  parts_of (for_loop first p third s) = first ++ (p ∷ (third ++ parts_of s))
  parts_of (switch_on p ss) = p ∷ parts_of_all ss
  parts_of (case_label v) = []
  parts_of default_label = []
  parts_of breaks = []
  parts_of continues = []
  parts_of (goes_to a p) = p ∷ []
  parts_of (marked a s) = parts_of s

  pub parts_of_all : StmtTrees → List PartTree
  parts_of_all no_stmt = []
  parts_of_all (more_stmts s rest) = parts_of s ++ parts_of_all rest

  pub parts_of_else : ElseTree → List PartTree
  parts_of_else no_else = []
  parts_of_else (else_stmt s) = parts_of s

-- the parameters of a definition, each of which sees those before it
abbrev pub name_or_none : Option NameAt → Name
name_or_none None = []
name_or_none (Some x) = x.text

abbrev pub params : Here → List Param → List MemberTree
params here [] = []
params here (p ∷ ps) = record { name = name_or_none p.name; ctype = sure_type (param_type here.scope p) } ∷ params (past_param here p) ps

abbrev pub params_of : Scope → Head → List MemberTree
params_of scope h = params (at_params (past_head scope h)) h.params

-- the functions that a source defines, with their parameters
abbrev pub defined_by : File → Item → List Defined
defined_by file (Function h body s) = record { name = h.name.text; params = params_of file.scope h } ∷ []
defined_by file item = []

abbrev pub defined_in : File → List Item → List Defined
defined_in file [] = []
defined_in file (i ∷ rest) = defined_by file i ++ defined_in (past_item file i) rest

-- a function as it is defined; its name's place is that of its entry and its exit
abbrev pub function_by : List Defined → Scope → Head → Stmts → FunctionTree
function_by defined scope h body =
    let trees = lines defined (number_of h.result) Int (in_function scope h) body in
    record {
      name = h.name.text;
      params = params_of scope h;
      result = number_of h.result;
      body = trees;
      span = h.name.span;
      locals = locals_lines (in_function scope h) body;
      temps = most_temps (parts_of_all trees);
    }

abbrev pub functions_by : List Defined → File → Item → List FunctionTree
functions_by defined file (Function h body s) = function_by defined file.scope h body ∷ []
functions_by defined file item = []

abbrev pub functions_in : List Defined → File → List Item → List FunctionTree
functions_in defined file [] = []
functions_in defined file (i ∷ rest) = functions_by defined file i ++ functions_in defined (past_item file i) rest

-- an object of file scope with its initial contents, whose initialiser sees its name (C11 6.2.1p7)
abbrev pub global_by : Scope → Option TypeTree → Declarator → GlobalTree
global_by scope base d =
    let t = sure_type (object_type scope base d.dims) in
    record { name = d.name.text; ctype = t; initial = initial (past_object scope base d) d.init t }

abbrev pub globals_by : Scope → Option TypeTree → List Declarator → List GlobalTree
globals_by scope base [] = []
globals_by scope base (d ∷ ds) = global_by scope base d ∷ globals_by (past_object scope base d) base ds

abbrev pub globals_of : File → Item → List GlobalTree
globals_of file (Object d) = globals_by file.scope (base_type file.scope d.base) d.vars
globals_of file item = []

abbrev pub globals_in : File → List Item → List GlobalTree
globals_in file [] = []
globals_in file (i ∷ rest) = globals_of file i ++ globals_in (past_item file i) rest

-- `#start` calls `main` into its temporary 1, and is named by the name of `main` in its definition
abbrev pub start : Span → FunctionTree
start at = record {
  name = start_name;
  params = [];
  result = None;
  body = more_stmts (parts ((record { label = start_call; span = at; part = at } ∷ []) ∷ [])) no_stmt;
  span = at;
  locals = [];
  temps = 1;
}

abbrev pub no_span : Span
no_span = record { start = 0; end = 0 }

abbrev pub span_or_none : Option FunctionTree → Span
span_or_none None = no_span
span_or_none (Some f) = f.span

abbrev pub span_of_main : List FunctionTree → Span
span_of_main fs = span_or_none (find (λ (f : FunctionTree). bytes_eq f.name main_name) fs)

abbrev pub program_of : Source → ProgramTree
program_of u =
    let functions = functions_in (defined_in no_file u.items) no_file u.items in
    record { functions = start (span_of_main functions) ∷ functions; globals = globals_in no_file u.items }
