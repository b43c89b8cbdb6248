-- What the steps of the decisions on statements and whole programs decide or count. No definition of `Valid` needs it.
use Rattle.std.specs.Prelude.{ℕ, ℤ, ◌+◌, ◌<◌, ◌≤◌, ◌≡◌, ◌≢◌, nat_le, Bool, false, List, [], ◌∷◌, ◌++◌, length, bytes_eq}
use Rattle.std.specs.Prelude.{All, AllPairs, Option, Some, None}
use Rattle.std.specs.List.{flat_map, count_by}
use Rattle.csub_types.specs.declared.kind.IntKind.{IntKind}
use Rattle.csub_types.specs.declared.kind.IntKind.TheVariants.{Int}
use Rattle.csub_objects.specs.Meaning.{type_tree}
use Rattle.csub_objects.specs.Types.{Name, cells, kinds, IsSized, main_name}
use Rattle.csub_semantics.specs.declared.types.GlobalVar.{GlobalVar}
use Rattle.csub_semantics.specs.Types.{GlobalTree, global_tree}
use Rattle.csub_semantics.specs.Labels.{LabelTree, jumps}
use Rattle.csub_semantics.specs.Syntax.{PartTree, StmtTree, StmtTrees, ElseTree, parts, block, conditional, while_loop, do_loop, for_loop}
use Rattle.csub_semantics.specs.Syntax.{switch_on, case_label, default_label, breaks, continues, goes_to, marked, no_stmt, more_stmts, no_else, else_stmt}
use Rattle.csub_semantics.specs.Syntax.{FunctionTree, ProgramTree}
use Rattle.csub_semantics.specs.Flows.{function_in, points_of}
use Rattle.csub_validity.specs.declared.role.Role.{Role}
use Rattle.csub_validity.specs.declared.role.Role.TheVariants.{Whole, Test, Switch, Effect}
use Rattle.csub_validity.specs.Valid.{Scope, is_declared, value_kind, IsPart, IsLast, AreStmts, no_loop, objects_of, AreOther, labels_of, AreCases}
use Rattle.csub_validity.specs.Valid.{declares, IsOneOrDeclares, stmt_count, most_entries, frame_cells, most_parameters, BeginsWithStart, IsMain}
use Rattle.csub_validity.specs.Valid.{most_functions, most_points, most_edges, most_cells, AreOf, AreGlobals, AreDeclared}
use Rattle.csub_validity.specs.Valid.{AgreeOnTags, structs_in, declared_types}
use Rattle.csub_limits.specs.Limits.{edges_of}

-- whether a part's own point initialises a declared object
abbrev pub declared_own : Option LabelTree → Bool
declared_own None = false
declared_own (Some label) = is_declared label

-- what stands behind a part's calls: its own point, or where the whole part is a user call, nothing
abbrev pub IsEnd : ProgramTree → FunctionTree → Scope → Role → ℕ → Option LabelTree → Type 0
IsEnd P f sc role calls (Some label) = IsLast P f sc role (calls + 1) label
IsEnd P f sc Whole calls None = 0 < calls
IsEnd P f sc Test calls None = ⊥
IsEnd P f sc Switch calls None = ⊥
IsEnd P f sc Effect calls None = 0 < calls

-- the kind of a `switch` by its part's own point
abbrev pub own_kind : Option LabelTree → IntKind
own_kind None = Int
own_kind (Some label) = value_kind label

-- what stands before the lines of a `switch` are valid, and they are cases that differ
abbrev pub IsSwitch : ProgramTree → FunctionTree → PartTree → StmtTrees → Type 0
IsSwitch P f p stmts = IsPart P f Switch p × AreCases stmts

-- two lines are not labels of one case
abbrev pub AreOtherCases : Option ℤ → Option ℤ → Type 0
AreOtherCases a b = (v : ℤ) → a ≡ Some v → b ≢ Some v

-- the names of the labelled statements inside a statement, in the order of the text
abbrev mutual
  pub label_names : StmtTree → List Name
  label_names (parts ps) = []
  label_names (block stmts) = label_names_list stmts
  label_names (conditional p t e) = label_names t ++ label_names_else e
  label_names (while_loop p s) = label_names s
  label_names (do_loop s p) = label_names s
  label_names (for_loop first p third s) = label_names s
  label_names (switch_on p stmts) = label_names_list stmts
  label_names (case_label v) = []
  label_names default_label = []
  label_names breaks = []
  label_names continues = []
  label_names (goes_to a p) = []
  label_names (marked a s) = a ∷ label_names s

  pub label_names_list : StmtTrees → List Name
  label_names_list no_stmt = []
  label_names_list (more_stmts s rest) = label_names s ++ label_names_list rest

  pub label_names_else : ElseTree → List Name
  label_names_else no_else = []
  label_names_else (else_stmt s) = label_names s

-- how often a name stands among names, and whether at most once
abbrev pub uses : Name → List Name → ℕ
uses a names = count_by (λ b. bytes_eq b a) names

abbrev pub is_once : List Name → Name → Bool
is_once names a = nat_le (uses a names) 1

-- a part's own point is that of a `goto`
abbrev pub IsOwnJump : Option LabelTree → Type 0
IsOwnJump None = ⊥
IsOwnJump (Some label) = label ≡ jumps

-- the parts of a statement apart from what each of them is
abbrev pub AreTogether : List PartTree → Type 0
AreTogether ps = (length ps ≤ most_entries) × IsOneOrDeclares ps

-- what the third list of a `for` is apart from what each of its parts is
abbrev pub IsOneStep : List PartTree → Type 0
IsOneStep ps = (length ps ≤ 1) × All (λ p. declares p ≡ false) ps

-- how many cells an object of file scope has
abbrev pub cells_of : GlobalVar → ℕ
cells_of g = cells (type_tree g.ctype)

-- an object of file scope has a type that an object may have, and an initial number for each of its cells
abbrev pub IsFilled : GlobalTree → Type 0
IsFilled g = IsSized g.ctype × AreOf (kinds g.ctype) g.initial

abbrev pub AreFilled : List GlobalVar → Type 0
AreFilled globals = All (λ (g : GlobalVar). IsFilled (global_tree g)) globals

-- validity, cut into parts that are joined two by two
abbrev pub IsWithinLimits : List FunctionTree → Type 0
IsWithinLimits fs = (length fs ≤ most_functions + 1) × (length (points_of fs) ≤ most_points) × (length (edges_of fs) ≤ most_edges)

abbrev pub HasEnds : List FunctionTree → Type 0
HasEnds fs = BeginsWithStart fs × IsMain (function_in fs main_name)

abbrev pub AreNamed : List FunctionTree → Type 0
AreNamed fs = HasEnds fs × AllPairs (λ f g. f.name ≢ g.name) fs

abbrev pub HasFunctions : List FunctionTree → Type 0
HasFunctions fs = IsWithinLimits fs × AreNamed fs

abbrev pub IsFramed : ProgramTree → Type 0
IsFramed P = HasFunctions P.functions × AreGlobals P.globals

-- what validity says of each function
abbrev pub IsSmall : FunctionTree → Type 0
IsSmall f = (frame_cells f ≤ most_cells) × ((length f.params ≤ most_parameters) × (stmt_count f.body ≤ most_entries))

abbrev pub HasTypes : FunctionTree → Type 0
HasTypes f = IsSmall f × AreDeclared f

abbrev pub HasObjects : FunctionTree → Type 0
HasObjects f = HasTypes f × AllPairs AreOther (objects_of f)

abbrev pub HasLabels : FunctionTree → Type 0
HasLabels f = HasObjects f × AllPairs (λ a b. a ≢ b) (labels_of f)

abbrev pub IsFunction : ProgramTree → FunctionTree → Type 0
IsFunction P f = HasLabels f × AreStmts P f no_loop f.body

-- what it says of functions and of objects of file scope, and of the tags of structs
abbrev pub AreDefined : ProgramTree → Type 0
AreDefined P = IsFramed P × All (IsFunction P) P.functions

abbrev pub HaveAgreedTags : ProgramTree → Type 0
HaveAgreedTags P = AgreeOnTags (flat_map structs_in (declared_types P))
