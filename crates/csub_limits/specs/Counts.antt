-- What the code counts of functions: their points, the ways out of them, and the cells of their objects. No definition of the
-- limits needs this file.
use Rattle.std.specs.Prelude.{ℕ, ◌+◌, List, [], ◌∷◌, length, sum_by, Option, Some, None}
use Rattle.csub_objects.specs.Meaning.{type_tree}
use Rattle.csub_objects.specs.Types.{cells}
use Rattle.csub_objects.specs.declared.types.Member.{Member}
use Rattle.csub_semantics.specs.declared.function.LocalVar.{LocalVar}
use Rattle.csub_semantics.specs.Labels.{LabelTree, halts}
use Rattle.csub_semantics.specs.Syntax.{PartTree, StmtTree, StmtTrees, ElseTree, parts, block, conditional, while_loop, do_loop, for_loop}
use Rattle.csub_semantics.specs.Syntax.{switch_on, case_label, default_label, breaks, continues, goes_to, marked, no_stmt, more_stmts, no_else, else_stmt}
use Rattle.csub_semantics.specs.Syntax.{FunctionTree}
use Rattle.csub_semantics.specs.Successors.{case_values}
use Rattle.csub_limits.specs.declared.counts.Measure.{Measure}
use Rattle.csub_limits.specs.declared.counts.Measure.TheVariants.{Points, Edges}

-- how many ways out the last stage of a part outside a test has: none where it ends the run
abbrev pub own_count : LabelTree → ℕ
own_count (halts e) = 0
own_count label = 1

abbrev pub end_count : Option LabelTree → ℕ
end_count None = 1
end_count (Some label) = own_count label

abbrev pub last_count : PartTree → ℕ
last_count [] = 1
last_count (s ∷ []) = own_count s.label
last_count (s ∷ t ∷ rest) = last_count (t ∷ rest)

-- what the last stage of a part counts, which has so many ways out: it is one point
abbrev pub stage_count : Measure → ℕ → ℕ
stage_count Points ways = 1
stage_count Edges ways = ways

-- a count of a part whose last stage has so many ways out: each stage before it is a point with one way out
abbrev pub count_stages : Measure → PartTree → ℕ → ℕ
count_stages m [] ways = 0
count_stages m (s ∷ rest) ways = length rest + stage_count m ways

-- the same of a part outside a test
abbrev pub count_part : Measure → PartTree → ℕ
count_part m p = count_stages m p (last_count p)

-- A count of the points of a statement, or of the ways out of them: a test has two, a `switch` one for each case and one
-- beside, and a `goto` one.
abbrev mutual
  pub count : Measure → StmtTree → ℕ
  count m (parts ps) = sum_by (count_part m) ps
  count m (block stmts) = count_list m stmts
  count m (conditional p t e) = count_stages m p 2 + (count m t + count_else m e)
  count m (while_loop p s) = count_stages m p 2 + count m s
  count m (do_loop s p) = count m s + count_stages m p 2
  count m (for_loop first p third s) = (sum_by (count_part m) first + (count_stages m p 2 + sum_by (count_part m) third)) + count m s
  count m (switch_on p stmts) = count_stages m p (length (case_values stmts) + 1) + count_list m stmts
  count m (case_label v) = 0
  count m default_label = 0
  count m breaks = 0
  count m continues = 0
  count m (goes_to a p) = count_stages m p 1
  count m (marked a s) = count m s

  pub count_list : Measure → StmtTrees → ℕ
  count_list m no_stmt = 0
  count_list m (more_stmts s rest) = count m s + count_list m rest

  pub count_else : Measure → ElseTree → ℕ
  count_else m no_else = 0
  count_else m (else_stmt s) = count m s

-- the same of a function: its entry and its exit are points, and the entry has a way out
abbrev pub count_ends : Measure → ℕ
count_ends Points = 2
count_ends Edges = 1

abbrev pub count_function : Measure → FunctionTree → ℕ
count_function m f = count_ends m + count_list m f.body

-- how many cells a parameter and a local have
abbrev pub param_cells : Member → ℕ
param_cells m = cells (type_tree m.ctype)

abbrev pub local_cells : LocalVar → ℕ
local_cells v = cells (type_tree v.ctype)
